-- Events: which there are, their form of sixteen bytes, and what sixteen bytes say. Assumes nothing.
use Rattle.std.specs.Prelude.{ℕ, ◌<◌, List, ◌∷◌, ◌++◌, drop, replicate, Some, None, codes, decimal, Option, slice_index}
use Rattle.std.proofs.Math.Decide.{dec_lt}
use Rattle.octets.specs.Numbers.{le16, le32, un16, un32}
use Rattle.contents.specs.Ranges.{Within, within}
use Rattle.contents.specs.Reading.{kept}
use Rattle.contents.specs.Kinds.{kind_number, kind_word, kind_numbered}
use Rattle.contents.specs.declared.kind.Kind.{Kind}
use Rattle.contents.specs.declared.event.Event.{Event}

-- the code of events in an archive
abbrev pub event_code : ℕ
event_code = 1

-- the event with these numbers, if there is such a kind, the moment has 32 bits, the device is 1 to 254 and the zone 1 to 512
abbrev pub event_if : (moment device zone : ℕ) → Option Kind → Dec (moment < 4294967296) → Dec (Within 1 254 device) → Dec (Within 1 512 zone) → Option Event
event_if m d z None a b c = None
event_if m d z (Some k) (no x) b c = None
event_if m d z (Some k) (yes p) (no y) c = None
event_if m d z (Some k) (yes p) (yes q) (no w) = None
event_if m d z (Some k) (yes p) (yes q) (yes r) = Some (record { moment = m; device = d; zone = z; kind = k; dated = p; addressed = q; zoned = r })

unfoldable pub event_of : (moment device zone kind : ℕ) → Option Event
event_of m d z k = event_if m d z (kind_numbered k) (dec_lt m 4294967296) (within 1 254 d) (within 1 512 z)

-- moment (4 bytes), device (2), zone (2), kind (1), seven zeros
abbrev pub event_form : Event → List ℕ
event_form e = le32 e.moment ++ (le16 e.device ++ (le16 e.zone ++ (kind_number e.kind ∷ replicate 7 0)))

unfoldable pub event_read : List ℕ → Option Event
event_read bs = kept event_form bs (event_of (un32 bs) (un16 (drop 4 bs)) (un16 (drop 6 bs)) (slice_index bs 8))

-- an event in words
abbrev pub event_text : Event → List ℕ
event_text e = codes "moment " ++ (decimal e.moment ++ (codes " device " ++ (decimal e.device ++ (codes " zone " ++ (decimal e.zone ++ (codes " kind " ++ kind_word e.kind))))))
