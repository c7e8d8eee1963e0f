-- Values of either kind, and a block of them: for each its code (2 bytes) and its form (16). Assumes nothing.
use Rattle.std.specs.Prelude.{◌≡◌, ℕ, ◌+◌, ◌*◌, ◌<◌, cond, List, ◌++◌, length, take, drop, Some, None, Ok, Err, Option, Result, ◌==◌, nat_le, nat_lt, slice_index_or}
use Rattle.std.specs.List.{flat_map}
use Rattle.refusal.specs.declared.kinds.Refusal.{Refusal}
use Rattle.refusal.specs.declared.kinds.Refusal.TheVariants.{OutOfRange}
use Rattle.octets.specs.Numbers.{le16, un16}
use Rattle.octets.specs.Block.{block_of}
use Rattle.contents.specs.Events.{event_code, event_form, event_read}
use Rattle.contents.specs.Effects.{effect_code, effect_form, effect_read}
use Rattle.contents.specs.declared.event.Event.{Event}
use Rattle.contents.specs.declared.effect.Effect.{Effect}
use Rattle.sheet.specs.declared.value.Value.{Value}
use Rattle.sheet.specs.declared.value.Value.TheVariants.{Happened, Does}

-- the eighteen bytes of a value
abbrev pub value_bytes : Value → List ℕ
value_bytes (Happened e) = le16 event_code ++ event_form e
value_bytes (Does e) = le16 effect_code ++ effect_form e

abbrev pub happened : Option Event → Option Value
happened None = None
happened (Some e) = Some (Happened e)

abbrev pub does : Option Effect → Option Value
does None = None
does (Some e) = Some (Does e)

-- the value that eighteen bytes say
unfoldable pub value_in : List ℕ → Option Value
value_in bs =
    cond (un16 bs == event_code) (happened (event_read (drop 2 bs)))
    (cond (un16 bs == effect_code) (does (effect_read (drop 2 bs))) None)

-- sealing values over a buffer: refused above eighteen of them, or where the buffer is not a block
abbrev pub sealing : List ℕ → ℕ → List Value → (Result (Unit {0}) Refusal) × (List ℕ)
sealing out number vs =
    cond (nat_lt 18 (length vs)) (Err OutOfRange, out)
    (cond (length out == 512) (Ok tt, block_of number (length vs) (flat_map value_bytes vs)) (Err OutOfRange, out))

-- value k of a block's body
abbrev pub value_at : List ℕ → ℕ → Option Value
value_at body k =
    cond (nat_le 18 k) None
    (cond (nat_lt (length body) (18 * k + 18)) None (value_in (take 18 (drop (18 * k) body))))

-- each value that was sealed is read back from the body, whatever stands behind the values
abbrev pub ReadBack : List Value → Type 0
ReadBack vs = (rest : List ℕ) (k : ℕ) (v : Value) → k < length vs → value_at (flat_map value_bytes vs ++ rest) k ≡ Some (slice_index_or vs k v)
