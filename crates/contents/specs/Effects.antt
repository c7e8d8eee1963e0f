-- Effects: which there are, their form of sixteen bytes, and what sixteen bytes say. Assumes nothing.
use Rattle.std.specs.Prelude.{ℕ, ◌≤◌, List, ◌++◌, drop, replicate, Some, None, codes, decimal, Option}
use Rattle.std.proofs.Math.Decide.{dec_le}
use Rattle.octets.specs.Numbers.{le16, un16}
use Rattle.contents.specs.Ranges.{Within, within}
use Rattle.contents.specs.Reading.{kept}
use Rattle.contents.specs.declared.effect.Effect.{Effect}

-- the code of effects in an archive
abbrev pub effect_code : ℕ
effect_code = 2

-- the effect with these numbers, if the relay output is 1 to 64 and the delay at most 600
abbrev pub effect_if : (relay delay : ℕ) → Dec (Within 1 64 relay) → Dec (delay ≤ 600) → Option Effect
effect_if r d (no x) b = None
effect_if r d (yes p) (no y) = None
effect_if r d (yes p) (yes q) = Some (record { relay = r; delay = d; wired = p; timed = q })

unfoldable pub effect_of : (relay delay : ℕ) → Option Effect
effect_of r d = effect_if r d (within 1 64 r) (dec_le d 600)

-- relay output (2 bytes), delay (2), twelve zeros
abbrev pub effect_form : Effect → List ℕ
effect_form e = le16 e.relay ++ (le16 e.delay ++ replicate 12 0)

unfoldable pub effect_read : List ℕ → Option Effect
effect_read bs = kept effect_form bs (effect_of (un16 bs) (un16 (drop 2 bs)))

-- an effect in words
abbrev pub effect_text : Effect → List ℕ
effect_text e = codes "relay " ++ (decimal e.relay ++ (codes " delay " ++ decimal e.delay))
