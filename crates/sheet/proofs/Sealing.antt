-- Values in a block: what eighteen bytes say, and that each value is read back. Assumes nothing.
use Rattle.std.proofs.Common.{◌≡◌, ℕ, zero, suc, ◌+◌, ◌*◌, ◌^◌, ◌<◌, ◌≤◌, true, false, eqb, ltb, leb, List, [], ◌∷◌, ◌++◌, length, get_or, take, drop, Some, None, Err, Option, sym, refl, ap, ◌∙◌, arith}
use Rattle.std.specs.List.{flat_map}
use Rattle.std.proofs.lemmas.List.{append_assoc, length-append, take_at, drop_at, drop-drop, take_more, flat_map_more}
use Rattle.std.proofs.lemmas.Bool.{eq-eqb, ne_eqb, le-ltb}
use Rattle.octets.specs.Numbers.{un16}
use Rattle.octets.specs.Block.{writing}
use Rattle.contents.specs.Events.{event_code, event_of, event_read}
use Rattle.contents.specs.Effects.{effect_code, effect_of, effect_read}
use Rattle.contents.specs.EventLaws as events
use Rattle.contents.specs.EffectLaws as effects
use Rattle.contents.specs.declared.event.Event.{Event}
use Rattle.contents.specs.declared.effect.Effect.{Effect}
use Rattle.refusal.specs.declared.kinds.Refusal.TheVariants.{OutOfRange}
use Rattle.sheet.specs.declared.fault.Fault.TheVariants.{Refused}
use Rattle.sheet.specs.Words.{digits_after, number_in, in_range}
use Rattle.sheet.specs.Values.{value_bytes, happened, does, value_in, sealing, ReadBack}
use Rattle.sheet.specs.declared.value.Value.{Value}
use Rattle.sheet.specs.declared.value.Value.TheVariants.{Happened, Does}

pub value_event : (bs : List ℕ) (o : Option Event) → un16 bs ≡ event_code → o ≡ event_read (drop 2 bs) → happened o ≡ value_in bs
unfolding value_in
value_event bs o e r =
    let t : eqb (un16 bs) event_code ≡ true = eq-eqb (un16 bs) event_code e in
    rw t (ap happened r)

pub value_effect : (bs : List ℕ) (o : Option Effect) → un16 bs ≡ effect_code → o ≡ effect_read (drop 2 bs) → does o ≡ value_in bs
unfolding value_in
value_effect bs o e r =
    let s : eqb (un16 bs) event_code ≡ false = ne_eqb (un16 bs) event_code (λ q. omega arith) in
    let t : eqb (un16 bs) effect_code ≡ true = eq-eqb (un16 bs) effect_code e in
    rw (s, t) (ap does r)

-- the bytes of a value say it
pub value_back : (v : Value) → value_in (value_bytes v) ≡ Some v
value_back (Happened e) = sym (value_event (value_bytes (Happened e)) (Some e) refl (sym (events.back e)))
value_back (Does e) = sym (value_effect (value_bytes (Does e)) (Some e) refl (sym (effects.back e)))

pub eighteen : (v : Value) → length (value_bytes v) ≡ 18
eighteen (Happened e) = refl
eighteen (Does e) = refl

-- the bytes of value k, among those of all
at_k : (vs : List Value) (rest : List ℕ) (k : ℕ) (v : Value) → k < length vs → take 18 (drop (18 * k) (flat_map value_bytes vs ++ rest)) ≡ value_bytes (get_or vs k v)
at_k [] rest k v h = absurd (omega arith)
at_k (w ∷ vs) rest zero v h = ap (take 18) (append_assoc (value_bytes w) (flat_map value_bytes vs) rest) ∙ take_at (value_bytes w) (flat_map value_bytes vs ++ rest) 18 (eighteen w)
at_k (w ∷ vs) rest (suc k) v h =
    let m : 18 * suc k ≡ 18 + 18 * k = omega arith in
    ap (λ n. take 18 (drop n ((value_bytes w ++ flat_map value_bytes vs) ++ rest))) m
    ∙ ap (λ (t : List ℕ). take 18 (drop (18 + 18 * k) t)) (append_assoc (value_bytes w) (flat_map value_bytes vs) rest)
    ∙ ap (take 18) (sym (drop-drop (18 * k) 18 (value_bytes w ++ (flat_map value_bytes vs ++ rest))))
    ∙ ap (λ (t : List ℕ). take 18 (drop (18 * k) t)) (drop_at (value_bytes w) (flat_map value_bytes vs ++ rest) 18 (eighteen w))
    ∙ at_k vs rest k v (omega arith)

pub all_length : (vs : List Value) → length (flat_map value_bytes vs) ≡ 18 * length vs
all_length [] = refl
all_length (v ∷ vs) = length-append (value_bytes v) (flat_map value_bytes vs) ∙ omega (arith, eighteen v, all_length vs)

pub read_back : (vs : List Value) → length vs ≤ 18 → ReadBack vs
read_back vs few rest k v h =
    let s : leb 18 k ≡ false = le-ltb 17 k (omega arith) in
    let l : length (flat_map value_bytes vs ++ rest) ≡ 18 * length vs + length rest = length-append (flat_map value_bytes vs) rest ∙ omega (arith, all_length vs) in
    let t : ltb (length (flat_map value_bytes vs ++ rest)) (18 * k + 18) ≡ false = le-ltb _ _ (omega arith) in
    rw (s, t) (ap value_in (at_k vs rest k v h) ∙ value_back (get_or vs k v))

-- one value more in front of the rest
pub one_more : (vs : List Value) (k : ℕ) (v : Value) → k < length vs → flat_map value_bytes (take k vs) ++ value_bytes (get_or vs k v) ≡ flat_map value_bytes (take (k + 1) vs)
one_more vs k v h = flat_map_more value_bytes [] (take k vs) (get_or vs k v) ∙ ap (flat_map value_bytes) (sym (take_more vs k v h))

-- numbers that do not fit make nothing
pub event_out : (m d z k : ℕ) → (m < 2 ^ 32 → d < 2 ^ 16 → z < 2 ^ 16 → k < 2 ^ 8 → ⊥) → Err (Refused OutOfRange) ≡ in_range (event_of m d z k)
event_out m d z k h = sym (ap in_range (events.event_none m d z k (λ j e p q r. let n = events.numbered_small k j e in h p (omega arith) (omega arith) n)))

pub effect_out : (r d : ℕ) → (r < 2 ^ 16 → d < 2 ^ 16 → ⊥) → Err (Refused OutOfRange) ≡ in_range (effect_of r d)
effect_out r d h = sym (ap in_range (effects.effect_none r d (λ p q. h (omega arith) (omega arith))))

-- a word of no letters says no number
pub number_none : (w : List ℕ) → length w ≡ 0 → None ≡ number_in w
unfolding number_in
number_none [] e = refl
number_none (b ∷ bs) e = absurd (omega arith)

pub number_some : (w : List ℕ) (o : Option ℕ) → (length w ≡ 0 → ⊥) → o ≡ digits_after 0 w → o ≡ number_in w
unfolding number_in
number_some [] o n e = absurd (n refl)
number_some (b ∷ bs) o n e = e

-- sealing values is writing a block with their bytes as its body
pub seals : (out body : List ℕ) (number : ℕ) (vs : List Value) → length vs ≤ 18 → body ≡ flat_map value_bytes vs → writing out number (length vs) body ≡ sealing out number vs
seals out body number vs few e =
    let s : ltb 18 (length vs) ≡ false = le-ltb 18 (length vs) few in
    let t : ltb 504 (length (flat_map value_bytes vs)) ≡ false = le-ltb 504 (length (flat_map value_bytes vs)) (omega (arith, all_length vs)) in
    rw (e, s, t) refl
