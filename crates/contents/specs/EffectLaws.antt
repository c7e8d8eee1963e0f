-- Which numbers make an effect, and the two laws of its form. Assumes nothing.
use Rattle.std.specs.Prelude.{◌≡◌, ℕ, ◌≤◌, List, drop, Some, None, refl}
use Rattle.std.proofs.Common.{ap, ◌∙◌, arith}
use Rattle.std.proofs.Math.Decide.{dec_le}
use denote.Struct.Props.{props}
use Rattle.octets.specs.Numbers.{un16}
use Rattle.octets.proofs.Numbers.{un_le16}
use Rattle.contents.specs.Ranges.{Within, within}
use Rattle.contents.specs.Effects.{effect_if, effect_of, effect_form, effect_read}
use Rattle.contents.specs.Readings.{kept_back, kept_forth}
use Rattle.contents.specs.declared.effect.Effect.{Effect}

abbrev pub mk : (r d : ℕ) → Within 1 64 r → d ≤ 600 → Effect
mk r d p q = record { relay = r; delay = d; wired = p; timed = q }

same_facts : (r d : ℕ) (p p' : Within 1 64 r) (q q' : d ≤ 600) → mk r d p q ≡ mk r d p' q'
same_facts r d p p' q q' =
    let ep : IsProp (Within 1 64 r) = hlevel props in
    let eq : IsProp (d ≤ 600) = hlevel props in
    ap (λ x. mk r d x q) (ep p p') ∙ ap (λ x. mk r d p' x) (eq q q')

module _ (r d : ℕ) where
  some_at : (a : Dec (Within 1 64 r)) (b : Dec (d ≤ 600)) (p : Within 1 64 r) (q : d ≤ 600) → effect_if r d a b ≡ Some (mk r d p q)
  some_at (no x) b p q = absurd (x p)
  some_at (yes x) (no y) p q = absurd (y q)
  some_at (yes x) (yes y) p q = ap Some (same_facts r d x p y q)

  none_at : (a : Dec (Within 1 64 r)) (b : Dec (d ≤ 600)) → (Within 1 64 r → d ≤ 600 → ⊥) → effect_if r d a b ≡ None
  none_at (no x) b h = refl
  none_at (yes x) (no y) h = refl
  none_at (yes x) (yes y) h = absurd (h x y)

  pub effect_some : (p : Within 1 64 r) (q : d ≤ 600) → effect_of r d ≡ Some (mk r d p q)
  unfolding effect_of
  effect_some p q = some_at (within 1 64 r) (dec_le d 600) p q

  pub effect_none : (Within 1 64 r → d ≤ 600 → ⊥) → effect_of r d ≡ None
  unfolding effect_of
  effect_none h = none_at (within 1 64 r) (dec_le d 600) h

pub forth : (bs : List ℕ) (x : Effect) → effect_read bs ≡ Some x → effect_form x ≡ bs
unfolding effect_read
forth bs x q = kept_forth effect_form bs _ x q

pub back : (x : Effect) → effect_read (effect_form x) ≡ Some x
unfolding effect_read
back x =
    let f = effect_form x in
    let r : un16 f ≡ x.relay = un_le16 x.relay (omega (arith, x.wired.1)) in
    let d : un16 (drop 2 f) ≡ x.delay = un_le16 x.delay (omega (arith, x.timed)) in
    kept_back effect_form x _
    (ap (λ i. effect_of i (un16 (drop 2 f))) r ∙ ap (λ i. effect_of x.relay i) d ∙ effect_some x.relay x.delay x.wired x.timed)
