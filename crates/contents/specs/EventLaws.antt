-- Which numbers make an event, and the two laws of its form. Assumes nothing.
use Rattle.std.specs.Prelude.{◌≡◌, ℕ, ◌<◌, Bool, true, cond, List, [], ◌∷◌, drop, find, Some, None, Option, slice_index, refl}
use Rattle.std.proofs.Common.{sym, ap, subst, ◌∙◌, inl, inr, arith}
use Rattle.std.proofs.Math.Decide.{dec_lt}
use denote.Struct.Props.{props}
use Rattle.std.proofs.lemmas.Bool.{cases_Bool, eqb-true}
use Rattle.octets.specs.Numbers.{un16, un32}
use Rattle.octets.proofs.Numbers.{un_le16, un_le32}
use Rattle.contents.specs.Ranges.{Within, within}
use Rattle.contents.specs.Kinds.{kinds, kind_number, number_is, kind_numbered}
use Rattle.contents.specs.Events.{event_if, event_of, event_form, event_read}
use Rattle.contents.specs.Readings.{kept_back, kept_forth}
use Rattle.contents.specs.declared.kind.Kind.{Kind}
use Rattle.contents.specs.declared.kind.Kind.TheVariants.{Fire, Fault, Test, Acknowledged, Silenced, Reset}
use Rattle.contents.specs.declared.event.Event.{Event}

abbrev pub mk : (m d z : ℕ) → Kind → m < 4294967296 → Within 1 254 d → Within 1 512 z → Event
mk m d z k p q r = record { moment = m; device = d; zone = z; kind = k; dated = p; addressed = q; zoned = r }

same_facts : (m d z : ℕ) (k : Kind) (p p' : m < 4294967296) (q q' : Within 1 254 d) (r r' : Within 1 512 z) → mk m d z k p q r ≡ mk m d z k p' q' r'
same_facts m d z k p p' q q' r r' =
    let ep : IsProp (m < 4294967296) = hlevel props in
    let eq : IsProp (Within 1 254 d) = hlevel props in
    let er : IsProp (Within 1 512 z) = hlevel props in
    ap (λ x. mk m d z k x q r) (ep p p') ∙ ap (λ x. mk m d z k p' x r) (eq q q') ∙ ap (λ x. mk m d z k p' q' x) (er r r')

-- every kind is found by its number
pub numbered : (k : Kind) → kind_numbered (kind_number k) ≡ Some k
unfolding kind_numbered
numbered Fire = refl
numbered Fault = refl
numbered Test = refl
numbered Acknowledged = refl
numbered Silenced = refl
numbered Reset = refl

-- a kind that was found by a number has it, so the number is small
found_passes : (test : Kind → Bool) (ks : List Kind) (k : Kind) → find test ks ≡ Some k → test k ≡ true
found_passes test [] k e = let z : ◌≡◌ {A = ℕ} 0 1 = cc in absurd (omega arith)
found_passes test (j ∷ ks) k e =
    elim (cases_Bool (test j)) [
      | inl t ↦ let i : j ≡ k = cc t in subst (λ x. test x ≡ true) i t
      | inr f ↦ found_passes test ks k (ap (λ b. cond b (Some j) (find test ks)) (sym f) ∙ e)
    ]

number_small : (k : Kind) → kind_number k < 256
number_small Fire = omega arith
number_small Fault = omega arith
number_small Test = omega arith
number_small Acknowledged = omega arith
number_small Silenced = omega arith
number_small Reset = omega arith

pub numbered_small : (n : ℕ) (k : Kind) → kind_numbered n ≡ Some k → n < 256
unfolding kind_numbered
numbered_small n k e = omega (arith, number_small k, eqb-true (kind_number k) n (found_passes (number_is n) kinds k e))

module _ (m d z : ℕ) where
  some_at : (o : Option Kind) (a : Dec (m < 4294967296)) (b : Dec (Within 1 254 d)) (c : Dec (Within 1 512 z)) (k : Kind) (p : m < 4294967296) (q : Within 1 254 d) (r : Within 1 512 z) → o ≡ Some k → event_if m d z o a b c ≡ Some (mk m d z k p q r)
  some_at None a b c k p q r e = let z : ◌≡◌ {A = ℕ} 0 1 = cc in absurd (omega arith)
  some_at (Some j) (no x) b c k p q r e = absurd (x p)
  some_at (Some j) (yes x) (no y) c k p q r e = absurd (y q)
  some_at (Some j) (yes x) (yes y) (no w) k p q r e = absurd (w r)
  some_at (Some j) (yes x) (yes y) (yes w) k p q r e =
      let i : j ≡ k = cc in
      ap (λ l. Some (mk m d z l x y w)) i ∙ ap Some (same_facts m d z k x p y q w r)

  none_at : (o : Option Kind) (a : Dec (m < 4294967296)) (b : Dec (Within 1 254 d)) (c : Dec (Within 1 512 z)) → ((k : Kind) → o ≡ Some k → m < 4294967296 → Within 1 254 d → Within 1 512 z → ⊥) → event_if m d z o a b c ≡ None
  none_at None a b c h = refl
  none_at (Some j) (no x) b c h = refl
  none_at (Some j) (yes x) (no y) c h = refl
  none_at (Some j) (yes x) (yes y) (no w) h = refl
  none_at (Some j) (yes x) (yes y) (yes w) h = absurd (h j refl x y w)

  pub event_some : (n : ℕ) (k : Kind) (p : m < 4294967296) (q : Within 1 254 d) (r : Within 1 512 z) → kind_numbered n ≡ Some k → event_of m d z n ≡ Some (mk m d z k p q r)
  unfolding event_of
  event_some n k p q r e = some_at (kind_numbered n) (dec_lt m 4294967296) (within 1 254 d) (within 1 512 z) k p q r e

  pub event_none : (n : ℕ) → ((k : Kind) → kind_numbered n ≡ Some k → m < 4294967296 → Within 1 254 d → Within 1 512 z → ⊥) → event_of m d z n ≡ None
  unfolding event_of
  event_none n h = none_at (kind_numbered n) (dec_lt m 4294967296) (within 1 254 d) (within 1 512 z) h

pub forth : (bs : List ℕ) (x : Event) → event_read bs ≡ Some x → event_form x ≡ bs
unfolding event_read
forth bs x q = kept_forth event_form bs _ x q

pub back : (x : Event) → event_read (event_form x) ≡ Some x
unfolding event_read
back x =
    let f = event_form x in
    let m : un32 f ≡ x.moment = un_le32 x.moment x.dated in
    let d : un16 (drop 4 f) ≡ x.device = un_le16 x.device (omega (arith, x.addressed.1)) in
    let z : un16 (drop 6 f) ≡ x.zone = un_le16 x.zone (omega (arith, x.zoned.1)) in
    kept_back event_form x _
    (ap (λ i. event_of i (un16 (drop 4 f)) (un16 (drop 6 f)) (slice_index f 8)) m
    ∙ ap (λ i. event_of x.moment i (un16 (drop 6 f)) (slice_index f 8)) d
    ∙ ap (λ i. event_of x.moment x.device i (slice_index f 8)) z
    ∙ event_some x.moment x.device x.zone (kind_number x.kind) x.kind x.dated x.addressed x.zoned (numbered x.kind))
