-- The chain of free cells: listed, it is every free cell once, and each cell's next comes after it. Assumes nothing.
use Rattle.std.proofs.Common.{◌≡◌, ℕ, zero, suc, ◌<◌, Bool, true, false, cond, List, [], ◌∷◌, Some, None, Option, sym, refl, ap, ◌∙◌, subst, inl, inr, arith}
use Rattle.std.specs.List.{slice_get, AllByRecursion as All}
use Rattle.std.proofs.lemmas.Bool.{cases_Bool, cases_eq, eq-eqb, ne_eqb, false≢true}
use Rattle.archive.specs.Layout.{after}
use Rattle.archive.specs.Rules.{count_free, follows}
use Rattle.archive.specs.Reading.{chain_from}
use Rattle.archive.proofs.Chains.{Chain, times, EachOnce, one, counted}

-- P of a name that is not empty
abbrev pub Of : (ℕ → Type 0) → Option ℕ → Type 0
Of P None = Unit {0}
Of P (Some x) = P x

module _ (next : ℕ → Option ℕ) where
  pub chain_same : (o : Option ℕ) (l m : List ℕ) → Chain next o l → Chain next o m → l ≡ m
  chain_same o [] [] c d = refl
  chain_same o [] (y ∷ m) c d = let e : o ≡ Some y = d.0 in let z : ◌≡◌ {A = ℕ} 0 1 = cc in absurd (omega arith)
  chain_same o (x ∷ l) [] c d = let e : o ≡ Some x = c.0 in let z : ◌≡◌ {A = ℕ} 0 1 = cc in absurd (omega arith)
  chain_same o (x ∷ l) (y ∷ m) c d =
      let p : o ≡ Some x = c.0 in
      let q : o ≡ Some y = d.0 in
      let e : x ≡ y = cc in
      let r : l ≡ m = chain_same (next x) l m c.1 (subst (λ t. Chain next (next t) m) (sym e) d.1) in
      cc

  pub chain_first : (o : Option ℕ) (l : List ℕ) → Chain next o l → slice_get l 0 ≡ o
  chain_first o [] c = sym c
  chain_first o (x ∷ l) c = sym c.0

  pub chain_after : (k : ℕ) (o : Option ℕ) (l : List ℕ) → Chain next o l → 0 < times k l → after l k ≡ next k
  unfolding after
  chain_after k o [] c t = absurd (omega arith)
  chain_after k o (x ∷ l) c t =
      elim (cases_eq x k) [
        | inl e ↦ ap (λ b. cond b (slice_get l 0) (after l k)) (eq-eqb x k e) ∙ chain_first (next x) l c.1 ∙ ap next e
        | inr e ↦ ap (λ b. cond b (slice_get l 0) (after l k)) (ne_eqb x k e) ∙ chain_after k (next x) l c.1 (omega (arith, ap one (ne_eqb x k e)))
      ]

  pub first_of : (P : ℕ → Type 0) (o : Option ℕ) (l : List ℕ) → Chain next o l → All P l → Of P o
  first_of P o [] c a = subst (Of P) (sym c) tt
  first_of P o (x ∷ l) c a = subst (Of P) (sym c.0) a.0

  pub next_of : (P : ℕ → Type 0) (k : ℕ) (o : Option ℕ) (l : List ℕ) → Chain next o l → All P l → 0 < times k l → Of P (next k)
  next_of P k o [] c a t = absurd (omega arith)
  next_of P k o (x ∷ l) c a t =
      elim (cases_eq x k) [
        | inl e ↦ subst (λ y. Of P (next y)) e (first_of P (next x) l c.1 a.1)
        | inr e ↦ next_of P k (next x) l c.1 a.1 (omega (arith, ap one (ne_eqb x k e)))
      ]

  module _ (free : ℕ → Bool) where
    pub listed : (f : ℕ) (o : Option ℕ) → follows next free f o ≡ true → Chain next o (chain_from next free f o) × All (λ k. free k ≡ true) (chain_from next free f o)
    unfolding follows chain_from
    listed zero None e = (refl, tt)
    listed zero (Some k) e = absurd (false≢true e)
    listed (suc f) None e = absurd (false≢true e)
    listed (suc f) (Some k) e =
        elim (cases_Bool (free k)) [
          | inl t ↦
              let r = listed f (next k) (ap (λ b. cond b (follows next free f (next k)) false) (sym t) ∙ e) in
              let s : k ∷ chain_from next free f (next k) ≡ cond (free k) (k ∷ chain_from next free f (next k)) [] = ap (λ b. cond b (k ∷ chain_from next free f (next k)) []) (sym t) in
              (subst (Chain next (Some k)) s (refl, r.0), subst (All (λ k. free k ≡ true)) s (t, r.1))
          | inr t ↦ absurd (false≢true (ap (λ b. cond b (follows next free f (next k)) false) (sym t) ∙ e))
        ]

    pub listed_once : (n : ℕ) → ((k : ℕ) → free k ≡ true → k < n) → (o : Option ℕ) → follows next free (count_free free n) o ≡ true → EachOnce free n (chain_from next free (count_free free n) o)
    listed_once n low o e =
        let r = counted next free n low o e in
        let s : r.0 ≡ chain_from next free (count_free free n) o = chain_same o r.0 (chain_from next free (count_free free n) o) r.1 (listed (count_free free n) o e).0 in
        subst (EachOnce free n) s r.2
