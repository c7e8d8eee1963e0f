-- Bytes that are all 0. Assumes nothing.
use Rattle.std.proofs.Common.{◌≡◌, ℕ, zero, suc, true, false, cond, List, [], ◌∷◌, length, replicate, sym, refl, ap, ◌∙◌, inl, inr}
use Rattle.std.proofs.lemmas.Bool.{eq-eqb, ne_eqb, cases_eq, false≢true}
use Rattle.archive.specs.Rules.{is_blank}

pub blank_zeros : (s : List ℕ) → is_blank s ≡ true → s ≡ replicate (length s) 0
blank_zeros [] e = refl
blank_zeros (b ∷ bs) e =
    elim (cases_eq b 0) [
      | inl z ↦ let t : is_blank bs ≡ true = ap (λ q. cond q (is_blank bs) false) (sym (eq-eqb b 0 z)) ∙ e in cc (z, blank_zeros bs t)
      | inr n ↦ absurd (false≢true (ap (λ q. cond q (is_blank bs) false) (sym (ne_eqb b 0 n)) ∙ e))
    ]

pub zeros_blank : (n : ℕ) → is_blank (replicate n 0) ≡ true
zeros_blank zero = refl
zeros_blank (suc n) = zeros_blank n
