-- Two records share a serial. Assumes nothing.
use Rattle.std.proofs.Common.{◌≡◌, ℕ, ◌<◌, Bool, true, false, not, ◌&&◌, eqb, Decides, sym, refl, ◌∙◌, inl, inr}
use Rattle.std.proofs.lemmas.Bool.{cases_Bool, both_ways, not-true, not_from_false}
use Rattle.std.proofs.lemmas.Bool.Decides.{Decides-below_or, Decides-eqb, Decides-not, Decides-and}
use Rattle.archive.specs.Rules.{among, shared}

-- no two records share a serial
abbrev pub Distinct : (ℕ → ℕ) → ℕ → Type 0
Distinct s n = (i j : ℕ) → j < i → i < n → (s i ≡ 0 → ⊥) → s j ≡ s i → ⊥

abbrev Hit : (ℕ → ℕ) → ℕ → Type 0
Hit s i = (s i ≡ 0 → ⊥) × ((j : ℕ) × (j < i) × (s j ≡ s i))

pub shared_tells : (s : ℕ → ℕ) (n : ℕ) → Decides (shared s n) ((i : ℕ) × (i < n) × Hit s i)
unfolding shared
shared_tells s n =
    Decides-below_or (λ i. not (eqb (s i) 0) && among s (s i) i) (Hit s) (shared s)
    (λ i. Decides-and (not (eqb (s i) 0)) (among s (s i) i) (Decides-not (eqb (s i) 0) (Decides-eqb (s i) 0))
    (Decides-below_or (λ j. eqb (s j) (s i)) (λ j. s j ≡ s i) (among s (s i)) (λ j. Decides-eqb (s j) (s i)) refl (λ _. refl) i))
    refl (λ _. refl) n

pub distinct_no : (s : ℕ → ℕ) (n : ℕ) → Distinct s n → shared s n ≡ false
distinct_no s n h =
    elim (cases_Bool (shared s n)) [
      | inr e ↦ e
      | inl e ↦ let w = (shared_tells s n).0 e in absurd (h w.0 w.2.1.0 w.2.1.1 w.1 w.2.0 w.2.1.2)
    ]

pub hit_yes : (s : ℕ → ℕ) (n i j : ℕ) → j < i → i < n → (s i ≡ 0 → ⊥) → s j ≡ s i → shared s n ≡ true
hit_yes s n i j l m z e = (shared_tells s n).1 (i, m, (z, (j, l, e)))

pub distinct_means : (s : ℕ → ℕ) (n : ℕ) (r : Bool) → r ≡ not (shared s n) → Decides r (Distinct s n)
distinct_means s n r q = (
  λ t i j l m z e. both_ways (shared s n) (not-true (shared s n) (sym q ∙ t)) (hit_yes s n i j l m z e),
  λ h. q ∙ not_from_false (shared s n) (distinct_no s n h),
)
