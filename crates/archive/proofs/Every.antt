-- A test of each number below another, step by step. Assumes nothing.
use Rattle.std.proofs.Common.{◌≡◌, ℕ, zero, suc, ◌<◌, Bool, true, false, cond, sym, refl, ap, ◌∙◌, inl, inr, arith}
use Rattle.std.proofs.lemmas.Bool.{cond_both, cases_eq, cases_Bool, false≢true}
use Rattle.archive.specs.Runs.{every}

module _ (t : ℕ → Bool) where
  pub every_stop : (k n : ℕ) → k < n → t k ≡ false → every t n ≡ false
  unfolding every
  every_stop k zero l h = absurd (omega arith)
  every_stop k (suc n) l h =
      elim (cases_eq k n) [
        | inl e ↦ ap (λ i. cond (every t n) (t i) false) (sym e) ∙ ap (λ b. cond (every t n) b false) h ∙ cond_both (every t n) false false (λ b. b ≡ false) (λ _. refl) (λ _. refl)
        | inr e ↦ ap (λ b. cond b (t n) false) (every_stop k n (omega arith) h)
      ]

  pub every_each : (k n : ℕ) → k < n → every t n ≡ true → t k ≡ true
  every_each k n l h = elim (cases_Bool (t k)) [ inl e ↦ e | inr e ↦ absurd (false≢true (sym (every_stop k n l e) ∙ h)) ]

  pub every_all : (n : ℕ) → ((k : ℕ) → k < n → t k ≡ true) → every t n ≡ true
  unfolding every
  every_all zero h = refl
  every_all (suc n) h = ap (λ b. cond b (t n) false) (every_all n (λ k l. h k (omega arith))) ∙ h n (omega arith)
