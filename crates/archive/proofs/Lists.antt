-- The chain of free cells as it is listed.
use Rattle.std.proofs.Common.{◌≡◌, ℕ, zero, suc, ◌-◌, ◌≤◌, Bool, true, false, [], ◌∷◌, length, Some, None, Option, refl, inl, inr, arith}
use Rattle.std.proofs.lemmas.Bool.{cases_Bool}
use Rattle.archive.specs.Reading.{chain_from}

module _ (next : ℕ → Option ℕ) (free : ℕ → Bool) where
  pub chain_out : (f : ℕ) (o : Option ℕ) → f ≡ 0 → [] ≡ chain_from next free f o
  unfolding chain_from
  chain_out zero o e = refl
  chain_out (suc f) o e = absurd (omega arith)

  pub chain_none : (f : ℕ) → [] ≡ chain_from next free f None
  unfolding chain_from
  chain_none zero = refl
  chain_none (suc f) = refl

  pub chain_not : (f k : ℕ) → free k ≡ false → [] ≡ chain_from next free f (Some k)
  unfolding chain_from
  chain_not zero k e = refl
  chain_not (suc f) k e = rw e

  pub chain_more : (f k : ℕ) → (f ≡ 0 → ⊥) → free k ≡ true → k ∷ chain_from next free (f - 1) (next k) ≡ chain_from next free f (Some k)
  unfolding chain_from
  chain_more zero k z e = absurd (z refl)
  chain_more (suc f) k z e = let m : suc f - 1 ≡ f = omega arith in rw (e, m)

  -- no longer than it may get
  pub chain_short : (f : ℕ) (o : Option ℕ) → length (chain_from next free f o) ≤ f
  unfolding chain_from
  chain_short zero o = omega arith
  chain_short (suc f) None = omega arith
  chain_short (suc f) (Some k) = elim (cases_Bool (free k)) [ inl e ↦ rw e (omega (arith, chain_short f (next k))) | inr e ↦ rw e (omega arith) ]
