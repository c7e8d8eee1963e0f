-- Numbers in a range. Assumes nothing.
use Rattle.std.specs.Prelude.{ℕ, ◌≤◌}
use Rattle.std.proofs.Math.Decide.{dec_le}

-- n lies from low to high, both included
abbrev pub Within : ℕ → ℕ → ℕ → Type 0
Within low high n = (low ≤ n) × (n ≤ high)

abbrev pub both : {A B : Type 0} → Dec A → Dec B → Dec (A × B)
both (no k) b = no (λ p. k p.0)
both (yes a) (no k) = no (λ p. k p.1)
both (yes a) (yes b) = yes (a, b)

-- whether it does
abbrev pub within : (low high n : ℕ) → Dec (Within low high n)
within low high n = both (dec_le low n) (dec_le n high)
