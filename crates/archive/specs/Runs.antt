-- Lists in a row, and tests of each number below another. Assumes nothing.
use Rattle.std.specs.Prelude.{ℕ, zero, suc, Bool, true, false, cond, List, [], ◌∷◌, ◌++◌}

-- f 0, f 1 and so on, n of them, one after the other
unfoldable pub run : {X : Type 0} → (ℕ → List X) → ℕ → List X
run f zero = []
run f (suc n) = run f n ++ f n

-- the list of f 0, f 1 and so on, n of them
abbrev pub tab : {X : Type 0} → (ℕ → X) → ℕ → List X
tab f n = run (λ k. f k ∷ []) n

-- the test holds of each number below n
unfoldable pub every : (ℕ → Bool) → ℕ → Bool
every t zero = true
every t (suc n) = cond (every t n) (t n) false
