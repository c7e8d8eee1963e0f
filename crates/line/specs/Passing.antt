-- One try at passing a number to a card over any line. Assumes nothing.
use Rattle.std.specs.Prelude.{◌≡◌, ℕ, Bool, false, Some, None, Option, ◌==◌}

-- whether what was fetched is the number
abbrev pub is_it : ℕ → Option ℕ → Bool
is_it n None = false
is_it n (Some m) = m == n

-- the number was sent, which made the line mid; then the card fetched, and r says whether it got the number
pub record Passed {L : Type 0} (sends : L → ℕ → ℕ → L → Type 0) (fetches : L → ℕ → Option ℕ → L → Type 0) (c n : ℕ) (s : L) (r : Bool) (t : L) : Type 0 where
  pub mid : L
  pub got : Option ℕ
  pub sent : sends s c n mid
  pub fetched : fetches mid c got t
  pub told : r ≡ is_it n got
