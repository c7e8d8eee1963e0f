-- The check of a block's bytes, and what it is good for. Assumes nothing.
use Rattle.std.specs.Prelude.{◌≡◌, ℕ, ◌+◌, ◌*◌, ◌/◌, ◌%◌, ◌^◌, ◌<◌, List, length, fold, ◌≢◌, bit_or, slice_index}
use Rattle.octets.specs.Numbers.{Bytes}

-- 32 bits rotated left by five places
abbrev pub rotated : ℕ → ℕ
rotated h = bit_or ((h * 2 ^ 5) % 2 ^ 32) (h / 2 ^ 27)

-- the check goes on over one more byte; a carry is dropped
abbrev pub mixed : ℕ → ℕ → ℕ
mixed h b = (rotated h + b) % 2 ^ 32

-- the check of some bytes: it starts at 0 and goes on over each of them in order
unfoldable pub check_of : List ℕ → ℕ
check_of bytes = fold mixed 0 bytes

-- two lists differ in exactly one place
pub record DifferOnce (xs ys : List ℕ) : Type 0 where
  pub long : length xs ≡ length ys
  pub place : ℕ
  pub inside : place < length xs
  pub here : slice_index xs place ≢ slice_index ys place
  pub elsewhere : (j : ℕ) → (j ≢ place) → slice_index xs j ≡ slice_index ys j

-- bytes that differ in exactly one place never have the same check
abbrev pub OneByteTells : Type 0
OneByteTells = (xs ys : List ℕ) → Bytes xs → Bytes ys → DifferOnce xs ys → check_of xs ≢ check_of ys
