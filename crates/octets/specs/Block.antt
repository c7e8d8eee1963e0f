-- A block of 512 bytes: number, count, body, zeros, check. Assumes nothing.
use Rattle.std.specs.Prelude.{◌≡◌, ℕ, ◌-◌, Bool, cond, ◌&&◌, List, ◌++◌, length, take, drop, replicate, Ok, Err, Result, ◌==◌, nat_lt}
use Rattle.refusal.specs.declared.kinds.Refusal.{Refusal}
use Rattle.refusal.specs.declared.kinds.Refusal.TheVariants.{BadLength, BadCheck, OutOfRange}
use Rattle.octets.specs.Numbers.{le16, le32, un16, un32}
use Rattle.octets.specs.Check.{check_of}
use Rattle.octets.specs.declared.block.Block.{Block}

-- bytes with their check after them
abbrev pub sealed : List ℕ → List ℕ
sealed bs = bs ++ le32 (check_of bs)

-- a block: its number, its count of entries, its body, zeros up to byte 507, and the check of all that
unfoldable pub block_of : ℕ → ℕ → List ℕ → List ℕ
block_of number count body = sealed (le16 number ++ (le16 count ++ (body ++ replicate (504 - length body) 0)))

-- writing a block over a buffer: refused where the buffer is not 512 bytes long or the body is above 504
abbrev pub writing : List ℕ → ℕ → ℕ → List ℕ → (Result (Unit {0}) Refusal) × (List ℕ)
writing out number count body =
    cond (length out == 512)
    (cond (nat_lt 504 (length body)) (Err OutOfRange, out) (Ok tt, block_of number count body))
    (Err OutOfRange, out)

-- what a block says: its number, its count, and its body with the zeros
pub record Opened : Type 0 where
  pub number : ℕ
  pub count : ℕ
  pub body : List ℕ

abbrev pub opened_as : Block → Opened
opened_as b = record { number = b.number; count = b.count; body = b.body.now }

abbrev pub outcome_of : Result Block Refusal → Result Opened Refusal
outcome_of (Ok b) = Ok (opened_as b)
outcome_of (Err r) = Err r

-- whether the last four bytes of a block are the check of those before
abbrev pub check_right : List ℕ → Bool
check_right bs = un32 (drop 508 bs) == check_of (take 508 bs)

-- whether bytes are a block of 512 with its check right
abbrev pub block_right : List ℕ → Bool
block_right bs = length bs == 512 && check_right bs

-- reading a block: refused where it is not 512 bytes long, or its check is wrong
abbrev pub opening : List ℕ → Result Opened Refusal
opening bs =
    cond (length bs == 512)
    (cond (check_right bs) (Ok (record { number = un16 bs; count = un16 (drop 2 bs); body = take 504 (drop 4 bs) })) (Err BadCheck))
    (Err BadLength)

-- a block that was written says what was written, with zeros after the body
abbrev pub SaysWhatWasWritten : ℕ → ℕ → List ℕ → Type 0
SaysWhatWasWritten number count body = opening (block_of number count body) ≡ Ok (record { number = number; count = count; body = body ++ replicate (504 - length body) 0 })
