-- The number and the reason of each refusal. Assumes nothing.
use Rattle.std.specs.Prelude.{ℕ, List, ◌++◌, codes, decimal}
use Rattle.refusal.specs.declared.kinds.Refusal.{Refusal}
use Rattle.refusal.specs.declared.kinds.Refusal.TheVariants.{NoCard, NoPlace, NoLink, UpdateInHand, NoUpdate, Blank, WrongPhase, Exhausted, NoCell, BadLength, BadCheck, BadArchive, OutOfRange}

-- the number of each refusal; there is no 10
abbrev pub number : Refusal → ℕ
number NoCard = 1
number NoPlace = 2
number NoLink = 3
number UpdateInHand = 4
number NoUpdate = 5
number Blank = 6
number WrongPhase = 7
number Exhausted = 8
number NoCell = 9
number BadLength = 11
number BadCheck = 12
number BadArchive = 13
number OutOfRange = 14

-- the reason, as the technician reads it
abbrev pub reason : Refusal → List ℕ
reason NoCard = codes "the store has no such card"
reason NoPlace = codes "a card has places 0 to 7 only"
reason NoLink = codes "a record has links 0 to 3 only"
reason UpdateInHand = codes "an update is still in hand"
reason NoUpdate = codes "no update in hand is at this stage"
reason Blank = codes "the place is blank"
reason WrongPhase = codes "not in this phase of the round"
reason Exhausted = codes "no serial or no round is left"
reason NoCell = codes "no cell is free"
reason BadLength = codes "the archive is empty or not made of whole blocks"
reason BadCheck = codes "a block's check is wrong"
reason BadArchive = codes "the archive breaks a rule of its format"
reason OutOfRange = codes "a number or a size is out of range"

-- what is printed of a refusal
abbrev pub text : Refusal → List ℕ
text r = codes "refused with " ++ (decimal (number r) ++ (codes ": " ++ reason r))
