-- One way of a line: for each of the cards 0 to 7 the numbers that wait for it, the first to come out first. Assumes nothing.
use Rattle.std.specs.Prelude.{ℕ, cond, List, [], ◌∷◌, Some, None, Option, nat_lt, slice_index_or, slice_set}

abbrev pub Queues : Type 0
Queues = List (List ℕ)

-- the numbers that wait for card c
abbrev pub queue : Queues → ℕ → List ℕ
queue qs c = slice_index_or qs c []

-- the number that comes out first, and those that wait behind it
abbrev pub front : List ℕ → Option ℕ
front [] = None
front (x ∷ xs) = Some x

abbrev pub later : List ℕ → List ℕ
later [] = []
later (x ∷ xs) = xs

-- a number for a card: `joins` says what it makes of those that wait; an unknown card gets nothing
abbrev pub put_in : (List ℕ → ℕ → List ℕ) → Queues → ℕ → ℕ → Queues
put_in joins qs c n = cond (nat_lt c 8) (slice_set qs c (joins (queue qs c) n)) qs

-- a taking leaves those behind the first
abbrev pub taken_from : Queues → ℕ → Queues
taken_from qs c = cond (nat_lt c 8) (slice_set qs c (later (queue qs c))) qs

-- and gives the first; an unknown card has none
abbrev pub first_of : Queues → ℕ → Option ℕ
first_of qs c = cond (nat_lt c 8) (front (queue qs c)) None
