-- What writing and reading owe each other.
use Rattle.std.specs.Prelude.{◌≡◌, ℕ, ◌≤◌, List, length, None, Option}
use Rattle.octets.specs.Numbers.{Bytes}
use Rattle.machine.specs.World.{World}
use Rattle.line.specs.Lines.{Meaning}
use Rattle.machine.specs.declared.types.Call.{Call}
use Rattle.machine.specs.Acts.{Answer}
use Rattle.laws.specs.Steps.{AtRest, Start, Run}
use Rattle.archive.specs.Layout.{archive_of}
use Rattle.archive.specs.Rules.{refusal_of}
use Rattle.archive.specs.Reading.{world_in}
use Rattle.archive.specs.Good.{Good, Sizes, at_rest}

-- bytes that are accepted are exactly those that the store read from them writes
abbrev pub Forth : {C : Type 0} → ℕ → (C → List ℕ) → (List ℕ → Option C) → Type 0
Forth {C} code form read =
    (bs : List ℕ) (cells : ℕ) (old : List C) → Bytes bs → refusal_of code read bs cells (length old) ≡ None → archive_of code form (world_in read bs old) ≡ bs

-- so two different strings of bytes never read as the same store
abbrev pub Once : {C : Type 0} → ℕ → (List ℕ → Option C) → Type 0
Once {C} code read =
    (bs cs : List ℕ) (m n : ℕ) (old new : List C) → Bytes bs → Bytes cs
    → refusal_of code read bs m (length old) ≡ None → refusal_of code read cs n (length new) ≡ None
    → world_in read bs old ≡ world_in read cs new → bs ≡ cs

-- a store that was read is one where runs may start
abbrev pub Starts : {C : Type 0} → ℕ → (List ℕ → Option C) → Type 0
Starts {C} code read = (bs : List ℕ) (cells : ℕ) (old : List C) → refusal_of code read bs cells (length old) ≡ None → AtRest (world_in read bs old)

-- reading what a store writes is not refused, and gives that store at rest
abbrev pub Back : {C : Type 0} → ℕ → (C → List ℕ) → (List ℕ → Option C) → Type 0
Back {C} code form read =
    (w : World C) (old : List C) → Good w → length old ≡ length w.cells
    → (refusal_of code read (archive_of code form w) (length w.cells) (length old) ≡ None) × (world_in read (archive_of code form w) old ≡ at_rest w old)

-- every store that a run leads to, from a start with a card, can be archived
abbrev pub Reached : Type 0 → Type 0
Reached C =
    (w v : World C) (m l : Meaning) (ks : List (Call C)) (rs : List (Answer C)) → Start w m → Run w m ks rs v l → 1 ≤ length w.cards → Sizes v → Good v
