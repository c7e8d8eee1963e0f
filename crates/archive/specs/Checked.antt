-- What the check before a reading says.
use Rattle.std.specs.Prelude.{◌≡◌, ℕ, List, length, Some, None, Ok, Err, Option, Result}
use Rattle.refusal.specs.declared.kinds.Refusal.{Refusal}
use Rattle.machine.specs.World.{Cell}
use Rattle.store.specs.declared.why.Why.{Why}
use Rattle.store.specs.declared.why.Why.TheVariants.{Refused, NoMemory}
use Rattle.store.specs.declared.plan.NotMade.{NotMade}
use Rattle.archive.specs.Rules.{refusal_of}
use Rattle.archive.specs.declared.reading.Reading.{Reading}

-- a refusal is the topmost that applies; want of memory is told only where none applies
abbrev pub Tells : Why → Option Refusal → Type 0
Tells (Refused r) o = o ≡ Some r
Tells NoMemory o = o ≡ None

-- the check of some bytes and two tables: a reading of just these, or the reason and the tables untouched
abbrev pub Checked : {C : Type 0} → ℕ → (List ℕ → Option C) → List ℕ → List Cell → List C → Result (Reading C) (NotMade C) → Type 0
Checked code read bs cells contents (Ok p) =
    (refusal_of code read bs (length cells) (length contents) ≡ None) × (p.pages.bytes.now ≡ bs) × (p.cells.now ≡ cells) × (p.contents.now ≡ contents)
Checked code read bs cells contents (Err e) =
    Tells e.why (refusal_of code read bs (length cells) (length contents)) × (e.cells.now ≡ cells) × (e.contents.now ≡ contents)
