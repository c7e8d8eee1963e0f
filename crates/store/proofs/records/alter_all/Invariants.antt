use Rattle.std.proofs.Common.{◌≡◌, ℕ, ◌<◌, ◌≤◌, get_or, None}
use Rattle.store.specs.Altering.{Alters, ByCall}
use Rattle.store.proofs.records.alter_all.Given as goal

abbrev pub invariant-loop-cell : goal.invariant-loop-cell
invariant-loop-cell g l =
    ((k : ℕ) → k < l.cell-index → Alters (ByCall (goal.F-post g l.change)) (get_or l.initial.cells k None) (get_or l.cells k None))
    × ((k : ℕ) → l.cell-index ≤ k → get_or l.cells k None ≡ get_or l.initial.cells k None)
