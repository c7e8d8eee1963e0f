use Rattle.std.proofs.Common.{◌≡◌, ℕ, ◌<◌, get_or, None}
use Rattle.archive.specs.Reading.{cell_in}
use Rattle.archive.proofs.pages.Pages.fill_cells.Given as goal

abbrev pub invariant-loop-k : goal.invariant-loop-k
invariant-loop-k l = (k : ℕ) → k < l.k → get_or l.cells k None ≡ cell_in l.self.bytes.now k
