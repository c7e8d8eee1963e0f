use Rattle.std.proofs.Common.{◌≡◌, ◌+◌, ◌-◌, ◌*◌, length}
use Rattle.store.specs.World.{world}
use Rattle.archive.specs.Runs.{run}
use Rattle.archive.specs.Layout.{cell_bytes}
use Rattle.archive.proofs.write.write_cells.Given as goal

abbrev pub invariant-loop-k : goal.invariant-loop-k
invariant-loop-k g l =
    (l.body.items ≡ run (λ j. cell_bytes g.C.Contents.form (world l.store) (18 * l.b + j)) (l.k - 18 * l.b)) × (length l.body.items ≡ 28 * (l.k - 18 * l.b))
