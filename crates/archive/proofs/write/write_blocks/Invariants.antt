use Rattle.std.proofs.Common.{◌≡◌, ◌+◌, ◌*◌, take}
use Rattle.store.specs.World.{world}
use Rattle.archive.specs.Runs.{run}
use Rattle.archive.specs.Layout.{archive_block}
use Rattle.archive.proofs.write.write_blocks.Given as goal

abbrev pub invariant-loop-b : goal.invariant-loop-b
invariant-loop-b g l = take (512 + 512 * l.b) l.out ≡ run (archive_block g.C.Contents.CODE g.C.Contents.form (world l.store)) (l.b + 1)
