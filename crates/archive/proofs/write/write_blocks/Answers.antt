use Rattle.std.proofs.Common.{◌≡◌, ℕ, ◌+◌, ◌*◌, List, length, ap, ◌∙◌, arith, rules}
use Rattle.std.proofs.lemmas.List.{take_at}
use Rattle.store.specs.World.{world}
use Rattle.octets.proofs.Filled.{put_next, full}
use Rattle.archive.specs.Layout.{archive_block, blocks_for}
use Rattle.archive.proofs.Runs.{run_one, run_more}
use Rattle.archive.proofs.Cells.{all_blocks}
use Rattle.archive.proofs.write.write_blocks.Goals as goal

pub loop-b-init : goal.loop-b-init
loop-b-init g c =
    let f : ℕ → List ℕ = archive_block g.C.Contents.CODE g.C.Contents.form (world c.args.store.now) in
    take_at c.write_head.new.out _ 512 (search rules) ∙ c.write_head.ensures ∙ run_one f

pub loop-b-preserved : goal.loop-b-preserved
loop-b-preserved g c =
    let f : ℕ → List ℕ = archive_block g.C.Contents.CODE g.C.Contents.form (world c.args.store.now) in
    let b = c.loop-b.b in
    put_next (512 + 512 * b) _ (512 + 512 * (b + 1)) c.loop-b.out c.write_cells.new.out c.loop-b.invariant c.write_cells.ensures (search rules) (search rules)
    ∙ run_more f (b + 1)

pub returns : goal.returns
returns g c =
    let w = world c.args.store.now in
    let e = ap length c.cells-n.ensures in
    let i : c.loop-b.b + 1 ≡ blocks_for (length w.cells) = omega arith in
    full c.loop-b.out (512 + 512 * c.loop-b.b) c.loop-b.invariant (search rules) ∙ all_blocks g.C.Contents.CODE g.C.Contents.form w (c.loop-b.b + 1) i
