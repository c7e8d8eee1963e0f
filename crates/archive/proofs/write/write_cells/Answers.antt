use Rattle.std.proofs.Common.{◌≡◌, ℕ, ◌+◌, ◌-◌, ◌*◌, List, ◌++◌, length, sym, ap, ◌∙◌, arith}
use Rattle.store.specs.World.{world}
use Rattle.archive.specs.Runs.{run}
use Rattle.archive.specs.Layout.{cell_bytes, part_of}
use Rattle.archive.proofs.Runs.{run_none, run_more}
use Rattle.archive.proofs.Cells.{cells_block}
use Rattle.archive.proofs.write.write_cells.Goals as goal

pub loop-k-init : goal.loop-k-init
loop-k-init g c =
    let f : ℕ → List ℕ = λ j. cell_bytes g.C.Contents.form (world c.args.store.now) (18 * c.args.b + j) in
    let z : (18 * c.args.b) - (18 * c.args.b) ≡ 0 = omega arith in
    (c.new-body.ensures ∙ sym (run_none f) ∙ ap (run f) (sym z), ap length c.new-body.ensures ∙ omega arith)

pub loop-k-preserved : goal.loop-k-preserved
loop-k-preserved g c =
    let cell : ℕ → List ℕ = cell_bytes g.C.Contents.form (world c.args.store.now) in
    let f : ℕ → List ℕ = λ j. cell (18 * c.args.b + j) in
    let k = c.loop-k.k in
    let j = k - 18 * c.args.b in
    let here : k ≡ 18 * c.args.b + j = omega arith in
    let next : j + 1 ≡ (k + 1) - 18 * c.args.b = omega arith in (
      c.add_cell.ensures.is ∙ ap (λ l. l ++ cell k) c.loop-k.invariant.0 ∙ ap (λ k. run f j ++ cell k) here ∙ run_more f j ∙ ap (run f) next,
      omega (arith, c.add_cell.ensures.long, c.loop-k.invariant.1),
    )

pub returns : goal.returns
returns g c =
    let w = world c.args.store.now in
    let n = c.part_of-count.result in
    let f : ℕ → List ℕ = λ j. cell_bytes g.C.Contents.form w (18 * c.args.b + j) in
    let i : c.loop-k.k - 18 * c.args.b ≡ n = omega arith in
    cells_block g.C.Contents.CODE g.C.Contents.form w c.args.b n c.seal.new.out _ c.seal.ensures
    (c.part_of-count.ensures ∙ ap (λ h. part_of (length h) c.args.b) c.cells.ensures)
    (c.as_slice.ensures.value ∙ c.loop-k.invariant.0 ∙ ap (run f) i)
