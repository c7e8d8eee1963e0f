use Rattle.std.proofs.Common.{◌≡◌, ℕ, List, length, get_or, None, ap, ◌∙◌, length-append, arith}
use Rattle.octets.specs.Numbers.{le16}
use Rattle.archive.specs.Layout.{told}
use Rattle.archive.proofs.Runs.{row_none, row_more}
use Rattle.archive.proofs.parts.add_names.Goals as goal

pub loop-name-init : goal.loop-name-init
loop-name-init c = (row_none (λ i. le16 (told c.args.cells.now (get_or c.args.names.now i None))) c.args.body.now.items, omega arith)

pub loop-name-preserved : goal.loop-name-preserved
loop-name-preserved c =
    let f : ℕ → List ℕ = λ i. le16 (told c.args.cells.now (get_or c.args.names.now i None)) in
    let i = c.loop-name.name-index in
    let x = c.to_le_bytes.result in
    let e : x ≡ f i = c.to_le_bytes.ensures ∙ ap le16 c.told.ensures in
    let two : length x ≡ 2 = ap length e in
    (c.add.ensures ∙ row_more f i c.args.body.now.items c.loop-name.body.items x c.loop-name.invariant.0 e, ap length c.add.ensures ∙ omega (arith, length-append c.loop-name.body.items x, c.loop-name.invariant.1, two))
