use Rattle.std.proofs.Common.{◌∙◌, refl, arith, rules, tests}
use Rattle.std.proofs.lemmas.Iterator.{YieldsList-from_range}
use Rattle.std.proofs.lemmas.Iterator.Search.{all_from_yields_List}
use Rattle.archive.specs.Rules.{cell_right}
use Rattle.archive.proofs.Walks.{all_below}
use Rattle.archive.proofs.pages.Pages.cells_right.Goals as goal

pub returns : goal.returns
returns g c =
    let n = c.args.self.now.head.cells in
    let t = cell_right g.C.Contents.read c.args.self.now.bytes.now n in
    all_from_yields_List t _ _ _ c.all.ensures.ran (YieldsList-from_range 0 n n refl (omega arith)) (λ x b q k. search (rules, tests)) ∙ all_below t n
