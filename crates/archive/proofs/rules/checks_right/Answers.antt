use Rattle.std.proofs.Common.{◌/◌, length, ap, ◌∙◌, rules, tests}
use Rattle.std.proofs.lemmas.Iterator.{YieldsList-from_slice}
use Rattle.std.proofs.lemmas.Iterator.Search.{all_from_yields_List}
use Rattle.std.specs.List.{list_all}
use Rattle.octets.specs.Block.{check_right}
use Rattle.archive.specs.Rules.{checks_right}
use Rattle.archive.proofs.Walks.{all_parts}
use Rattle.archive.proofs.rules.checks_right.Goals as goal

pub returns : goal.returns
unfolding checks_right
returns c =
    let bs = c.args.bytes.now in
    all_from_yields_List check_right _ _ _ c.all.ensures.ran (YieldsList-from_slice c.as_chunks.result.0.now cc) (λ x b q k. search (rules, tests))
    ∙ ap (list_all check_right) c.as_chunks.ensures.front ∙ all_parts check_right 512 (length bs / 512) bs
