use Rattle.std.proofs.Common.{ℕ, ◌*◌, ◌/◌, Bool, List, length, take, drop, ap, ◌∙◌, rules, tests}
use Rattle.std.proofs.lemmas.Iterator.{YieldsList-from_slice}
use Rattle.std.proofs.lemmas.Iterator.Search.{all_from_yields_List}
use Rattle.std.specs.List.{list_all}
use Rattle.octets.specs.Numbers.{un16}
use Rattle.archive.specs.Rules.{name_right}
use Rattle.archive.proofs.Glue.{un16_front}
use Rattle.archive.proofs.Walks.{all_parts, every_same}
use Rattle.archive.proofs.pages.Pages.names_right.Goals as goal

pub returns : goal.returns
returns c =
    let bs = c.args.self.now.bytes.now in
    let n = c.args.self.now.head.cells in
    let xs = c.args.names.now in
    let t : List ℕ → Bool = λ x. name_right bs n (un16 x) in
    all_from_yields_List t _ _ _ c.all.ensures.ran (YieldsList-from_slice c.as_chunks.result.0.now cc) (λ x b q k. search (rules, tests))
    ∙ ap (list_all t) c.as_chunks.ensures.front ∙ all_parts t 2 (length xs / 2) xs
    ∙ every_same (λ i. t (take 2 (drop (2 * i) xs))) (λ i. t (drop (2 * i) xs)) (length xs / 2) (λ i l. ap (name_right bs n) (un16_front (drop (2 * i) xs)))
