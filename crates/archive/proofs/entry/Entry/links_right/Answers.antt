use Rattle.std.proofs.Common.{◌+◌, ◌*◌, ◌/◌, drop, refl, ap, ◌∙◌, arith}
use Rattle.octets.specs.Numbers.{un16}
use Rattle.archive.specs.Runs.{every}
use Rattle.archive.specs.Bytes.{spot, link_in}
use Rattle.archive.specs.Rules.{name_right}
use Rattle.archive.proofs.Glue.{two_in}
use Rattle.archive.proofs.Walks.{every_same}
use Rattle.archive.proofs.entry.Entry.links_right.Goals as goal

pub returns : goal.returns
unfolding link_in
returns c =
    let bs = c.args.self.now.pages.bytes.now in
    let n = c.args.self.now.pages.head.cells in
    let k = c.args.self.now.k in
    let l = c.links.result.now in
    c.names_right.ensures ∙ ap (λ m. every (λ i. name_right bs n (un16 (drop (2 * i) l))) (m / 2)) c.links.ensures.long
    ∙ every_same (λ i. name_right bs n (un16 (drop (2 * i) l))) (λ i. name_right bs n (link_in bs k i)) 4
    (λ i h. ap (name_right bs n) (two_in (spot k + 20) 8 (2 * i) (spot k + 20 + 2 * i) bs l c.links.ensures.is (omega arith) refl))
