use Rattle.std.proofs.Common.{◌≡◌, ◌+◌, ◌*◌, ◌/◌, length, drop, refl, ap, ◌∙◌, arith}
use Rattle.octets.specs.Numbers.{un16}
use Rattle.archive.specs.Runs.{every}
use Rattle.archive.specs.Bytes.{place_in}
use Rattle.archive.specs.Rules.{name_right}
use Rattle.archive.proofs.Glue.{two_in}
use Rattle.archive.proofs.Walks.{every_same}
use Rattle.archive.proofs.pages.Pages.places_right.Goals as goal

pub returns : goal.returns
unfolding place_in
returns c =
    let bs = c.args.self.now.bytes.now in
    let n = c.args.self.now.head.cells in
    let m = c.args.self.now.head.cards in
    let l = c.places.result.now in
    let w : length l / 2 ≡ 8 * m = omega (arith, c.places.ensures.long) in
    c.names_right.ensures ∙ ap (every (λ i. name_right bs n (un16 (drop (2 * i) l)))) w
    ∙ every_same (λ i. name_right bs n (un16 (drop (2 * i) l))) (λ i. name_right bs n (place_in bs i)) (8 * m)
    (λ i h. ap (name_right bs n) (two_in 22 (16 * m) (2 * i) (22 + 2 * i) bs l c.places.ensures.is (omega arith) refl))
