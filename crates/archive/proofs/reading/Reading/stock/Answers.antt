use Rattle.std.proofs.Common.{◌≡◌, length, take, sym, ap, ◌∙◌, arith, rules}
use Rattle.arrayvec.specs.ArrayVec.{array_vec_len}
use Rattle.machine.specs.World.{blank_card}
use Rattle.store.specs.Model.{spares}
use Rattle.archive.specs.Runs.{tab}
use Rattle.archive.specs.Bytes.{cells_in, next_in, free_in, unname}
use Rattle.archive.specs.Rules.{count_free}
use Rattle.archive.specs.Reading.{cell_in, value_in, filled, card_in, chain_from, world_in}
use Rattle.archive.proofs.Runs.{tab-take}
use Rattle.archive.proofs.Tables.{spares_tab, rest_same}
use Rattle.archive.proofs.reading.Reading.stock.Goals as goal

pub returns-clause-is : goal.returns-clause-is
unfolding world_in
returns-clause-is g c =
    let r = c.args.self in
    let bs = r.pages.bytes.now in
    let old = r.contents.now in
    let h = r.pages.head in
    let told = r.pages.told in
    let v = value_in g.C.Contents.read bs in
    let eh : h.cells ≡ cells_in bs = ap (λ h. h.cells) told in
    let cs : c.truncate.new.self.items ≡ take h.cards c.cards.result = search rules in
    let cn : array_vec_len c.truncate.new.self ≡ h.cards = search rules in
    rest_same _ _ _ _ _ _ _ _ _ _ _ _ _ _
    (c.fill_cells.ensures ∙ ap (tab (cell_in bs)) (r.every_cell ∙ eh))
    (c.fill_contents.ensures ∙ ap (filled v old) (r.every_content ∙ eh))
    (cs ∙ ap (take h.cards) c.cards.ensures ∙ tab-take (card_in bs) h.cards 8 blank_card r.pages.cards ∙ ap (λ h. tab (card_in bs) h.cards) told)
    (c.list_chain.ensures.does ∙ ap (λ f. chain_from (next_in bs) (free_in bs h.cells) f c.unnamed.result) c.count_free.ensures.is
    ∙ ap (λ k. chain_from (next_in bs) (free_in bs k) (count_free (free_in bs k) k) c.unnamed.result) eh
    ∙ ap (chain_from (next_in bs) (free_in bs (cells_in bs)) (count_free (free_in bs (cells_in bs)) (cells_in bs))) (c.unnamed.ensures ∙ ap (λ h. unname h.first) told))
    (cn ∙ ap (λ h. h.cards) told) (ap (λ h. h.next) told) (ap (λ h. h.rounds) told)

pub returns-clause-listed : goal.returns-clause-listed
returns-clause-listed g c =
    let r = c.args.self in
    let bs = r.pages.bytes.now in
    let n = length r.cells.now in
    let eh : r.pages.head.cells ≡ n = sym r.every_cell in
    let sp : spares c.fill_cells.new.cells ≡ count_free (free_in bs n) n = ap spares c.fill_cells.ensures ∙ spares_tab bs n n (omega arith) in
    let left : c.count_free.result ≡ count_free (free_in bs n) n = c.count_free.ensures.is ∙ ap (λ k. count_free (free_in bs k) k) eh in
    search rules
