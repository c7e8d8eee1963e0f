use Rattle.std.proofs.Common.{◌≡◌, get_or, sym, ap, ◌∙◌}
use Rattle.machine.specs.World.{blank_card}
use Rattle.machine.specs.Rounds.{heed}
use Rattle.store.proofs.Cards.{card_put, card_put_len}
use Rattle.store.proofs.parts.heed_order.Goals as goal

pub returns-clause-does : goal.returns-clause-does
returns-clause-does c =
    let h = heed c.args.m c.args.n in
    let xs = c.deref_mut.result.now in
    let e : c.heed-card.result ≡ h (get_or xs c.args.c blank_card) =
    c.heed-card.ensures ∙ ap (λ l. h (get_or l c.args.c blank_card)) (c.deref.ensures.0 ∙ sym c.deref_mut.ensures.value) in
    rw e (card_put c.args.cards.now xs c.args.c h c.deref_mut.ensures.value)

pub returns-clause-len : goal.returns-clause-len
returns-clause-len c = card_put_len c.args.cards.now c.deref_mut.result.now c.args.c _ c.deref_mut.ensures.value
