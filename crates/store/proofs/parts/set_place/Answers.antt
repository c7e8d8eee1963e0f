use Rattle.machine.specs.World.{set_place}
use Rattle.store.proofs.Cards.{card_put, card_put_len}
use Rattle.store.proofs.parts.set_place.Goals as goal

pub returns-clause-does : goal.returns-clause-does
returns-clause-does c = card_put c.args.cards.now c.deref_mut.result.now c.args.c (set_place c.args.p c.args.v) c.deref_mut.ensures.value

pub returns-clause-len : goal.returns-clause-len
returns-clause-len c = card_put_len c.args.cards.now c.deref_mut.result.now c.args.c _ c.deref_mut.ensures.value
