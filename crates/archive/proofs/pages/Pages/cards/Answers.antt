use Rattle.std.proofs.Common.{rules}
use Rattle.machine.specs.World.{blank_card}
use Rattle.archive.specs.Reading.{card_in}
use Rattle.archive.proofs.Walks.{tabled}
use Rattle.archive.proofs.pages.Pages.cards.Goals as goal

pub returns : goal.returns
returns c = tabled _ (card_in c.args.self.now.bytes.now) _ (λ i y q k. search rules) c.from_fn.result 8 blank_card c.from_fn.ensures.items
