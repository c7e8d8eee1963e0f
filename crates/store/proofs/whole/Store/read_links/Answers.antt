use Rattle.std.proofs.Common.{◌∙◌, rules}
use Rattle.machine.specs.World.{named}
use Rattle.store.specs.World.{world}
use Rattle.store.proofs.Cards.{mapped, read_all_map}
use Rattle.store.proofs.whole.Store.read_links.Goals as goal

pub returns : goal.returns
returns g c =
    let w = world c.args.self.now in
    let m = c.map.ensures.items in
    mapped _ (named w) _ (λ x y q k. search rules) c.args.r.links c.map.result 0 4 (search rules) m.long m.each ∙ read_all_map w c.args.r.links
