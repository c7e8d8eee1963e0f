use Rattle.std.proofs.Common.{◌∙◌}
use Rattle.store.specs.World.{world}
use Rattle.store.proofs.Attending.{obey_gather, obey_plain}
use Rattle.store.proofs.whole.Store.obey.Goals as goal

pub returns-then-n-eq3 : goal.returns-then-n-eq3
returns-then-n-eq3 g c =
    c.put_all.ensures
    ∙ rw (c.heed_order.ensures.len, c.deref.ensures.0) (obey_gather (world c.args.self.now) c.args.c c.args.n _ c.if-n-eq3.true c.heed_order.ensures.does)

pub returns-else-n-eq3 : goal.returns-else-n-eq3
returns-else-n-eq3 g c = rw c.heed_order.ensures.len (obey_plain (world c.args.self.now) c.args.c c.args.n _ c.if-n-eq3.false c.heed_order.ensures.does)
