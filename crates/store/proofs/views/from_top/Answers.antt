use Rattle.std.proofs.Common.{rules}
use Rattle.store.proofs.Stacks.{stack_past, stack_at}
use Rattle.store.proofs.views.from_top.Goals as goal

pub returns-then-i-len : goal.returns-then-i-len
returns-then-i-len c = stack_past c.args.list.now c.args.i (search rules)

pub returns : goal.returns
returns c = stack_at c.args.list.now c.args.i _ (search rules) (search rules)
