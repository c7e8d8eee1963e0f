use Rattle.std.proofs.Common.{sym, ap, ◌∙◌, rules}
use Rattle.machine.specs.Rounds.{phase_number}
use Rattle.store.specs.Model.{stack}
use Rattle.store.specs.World.{world}
use Rattle.store.proofs.Attending.{trace_none}
use Rattle.store.proofs.whole.Store.trace.Goals as goal

pub returns-in_default-cell : goal.returns-in_default-cell
returns-in_default-cell g c =
    sym (trace_none (world c.args.self.now) _ c.in-Some.k (stack c.pop.new.list) (ap phase_number c.in-Trace.is) c.in-Some.ensures.top (sym c.at-cell.ensures ∙ c.in_default-cell.is) (search rules))
