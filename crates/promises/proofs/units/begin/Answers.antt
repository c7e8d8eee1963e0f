use Rattle.std.proofs.Common.{sym, subst, rules}
use Rattle.laws.specs.Steps.{AtRest}
use Rattle.laws.proofs.WholeRun.{stand}
use Rattle.promises.proofs.units.begin.Goals as goal

pub returns-clause-rest : goal.returns-clause-rest
returns-clause-rest g c = subst AtRest (sym c.make.ensures) (stand.made _ _ _ _ _ _ (search rules) (search rules) (search rules))
