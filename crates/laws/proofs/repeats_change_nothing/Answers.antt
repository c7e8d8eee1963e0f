-- Orders delivered again change nothing.
use Rattle.laws.proofs.LawsCalls.{repeats}
use Rattle.laws.proofs.repeats_change_nothing.Goals as goal

pub returns : goal.returns
returns g c = repeats g.row.C.Denot
