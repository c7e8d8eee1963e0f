-- Contents stay at making and at a sweep.
use Rattle.laws.proofs.LawsCalls.{contents}
use Rattle.laws.proofs.contents_stay.Goals as goal

pub returns : goal.returns
returns g c = contents g.row.C.Denot
