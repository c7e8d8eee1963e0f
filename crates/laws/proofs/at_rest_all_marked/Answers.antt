-- At rest every record is marked.
use Rattle.laws.proofs.LawsRuns.{rest_marked}
use Rattle.laws.proofs.at_rest_all_marked.Goals as goal

pub returns : goal.returns
returns g c = rest_marked g.row.C.Denot
