-- What may name a free cell.
use Rattle.laws.proofs.LawsRuns.{names_used}
use Rattle.laws.proofs.names_of_free_cells.Goals as goal

pub returns : goal.returns
returns g c = names_used g.row.C.Denot
