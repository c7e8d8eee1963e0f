-- A refused call changes nothing.
use Rattle.laws.proofs.LawsCalls.{refused}
use Rattle.laws.proofs.refused_changes_nothing.Goals as goal

pub returns : goal.returns
returns g c = refused g.row.C.Denot
