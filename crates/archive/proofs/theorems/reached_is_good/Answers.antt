use Rattle.archive.proofs.Reached.{reached}
use Rattle.archive.proofs.theorems.reached_is_good.Goals as goal

pub returns : goal.returns
returns g c = reached g.row.C.Denot
