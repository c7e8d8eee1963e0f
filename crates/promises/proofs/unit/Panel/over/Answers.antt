use Rattle.std.proofs.Common.{refl}
use Rattle.promises.proofs.Stepping.{begins, silent_start}
use Rattle.promises.proofs.unit.Panel.over.Goals as goal

pub returns : goal.returns
returns g c = record { store = refl; line = refl; begins = begins; silent = silent_start _ _; lent = (refl, refl) }
