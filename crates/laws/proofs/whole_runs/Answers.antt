-- The three promises of every whole run.
use Rattle.laws.proofs.WholeRun.{kept}
use Rattle.laws.proofs.whole_runs.Goals as goal

pub returns : goal.returns
returns g c = λ w v m l ks rs ρ S. kept S ρ
