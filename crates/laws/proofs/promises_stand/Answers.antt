-- The three promises, from the invariant.
use Rattle.laws.proofs.Invariant.{inv_start, inv_step}
use Rattle.laws.proofs.Whole.{promises}
use Rattle.laws.proofs.promises_stand.Goals as goal

pub returns : goal.returns
returns g c = promises (record { start = inv_start; step = inv_step })
