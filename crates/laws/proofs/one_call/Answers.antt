-- The three promises, one call at a time.
use Rattle.laws.proofs.OneCall.{promised}
use Rattle.laws.proofs.one_call.Goals as goal

pub returns : goal.returns
returns g c = λ w v m l k a s. promised s
