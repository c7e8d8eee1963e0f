-- The three promises, given that the invariant holds at a start and is kept by every step.
use Rattle.laws.specs.Promises.{Promises}
use Rattle.laws.proofs.Made.{made}
use Rattle.laws.proofs.Runs.{Lasts, safe}
use Rattle.laws.proofs.Doomed.{live}
use Rattle.laws.proofs.AlikeRun.{alike}

pub promises : {C : Type 0} → Lasts C → Promises C
promises L = record { made = made; safe = safe L; live = live L; alike = alike L }
