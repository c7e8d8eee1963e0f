use Rattle.std.proofs.Common.{refl, Some}
use Rattle.store.proofs.records.alter.Goals as goal

pub returns-in-Some : goal.returns-in-Some
returns-in-Some g c = (Some c.change.new.arg2, rw c.in-Some.is (c.change.new.arg2, record { shown = _; shows = refl; left = _; met = c.change.ensures; leaves = refl }, refl), refl)
