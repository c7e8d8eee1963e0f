use Rattle.std.proofs.Common.{◌≡◌, rules}
use Rattle.machine.specs.World.{alter_at, blacken}
use Rattle.store.proofs.Cells.{alters_at, spares_blacken}
use Rattle.store.proofs.records.blacken.Goals as goal

pub returns : goal.returns
returns c =
    let does : c.alter.new.cells ≡ alter_at c.args.cells.now c.args.x (blacken c.args.m) = alters_at _ (blacken c.args.m) (λ r s p. search rules) _ _ _ c.alter.ensures in
    record { does = does; room = rw does (spares_blacken (blacken c.args.m) c.args.cells.now c.args.x) }
