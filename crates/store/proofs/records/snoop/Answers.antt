use Rattle.std.proofs.Common.{◌≡◌, refl, rules}
use Rattle.machine.specs.World.{alter_at, snoopen}
use Rattle.store.proofs.Cells.{alters_at, spares_alter}
use Rattle.store.proofs.records.snoop.Goals as goal

pub returns : goal.returns
returns c =
    let does : c.alter.new.cells ≡ alter_at c.args.cells.now c.args.x (snoopen) = alters_at _ (snoopen) (λ r s p. search rules) _ _ _ c.alter.ensures in
    record { does = does; room = rw does (spares_alter snoopen (λ r. refl) c.args.cells.now c.args.x) }
