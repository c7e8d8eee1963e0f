use Rattle.std.proofs.Common.{◌≡◌, refl, rules}
use Rattle.machine.specs.World.{alter_at, log_by}
use Rattle.store.proofs.Cells.{alters_at, spares_alter}
use Rattle.store.proofs.records.log.Goals as goal

pub returns : goal.returns
returns c =
    let does : c.alter.new.cells ≡ alter_at c.args.cells.now c.args.x (log_by c.args.d) = alters_at _ (log_by c.args.d) (λ r s p. search rules) _ _ _ c.alter.ensures in
    record { does = does; room = rw does (spares_alter (log_by c.args.d) (λ r. refl) c.args.cells.now c.args.x) }
