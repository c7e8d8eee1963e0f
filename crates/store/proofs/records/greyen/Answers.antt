use Rattle.std.proofs.Common.{◌≡◌, rules}
use Rattle.machine.specs.World.{alter_at, greyen}
use Rattle.store.proofs.Cells.{alters_at, spares_greyen, spares_most}
use Rattle.store.proofs.records.greyen.Goals as goal

pub returns : goal.returns
returns c =
    let does : c.alter.new.cells ≡ alter_at c.args.cells.now c.args.x (greyen) = alters_at _ (greyen) (λ r s p. search rules) _ _ _ c.alter.ensures in
    record { does = does; room = rw does (spares_greyen c.args.m c.args.cells.now c.args.x c.requires); most = spares_most c.alter.new.cells }
