use Rattle.std.proofs.Common.{◌≡◌, refl, rules}
use Rattle.machine.specs.World.{alter_all, unlog}
use Rattle.store.proofs.Cells.{alters_all, spares_all}
use Rattle.store.proofs.records.unlog_all.Goals as goal

pub returns : goal.returns
returns c =
    let h = c.args.cells.now in
    let does : c.alter_all.new.cells ≡ alter_all h unlog = alters_all _ unlog (λ r s p. search rules) h _ c.alter_all.ensures in
    record { does = does; room = rw does (spares_all unlog (λ r. refl) h) }
