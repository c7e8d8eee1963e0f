use Rattle.std.proofs.Common.{◌≡◌, refl, rules}
use Rattle.machine.specs.World.{alter_all, unsnoop}
use Rattle.store.proofs.Cells.{alters_all, spares_all}
use Rattle.store.proofs.records.unsnoop_all.Goals as goal

pub returns : goal.returns
returns c =
    let h = c.args.cells.now in
    let does : c.alter_all.new.cells ≡ alter_all h unsnoop = alters_all _ unsnoop (λ r s p. search rules) h _ c.alter_all.ensures in
    record { does = does; room = rw does (spares_all unsnoop (λ r. refl) h) }
