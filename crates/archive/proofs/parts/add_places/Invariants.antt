use Rattle.std.proofs.Common.{◌≡◌, ◌+◌, ◌*◌, ◌++◌, length}
use Rattle.store.specs.World.{world}
use Rattle.archive.specs.Runs.{run}
use Rattle.archive.specs.Layout.{place_bytes}
use Rattle.archive.proofs.parts.add_places.Given as goal

abbrev pub invariant-loop-card : goal.invariant-loop-card
invariant-loop-card g l =
    (l.body.items ≡ l.initial.body.items ++ run (place_bytes (world l.store)) l.card-index)
    × (length l.body.items ≡ length l.initial.body.items + 16 * l.card-index)
