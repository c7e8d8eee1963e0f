use Rattle.std.proofs.Common.{◌≡◌, ◌+◌, ◌*◌, ◌++◌, length, get_or, None}
use Rattle.octets.specs.Numbers.{le16}
use Rattle.archive.specs.Runs.{run}
use Rattle.archive.specs.Layout.{told}
use Rattle.archive.proofs.parts.add_names.Given as goal

abbrev pub invariant-loop-name : goal.invariant-loop-name
invariant-loop-name l =
    (l.body.items ≡ l.initial.body.items ++ run (λ i. le16 (told l.cells (get_or l.names i None))) l.name-index)
    × (length l.body.items ≡ length l.initial.body.items + 2 * l.name-index)
