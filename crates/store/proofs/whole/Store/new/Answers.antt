use Rattle.std.proofs.Common.{◌≡◌, Some, rules}
use Rattle.store.proofs.Cells.{spares_low}
use Rattle.machine.specs.World.{born_at}
use Rattle.store.proofs.whole.Store.new.Goals as goal

pub invariant_of-self-2-clause-numbers : goal.invariant_of-self-2-clause-numbers
invariant_of-self-2-clause-numbers g c =
    let e : c.pop.result ≡ Some c.in_ok-k.k = c.in_ok-k.ensures.ok_part in
    let n = rw e at c.pop.ensures.len in
    search (rules, spares_low, n)

pub returns : goal.returns
unfolding born_at
returns g c =
    let e : c.pop.result ≡ Some c.in_ok-k.k = c.in_ok-k.ensures.ok_part in
    let t = rw e at c.pop.ensures.top in
    search (rules, t)
