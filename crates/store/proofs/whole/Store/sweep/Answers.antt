use Rattle.std.proofs.Common.{◌≡◌, ◌+◌, ◌<◌, length, get_or, set, sym, ap, arith, rules, None}
use Rattle.std.proofs.lemmas.List.{length-set}
use Rattle.machine.specs.World.{free_at}
use Rattle.store.specs.Model.{spares, sweeping}
use Rattle.store.proofs.Cells.{spares_freed, spares_room, pale_spare}
use Rattle.store.proofs.whole.Store.sweep.Goals as goal

pub push-requires : goal.push-requires
push-requires g c =
    let s = c.args.self.now in
    let lt : s.state.sweep < length s.cells.now = omega (arith, ap sweeping c.in-Sweep.is) in
    omega (arith, spares_room s.cells.now s.state.sweep lt (pale_spare s.state.marked (get_or s.cells.now s.state.sweep None) (sym c.if-not-go.ensures)))

pub invariant_of-self-2-clause-numbers : goal.invariant_of-self-2-clause-numbers
invariant_of-self-2-clause-numbers g c =
    let s = c.args.self.now in
    let lt : s.state.sweep < length s.cells.now = omega (arith, ap sweeping c.in-Sweep.is) in
    let e : spares (set s.cells.now s.state.sweep None) ≡ spares s.cells.now + 1 = spares_freed s.state.marked s.cells.now s.state.sweep (sym c.if-not-go.ensures) lt in
    search rules

pub returns : goal.returns
unfolding free_at
returns g c = search rules

pub invariant_of-self-2-clause-lists : goal.invariant_of-self-2-clause-lists
invariant_of-self-2-clause-lists g c =
    let s = c.args.self.now in
    let n : length (set s.cells.now s.state.sweep None) ≡ length s.cells.now = length-set s.cells.now s.state.sweep None in
    (s.lists.0, omega (arith, n, s.lists.1, c.push.ensures.capacity), omega (arith, n, s.lists.2))
