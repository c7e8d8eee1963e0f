use Rattle.std.proofs.Common.{◌≡◌, ◌-◌, ◌+◌, ◌≤◌, vec_len, vec_capacity}
use Rattle.machine.specs.World.{count_up}
use Rattle.store.specs.Model.{stack}
use Rattle.store.proofs.making.fill_free.Given as goal

abbrev pub invariant-loop-k : goal.invariant-loop-k
invariant-loop-k l = (stack l.free ≡ count_up l.k (l.n - l.k)) × (vec_len l.free + l.k ≡ l.n) × (l.n ≤ vec_capacity l.free) × (1 ≤ l.k)
