use Rattle.std.proofs.Common.{◌≡◌, drop}
use Rattle.machine.specs.Waiting.{put_all}
use Rattle.store.specs.World.{world}
use Rattle.store.proofs.whole.Store.put_all.Given as goal

abbrev pub invariant-loop-v : goal.invariant-loop-v
invariant-loop-v g l = put_all (world l.initial.self) l.vs ≡ put_all (world l.self) (drop l.v-index l.vs)
