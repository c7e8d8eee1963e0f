use Rattle.std.proofs.Common.{◌≡◌, drop}
use Rattle.machine.specs.Waiting.{put_all, snooped_names}
use Rattle.store.specs.World.{world}
use Rattle.store.proofs.whole.Store.gather_snooped.Given as goal

abbrev pub invariant-loop-i : goal.invariant-loop-i
invariant-loop-i g l = (put_all (world l.initial.self) (snooped_names 0 (world l.initial.self).cells) ≡ put_all (world l.self) (drop l.i (snooped_names 0 (world l.initial.self).cells)))
    × (snooped_names 0 (world l.self).cells ≡ snooped_names 0 (world l.initial.self).cells)
