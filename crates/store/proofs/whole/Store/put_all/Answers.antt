use Rattle.std.proofs.Common.{◌+◌, drop, sym, ap, ◌∙◌, arith}
use Rattle.machine.specs.Waiting.{put_all}
use Rattle.store.specs.World.{world}
use Rattle.store.proofs.Pushing.{put_all_more, put_all_end}
use Rattle.store.proofs.whole.Store.put_all.Goals as goal

pub loop-v-preserved : goal.loop-v-preserved
loop-v-preserved g c =
    c.loop-v.invariant ∙ put_all_more (world c.loop-v.self) c.args.vs.now c.loop-v.v-index (omega arith)
    ∙ ap (λ w. put_all w (drop (c.loop-v.v-index + 1) c.args.vs.now)) (sym c.put_waiting.ensures)

pub returns : goal.returns
returns g c = sym (c.loop-v.invariant ∙ put_all_end (world c.loop-v.self) c.args.vs.now c.loop-v.v-index (omega arith))
