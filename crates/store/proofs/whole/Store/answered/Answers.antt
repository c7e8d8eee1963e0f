use Rattle.std.proofs.Common.{true, ap}
use lib.Seq.{take-set-lt}
use Rattle.arrayvec.specs.ArrayVec.{array_vec_len}
use Rattle.machine.specs.World.{with_answered}
use Rattle.store.specs.World.{world}
use Rattle.store.proofs.whole.Store.answered.Goals as goal

pub returns-clause-does : goal.returns-clause-does
returns-clause-does g c =
    let s = c.args.self.now in
    ap (λ l. with_answered (world s) l) (take-set-lt (array_vec_len s.cards) s.state.answered c.args.c true c.requires)
