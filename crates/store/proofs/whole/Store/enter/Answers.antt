use Rattle.std.proofs.Common.{◌≡◌, false, take, replicate, rules}
use Rattle.arrayvec.specs.ArrayVec.{array_vec_len}
use Rattle.machine.specs.Rounds.{nobody}
use Rattle.store.proofs.Cards.{nobody-take}
use Rattle.store.proofs.whole.Store.enter.Goals as goal

pub returns : goal.returns
returns g c =
    let s = c.args.self.now in
    let e : take (array_vec_len s.cards) (replicate 8 false) ≡ nobody (take (array_vec_len s.cards) s.state.answered) = nobody-take (array_vec_len s.cards) 8 s.state.answered s.lists.0 in
    search (rules, e)
