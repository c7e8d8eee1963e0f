use Rattle.std.proofs.Common.{◌≡◌, length, take, ap, ◌∙◌, arith, rules, length-take-le}
use Rattle.std.proofs.lemmas.Iterator.{YieldsList-from_slice}
use Rattle.std.proofs.lemmas.Iterator.Search.{all_from_yields_List}
use borrow.Author.Tests.{tests}
use Rattle.arrayvec.specs.ArrayVec.{array_vec_len}
use Rattle.machine.specs.Rounds.{all_of}
use Rattle.store.proofs.Gathering.{all_of_all}
use Rattle.store.proofs.whole.Store.all_answered.Goals as goal

pub returns : goal.returns
returns g c =
    let s = c.args.self.now in
    let l = take (array_vec_len s.cards) s.state.answered in
    let n : length l ≡ array_vec_len s.cards = length-take-le (array_vec_len s.cards) s.state.answered (omega arith) in
    all_from_yields_List (λ b. b) _ _ c.all.result c.all.ensures.ran (YieldsList-from_slice l cc) (λ x b q k. search (rules, tests)) ∙ all_of_all l ∙ ap (λ m. all_of m l) n
