use Rattle.std.proofs.Common.{◌≡◌, ◌≤◌, false, [], take, replicate, rules}
use Rattle.arrayvec.specs.ArrayVec.{array_vec_len}
use Rattle.store.specs.Model.{stack}
use Rattle.std.proofs.lemmas.List.{take-replicate}
use Rattle.store.proofs.Stacks.{stack_none}
use Rattle.store.proofs.restore.Restore.make.Goals as goal

pub returns : goal.returns
returns g c =
    let s = c.args.self.stock in
    let few : array_vec_len s.cards ≤ 8 = search rules in
    let t : stack s.waiting ≡ [] = stack_none s.waiting (search rules) in
    let a : take (array_vec_len s.cards) (replicate 8 false) ≡ replicate (array_vec_len s.cards) false = take-replicate (array_vec_len s.cards) 8 false few in
    search (rules, t, a)
