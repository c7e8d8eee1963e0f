use Rattle.std.proofs.Common.{◌≡◌, ◌+◌, ◌≤◌, false, [], length, take, set, replicate, ap, ◌∙◌, rules, None, Some}
use lib.ListN.{length-replicate}
use Rattle.machine.specs.World.{born_at}
use Rattle.store.specs.Model.{stack, spares}
use Rattle.std.proofs.lemmas.List.{take-replicate}
use Rattle.store.proofs.Made.{made_spares}
use Rattle.store.proofs.Stacks.{stack_none}
use Rattle.store.proofs.plan.Plan.make.Goals as goal

pub invariant_of-result : goal.invariant_of-result
invariant_of-result g c =
    let d = c.args.self in
    let n = length d.cells.now in
    let z : c.clear_cells.new.cells ≡ replicate n None = c.clear_cells.ensures in
    let p : n ≤ spares (set (replicate n None) 0 (Some c.newborn.result)) + 1 = made_spares n (Some c.newborn.result) in
    let q : spares (set c.clear_cells.new.cells 0 (Some c.newborn.result)) ≡ spares (set (replicate n None) 0 (Some c.newborn.result)) = ap (λ h. spares (set h 0 (Some c.newborn.result))) z in
    let l : length c.clear_cells.new.cells ≡ n = ap length z ∙ length-replicate n None in
    record { tables = search rules; lists = search rules; numbers = search rules }

pub returns : goal.returns
unfolding born_at
returns g c =
    let d = c.args.self in
    let n = length d.cells.now in
    let z : c.clear_cells.new.cells ≡ replicate n None = c.clear_cells.ensures in
    let few : d.cards ≤ 8 = search rules in
    let t : stack d.lists.waiting ≡ [] = stack_none d.lists.waiting search rules in
    let k : take d.cards (replicate 8 c.fresh_card.result) ≡ replicate d.cards c.fresh_card.result = take-replicate d.cards 8 c.fresh_card.result few in
    let a : take d.cards (replicate 8 false) ≡ replicate d.cards false = take-replicate d.cards 8 false few in
    search (rules, z, t, k, a)
