-- A store that a run of calls leads to can be archived.
use Rattle.std.proofs.Common.{◌≡◌, List, length, refl, ◌∙◌, arith}
use Rattle.machine.specs.declared.types.Call.{Call}
use Rattle.machine.specs.Acts.{Answer}
use Rattle.machine.specs.World.{World}
use Rattle.line.specs.Lines.{Meaning}
use Rattle.laws.specs.Steps.{Run, done, then}
use Rattle.laws.proofs.Handshake.{grows}
use Rattle.laws.proofs.Inv.{Inv}
use Rattle.laws.proofs.Invariant.{inv_start, inv_step}
use Rattle.laws.proofs.Runs.{changed}
use Rattle.archive.specs.Laws.{Reached}

along : {C : Type 0} {w v : World C} {m l : Meaning} {ks : List (Call C)} {rs : List (Answer C)} → Inv w m → Run w m ks rs v l → Inv v l
along I done = I
along I (then s r) = along (inv_step I s) r

count_along : {C : Type 0} {w v : World C} {m l : Meaning} {ks : List (Call C)} {rs : List (Answer C)} → Inv w m → Run w m ks rs v l → length v.cards ≡ length w.cards
count_along I done = refl
count_along I (then s r) = count_along (inv_step I s) r ∙ (grows (changed I s)).cards

pub reached : (C : Type 0) → Reached C
reached C w v m l ks rs S r c Z =
    let I = along (inv_start S) r in
    let L = I.lists in
    let e = count_along (inv_start S) r in
    record {
      some = L.some;
      most = Z.most;
      tables = L.tables;
      card_some = omega arith;
      card_most = Z.card_most;
      eight = L.eight;
      four = L.four;
      next = L.next;
      next_most = Z.next_most;
      rounds = Z.rounds;
      free_is = L.free_is;
      free_has = L.free_has;
      free_once = L.free_once;
      apart = L.apart;
      above = L.above;
      below = L.below;
    }
