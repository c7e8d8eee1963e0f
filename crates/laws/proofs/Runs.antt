-- The invariant holds along a whole run, given that it holds at a start and is kept by a step; and so (a).
use Rattle.std.proofs.Common.{ℕ, List}
use Rattle.machine.specs.declared.types.Call.{Call}
use Rattle.machine.specs.Acts.{Answer}
use Rattle.machine.specs.World.{World}
use Rattle.line.specs.Lines.{Meaning}
use Rattle.laws.specs.Leads.{Led, Holds}
use Rattle.laws.specs.Steps.{Step, Run, done, then, Start}
use Rattle.laws.proofs.Cases.{Change, step_changes}
use Rattle.laws.proofs.Inv.{Inv}
use Rattle.laws.proofs.Kept.{held}

-- a step from where the invariant holds is one of the changes
pub changed : {C : Type 0} {w v : World C} {m l : Meaning} {k : Call C} {a : Answer C} → Inv w m → Step w m k a v l → Change w v
changed I s = step_changes I.handshake.wired s

-- that the invariant lasts (Invariant proves it; here it is given)
pub record Lasts (C : Type 0) : Type 0 where
  pub start : {w : World C} {m : Meaning} → Start w m → Inv w m
  pub step : {w v : World C} {m l : Meaning} {k : Call C} {a : Answer C} → Inv w m → Step w m k a v l → Inv v l

module _ {C : Type 0} (L : Lasts C) where
  pub inv_along : {w v : World C} {m l : Meaning} {ks : List (Call C)} {rs : List (Answer C)} → Inv w m → Run w m ks rs v l → Inv v l
  inv_along I done = I
  inv_along I (then s r) = inv_along (L.step I s) r

  pub inv_run : {w v : World C} {m l : Meaning} {ks : List (Call C)} {rs : List (Answer C)} → Start w m → Run w m ks rs v l → Inv v l
  inv_run S r = inv_along (L.start S) r

  -- (a)
  pub safe :
      (w₀ w v : World C) (m₀ m l : Meaning) (ks : List (Call C)) (rs : List (Answer C)) (k : Call C) (a : Answer C) →
      Start w₀ m₀ → Run w₀ m₀ ks rs w m → Step w m k a v l →
      (x s : ℕ) → Holds w x s → ((y : ℕ) → Holds v y s → ⊥) → Led w x → ⊥
  safe w₀ w v m₀ m l ks rs k a S r t x s h gone led =
      let I : Inv w m = inv_run S r in
      gone x (held w m I (changed I t) x s h led)
