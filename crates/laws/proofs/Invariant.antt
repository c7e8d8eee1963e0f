-- The invariant holds at a start and is kept by every step.
use Rattle.machine.specs.declared.types.Call.{Call}
use Rattle.machine.specs.Acts.{Answer}
use Rattle.machine.specs.World.{World}
use Rattle.line.specs.Lines.{Meaning}
use Rattle.laws.specs.Steps.{Step, Start}
use Rattle.laws.proofs.Cases.{Change, step_changes}
use Rattle.laws.proofs.Inv.{Inv}
use Rattle.laws.proofs.Handshake.{handshake_kept, handshake_start}
use Rattle.laws.proofs.Switches.{switches_kept}
use Rattle.laws.proofs.KeptLists.{lists_kept, lists_start}
use Rattle.laws.proofs.KeptPhases.{phases_kept, phases_start, switches_start}
use Rattle.laws.proofs.KeptNames.{names_kept, names_start}
use Rattle.laws.proofs.KeptUpdates.{updates_kept, updates_start}
use Rattle.laws.proofs.KeptCoverage.{coverage_kept, coverage_start}

pub inv_start : {C : Type 0} {w : World C} {m : Meaning} → Start w m → Inv w m
inv_start s = record {
  handshake = handshake_start s;
  switches = switches_start s;
  lists = lists_start s;
  names = names_start s;
  phases = phases_start s;
  updates = updates_start s;
  coverage = coverage_start s;
}

changed : {C : Type 0} {w v : World C} {m l : Meaning} {k : Call C} {a : Answer C} → Inv w m → Step w m k a v l → Change w v → Inv v l
changed {C} {w} {v} {m} I s h =
    let H = I.handshake in
    record {
      handshake = handshake_kept H s;
      switches = switches_kept w (record { order = H.order; lasts = H.lasts; heard = H.heard; answers = H.answers }) I.switches h;
      lists = lists_kept I h;
      names = names_kept w m I h;
      phases = phases_kept I h;
      updates = updates_kept w m I h;
      coverage = coverage_kept w m I h;
    }

pub inv_step : {C : Type 0} {w v : World C} {m l : Meaning} {k : Call C} {a : Answer C} → Inv w m → Step w m k a v l → Inv v l
inv_step I s = changed I s (step_changes I.handshake.wired s)
