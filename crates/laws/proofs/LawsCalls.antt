-- Laws of single calls: a refused call changes nothing, an order delivered again changes nothing, and contents stay.
use Rattle.std.proofs.Common.{◌≡◌, ℕ, zero, suc, ◌≤◌, Bool, true, false, cond, ◌||◌, eqb, ltb, leb, List, [], ◌∷◌, length, Some, None, Ok, Err, Option, sym, refl, ap, ◌∙◌, subst, arith}
use Rattle.std.proofs.lemmas.Bool.Decides.{nat_tests}
use Rattle.std.proofs.lemmas.Bool.{false≢true}
use Rattle.refusal.specs.declared.kinds.Refusal.{Refusal}
use Rattle.refusal.specs.declared.kinds.Refusal.TheVariants.{NoCard, WrongPhase}
use Rattle.machine.specs.World.{Cell}
use Rattle.machine.specs.declared.types.Stage.{Stage}
use Rattle.machine.specs.declared.types.Stage.TheVariants.{Looked, Noted}
use Rattle.machine.specs.declared.types.Update.{Update}
use Rattle.machine.specs.declared.types.Call.{Call}
use Rattle.machine.specs.declared.types.Call.TheVariants.{New, Load, Copy, Drop, Read, Look, Note, Store, Open, Knock, Attend, Hear, Trace, Sweep, Settle}
use Rattle.machine.specs.World.{World, Name, at, mark, wait, named, card, place}
use Rattle.machine.specs.Cards.{Outcome, refuse, busy, new_from, load_from, look_from, note_from, note_stage, store_from, store_stage}
use Rattle.machine.specs.Rounds.{phase_number, ordering, attend_call, trace_from, sweep_keep, sweep_free, sweep_cell, sweep_call}
use Rattle.machine.specs.Acts.{act, answer, accepted}
use Rattle.line.specs.Lines.{Meaning, Collected}
use Rattle.laws.specs.Steps.{Moves, Sends, Unless, Attends}
use Rattle.laws.specs.Laws.{RefusedChangesNothing, again, RepeatsChangeNothing, ContentsStay}
use Rattle.laws.proofs.Frames.{nth_set_tells}
use Rattle.laws.proofs.Cases.{attend_out, hear_out}

-- ---- refusals

module _ {C : Type 0} (w : World C) where
  -- if it is refused, the store is as it was
  abbrev Stays : Outcome C → Type 0
  Stays o = accepted {C = C} (answer o.0) ≡ false → o.1 ≡ w

  gate : (b : Bool) (r : Refusal) (o : Outcome C) → Stays o → Stays (cond b (refuse r w) o)
  gate true r o f h = refl
  gate false r o f h = f h

  allow : (b : Bool) (r : Refusal) (o : Outcome C) → Stays o → Stays (cond b o (refuse r w))
  allow true r o f h = f h
  allow false r o f h = refl

  new_stays : (c p : ℕ) (x : C) (fs : List ℕ) → Stays (new_from w c p x fs)
  new_stays c p x [] h = refl
  new_stays c p x (k ∷ ks) h = absurd (false≢true (sym h))

  load_stays : (c : ℕ) (v : Name) (i q : ℕ) → Stays (load_from w c v i q)
  load_stays c None i q h = refl
  load_stays c (Some y) i q h = absurd (false≢true (sym h))

  look_stays : (c : ℕ) (v : Name) (i q : ℕ) → Stays (look_from w c v i q)
  look_stays c None i q h = refl
  look_stays c (Some y) i q h = absurd (false≢true (sym h))

  note_stage_lem : (c : ℕ) (u : Update) (s : Stage) → Stays (note_stage w c u s)
  note_stage_lem c u (Looked d) h = absurd (false≢true (sym h))
  note_stage_lem c u Noted h = refl

  note_stays : (c : ℕ) (u : Option Update) → Stays (note_from w c u)
  note_stays c None h = refl
  note_stays c (Some u) h = note_stage_lem c u u.stage h

  store_stage_lem : (c : ℕ) (u : Update) (s : Stage) → Stays (store_stage w c u s)
  store_stage_lem c u (Looked d) h = refl
  store_stage_lem c u Noted h = absurd (false≢true (sym h))

  store_stays : (c : ℕ) (u : Option Update) → Stays (store_from w c u)
  store_stays c None h = refl
  store_stays c (Some u) h = store_stage_lem c u u.stage h

  trace_stays : (ks : List ℕ) → Stays (trace_from w ks)
  trace_stays [] h = absurd (false≢true (sym h))
  trace_stays (k ∷ ks) h = absurd (false≢true (sym h))

  sweep_stays : (c : Cell) → Stays (sweep_cell w c)
  sweep_stays None h = absurd (false≢true (sym h))
  sweep_stays (Some r) h = by (mark w w.sweep || wait w w.sweep) h
    where
      by : (b : Bool) → Stays (cond b (Ok 0, sweep_keep w) (Ok r.serial, sweep_free w))
      by true h = absurd (false≢true (sym h))
      by false h = absurd (false≢true (sym h))

  module _ (m l : Meaning) where
    abbrev Both : World C → Type 0
    Both v = (v ≡ w) × (l ≡ m)

    knock_still : (b d : Bool) (c : ℕ) → accepted {C = C} (answer (cond b (Err NoCard) (cond d (Ok w.order) (Err WrongPhase)))) ≡ false → Sends c (cond b (Err NoCard) (cond d (Ok w.order) (Err WrongPhase))) m l → l ≡ m
    knock_still true d c h k = k
    knock_still false false c h k = k
    knock_still false true c h k = absurd (false≢true (sym h))

    attend_still : (c : ℕ) (got : Option ℕ) (b d : Bool) → accepted {C = C} (answer (attend_out w c got b d).0) ≡ false → Unless (attend_out w c got b d).0 (l ≡ m) (Attends c got (attend_out w c got b d).1 m l) → Both (attend_out w c got b d).2
    attend_still c got true d h k = (refl, k)
    attend_still c got false true h k = (refl, k)
    attend_still c got false false h k = absurd (false≢true (sym h))

    hear_still : (c : ℕ) (got : Option ℕ) (b d : Bool) → accepted {C = C} (answer (hear_out w c got b d).0) ≡ false → Unless (hear_out w c got b d).0 (l ≡ m) (Collected c got m l) → Both (hear_out w c got b d).1
    hear_still c got true d h k = (refl, k)
    hear_still c got false false h k = (refl, k)
    hear_still c got false true h k = absurd (false≢true (sym h))

    still : (k : Call C) (got : Option ℕ) → accepted (act w k got).0 ≡ false → Moves w k got m l → Both (act w k got).1
    still (New c p x) got h e =
        (gate (leb (length w.cards) c) _ _ (gate (ltb 7 p) _ _ (gate (busy w c) _ _ (gate (eqb w.next 4294967295) _ _ (new_stays c p x w.free)))) h, e)
    still (Load c p i q) got h e =
        (gate (leb (length w.cards) c) _ _ (gate (ltb 7 p) _ _ (gate (ltb 7 q) _ _ (gate (ltb 3 i) _ _ (gate (busy w c) _ _ (load_stays c (named w (place w c p)) i q))))) h, e)
    still (Copy c p q) got h e = (gate (leb (length w.cards) c) _ _ (gate (ltb 7 p) _ _ (gate (ltb 7 q) _ _ (gate (busy w c) _ _ (λ z. absurd (false≢true (sym z)))))) h, e)
    still (Drop c p) got h e = (gate (leb (length w.cards) c) _ _ (gate (ltb 7 p) _ _ (gate (busy w c) _ _ (λ z. absurd (false≢true (sym z))))) h, e)
    still (Read c p) got h e = (refl, e)
    still (Look c p i q) got h e =
        (gate (leb (length w.cards) c) _ _ (gate (ltb 7 p) _ _ (gate (ltb 7 q) _ _ (gate (ltb 3 i) _ _ (gate (busy w c) _ _ (look_stays c (named w (place w c p)) i q))))) h, e)
    still (Note c) got h e = (gate (leb (length w.cards) c) _ _ (note_stays c (card w c).update) h, e)
    still (Store c) got h e = (gate (leb (length w.cards) c) _ _ (store_stays c (card w c).update) h, e)
    still Open got h e = (allow (eqb (phase_number w.phase) 0) _ _ (gate (eqb w.rounds 1073741823) _ _ (λ z. absurd (false≢true (sym z)))) h, e)
    still (Knock c) got h e = (refl, knock_still (leb (length w.cards) c) (ordering w.phase) c h e)
    still (Attend c) got h e = attend_still c got (leb (length w.cards) c) (busy w c) h e
    still (Hear c) got h e = hear_still c got (leb (length w.cards) c) (ordering w.phase) h e
    still Trace got h e = (allow (eqb (phase_number w.phase) 4) _ _ (trace_stays w.waiting) h, e)
    still Sweep got h e = (allow (eqb (phase_number w.phase) 6) _ _ (sweep_stays (at w w.sweep)) h, e)
    still Settle got h e = (allow (eqb (phase_number w.phase) 7) _ _ (λ z. absurd (false≢true (sym z))) h, e)

pub refused : (C : Type 0) → RefusedChangesNothing C
refused C w v m l k a s h =
    let S = still w m l k s.got (subst (λ z. accepted z ≡ false) s.answers h) s.line in
    (s.leaves ∙ S.0, S.1)

-- ---- repeats

once : {C : Type 0} (w : World C) (c n : ℕ) → n ≤ (card w c).last → (attend_call w c (Some n)).2 ≡ w
once w c n h = grind (nat_tests, arith)

pub repeats : (C : Type 0) → RepeatsChangeNothing C
repeats C w c n zero h = refl
repeats C w c n (suc k) h = ap (λ v. again k v c n) (once w c n h) ∙ repeats C w c n k h

-- ---- contents

sweep_contents : {C : Type 0} (w : World C) → (sweep_call w).1.contents ≡ w.contents
sweep_contents w = grind (nat_tests, arith)

pub contents : (C : Type 0) → ContentsStay C
contents C = record {
  made = λ n cs k first rounds x j h. grind (arith, nth_set_tells cs 0 x j);
  swept = sweep_contents;
}
