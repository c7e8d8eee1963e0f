-- The changes that a call can make, each with what was tested on the way: what an invariant has to be shown for.
use Rattle.std.proofs.Common.{◌≡◌, ℕ, ◌+◌, ◌<◌, ◌≤◌, Bool, true, false, cond, ◌||◌, eqb, ltb, leb, List, [], ◌∷◌, length, set, Some, None, Ok, Err, Option, Result, sym, refl, subst, arith}
use Rattle.std.proofs.lemmas.Bool.Decides.{nat_tests}
use Rattle.std.proofs.lemmas.Bool.{false≢true}
use Rattle.machine.specs.World.{Cell}
use Rattle.machine.specs.declared.types.Phase.{Phase}
use Rattle.machine.specs.declared.types.Phase.TheVariants as ph
use Rattle.refusal.specs.declared.kinds.Refusal.{Refusal}
use Rattle.refusal.specs.declared.kinds.Refusal.TheVariants.{NoCard, UpdateInHand, WrongPhase}
use Rattle.machine.specs.declared.types.Stage.{Stage}
use Rattle.machine.specs.declared.types.Stage.TheVariants.{Looked, Noted}
use Rattle.machine.specs.declared.types.Update.{Update}
use Rattle.machine.specs.declared.types.Call.{Call}
use Rattle.machine.specs.declared.types.Call.TheVariants.{New, Load, Copy, Drop, Read, Look, Note, Store, Open, Knock, Attend, Hear, Trace, Sweep, Settle}
use Rattle.machine.specs.Acts.{Answer}
use Rattle.machine.specs.World.{World, Name, at, used, mark, wait, named, card, place, with_answered}
use Rattle.machine.specs.Cards.{Outcome, refuse, busy, new_done, new_from, new_call, load_done, load_from, load_call, copy_done, copy_call, drop_done, drop_call, look_done, look_from, look_call, note_done, note_stage, note_from, note_call, store_done, store_stage, store_from, store_call}
use Rattle.machine.specs.Rounds.{phase_number, ordering, enter, all_of, open_done, open_call, obey, attend_done, attend_call, reply_to, number_or_0, leave_gather, start_sweep, move_from, hear_done, hear_call, trace_done, trace_from, trace_call, sweep_keep, sweep_free, sweep_cell, sweep_call, settle_done, settle_call}
use Rattle.line.specs.Lines.{Meaning, Among, Delivered, Collected}
use Rattle.machine.specs.Acts.{act}
use Rattle.laws.specs.Steps.{Step, Moves, Unless, Attends}

-- w, with card c in the set of answers
abbrev pub answered_by : {C : Type 0} → World C → ℕ → World C
answered_by w c = with_answered w (set w.answered c true)

abbrev pub everyone : {C : Type 0} → World C → ℕ → Bool
everyone w c = all_of (length w.cards) (set w.answered c true)

pub data Change {C : Type 0} (w : World C) : World C → Type 0 where
  same : Change w w
  news : (c p : ℕ) (x : C) (k : ℕ) (ks : List ℕ) → c < length w.cards → p ≤ 7 → (card w c).update ≡ None → w.free ≡ k ∷ ks → Change w (new_done w c p x k ks)
  loads : (c p y i q : ℕ) → c < length w.cards → q ≤ 7 → i ≤ 3 → (card w c).update ≡ None → place w c p ≡ Some y → used w y ≡ true → Change w (load_done w c y i q)
  copies : (c p q : ℕ) → c < length w.cards → q ≤ 7 → (card w c).update ≡ None → Change w (copy_done w c p q)
  drops : (c p : ℕ) → c < length w.cards → p ≤ 7 → (card w c).update ≡ None → Change w (drop_done w c p)
  looks : (c p y i q : ℕ) → c < length w.cards → i ≤ 3 → (card w c).update ≡ None → place w c p ≡ Some y → used w y ≡ true → Change w (look_done w c y i q)
  notes : (c : ℕ) (u : Update) (d : Option (List Name)) → c < length w.cards → (card w c).update ≡ Some u → u.stage ≡ Looked d → Change w (note_done w c u d)
  stores : (c : ℕ) (u : Update) → c < length w.cards → (card w c).update ≡ Some u → u.stage ≡ Noted → Change w (store_done w c u (named w u.target))
  opens : w.phase ≡ ph.Rest → Change w (open_done w)
  obeys : (c n : ℕ) → c < length w.cards → (card w c).update ≡ None → n ≡ (card w c).last + 1 → n ≤ w.order → Change w (obey w c n)
  hears : (c : ℕ) → c < length w.cards → ordering w.phase ≡ true → w.order ≤ (card w c).last → everyone w c ≡ false → Change w (answered_by w c)
  logs : (c : ℕ) → c < length w.cards → w.phase ≡ ph.Alert → w.order ≤ (card w c).last → everyone w c ≡ true → Change w (enter (answered_by w c) ph.Log)
  gathers : (c : ℕ) → c < length w.cards → w.phase ≡ ph.Log → w.order ≤ (card w c).last → everyone w c ≡ true → Change w (enter (answered_by w c) ph.Gather)
  leaves : (c : ℕ) → c < length w.cards → w.phase ≡ ph.Gather → w.order ≤ (card w c).last → everyone w c ≡ true → Change w (leave_gather (answered_by w c))
  sweeps : (c : ℕ) → c < length w.cards → w.phase ≡ ph.Ease → w.order ≤ (card w c).last → everyone w c ≡ true → Change w (start_sweep (answered_by w c))
  traces : (k : ℕ) (ks : List ℕ) → w.phase ≡ ph.Trace → w.waiting ≡ k ∷ ks → Change w (trace_done w k ks)
  eases : w.phase ≡ ph.Trace → w.waiting ≡ [] → Change w (enter w ph.Ease)
  keeps : w.phase ≡ ph.Sweep → (used w w.sweep ≡ true → (mark w w.sweep || wait w w.sweep) ≡ true) → Change w (sweep_keep w)
  frees : w.phase ≡ ph.Sweep → used w w.sweep ≡ true → mark w w.sweep ≡ false → wait w w.sweep ≡ false → Change w (sweep_free w)
  settles : w.phase ≡ ph.Settle → Change w (settle_done w)

-- what the line may carry at any time of a run
pub record Wired {C : Type 0} (w : World C) (m : Meaning) : Type 0 where
  pub orders : (c x : ℕ) → Among x (m.orders c) → x ≤ w.order
  pub replies : (c x : ℕ) → c < length w.cards → Among x (m.replies c) → x ≤ (card w c).last

-- attend and hear by the two tests that come first
abbrev pub attend_out : {C : Type 0} → World C → ℕ → Option ℕ → Bool → Bool → (Result ℕ Refusal) × (Option ℕ) × (World C)
attend_out w c got b d = cond b (Err NoCard, None, w) (cond d (Err UpdateInHand, None, w) (Ok (number_or_0 (reply_to w c got)), reply_to w c got, attend_done w c got))

abbrev pub hear_out : {C : Type 0} → World C → ℕ → Option ℕ → Bool → Bool → Outcome C
hear_out w c got b d = cond b (refuse NoCard w) (cond d (Ok (number_or_0 got), hear_done w c got) (refuse WrongPhase w))

module _ {C : Type 0} (w : World C) where
  gate : (b : Bool) (r : Refusal) (o : Outcome C) → (b ≡ false → Change w o.1) → Change w (cond b (refuse r w) o).1
  gate true r o f = same
  gate false r o f = f refl

  allow : (b : Bool) (r : Refusal) (o : Outcome C) → (b ≡ true → Change w o.1) → Change w (cond b o (refuse r w)).1
  allow true r o f = f refl
  allow false r o f = same

  idle : (c : ℕ) → busy w c ≡ false → (card w c).update ≡ None
  idle c e = grind arith

  new_changes : (c p : ℕ) (x : C) → Change w (new_call w c p x).1
  new_changes c p x =
      gate (leb (length w.cards) c) _ _ (λ a. gate (ltb 7 p) _ _ (λ b. gate (busy w c) _ _ (λ d. gate (eqb w.next 4294967295) _ _ (λ e.
      from w.free refl (grind (nat_tests, arith)) (grind (nat_tests, arith)) (idle c d)))))
    where
      from : (fs : List ℕ) → w.free ≡ fs → c < length w.cards → p ≤ 7 → (card w c).update ≡ None → Change w (new_from w c p x fs).1
      from [] e h k i = same
      from (k ∷ ks) e h l i = news c p x k ks h l i e

  load_changes : (c p i q : ℕ) → Change w (load_call w c p i q).1
  load_changes c p i q =
      gate (leb (length w.cards) c) _ _ (λ a. gate (ltb 7 p) _ _ (λ b. gate (ltb 7 q) _ _ (λ d. gate (ltb 3 i) _ _ (λ e. gate (busy w c) _ _ (λ f.
      from (named w (place w c p)) refl (grind (nat_tests, arith)) (grind (nat_tests, arith)) (grind (nat_tests, arith)) (idle c f))))))
    where
      from : (v : Name) → named w (place w c p) ≡ v → c < length w.cards → q ≤ 7 → i ≤ 3 → (card w c).update ≡ None → Change w (load_from w c v i q).1
      from None e h k l n = same
      from (Some y) e h k l n = loads c p y i q h k l n (grind arith) (grind arith)

  copy_changes : (c p q : ℕ) → Change w (copy_call w c p q).1
  copy_changes c p q =
      gate (leb (length w.cards) c) _ _ (λ a. gate (ltb 7 p) _ _ (λ b. gate (ltb 7 q) _ _ (λ d. gate (busy w c) _ _ (λ f.
      copies c p q (grind (nat_tests, arith)) (grind (nat_tests, arith)) (idle c f)))))

  drop_changes : (c p : ℕ) → Change w (drop_call w c p).1
  drop_changes c p =
      gate (leb (length w.cards) c) _ _ (λ a. gate (ltb 7 p) _ _ (λ b. gate (busy w c) _ _ (λ f.
      drops c p (grind (nat_tests, arith)) (grind (nat_tests, arith)) (idle c f))))

  look_changes : (c p i q : ℕ) → Change w (look_call w c p i q).1
  look_changes c p i q =
      gate (leb (length w.cards) c) _ _ (λ a. gate (ltb 7 p) _ _ (λ b. gate (ltb 7 q) _ _ (λ d. gate (ltb 3 i) _ _ (λ e. gate (busy w c) _ _ (λ f.
      from (named w (place w c p)) refl (grind (nat_tests, arith)) (grind (nat_tests, arith)) (idle c f))))))
    where
      from : (v : Name) → named w (place w c p) ≡ v → c < length w.cards → i ≤ 3 → (card w c).update ≡ None → Change w (look_from w c v i q).1
      from None e h l n = same
      from (Some y) e h l n = looks c p y i q h l n (grind arith) (grind arith)

  note_changes : (c : ℕ) → Change w (note_call w c).1
  note_changes c = gate (leb (length w.cards) c) _ _ (λ a. from (card w c).update refl (grind (nat_tests, arith)))
    where
      at_stage : (u : Update) (s : Stage) → (card w c).update ≡ Some u → u.stage ≡ s → c < length w.cards → Change w (note_stage w c u s).1
      at_stage u (Looked d) e k h = notes c u d h e k
      at_stage u Noted e k h = same

      from : (u : Option Update) → (card w c).update ≡ u → c < length w.cards → Change w (note_from w c u).1
      from None e h = same
      from (Some u) e h = at_stage u u.stage e refl h

  store_changes : (c : ℕ) → Change w (store_call w c).1
  store_changes c = gate (leb (length w.cards) c) _ _ (λ a. from (card w c).update refl (grind (nat_tests, arith)))
    where
      at_stage : (u : Update) (s : Stage) → (card w c).update ≡ Some u → u.stage ≡ s → c < length w.cards → Change w (store_stage w c u s).1
      at_stage u (Looked d) e k h = same
      at_stage u Noted e k h = stores c u h e k

      from : (u : Option Update) → (card w c).update ≡ u → c < length w.cards → Change w (store_from w c u).1
      from None e h = same
      from (Some u) e h = at_stage u u.stage e refl h

  at_rest : (p : Phase) → eqb (phase_number p) 0 ≡ true → p ≡ ph.Rest
  at_rest p e = grind arith

  at_trace : (p : Phase) → eqb (phase_number p) 4 ≡ true → p ≡ ph.Trace
  at_trace p e = grind arith

  at_sweep : (p : Phase) → eqb (phase_number p) 6 ≡ true → p ≡ ph.Sweep
  at_sweep p e = grind arith

  at_settle : (p : Phase) → eqb (phase_number p) 7 ≡ true → p ≡ ph.Settle
  at_settle p e = grind arith

  open_changes : Change w (open_call w).1
  open_changes = allow (eqb (phase_number w.phase) 0) _ _ (λ a. gate (eqb w.rounds 1073741823) _ _ (λ b. opens (at_rest w.phase a)))

  trace_changes : Change w (trace_call w).1
  trace_changes = allow (eqb (phase_number w.phase) 4) _ _ (λ a. from w.waiting refl (at_trace w.phase a))
    where
      from : (ks : List ℕ) → w.waiting ≡ ks → w.phase ≡ ph.Trace → Change w (trace_from w ks).1
      from [] e h = eases h e
      from (k ∷ ks) e h = traces k ks h e

  sweep_changes : Change w (sweep_call w).1
  sweep_changes = allow (eqb (phase_number w.phase) 6) _ _ (λ a. from (at w w.sweep) refl (at_sweep w.phase a))
    where
      from : (c : Cell) → at w w.sweep ≡ c → w.phase ≡ ph.Sweep → Change w (sweep_cell w c).1
      from None e h = keeps h (grind arith)
      from (Some r) e h = by (mark w w.sweep || wait w w.sweep) refl
        where
          by : (b : Bool) → (mark w w.sweep || wait w w.sweep) ≡ b → Change w (cond {A = Outcome C} b (Ok 0, sweep_keep w) (Ok r.serial, sweep_free w)).1
          by true k = keeps h (λ _. k)
          by false k = frees h (grind arith) (grind arith) (grind arith)

  settle_changes : Change w (settle_call w).1
  settle_changes = allow (eqb (phase_number w.phase) 7) _ _ (λ a. settles (at_settle w.phase a))

  -- an order that was on the way is not above the order number
  attend_done_lem : (c : ℕ) (got : Option ℕ) → c < length w.cards → (card w c).update ≡ None → ((n : ℕ) → got ≡ Some n → n ≤ w.order) → Change w (attend_done w c got)
  attend_done_lem c None h i f = same
  attend_done_lem c (Some n) h i f = by (eqb n ((card w c).last + 1)) refl
    where
      by : (b : Bool) → eqb n ((card w c).last + 1) ≡ b → Change w (cond b (obey w c n) w)
      by true e = obeys c n h i (grind (nat_tests, arith)) (f n refl)
      by false e = same

  module _ (m l : Meaning) (W : Wired w m) where
    attend_changes : (c : ℕ) (got : Option ℕ) → Moves w (Attend c) got m l → Change w (attend_call w c got).2
    attend_changes c got A = by (leb (length w.cards) c) (busy w c) refl refl A
      where
        by : (b d : Bool) → leb (length w.cards) c ≡ b → busy w c ≡ d → Unless (attend_out w c got b d).0 (l ≡ m) (Attends c got (attend_out w c got b d).1 m l) → Change w (attend_out w c got b d).2
        by true d e k A = same
        by false true e k A = same
        by false false e k A = attend_done_lem c got (grind (nat_tests, arith)) (idle c k) (λ n j. W.orders c n (subst (λ g. Delivered g (m.orders c)) j A.fetched.given))

    -- all have answered
    moved : (c : ℕ) (p : Phase) → w.phase ≡ p → ordering p ≡ true → c < length w.cards → w.order ≤ (card w c).last → everyone w c ≡ true → Change w (move_from p (answered_by w c))
    moved c ph.Alert e o h k a = logs c h e k a
    moved c ph.Log e o h k a = gathers c h e k a
    moved c ph.Gather e o h k a = leaves c h e k a
    moved c ph.Ease e o h k a = sweeps c h e k a
    moved c ph.Rest e o h k a = absurd (false≢true o)
    moved c ph.Trace e o h k a = absurd (false≢true o)
    moved c ph.Sweep e o h k a = absurd (false≢true o)
    moved c ph.Settle e o h k a = absurd (false≢true o)

    hear_done_lem : (c : ℕ) (got : Option ℕ) → c < length w.cards → ordering w.phase ≡ true → Collected c got m l → Change w (hear_done w c got)
    hear_done_lem c None h o K = same
    hear_done_lem c (Some n) h o K = by (eqb n w.order) (everyone w c) refl refl
      where
        by : (b d : Bool) → eqb n w.order ≡ b → everyone w c ≡ d → Change w (cond b (cond d (move_from w.phase (answered_by w c)) (answered_by w c)) w)
        by false d e k = same
        by true false e k = hears c h o (grind (nat_tests, arith, W.replies c n h K.given)) k
        by true true e k = moved c w.phase refl o h (grind (nat_tests, arith, W.replies c n h K.given)) k

    hear_changes : (c : ℕ) (got : Option ℕ) → Moves w (Hear c) got m l → Change w (hear_call w c got).1
    hear_changes c got K = by (leb (length w.cards) c) (ordering w.phase) refl refl K
      where
        by : (b d : Bool) → leb (length w.cards) c ≡ b → ordering w.phase ≡ d → Unless (hear_out w c got b d).0 (l ≡ m) (Collected c got m l) → Change w (hear_out w c got b d).1
        by true d e k K = same
        by false false e k K = same
        by false true e k K = hear_done_lem c got (grind (nat_tests, arith)) k K

    act_changes : (k : Call C) (got : Option ℕ) → Moves w k got m l → Change w (act w k got).1
    act_changes (New c p x) got A = new_changes c p x
    act_changes (Load c p i q) got A = load_changes c p i q
    act_changes (Copy c p q) got A = copy_changes c p q
    act_changes (Drop c p) got A = drop_changes c p
    act_changes (Read c p) got A = same
    act_changes (Look c p i q) got A = look_changes c p i q
    act_changes (Note c) got A = note_changes c
    act_changes (Store c) got A = store_changes c
    act_changes Open got A = open_changes
    act_changes (Knock c) got A = same
    act_changes (Attend c) got A = attend_changes c got A
    act_changes (Hear c) got A = hear_changes c got A
    act_changes Trace got A = trace_changes
    act_changes Sweep got A = sweep_changes
    act_changes Settle got A = settle_changes

-- a step of a run is one of the changes
pub step_changes : {C : Type 0} {w v : World C} {m l : Meaning} {k : Call C} {a : Answer C} → Wired w m → Step w m k a v l → Change w v
step_changes {C} {w} {v} {m} {l} {k} W s = subst (Change w) (sym s.leaves) (act_changes w m l W k s.got s.line)
