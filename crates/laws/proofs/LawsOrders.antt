-- Each card obeys the four orders of a round, each once and in order: along any run a card's last order only counts up by one
-- with each order that it obeys, and the handshake says where it stands when a round opens and when it closes.
use Rattle.std.proofs.Common.{◌≡◌, ℕ, suc, ◌+◌, ◌*◌, ◌<◌, Bool, true, false, cond, ◌&&◌, ◌||◌, eqb, ltb, leb, ◌⊎◌, List, [], ◌∷◌, ◌++◌, length, Some, None, Ok, Option, sym, refl, ap, ◌∙◌, subst, inl, inr, arith}
use Rattle.std.proofs.lemmas.Bool.Decides.{nat_tests}
use Rattle.std.proofs.lemmas.Bool.{false≢true}
use Rattle.refusal.specs.declared.kinds.Refusal.{Refusal}
use Rattle.refusal.specs.declared.kinds.Refusal.TheVariants.{WrongPhase}
use Rattle.machine.specs.World.{Cell}
use Rattle.machine.specs.declared.types.Phase.{Phase}
use Rattle.machine.specs.declared.types.Phase.TheVariants as ph
use Rattle.machine.specs.declared.types.Stage.{Stage}
use Rattle.machine.specs.declared.types.Stage.TheVariants.{Looked, Noted}
use Rattle.machine.specs.declared.types.Update.{Update}
use Rattle.machine.specs.declared.types.Call.{Call}
use Rattle.machine.specs.declared.types.Call.TheVariants.{New, Load, Copy, Drop, Read, Look, Note, Store, Open, Knock, Attend, Hear, Trace, Sweep, Settle}
use Rattle.machine.specs.Acts.{Answer}
use Rattle.machine.specs.World.{World, Name, at, mark, wait, named, card, place, count_up}
use Rattle.machine.specs.Cards.{Outcome, refuse, busy, new_from, new_call, load_from, load_call, copy_call, drop_call, look_from, look_call, note_from, note_stage, note_call, store_from, store_stage, store_call}
use Rattle.machine.specs.Rounds.{phase_number, ordering, open_done, open_call, obey, attend_done, move_from, hear_done, hear_call, trace_from, trace_call, sweep_keep, sweep_free, sweep_cell, sweep_call, settle_done, settle_call}
use Rattle.machine.specs.Acts.{act, answer, accepted}
use Rattle.line.specs.Lines.{Meaning}
use Rattle.laws.specs.Steps.{Step, Run, done, then}
use Rattle.laws.specs.Words.{is_settle, Unclosed}
use Rattle.laws.specs.Laws.{attends, next_order, obeyed, OrdersOnceInOrder}
use Rattle.laws.proofs.Frames.{frame}
use Rattle.laws.proofs.Cases.{attend_out, hear_out, answered_by, everyone}
use Rattle.laws.proofs.Inv.{Inv}
use Rattle.laws.proofs.Handshake.{grows}
use Rattle.laws.proofs.Invariant.{inv_step}
use Rattle.laws.proofs.Runs.{changed, inv_along, inv_run}
use Rattle.laws.proofs.Doomed.{opens_at_rest, opens_so, settles_at}
use Rattle.laws.proofs.WholeRun.{lasts}

-- ---- one call

-- card d obeys the orders ls from w to v: none, or the one after its last
abbrev Ticks : {C : Type 0} → World C → World C → ℕ → List ℕ → Type 0
Ticks w v d ls = ((ls ≡ []) × ((card v d).last ≡ (card w d).last)) ⊎ ((ls ≡ ((card w d).last + 1) ∷ []) × ((card v d).last ≡ (card w d).last + 1))

module _ {C : Type 0} (w : World C) (d : ℕ) where
  -- neither the count of rounds nor card d's last order changes
  abbrev Same : World C → Type 0
  Same v = (v.rounds ≡ w.rounds) × ((card v d).last ≡ (card w d).last)

  gate : (b : Bool) (r : Refusal) (o : Outcome C) → Same o.1 → Same (cond b (refuse r w) o).1
  gate true r o f = (refl, refl)
  gate false r o f = f

  allow : (b : Bool) (r : Refusal) (o : Outcome C) → Same o.1 → Same (cond b o (refuse r w)).1
  allow true r o f = f
  allow false r o f = (refl, refl)

  new_same : (c p : ℕ) (x : C) (fs : List ℕ) → Same (new_from w c p x fs).1
  new_same c p x [] = (refl, refl)
  new_same c p x (k ∷ ks) = (refl, grind frame)

  load_same : (c : ℕ) (v : Name) (i q : ℕ) → Same (load_from w c v i q).1
  load_same c None i q = (refl, refl)
  load_same c (Some y) i q = (refl, grind frame)

  look_same : (c : ℕ) (v : Name) (i q : ℕ) → Same (look_from w c v i q).1
  look_same c None i q = (refl, refl)
  look_same c (Some y) i q = (refl, grind frame)

  note_stage_lem : (c : ℕ) (u : Update) (s : Stage) → Same (note_stage w c u s).1
  note_stage_lem c u (Looked e) = (refl, grind frame)
  note_stage_lem c u Noted = (refl, refl)

  note_same : (c : ℕ) (u : Option Update) → Same (note_from w c u).1
  note_same c None = (refl, refl)
  note_same c (Some u) = note_stage_lem c u u.stage

  store_stage_lem : (c : ℕ) (u : Update) (s : Stage) → Same (store_stage w c u s).1
  store_stage_lem c u (Looked e) = (refl, refl)
  store_stage_lem c u Noted = (refl, grind frame)

  store_same : (c : ℕ) (u : Option Update) → Same (store_from w c u).1
  store_same c None = (refl, refl)
  store_same c (Some u) = store_stage_lem c u u.stage

  move_same : (c : ℕ) (p : Phase) → Same (move_from p (answered_by w c))
  move_same c ph.Rest = (refl, refl)
  move_same c ph.Alert = (refl, refl)
  move_same c ph.Log = (refl, refl)
  move_same c ph.Gather = (refl, refl)
  move_same c ph.Trace = (refl, refl)
  move_same c ph.Ease = (refl, refl)
  move_same c ph.Sweep = (refl, refl)
  move_same c ph.Settle = (refl, refl)

  hear_done_lem : (c : ℕ) (got : Option ℕ) → Same (hear_done w c got)
  hear_done_lem c None = (refl, refl)
  hear_done_lem c (Some n) = by (eqb n w.order) (everyone w c)
    where
      by : (b e : Bool) → Same (cond b (cond e (move_from w.phase (answered_by w c)) (answered_by w c)) w)
      by false e = (refl, refl)
      by true false = (refl, refl)
      by true true = move_same c w.phase

  hear_same : (c : ℕ) (got : Option ℕ) (b e : Bool) → Same (hear_out w c got b e).1
  hear_same c got true e = (refl, refl)
  hear_same c got false true = hear_done_lem c got
  hear_same c got false false = (refl, refl)

  trace_same : (ks : List ℕ) → Same (trace_from w ks).1
  trace_same [] = (refl, refl)
  trace_same (k ∷ ks) = (refl, refl)

  sweep_same : (c : Cell) → Same (sweep_cell w c).1
  sweep_same None = (refl, refl)
  sweep_same (Some r) = by (mark w w.sweep || wait w w.sweep)
    where
      by : (b : Bool) → Same (cond {A = Outcome C} b (Ok 0, sweep_keep w) (Ok r.serial, sweep_free w)).1
      by true = (refl, refl)
      by false = (refl, refl)

  -- a call answered a that leaves v, given what it contributes: it keeps the count of rounds unless it closes one
  abbrev Goes : Bool → World C → List ℕ → Type 0
  Goes closes v ls = (closes ≡ false → v.rounds ≡ w.rounds) × Ticks w v d ls

  quiet : (b : Bool) (v : World C) → Same v → Goes b v []
  quiet b v S = (λ _. S.0, inl (refl, S.1))

  attended : (c : ℕ) (got : Option ℕ) (t : Bool) → c < length w.cards → eqb c d ≡ t → Goes false (attend_done w c got) (cond (t && true) (next_order w d got) [])
  attended c None true h e = quiet false w (refl, refl)
  attended c None false h e = quiet false w (refl, refl)
  attended c (Some n) true h e = (λ _. grind (nat_tests, arith), by (eqb n ((card w c).last + 1)) refl (grind (nat_tests, arith)))
    where
      by : (b : Bool) → eqb n ((card w c).last + 1) ≡ b → c ≡ d → Ticks w (cond b (obey w c n) w) d (cond (eqb n ((card w d).last + 1)) (n ∷ []) [])
      by true f k = inr (grind (nat_tests, arith), grind (nat_tests, frame))
      by false f k = inl (grind (nat_tests, arith), refl)
  attended c (Some n) false h e = (λ _. grind (nat_tests, arith), by (eqb n ((card w c).last + 1)) (grind (nat_tests, arith)))
    where
      by : (b : Bool) → (c ≡ d → ⊥) → Ticks w (cond b (obey w c n) w) d []
      by true k = inl (refl, grind (nat_tests, frame))
      by false k = inl (refl, refl)

  attend_goes : (c : ℕ) (got : Option ℕ) (b e t : Bool) → leb (length w.cards) c ≡ b → eqb c d ≡ t → Goes false (attend_out w c got b e).2 (cond (t && accepted {C = C} (answer (attend_out w c got b e).0)) (next_order w d got) [])
  attend_goes c got true e true h k = quiet false w (refl, refl)
  attend_goes c got true e false h k = quiet false w (refl, refl)
  attend_goes c got false true true h k = quiet false w (refl, refl)
  attend_goes c got false true false h k = quiet false w (refl, refl)
  attend_goes c got false false t h k = attended c got t (grind (nat_tests, arith)) k

  settle_goes : (b : Bool) → Goes (true && accepted {C = C} (answer (cond b (Ok 0, settle_done w) (refuse WrongPhase w)).0)) (cond b (Ok 0, settle_done w) (refuse WrongPhase w)).1 []
  settle_goes true = (λ h. absurd (false≢true (sym h)), inl (refl, refl))
  settle_goes false = (λ _. refl, inl (refl, refl))

  act_goes : (k : Call C) (got : Option ℕ) → Goes (is_settle k && accepted (act w k got).0) (act w k got).1 (cond (attends d k && accepted (act w k got).0) (next_order w d got) [])
  act_goes (New c p x) got =
      quiet false (new_call w c p x).1 (gate (leb (length w.cards) c) _ _ (gate (ltb 7 p) _ _ (gate (busy w c) _ _ (gate (eqb w.next 4294967295) _ _ (new_same c p x w.free)))))
  act_goes (Load c p i q) got =
      quiet false (load_call w c p i q).1 (gate (leb (length w.cards) c) _ _ (gate (ltb 7 p) _ _ (gate (ltb 7 q) _ _ (gate (ltb 3 i) _ _ (gate (busy w c) _ _ (load_same c (named w (place w c p)) i q))))))
  act_goes (Copy c p q) got = quiet false (copy_call w c p q).1 (gate (leb (length w.cards) c) _ _ (gate (ltb 7 p) _ _ (gate (ltb 7 q) _ _ (gate (busy w c) _ _ (refl, grind frame)))))
  act_goes (Drop c p) got = quiet false (drop_call w c p).1 (gate (leb (length w.cards) c) _ _ (gate (ltb 7 p) _ _ (gate (busy w c) _ _ (refl, grind frame))))
  act_goes (Read c p) got = quiet false w (refl, refl)
  act_goes (Look c p i q) got =
      quiet false (look_call w c p i q).1 (gate (leb (length w.cards) c) _ _ (gate (ltb 7 p) _ _ (gate (ltb 7 q) _ _ (gate (ltb 3 i) _ _ (gate (busy w c) _ _ (look_same c (named w (place w c p)) i q))))))
  act_goes (Note c) got = quiet false (note_call w c).1 (gate (leb (length w.cards) c) _ _ (note_same c (card w c).update))
  act_goes (Store c) got = quiet false (store_call w c).1 (gate (leb (length w.cards) c) _ _ (store_same c (card w c).update))
  act_goes Open got = quiet false (open_call w).1 (allow (eqb (phase_number w.phase) 0) _ _ (gate (eqb w.rounds 1073741823) _ _ (refl, refl)))
  act_goes (Knock c) got = quiet false w (refl, refl)
  act_goes (Attend c) got = attend_goes c got (leb (length w.cards) c) (busy w c) (eqb c d) refl refl
  act_goes (Hear c) got = quiet false (hear_call w c got).1 (hear_same c got (leb (length w.cards) c) (ordering w.phase))
  act_goes Trace got = quiet false (trace_call w).1 (allow (eqb (phase_number w.phase) 4) _ _ (trace_same w.waiting))
  act_goes Sweep got = quiet false (sweep_call w).1 (allow (eqb (phase_number w.phase) 6) _ _ (sweep_same (at w w.sweep)))
  act_goes Settle got = settle_goes (eqb (phase_number w.phase) 7)

step_goes : {C : Type 0} {w v : World C} {m l : Meaning} {k : Call C} {a : Answer C} (d : ℕ) (s : Step w m k a v l) → Goes w d (is_settle k && accepted a) v (cond (attends d k && accepted a) (next_order w d s.got) [])
step_goes {C} {w} {v} {m} {l} {k} {a} d s =
    subst (λ z. Goes w d (is_settle k && accepted z) v (cond (attends d k && accepted z) (next_order w d s.got) [])) (sym s.answers)
    (subst (λ u. Goes w d (is_settle k && accepted (act w k s.got).0) u (cond (attends d k && accepted (act w k s.got).0) (next_order w d s.got) [])) (sym s.leaves)
    (act_goes w d k s.got))

-- ---- runs

-- card c has obeyed n orders from w to v: those after its last
pub record Counted {C : Type 0} (w v : World C) (c : ℕ) (ls : List ℕ) : Type 0 where
  pub n : ℕ
  pub last : (card v c).last ≡ (card w c).last + n
  pub orders : ls ≡ count_up ((card w c).last + 1) n

counted_more : {C : Type 0} (w v u : World C) (c : ℕ) (ls ms : List ℕ) → Ticks w v c ls → Counted v u c ms → Counted w u c (ls ++ ms)
unfolding count_up
counted_more w v u c ls ms (inl t) K = record { n = K.n; last = K.last ∙ ap (λ z. z + K.n) t.1; orders = ap (λ z. z ++ ms) t.0 ∙ K.orders ∙ ap (λ z. count_up (z + 1) K.n) t.1 }
counted_more w v u c ls ms (inr t) K =
    let up : (card v c).last + 1 ≡ suc ((card w c).last + 1) = omega (arith, t.1) in
    record {
      n = suc K.n;
      last = omega (arith, K.last, t.1);
      orders = ap (λ z. z ++ ms) t.0 ∙ ap (λ z. ((card w c).last + 1) ∷ z) (K.orders ∙ ap (λ z. count_up z K.n) up);
    }

counted : {C : Type 0} {w v : World C} {m l : Meaning} {ks : List (Call C)} {rs : List (Answer C)} (c : ℕ) (ρ : Run w m ks rs v l) → Counted w v c (obeyed c ρ)
unfolding count_up
counted {C} {w} c done = record { n = 0; last = omega arith; orders = refl }
counted c (then s r) = counted_more _ _ _ c _ _ (step_goes c s).1 (counted c r)

same_rounds : {C : Type 0} {w v : World C} {m l : Meaning} {ks : List (Call C)} {rs : List (Answer C)} → Run w m ks rs v l → Unclosed ks rs → v.rounds ≡ w.rounds
same_rounds done U = refl
same_rounds (then s r) U = same_rounds r U.1 ∙ (step_goes 0 s).0 U.0

same_cards : {C : Type 0} {w v : World C} {m l : Meaning} {ks : List (Call C)} {rs : List (Answer C)} → Inv w m → Run w m ks rs v l → length v.cards ≡ length w.cards
same_cards I done = refl
same_cards I (then s r) = same_cards (inv_step I s) r ∙ (grows (changed I s)).cards

four : (a n : ℕ) → n ≡ 4 → count_up (a + 1) n ≡ (a + 1) ∷ (a + 2) ∷ (a + 3) ∷ (a + 4) ∷ []
unfolding count_up
four a n e =
    let p : suc (a + 1) ≡ a + 2 = omega arith in
    let q : suc (suc (a + 1)) ≡ a + 3 = omega arith in
    let r : suc (suc (suc (a + 1))) ≡ a + 4 = omega arith in
    ap (count_up (a + 1)) e ∙ cc

pub orders : (C : Type 0) → OrdersOnceInOrder C
orders C w₀ w w' u v m₀ m m' l n ks ks' rs rs' a b S r o oa ρ U t ta c h =
    let I : Inv w m = inv_run lasts S r in
    let A : accepted {C = C} (answer (open_call w).0) ≡ true = subst (λ z. accepted z ≡ true) o.answers oa in
    let B : accepted {C = C} (answer (settle_call u).0) ≡ true = subst (λ z. accepted z ≡ true) t.answers ta in
    let E : w' ≡ open_done w = o.leaves ∙ opens_so w A in
    let J : Inv w' m' = inv_step I o in
    let K : Inv u l = inv_along lasts J ρ in
    let k : c < length u.cards = omega (arith, same_cards J ρ, ap (λ z. length z.cards) E) in
    let p : w.phase ≡ ph.Rest = opens_at_rest w A in
    let q : u.phase ≡ ph.Settle = settles_at u B in
    let x : (card w c).last ≡ 4 * w.rounds = grind (arith, I.handshake.order, I.handshake.lasts c h) in
    let y : (card u c).last ≡ 4 * u.rounds + 4 = grind (arith, K.handshake.order, K.handshake.lasts c k) in
    let z : u.rounds ≡ w.rounds = same_rounds ρ U ∙ ap (λ z. z.rounds) E in
    let e : (card w' c).last ≡ 4 * w.rounds = ap (λ z. (card z c).last) E ∙ x in
    let N : Counted w' u c (obeyed c ρ) = counted c ρ in
    let f : N.n ≡ 4 = omega (arith, N.last) in
    N.orders ∙ ap (λ z. count_up (z + 1) N.n) e ∙ four (4 * w.rounds) N.n f
