-- (c), the round calls: they leave alone what card calls can tell, and a sweep frees only what no links lead to.
use Rattle.std.proofs.Common.{◌≡◌, ℕ, ◌+◌, Bool, true, false, cond, ◌||◌, eqb, leb, ◌⊎◌, List, [], ◌∷◌, length, set, Some, None, Option, Result, sym, refl, ap, ◌∙◌, inl, inr, arith}
use Rattle.std.specs.List.{slice_get}
use Rattle.refusal.specs.declared.kinds.Refusal.{Refusal}
use Rattle.machine.specs.World.{Cell}
use Rattle.machine.specs.declared.types.Phase.{Phase}
use Rattle.machine.specs.declared.types.Phase.TheVariants as ph
use Rattle.machine.specs.declared.types.Update.{Update}
use Rattle.machine.specs.World.{World, Name, at, used, serial_at, link, mark, wait, place, card, view_at}
use Rattle.machine.specs.Waiting.{heap, snooped_names}
use Rattle.machine.specs.Cards.{Outcome, busy}
use Rattle.machine.specs.Rounds.{phase_number, ordering, all_of, open_call, obey, attend_done, attend_call, leave_gather, move_from, hear_done, hear_call, trace_mark, trace_done, trace_from, trace_call, sweep_keep, sweep_free, sweep_cell, sweep_call, settle_done, settle_call}
use Rattle.line.specs.Lines.{Meaning}
use Rattle.laws.specs.Leads.{leads_start, leads_link, Led}
use Rattle.laws.specs.Endless.{Endless, serial_name, intent}
use Rattle.laws.proofs.Frames.{frame, sizes}
use Rattle.laws.proofs.Pushes.{push_all_tells}
use Rattle.laws.proofs.Cases.{answered_by}
use Rattle.laws.proofs.Inv.{Inv}
use Rattle.laws.proofs.Kept.{covered_marked, led_marked}
use Rattle.laws.proofs.Alike.{Alike}

-- what card calls can tell is as before
pub record Quiet {C : Type 0} (w v : World C) : Type 0 where
  pub cards : length v.cards ≡ length w.cards
  pub next : v.next ≡ w.next
  pub contents : v.contents ≡ w.contents
  pub places : (c p : ℕ) → place v c p ≡ place w c p
  pub updates : (c : ℕ) → (card v c).update ≡ (card w c).update
  pub uses : (x : ℕ) → used v x ≡ used w x
  pub serials : (x : ℕ) → serial_at v x ≡ serial_at w x
  pub links : (x i : ℕ) → link v x i ≡ link w x i

module _ {C : Type 0} (w v : World C) (Q : Quiet w v) where
  pub quiet_name : (n : Name) → serial_name v n ≡ serial_name w n
  quiet_name None = refl
  quiet_name (Some x) = grind (arith, Q.uses x, Q.serials x)

  pub quiet_intent : (u : Option Update) → intent v u ≡ intent w u
  quiet_intent None = refl
  quiet_intent (Some u) = grind (arith, Q.serials u.cell, quiet_name u.target)

  pub quiet_led : {x : ℕ} → Led v x → Led w x
  quiet_led (leads_start x (c, p, a) u) = leads_start x (c, p, sym (Q.places c p) ∙ a) (sym (Q.uses x) ∙ u)
  quiet_led (leads_link y i x l a u) = leads_link y i x (quiet_led l) (sym (Q.links y i) ∙ a) (sym (Q.uses x) ∙ u)

  pub quiet_alike : (e : Endless C) → Alike w e → Alike v e
  quiet_alike e R = record {
    cards = R.cards ∙ sym Q.cards;
    next = R.next ∙ sym Q.next;
    places = λ c p. R.places c p ∙ sym (quiet_name (place w c p)) ∙ ap (serial_name v) (sym (Q.places c p));
    updates = λ c. R.updates c ∙ sym (quiet_intent (card w c).update) ∙ ap (intent v) (sym (Q.updates c));
    links = λ x i l. ap (λ s. e.links s i) (Q.serials x) ∙ R.links x i (quiet_led l) ∙ sym (quiet_name (link w x i)) ∙ ap (serial_name v) (sym (Q.links x i));
    contents = λ x l. ap e.contents (Q.serials x) ∙ R.contents x (quiet_led l) ∙ ap (λ t. slice_get t x) (sym Q.contents);
  }

module _ {C : Type 0} (w : World C) where
  -- a change that touches neither cells nor cards
  calm : (v : World C) → v.cells ≡ w.cells → v.cards ≡ w.cards → v.next ≡ w.next → v.contents ≡ w.contents → Quiet w v
  calm v h k n t = record { cards = rw k; next = n; contents = t; places = λ c p. rw k; updates = λ c. rw k; uses = λ x. rw h; serials = λ x. rw h; links = λ x i. rw h }

  still : Quiet w w
  still = calm w refl refl refl refl

  hears_quiet : (c : ℕ) → Quiet w (answered_by w c)
  hears_quiet c = calm _ refl refl refl refl

  settle_quiet : Quiet w (settle_done w)
  settle_quiet = record { cards = refl; next = refl; contents = refl; places = λ c p. refl; updates = λ c. refl; uses = λ x. grind frame; serials = λ x. grind frame; links = λ x i. grind frame }

  obey_quiet : (c n : ℕ) → Quiet w (obey w c n)
  obey_quiet c n =
      let T = push_all_tells w.marked (heap w) (card w c).places in
      record { cards = grind sizes; next = refl; contents = refl; places = λ d p. grind frame; updates = λ d. grind frame; uses = λ x. grind (frame, T x); serials = λ x. grind (frame, T x); links = λ x i. grind (frame, T x) }

  leave_quiet : (c : ℕ) → Quiet w (leave_gather (answered_by w c))
  leave_quiet c =
      let T = push_all_tells w.marked (heap w) (snooped_names 0 w.cells) in
      record { cards = refl; next = refl; contents = refl; places = λ d p. refl; updates = λ d. refl; uses = λ x. grind (frame, T x); serials = λ x. grind (frame, T x); links = λ x i. grind (frame, T x) }

  trace_quiet : (k : ℕ) (ks : List ℕ) → Quiet w (trace_done w k ks)
  trace_quiet k ks =
      let T = push_all_tells w.marked (heap (trace_mark w k ks)) (view_at w k) in
      record { cards = refl; next = refl; contents = refl; places = λ d p. refl; updates = λ d. refl; uses = λ x. grind (frame, T x); serials = λ x. grind (frame, T x); links = λ x i. grind (frame, T x) }

  -- the round calls but sweep
  pick : (b : Bool) (o q : Outcome C) → Quiet w o.1 → Quiet w q.1 → Quiet w (cond b o q).1
  pick true o q A B = A
  pick false o q A B = B

  either_way : (b : Bool) (u v : World C) → Quiet w u → Quiet w v → Quiet w (cond b u v)
  either_way true u v A B = A
  either_way false u v A B = B

  pub open_still : Quiet w (open_call w).1
  open_still = pick (eqb (phase_number w.phase) 0) _ _ (pick (eqb w.rounds 1073741823) _ _ still (calm _ refl refl refl refl)) still

  attend_done_lem : (c : ℕ) (got : Option ℕ) → Quiet w (attend_done w c got)
  attend_done_lem c None = still
  attend_done_lem c (Some n) = either_way (eqb n ((card w c).last + 1)) _ _ (obey_quiet c n) still

  pub attend_still : (c : ℕ) (got : Option ℕ) → Quiet w (attend_call w c got).2
  attend_still c got = three (leb (length w.cards) c) _ _ still (three (busy w c) _ _ still (attend_done_lem c got))
    where
      three : (b : Bool) (o q : (Result ℕ Refusal) × (Option ℕ) × (World C)) → Quiet w o.2 → Quiet w q.2 → Quiet w (cond b o q).2
      three true o q A B = A
      three false o q A B = B

  move_quiet : (c : ℕ) (p : Phase) → Quiet w (move_from p (answered_by w c))
  move_quiet c ph.Rest = hears_quiet c
  move_quiet c ph.Alert = calm _ refl refl refl refl
  move_quiet c ph.Log = calm _ refl refl refl refl
  move_quiet c ph.Gather = leave_quiet c
  move_quiet c ph.Trace = hears_quiet c
  move_quiet c ph.Ease = calm _ refl refl refl refl
  move_quiet c ph.Sweep = hears_quiet c
  move_quiet c ph.Settle = hears_quiet c

  hear_done_lem : (c : ℕ) (got : Option ℕ) → Quiet w (hear_done w c got)
  hear_done_lem c None = still
  hear_done_lem c (Some n) = either_way (eqb n w.order) _ _ (either_way (all_of (length w.cards) (set w.answered c true)) _ _ (move_quiet c w.phase) (hears_quiet c)) still

  pub hear_still : (c : ℕ) (got : Option ℕ) → Quiet w (hear_call w c got).1
  hear_still c got = pick (leb (length w.cards) c) _ _ still (pick (ordering w.phase) _ _ (hear_done_lem c got) still)

  trace_from_lem : (ks : List ℕ) → Quiet w (trace_from w ks).1
  trace_from_lem [] = calm _ refl refl refl refl
  trace_from_lem (k ∷ ks) = trace_quiet k ks

  pub trace_still : Quiet w (trace_call w).1
  trace_still = pick (eqb (phase_number w.phase) 4) _ _ (trace_from_lem w.waiting) still

  pub settle_still : Quiet w (settle_call w).1
  settle_still = pick (eqb (phase_number w.phase) 7) _ _ settle_quiet still

pub led_used : {C : Type 0} (w : World C) {x : ℕ} → Led w x → used w x ≡ true
led_used w (leads_start x s v) = v
led_used w (leads_link z j x l a v) = v

at_sweep : (p : Phase) → ((p ≡ ph.Sweep) ⊎ (p ≡ ph.Sweep → ⊥))
at_sweep p = grind arith

module _ {C : Type 0} (w : World C) (m : Meaning) (I : Inv w m) where
  -- what a record names to which links lead is in use, in Sweep too
  pub led_names : (y i x : ℕ) → Led w y → link w y i ≡ Some x → used w x ≡ true
  led_names y i x l e = elim (at_sweep w.phase) [
    | inl p ↦ let k : mark w x ≡ true = covered_marked w m I p x (I.coverage.marked (grind (arith, p)) y i x (led_marked w m I p l) e) in grind arith
    | inr n ↦ I.names.links n y i x e
  ]

  pub placed_led : (c q x : ℕ) → place w c q ≡ Some x → Led w x
  placed_led c q x a = leads_start x (c, q, a) (I.names.places c q x a)

  -- a sweep that frees
  module _ (p : w.phase ≡ ph.Sweep) (k : mark w w.sweep ≡ false) where
    stays : (x : ℕ) → Led w x → x ≡ w.sweep → ⊥
    stays x l e = grind (arith, led_marked w m I p l)

    free_led : {x : ℕ} → Led (sweep_free w) x → Led w x
    free_led (leads_start x s u) = leads_start x s (grind frame)
    free_led (leads_link y i x l a u) = leads_link y i x (free_led l) (grind frame) (grind frame)

    free_serial : (x : ℕ) → Led w x → serial_at (sweep_free w) x ≡ serial_at w x
    free_serial x l = grind (frame, stays x l)

    free_name : (n : Name) → ((x : ℕ) → n ≡ Some x → Led w x) → serial_name (sweep_free w) n ≡ serial_name w n
    free_name None f = refl
    free_name (Some x) f = grind (frame, stays x (f x refl))

    free_intent : (c : ℕ) (u : Option Update) → (card w c).update ≡ u → intent (sweep_free w) u ≡ intent w u
    free_intent c None h = refl
    free_intent c (Some u) h =
        let P = I.names.update c u h in
        let A = free_serial u.cell (placed_led c P.0 u.cell P.1) in
        let B = free_name u.target (λ x a. let T = I.names.target c u x h a in placed_led c T.0 x T.1) in
        grind (arith, A, B)

    free_links : (x i : ℕ) → Led w x → link (sweep_free w) x i ≡ link w x i
    free_links x i l = grind (frame, stays x l)

    free_alike : (e : Endless C) → Alike w e → Alike (sweep_free w) e
    free_alike e R = record {
      cards = R.cards;
      next = R.next;
      places = λ c q. R.places c q ∙ sym (free_name (place w c q) (placed_led c q));
      updates = λ c. R.updates c ∙ sym (free_intent c (card w c).update refl);
      links = λ x i l.
          let j = free_led l in
          ap (λ s. e.links s i) (free_serial x j) ∙ R.links x i j
          ∙ sym (free_name (link w x i) (λ z a. leads_link x i z j a (led_names x i z j a))) ∙ ap (serial_name (sweep_free w)) (sym (free_links x i j));
      contents = λ x l. ap e.contents (free_serial x (free_led l)) ∙ R.contents x (free_led l);
    }

  module _ (e : Endless C) (R : Alike w e) where
    way : (b : Bool) (o q : Outcome C) → (b ≡ true → Alike o.1 e) → (b ≡ false → Alike q.1 e) → Alike (cond b o q).1 e
    way true o q A B = A refl
    way false o q A B = B refl

    sweep_from : (c : Cell) → w.phase ≡ ph.Sweep → Alike (sweep_cell w c).1 e
    sweep_from None h = quiet_alike w (sweep_keep w) (calm w (sweep_keep w) refl refl refl refl) e R
    sweep_from (Some r) h = way (mark w w.sweep || wait w w.sweep) _ _ (λ a. quiet_alike w (sweep_keep w) (calm w (sweep_keep w) refl refl refl refl) e R) (λ a. free_alike h (grind arith) e R)

    pub sweep_alike : Alike (sweep_call w).1 e
    sweep_alike = way (eqb (phase_number w.phase) 6) _ _ (λ a. sweep_from (at w w.sweep) (grind arith)) (λ a. R)
