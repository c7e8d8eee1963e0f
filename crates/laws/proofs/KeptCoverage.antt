-- Coverage is kept by every change and holds where a run starts. From Gather on a covered record stays covered: a lemma for each kind of change.
use Rattle.std.proofs.Common.{◌≡◌, ℕ, ◌+◌, ◌%◌, ◌<◌, ◌≤◌, true, false, ◌||◌, ◌⊎◌, List, ◌∷◌, length, get_or, is_some, Some, None, Option, sym, refl, ◌∙◌, inl, inr, arith}
use Rattle.std.proofs.lemmas.Bool.{cases_eq, cases_Bool, cases_lt, false≢true}
use Rattle.std.proofs.lemmas.List.{get_or_past}
use Rattle.std.proofs.lemmas.Bool.Decides.{nat_tests}
use Rattle.machine.specs.declared.types.Phase.TheVariants as ph
use Rattle.machine.specs.declared.types.Stage.TheVariants.{Looked, Noted}
use Rattle.machine.specs.declared.types.Update.{Update}
use Rattle.machine.specs.World.{World, Name, at, used, mark, wait, snooped, link, view, view_at, logged, place, card, named, blank_card}
use Rattle.machine.specs.Waiting.{heap, push_all, snooped_names}
use Rattle.machine.specs.Cards.{new_done, load_done, copy_done, drop_done, look_done, note_done, store_done}
use Rattle.machine.specs.Rounds.{enter, trace_done, trace_mark, leave_gather, start_sweep, obey, sweep_keep, sweep_free}
use Rattle.line.specs.Lines.{Meaning}
use Rattle.laws.specs.Steps.{Start}
use Rattle.laws.proofs.KeptNames.{none_empty}
use Rattle.laws.proofs.Frames.{frame, snooped_names-at, view_at_lem}
use Rattle.laws.proofs.Pushes.{Told, push_all_tells, push_all_catches}
use Rattle.laws.proofs.Cases.{Change, same, news, loads, copies, drops, looks, notes, stores, opens, obeys, hears, logs, gathers, leaves, sweeps, traces, eases, keeps, frees, settles, answered_by}
use Rattle.laws.proofs.Inv.{Grey, grey_wait, grey_snoop, grey_next, Covered, Safe, Inv, Coverage, gathered, late, marking, logging}

-- ---- grey and covered

unmarked : {C : Type 0} (w : World C) {x : ℕ} → Grey w x → mark w x ≡ false
unmarked w (grey_wait x a m) = m
unmarked w (grey_snoop x a m) = m
unmarked w (grey_next y i x g e u m) = m

present : {C : Type 0} (w : World C) {x : ℕ} → Grey w x → used w x ≡ true
present w (grey_wait x a m) = grind arith
present w (grey_snoop x a m) = grind arith
present w (grey_next y i x g e u m) = u

onward : {C : Type 0} (w : World C) (y i x : ℕ) → Covered w y → mark w y ≡ false → view w y i ≡ Some x → used w x ≡ true → Covered w x
onward w y i x (inl c) m e u = grind arith
onward w y i x (inr g) m e u = elim (cases_Bool (mark w x)) [ inl k ↦ inl k | inr k ↦ inr (grey_next y i x g e u k) ]

snoop_covered : {C : Type 0} (w : World C) (x : ℕ) → snooped w x ≡ true → Covered w x
snoop_covered w x s = elim (cases_Bool (mark w x)) [ inl k ↦ inl k | inr k ↦ inr (grey_snoop x s k) ]

wait_covered : {C : Type 0} (w : World C) (x : ℕ) → wait w x ≡ true → Covered w x
wait_covered w x s = elim (cases_Bool (mark w x)) [ inl k ↦ inl k | inr k ↦ inr (grey_wait x s k) ]

-- ---- covered stays covered

-- cells and colour as before
module _ {C : Type 0} (w v : World C) (E : v.cells ≡ w.cells) (M : v.marked ≡ w.marked) where
  same_grey : {x : ℕ} → Grey w x → Grey v x
  same_grey (grey_wait x a m) = grey_wait x (rw E a) (rw (E, M) m)
  same_grey (grey_snoop x a m) = grey_snoop x (rw E a) (rw (E, M) m)
  same_grey (grey_next y i x g e u m) = grey_next y i x (same_grey g) (rw E e) (rw E u) (rw (E, M) m)

  pub same_covered : (x : ℕ) → Covered w x → Covered v x
  same_covered x (inl m) = inl (rw (E, M) m)
  same_covered x (inr g) = inr (same_grey g)

-- new: a cell that was free
module _ {C : Type 0} (w : World C) (c p : ℕ) (z : C) (k : ℕ) (ks : List ℕ) (F : used w k ≡ false) where
  new_grey : {x : ℕ} → Grey w x → Grey (new_done w c p z k ks) x
  new_grey (grey_wait x a m) = grey_wait x (grind frame) (grind frame)
  new_grey (grey_snoop x a m) = grey_snoop x (grind frame) (grind frame)
  new_grey (grey_next y i x g e u m) = grey_next y i x (new_grey g) (grind (frame, present w g)) (grind frame) (grind frame)

  pub new_covered : (x : ℕ) → Covered w x → Covered (new_done w c p z k ks) x
  new_covered x (inl m) = inl (grind frame)
  new_covered x (inr g) = inr (new_grey g)

abbrev pub stored : {C : Type 0} → World C → ℕ → Update → World C
stored w c u = store_done w c u (named w u.target)

-- store, where the record is marked or logged
store_grey : {C : Type 0} (w : World C) (c : ℕ) (u : Update) (t : Name) → Safe w u.cell → {x : ℕ} → Grey w x → Grey (store_done w c u t) x
store_grey w c u t S (grey_wait x a m) = grey_wait x (grind frame) (grind frame)
store_grey w c u t S (grey_snoop x a m) = grey_snoop x (grind frame) (grind frame)
store_grey w c u t S (grey_next y i x g e k m) = grey_next y i x (store_grey w c u t S g) (grind (frame, unmarked w g, S)) (grind frame) (grind frame)

abbrev draft_link : Option (List Name) → ℕ → Name
draft_link None i = None
draft_link (Some ls) i = get_or ls i None

-- where note would write a log: the draft has each link, or the link names a snooped record
abbrev Drafted : {C : Type 0} → World C → Update → Option (List Name) → Type 0
Drafted w u d = (i x : ℕ) → is_some d ≡ true → mark w u.cell ≡ false → logged w u.cell ≡ false → link w u.cell i ≡ Some x → (draft_link d i ≡ Some x) ⊎ (snooped w x ≡ true)

module _ {C : Type 0} (w : World C) (c : ℕ) (u : Update) (d : Option (List Name)) (D : Drafted w u d) where
  note_grey : {x : ℕ} → Grey w x → Grey (note_done w c u d) x
  note_grey (grey_wait x a m) = grey_wait x (grind frame) (grind frame)
  note_grey (grey_snoop x a m) = grey_snoop x (grind frame) (grind frame)
  note_grey (grey_next y i x g e k m) =
      let n : mark w y ≡ false = unmarked w g in
      let q : (view (note_done w c u d) y i ≡ Some x) ⊎ (snooped (note_done w c u d) x ≡ true) = grind (frame, n, D i x) in
      elim q [
        | inl v ↦ grey_next y i x (note_grey g) v (grind frame) (grind frame)
        | inr s ↦ grey_snoop x s (grind frame)
      ]

  pub note_covered : (x : ℕ) → Covered w x → Covered (note_done w c u d) x
  note_covered x (inl m) = inl (grind frame)
  note_covered x (inr g) = inr (note_grey g)

-- an order: roots only grow
module _ {C : Type 0} (w : World C) (c n : ℕ) where
  pub obey_tells : (x : ℕ) → Told w.marked (heap w) (push_all w.marked (heap w) (card w c).places) (card w c).places x
  obey_tells x = push_all_tells w.marked (heap w) (card w c).places x

  obey_grey : {x : ℕ} → Grey w x → Grey (obey w c n) x
  obey_grey (grey_wait x a m) = grey_wait x (grind (frame, obey_tells x)) (grind (frame, obey_tells x))
  obey_grey (grey_snoop x a m) = grey_snoop x (grind (frame, obey_tells x)) (grind (frame, obey_tells x))
  obey_grey (grey_next y i x g e u m) = grey_next y i x (obey_grey g) (grind (frame, obey_tells y)) (grind (frame, obey_tells x)) (grind (frame, obey_tells x))

  pub obey_covered : (x : ℕ) → Covered w x → Covered (obey w c n) x
  obey_covered x (inl m) = inl (grind (frame, obey_tells x))
  obey_covered x (inr g) = inr (obey_grey g)

-- leaving Gather: what is snooped waits
module _ {C : Type 0} (w : World C) where
  pub leave_tells : (x : ℕ) → Told w.marked (heap w) (push_all w.marked (heap w) (snooped_names 0 w.cells)) (snooped_names 0 w.cells) x
  leave_tells x = push_all_tells w.marked (heap w) (snooped_names 0 w.cells) x

  leave_grey : {x : ℕ} → Grey w x → Grey (leave_gather w) x
  leave_grey (grey_wait x a m) = grey_wait x (grind (frame, leave_tells x)) (grind (frame, leave_tells x))
  leave_grey (grey_snoop x a m) =
      let e : get_or (snooped_names 0 w.cells) x None ≡ Some x = grind (arith, snooped_names-at 0 w.cells x) in
      let k = push_all_catches w.marked (heap w) (snooped_names 0 w.cells) x x e in
      grey_wait x (grind (frame, k, leave_tells x)) (grind (frame, leave_tells x))
  leave_grey (grey_next y i x g e u m) = grey_next y i x (leave_grey g) (grind (frame, leave_tells y)) (grind (frame, leave_tells x)) (grind (frame, leave_tells x))

  pub leave_covered : (x : ℕ) → Covered w x → Covered (leave_gather w) x
  leave_covered x (inl m) = inl (grind (frame, leave_tells x))
  leave_covered x (inr g) = inr (leave_grey g)

-- trace: the record becomes marked, and what its view names is marked or waiting from now on
module _ {C : Type 0} (w : World C) (k : ℕ) (ks : List ℕ) (K : used w k ≡ true) where
  pub trace_tells : (x : ℕ) → Told w.marked (heap (trace_mark w k ks)) (push_all w.marked (heap (trace_mark w k ks)) (view_at w k)) (view_at w k) x
  trace_tells x = push_all_tells w.marked (heap (trace_mark w k ks)) (view_at w k) x

  traced : mark (trace_done w k ks) k ≡ true
  traced = grind (frame, trace_tells k)

  pub caught : (i x : ℕ) → view w k i ≡ Some x → used w x ≡ true → Covered (trace_done w k ks) x
  caught i x e u =
      let c = push_all_catches w.marked (heap (trace_mark w k ks)) (view_at w k) i x (view_at_lem i (at w k) ∙ e) in
      let v : used (trace_done w k ks) x ≡ true = grind (frame, trace_tells x) in
      let s : (mark (trace_done w k ks) x ≡ true) ⊎ ((wait (trace_done w k ks) x ≡ true) × (mark (trace_done w k ks) x ≡ false)) = grind (arith, c, v) in
      elim s [ inl m ↦ inl m | inr p ↦ inr (grey_wait x p.0 p.1) ]

  trace_grey : {x : ℕ} → Grey w x → Covered (trace_done w k ks) x
  trace_grey (grey_wait x a m) = elim (cases_eq x k) [ inl e ↦ inl (rw e traced) | inr n ↦ inr (grey_wait x (grind (frame, trace_tells x)) (grind (frame, trace_tells x))) ]
  trace_grey (grey_snoop x a m) = elim (cases_eq x k) [ inl e ↦ inl (rw e traced) | inr n ↦ inr (grey_snoop x (grind (frame, trace_tells x)) (grind (frame, trace_tells x))) ]
  trace_grey (grey_next y i x g e u m) =
      elim (cases_eq y k) [
        | inl b ↦ caught i x (rw b at e) u
        | inr n ↦ onward (trace_done w k ks) y i x (trace_grey g) (grind (frame, trace_tells y, unmarked w g)) (grind (frame, trace_tells y)) (grind (frame, trace_tells x))
      ]

  pub trace_covered : (x : ℕ) → Covered w x → Covered (trace_done w k ks) x
  trace_covered x (inl m) = inl (grind (frame, trace_tells x))
  trace_covered x (inr g) = trace_grey g

-- ---- the group

module _ {C : Type 0} (w : World C) (m : Meaning) (I : Inv w m) where
  -- a place that holds something is a card's
  inside : (c q x : ℕ) → place w c q ≡ Some x → c < length w.cards
  inside c q x e = grind (nat_tests, arith, get_or_past w.cards c blank_card, cases_lt c (length w.cards))

  -- where nothing waits, what is covered is marked
  no_grey : late w.phase ≡ true → marking w.phase ≡ false → {x : ℕ} → Grey w x → ⊥
  no_grey l p (grey_wait x a k) = grind (arith, I.phases.waits p x)
  no_grey l p (grey_snoop x a k) = let q : snooped w x ≡ false = I.phases.snoops (grind arith) x in grind arith
  no_grey l p (grey_next y i x g e u k) = no_grey l p g

  pub covered_marked : late w.phase ≡ true → marking w.phase ≡ false → (x : ℕ) → Covered w x → mark w x ≡ true
  covered_marked l p x (inl k) = k
  covered_marked l p x (inr g) = absurd (no_grey l p g)

  -- what a covered record's link names is covered
  link_covered : late w.phase ≡ true → (y i x : ℕ) → Covered w y → link w y i ≡ Some x → used w x ≡ true → Covered w x
  link_covered l y i x (inl k) e u = I.coverage.marked l y i x k e
  link_covered l y i x (inr g) e u =
      elim (cases_Bool (marking w.phase)) [
        | inl p ↦ elim (I.coverage.unmarked p y i x (unmarked w g) e) [ inl v ↦ onward w y i x (inr g) (unmarked w g) v u | inr k ↦ k ]
        | inr p ↦ absurd (no_grey l p g)
      ]

  -- cells and colour as before, phase no earlier
  steady : (v : World C) → v.cells ≡ w.cells → v.marked ≡ w.marked → (v.phase ≡ ph.Log → w.phase ≡ ph.Log) → (late v.phase ≡ true → late w.phase ≡ true) → (marking v.phase ≡ true → marking w.phase ≡ true) →
      (late v.phase ≡ true → (c q x : ℕ) → gathered v c ≡ true → place v c q ≡ Some x → Covered w x) → Coverage v
  steady v E M P Q R S = record {
    logged = λ p y i x e. elim (I.coverage.logged (P p) y i x (rw E at e)) [ inl a ↦ inl (rw E a) | inr a ↦ inr (rw E a) ];
    places = λ l c q x g e. same_covered w v E M x (S l c q x g e);
    marked = λ l y i x k e. same_covered w v E M x (I.coverage.marked (Q l) y i x (rw (E, M) at k) (rw E at e));
    unmarked = λ l y i x k e. elim (I.coverage.unmarked (R l) y i x (rw (E, M) at k) (rw E at e)) [ inl a ↦ inl (rw E a) | inr a ↦ inr (same_covered w v E M x a) ];
  }

  -- the same, and places and turns as before
  steady_all : (v : World C) → v.cells ≡ w.cells → v.marked ≡ w.marked → (v.phase ≡ ph.Log → w.phase ≡ ph.Log) → (late v.phase ≡ true → late w.phase ≡ true) → (marking v.phase ≡ true → marking w.phase ≡ true) →
      (late v.phase ≡ true → (c : ℕ) → gathered v c ≡ true → gathered w c ≡ true) → ((c q : ℕ) → place v c q ≡ place w c q) → Coverage v
  steady_all v E M P Q R G S = steady v E M P Q R (λ l c q x g e. I.coverage.places (Q l) c q x (G l c g) (sym (S c q) ∙ e))

  new_coverage : (c p : ℕ) (z : C) (k : ℕ) (ks : List ℕ) → c < length w.cards → w.free ≡ k ∷ ks → Coverage (new_done w c p z k ks)
  new_coverage c p z k ks a f =
      let F : (k < length w.cells) × (used w k ≡ false) = I.lists.free_is k (rw f (inl refl)) in
      let v : World C = new_done w c p z k ks in
      let up : (x : ℕ) → Covered w x → Covered v x = new_covered w c p z k ks F.1 in
      let old : (y i x : ℕ) → link v y i ≡ Some x → (link w y i ≡ Some x) × (view w y i ≡ view v y i) × (mark v y ≡ mark w y) = λ y i x e. (grind (frame, F, none_empty i), grind (frame, F, none_empty i), grind (frame, F, none_empty i)) in
      let held : (d q x : ℕ) → gathered v d ≡ true → place v d q ≡ Some x → ((gathered w d ≡ true) × (place w d q ≡ Some x)) ⊎ (mark v x ≡ true) = λ d q x g e. grind (frame, F, I.switches.birth c a) in
      record {
        logged = λ l y i x e. let o = old y i x e in elim (I.coverage.logged l y i x o.0) [ inl b ↦ inl (sym o.1 ∙ b) | inr b ↦ inr (grind (frame, F)) ];
        places = λ l d q x g e. elim (held d q x g e) [ inl b ↦ up x (I.coverage.places l d q x b.0 b.1) | inr b ↦ inl b ];
        marked = λ l y i x b e. let o = old y i x e in up x (I.coverage.marked l y i x (sym o.2 ∙ b) o.0);
        unmarked = λ l y i x b e. let o = old y i x e in elim (I.coverage.unmarked l y i x (sym o.2 ∙ b) o.0) [ inl b ↦ inl (sym o.1 ∙ b) | inr b ↦ inr (up x b) ];
      }

  load_coverage : (c p y i q : ℕ) → place w c p ≡ Some y → Coverage (load_done w c y i q)
  load_coverage c p y i q f =
      let v : World C = load_done w c y i q in
      let held : (d r x : ℕ) → gathered v d ≡ true → place v d r ≡ Some x → (gathered w d ≡ true) × ((place w d r ≡ Some x) ⊎ ((place w d p ≡ Some y) × (link w y i ≡ Some x) × (used w x ≡ true))) = λ d r x g e. grind frame in
      steady v refl refl (λ p. p) (λ p. p) (λ p. p) (λ l d r x g e. let h = held d r x g e in
      elim h.1 [ inl b ↦ I.coverage.places l d r x h.0 b | inr b ↦ link_covered l y i x (I.coverage.places l d p y h.0 b.0) b.1 b.2 ])

  copy_coverage : (c p q : ℕ) → Coverage (copy_done w c p q)
  copy_coverage c p q =
      let v : World C = copy_done w c p q in
      let held : (d r x : ℕ) → gathered v d ≡ true → place v d r ≡ Some x → (gathered w d ≡ true) × ((place w d r ≡ Some x) ⊎ (place w d p ≡ Some x)) = λ d r x g e. grind frame in
      steady v refl refl (λ p. p) (λ p. p) (λ p. p) (λ l d r x g e. let h = held d r x g e in
      elim h.1 [ inl b ↦ I.coverage.places l d r x h.0 b | inr b ↦ I.coverage.places l d p x h.0 b ])

  drop_coverage : (c p : ℕ) → Coverage (drop_done w c p)
  drop_coverage c p =
      let v : World C = drop_done w c p in
      let held : (d r x : ℕ) → gathered v d ≡ true → place v d r ≡ Some x → (gathered w d ≡ true) × (place w d r ≡ Some x) = λ d r x g e. grind frame in
      steady v refl refl (λ p. p) (λ p. p) (λ p. p) (λ l d r x g e. let h = held d r x g e in I.coverage.places l d r x h.0 h.1)

  look_coverage : (c y i q : ℕ) → Coverage (look_done w c y i q)
  look_coverage c y i q = steady_all (look_done w c y i q) refl refl (λ p. p) (λ p. p) (λ p. p) (λ l d g. grind frame) (λ d r. grind frame)

  module _ (c : ℕ) (u : Update) (b : (card w c).update ≡ Some u) where
    -- what a link of the record names the draft names too, or it is snooped
    pub drafted : (d : Option (List Name)) → u.stage ≡ Looked d → Drafted w u d
    drafted None s i x t k l e = absurd (false≢true t)
    drafted (Some ls) s i x t k l e = elim (I.updates.current c u ls i x b s k l e) [ inl a ↦ inl a | inr a ↦ inr a.1 ]

    module _ (d : Option (List Name)) (D : Drafted w u d) where
      note_same : (y i : ℕ) → (link (note_done w c u d) y i ≡ link w y i) × (mark (note_done w c u d) y ≡ mark w y) × (snooped (note_done w c u d) y ≡ snooped w y)
      note_same y i = (grind frame, grind frame, grind frame)

      note_view : (y i x : ℕ) → mark w y ≡ false → link w y i ≡ Some x → view w y i ≡ Some x → (view (note_done w c u d) y i ≡ Some x) ⊎ (snooped (note_done w c u d) x ≡ true)
      note_view y i x k e f = grind (frame, D i x)

      note_place : (e q x : ℕ) → gathered (note_done w c u d) e ≡ true → place (note_done w c u d) e q ≡ Some x → (gathered w e ≡ true) × (place w e q ≡ Some x)
      note_place e q x g f = grind frame

      note_coverage : Coverage (note_done w c u d)
      note_coverage =
          let up : (x : ℕ) → Covered w x → Covered (note_done w c u d) x = note_covered w c u d D in
          record {
            logged = λ l y i x e. let o : link w y i ≡ Some x = sym (note_same y i).0 ∙ e in elim (I.coverage.logged l y i x o) [ inl f ↦ note_view y i x (I.phases.log l y) o f | inr f ↦ inr ((note_same x i).2 ∙ f) ];
            places = λ l e q x g f. let h = note_place e q x g f in up x (I.coverage.places l e q x h.0 h.1);
            marked = λ l y i x k e. up x (I.coverage.marked l y i x (sym (note_same y i).1 ∙ k) (sym (note_same y i).0 ∙ e));
            unmarked = λ l y i x k e.
                let o : link w y i ≡ Some x = sym (note_same y i).0 ∙ e in
                let n : mark w y ≡ false = sym (note_same y i).1 ∙ k in
                elim (I.coverage.unmarked l y i x n o) [
                  | inl f ↦ elim (note_view y i x n o f) [ inl g ↦ inl g | inr g ↦ inr (snoop_covered (note_done w c u d) x g) ]
                  | inr f ↦ inr (up x f)
                ];
          }

  module _ (c : ℕ) (u : Update) (a : c < length w.cards) (b : (card w c).update ≡ Some u) (s : u.stage ≡ Noted) where
    -- in Gather and Trace every card logs
    pub safe : marking w.phase ≡ true → Safe w u.cell
    safe p = let k : (card w c).logging ≡ true = grind (nat_tests, arith, I.switches.logging c a, I.handshake.order, I.handshake.lasts c a) in I.updates.noted c u b k s

    -- in Log and later a card that has not gathered snoops
    snoops : (late w.phase || logging w.phase) ≡ true → gathered w c ≡ false → (card w c).snoop ≡ true
    snoops l g = grind (nat_tests, arith, I.switches.snoop c a, I.handshake.order, I.handshake.lasts c a)

    pub store_covered : late w.phase ≡ true → (x : ℕ) → Covered w x → Covered (stored w c u) x
    store_covered l x (inl k) = inl (grind frame)
    store_covered l x (inr g) = elim (cases_Bool (marking w.phase)) [ inl p ↦ inr (store_grey w c u (named w u.target) (safe p) g) | inr p ↦ absurd (no_grey l p g) ]

    snooped_now : (x : ℕ) → (card w c).snoop ≡ true → u.target ≡ Some x → used w x ≡ true → snooped (stored w c u) x ≡ true
    snooped_now x k t n = grind frame

    target_covered : late w.phase ≡ true → (x : ℕ) → u.target ≡ Some x → used w x ≡ true → Covered (stored w c u) x
    target_covered l x t n = elim (cases_Bool (gathered w c)) [
      | inl g ↦ let h = I.names.target c u x b t in store_covered l x (I.coverage.places l c h.0 x g h.1)
      | inr g ↦ snoop_covered (stored w c u) x (snooped_now x (snoops (grind arith) g) t n)
    ]

    store_link : (y i x : ℕ) → link (stored w c u) y i ≡ Some x → (link w y i ≡ Some x) ⊎ ((u.target ≡ Some x) × (used w x ≡ true))
    store_link y i x e = grind frame

    store_mark : (y : ℕ) → mark (stored w c u) y ≡ mark w y
    store_mark y = grind frame

    store_view : (y i x : ℕ) → Safe w u.cell → mark w y ≡ false → view w y i ≡ Some x → view (stored w c u) y i ≡ Some x
    store_view y i x S n f = grind frame

    store_place : (e q x : ℕ) → gathered (stored w c u) e ≡ true → place (stored w c u) e q ≡ Some x → (gathered w e ≡ true) × (place w e q ≡ Some x)
    store_place e q x g f = grind frame

    store_logged : (card w c).snoop ≡ true → (y i x : ℕ) → (link w y i ≡ Some x → (view w y i ≡ Some x) ⊎ (snooped w x ≡ true)) → link (stored w c u) y i ≡ Some x → (view (stored w c u) y i ≡ Some x) ⊎ (snooped (stored w c u) x ≡ true)
    store_logged k y i x L e = grind frame

    not_gathered : w.phase ≡ ph.Log → gathered w c ≡ false
    not_gathered p = grind (nat_tests, arith, I.handshake.order, I.handshake.lasts c a)

    store_coverage : Coverage (stored w c u)
    store_coverage = record {
      logged = λ l y i x e. store_logged (snoops (grind arith) (not_gathered l)) y i x (I.coverage.logged l y i x) e;
      places = λ l e q x g f. let h = store_place e q x g f in store_covered l x (I.coverage.places l e q x h.0 h.1);
      marked = λ l y i x k e. elim (store_link y i x e) [ inl o ↦ store_covered l x (I.coverage.marked l y i x (sym (store_mark y) ∙ k) o) | inr t ↦ target_covered l x t.0 t.1 ];
      unmarked = λ p y i x k e.
          let l : late w.phase ≡ true = grind arith in
          let n : mark w y ≡ false = sym (store_mark y) ∙ k in
          elim (store_link y i x e) [
            | inl o ↦ elim (I.coverage.unmarked p y i x n o) [ inl f ↦ inl (store_view y i x (safe p) n f) | inr f ↦ inr (store_covered l x f) ]
            | inr t ↦ inr (target_covered l x t.0 t.1)
          ];
    }

  module _ (c n : ℕ) (a : c < length w.cards) (d : n ≡ (card w c).last + 1) (e : n ≤ w.order) where
    -- a late card that obeys has gathered before, or gathers now
    obey_turn : late w.phase ≡ true → (gathered w c ≡ true) ⊎ (n % 4 ≡ 3)
    obey_turn l = grind (nat_tests, arith, I.handshake.order, I.handshake.lasts c a)

    obey_place : (x q y : ℕ) → gathered (obey w c n) x ≡ true → place (obey w c n) x q ≡ Some y → (place w x q ≡ Some y) × ((x ≡ c) ⊎ (gathered w x ≡ true))
    obey_place x q y g f = grind frame

    -- gather: what a place names waits or is marked
    obey_caught : n % 4 ≡ 3 → (q x : ℕ) → place w c q ≡ Some x → Covered (obey w c n) x
    obey_caught r q x f =
        let k = push_all_catches w.marked (heap w) (card w c).places q x f in
        let u : used w x ≡ true = I.names.places c q x f in
        let s : (mark (obey w c n) x ≡ true) ⊎ (wait (obey w c n) x ≡ true) = grind (nat_tests, frame, k, u, obey_tells w c n x) in
        elim s [ inl b ↦ inl b | inr b ↦ wait_covered (obey w c n) x b ]

    obey_same : (y : ℕ) → (mark (obey w c n) y ≡ mark w y) × (snooped (obey w c n) y ≡ snooped w y)
    obey_same y = (grind (frame, obey_tells w c n y), grind (frame, obey_tells w c n y))

    obey_names : (y i : ℕ) → (link (obey w c n) y i ≡ link w y i) × (view (obey w c n) y i ≡ view w y i)
    obey_names y i = (grind (frame, obey_tells w c n y), grind (frame, obey_tells w c n y))

    obey_coverage : Coverage (obey w c n)
    obey_coverage = record {
      logged = λ l y i x f. elim (I.coverage.logged l y i x (sym (obey_names y i).0 ∙ f)) [ inl g ↦ inl ((obey_names y i).1 ∙ g) | inr g ↦ inr ((obey_same x).1 ∙ g) ];
      places = λ l x q y g f. let h = obey_place x q y g f in elim h.1 [
        | inl b ↦ let p : place w c q ≡ Some y = rw b at h.0 in elim (obey_turn l) [ inl t ↦ obey_covered w c n y (I.coverage.places l c q y t p) | inr t ↦ obey_caught t q y p ]
        | inr b ↦ obey_covered w c n y (I.coverage.places l x q y b h.0)
      ];
      marked = λ l y i x k f. obey_covered w c n x (I.coverage.marked l y i x (sym (obey_same y).0 ∙ k) (sym (obey_names y i).0 ∙ f));
      unmarked = λ l y i x k f. elim (I.coverage.unmarked l y i x (sym (obey_same y).0 ∙ k) (sym (obey_names y i).0 ∙ f)) [ inl g ↦ inl ((obey_names y i).1 ∙ g) | inr g ↦ inr (obey_covered w c n x g) ];
    }

  -- entering Log: nothing is logged
  log_coverage : (c : ℕ) → w.phase ≡ ph.Alert → Coverage (enter (answered_by w c) ph.Log)
  log_coverage c p = record {
    logged = λ l y i x e. inl (grind (arith, I.phases.logs (inr p) y));
    places = λ l d q x g e. absurd (false≢true l);
    marked = λ l y i x k e. absurd (false≢true l);
    unmarked = λ l y i x k e. absurd (false≢true l);
  }

  -- entering Gather: nothing is marked, and no card has gathered
  pub none_gathered : w.phase ≡ ph.Log → (c : ℕ) → c < length w.cards → gathered w c ≡ false
  none_gathered p c a = grind (nat_tests, arith, I.handshake.order, I.handshake.lasts c a)

  gather_coverage : (c : ℕ) → w.phase ≡ ph.Log → Coverage (enter (answered_by w c) ph.Gather)
  gather_coverage c p =
      let v : World C = enter (answered_by w c) ph.Gather in
      record {
        logged = λ l y i x e. grind arith;
        places = λ l d q x g e. absurd (grind (arith, none_gathered p d (inside d q x e)));
        marked = λ l y i x k e. absurd (grind (arith, I.phases.log p y));
        unmarked = λ l y i x k e. elim (I.coverage.logged p y i x e) [ inl f ↦ inl f | inr f ↦ inr (snoop_covered v x f) ];
      }

  leave_coverage : (c : ℕ) → w.phase ≡ ph.Gather → Coverage (leave_gather (answered_by w c))
  leave_coverage c p =
      let up : (x : ℕ) → Covered w x → Covered (leave_gather (answered_by w c)) x = λ x k. leave_covered (answered_by w c) x (same_covered w (answered_by w c) refl refl x k) in
      let l : late w.phase ≡ true = grind arith in
      let k : marking w.phase ≡ true = grind arith in
      record {
        logged = λ l y i x e. grind arith;
        places = λ b d q x g e. up x (I.coverage.places l d q x (grind arith) e);
        marked = λ b y i x n e. up x (I.coverage.marked l y i x (sym (leave_mark y) ∙ n) (sym (leave_names y i).0 ∙ e));
        unmarked = λ b y i x n e. elim (I.coverage.unmarked k y i x (sym (leave_mark y) ∙ n) (sym (leave_names y i).0 ∙ e)) [ inl f ↦ inl ((leave_names y i).1 ∙ f) | inr f ↦ inr (up x f) ];
      }
    where
      leave_mark : (y : ℕ) → mark (leave_gather (answered_by w c)) y ≡ mark w y
      leave_mark y = grind (frame, leave_tells (answered_by w c) y)

      leave_names : (y i : ℕ) → (link (leave_gather (answered_by w c)) y i ≡ link w y i) × (view (leave_gather (answered_by w c)) y i ≡ view w y i)
      leave_names y i = (grind (frame, leave_tells (answered_by w c) y), grind (frame, leave_tells (answered_by w c) y))

  module _ (k : ℕ) (ks : List ℕ) (p : w.phase ≡ ph.Trace) (q : w.waiting ≡ k ∷ ks) where
    waits_k : wait w k ≡ true
    waits_k = I.lists.queue.queued k (rw q (inl refl))

    pub used_k : used w k ≡ true
    used_k = grind (arith, waits_k)

    pub pale_k : mark w k ≡ false
    pale_k = I.lists.queue.pale k waits_k

    trace_names : (y i : ℕ) → (link (trace_done w k ks) y i ≡ link w y i) × (view (trace_done w k ks) y i ≡ view w y i)
    trace_names y i = (grind (frame, trace_tells w k ks used_k y), grind (frame, trace_tells w k ks used_k y))

    trace_mark_lem : (y : ℕ) → (y ≡ k → ⊥) → mark (trace_done w k ks) y ≡ mark w y
    trace_mark_lem y n = grind (frame, trace_tells w k ks used_k y)

    trace_coverage : Coverage (trace_done w k ks)
    trace_coverage =
        let up : (x : ℕ) → Covered w x → Covered (trace_done w k ks) x = trace_covered w k ks used_k in
        let l : late w.phase ≡ true = grind arith in
        let m : marking w.phase ≡ true = grind arith in
        record {
          logged = λ b y i x e. grind arith;
          places = λ b d q x g e. up x (I.coverage.places l d q x g e);
          marked = λ b y i x n e. elim (cases_eq y k) [
            | inl j ↦ let e' : link w k i ≡ Some x = rw j at (sym (trace_names y i).0 ∙ e) in elim (I.coverage.unmarked m k i x pale_k e') [
              | inl f ↦ caught w k ks used_k i x f (I.names.views (grind arith) k i x f)
              | inr f ↦ up x f
            ]
            | inr j ↦ up x (I.coverage.marked l y i x (sym (trace_mark_lem y j) ∙ n) (sym (trace_names y i).0 ∙ e))
          ];
          unmarked = λ b y i x n e. elim (cases_eq y k) [
            | inl j ↦ absurd (false≢true (sym n ∙ rw j (traced w k ks used_k)))
            | inr j ↦ elim (I.coverage.unmarked m y i x (sym (trace_mark_lem y j) ∙ n) (sym (trace_names y i).0 ∙ e)) [ inl f ↦ inl ((trace_names y i).1 ∙ f) | inr f ↦ inr (up x f) ]
          ];
        }

  -- sweep: what is covered is marked, and what is marked is not freed
  free_coverage : w.phase ≡ ph.Sweep → mark w w.sweep ≡ false → Coverage (sweep_free w)
  free_coverage p f =
      let l : late w.phase ≡ true = grind arith in
      let up : (x : ℕ) → Covered w x → Covered (sweep_free w) x = λ x k. inl (still x (covered_marked l (grind arith) x k)) in
      record {
        logged = λ b y i x e. grind arith;
        places = λ b d q x g e. up x (I.coverage.places l d q x (grind arith) e);
        marked = λ b y i x n e. up x (I.coverage.marked l y i x (grind frame) (grind frame));
        unmarked = λ b y i x n e. absurd (grind arith);
      }
    where
      still : (x : ℕ) → mark w x ≡ true → mark (sweep_free w) x ≡ true
      still x k = grind frame

  pub coverage_kept : {v : World C} → Change w v → Coverage v
  coverage_kept same = I.coverage
  coverage_kept (news c p x k ks a b i f) = new_coverage c p x k ks a f
  coverage_kept (loads c p y i q a b d e f g) = load_coverage c p y i q f
  coverage_kept (copies c p q a b d) = copy_coverage c p q
  coverage_kept (drops c p a b d) = drop_coverage c p
  coverage_kept (looks c p y i q a b d e f) = look_coverage c y i q
  coverage_kept (notes c u d a b e) = note_coverage c u b d (drafted c u b d e)
  coverage_kept (stores c u a b d) = store_coverage c u a b d
  coverage_kept (opens a) = record { logged = λ l y i x e. grind arith; places = λ l d q x g e. absurd (false≢true l); marked = λ l y i x k e. absurd (false≢true l); unmarked = λ l y i x k e. absurd (false≢true l) }
  coverage_kept (obeys c n a b d e) = obey_coverage c n a d e
  coverage_kept (hears c a b d e) = steady_all (answered_by w c) refl refl (λ p. p) (λ p. p) (λ p. p) (λ l d g. g) (λ d r. refl)
  coverage_kept (logs c a b d e) = log_coverage c b
  coverage_kept (gathers c a b d e) = gather_coverage c b
  coverage_kept (leaves c a b d e) = leave_coverage c b
  coverage_kept (sweeps c a b d e) = steady_all (start_sweep (answered_by w c)) refl refl (λ p. grind arith) (λ p. grind arith) (λ p. grind arith) (λ l d g. grind arith) (λ d r. refl)
  coverage_kept (traces k ks a b) = trace_coverage k ks a b
  coverage_kept (eases a b) = steady_all (enter w ph.Ease) refl refl (λ p. grind arith) (λ p. grind arith) (λ p. grind arith) (λ l d g. grind arith) (λ d r. refl)
  coverage_kept (keeps a b) = steady_all (sweep_keep w) refl refl (λ p. grind arith) (λ p. grind arith) (λ p. grind arith) (λ l d g. grind arith) (λ d r. refl)
  coverage_kept (frees a b d e) = free_coverage a d
  coverage_kept (settles a) = record { logged = λ l y i x e. grind arith; places = λ l d q x g e. absurd (false≢true l); marked = λ l y i x k e. absurd (false≢true l); unmarked = λ l y i x k e. absurd (false≢true l) }

pub coverage_start : {C : Type 0} {w : World C} {m : Meaning} → Start w m → Coverage w
coverage_start {C} {w} s =
    let p = s.rest.phase in
    record { logged = λ l y i x e. grind (arith, p); places = λ l d q x g e. absurd (grind (arith, p)); marked = λ l y i x k e. absurd (grind (arith, p)); unmarked = λ l y i x k e. absurd (grind (arith, p)) }
