-- What logs name is kept by every change: the log of a marked record names covered ones. At a trace its view was pushed; at a note
-- the draft names covered ones already.
use Rattle.std.proofs.Common.{◌≡◌, ℕ, ◌<◌, Bool, true, false, cond, not, ◌&&◌, ◌⊎◌, List, ◌∷◌, length, get_or, Some, None, Option, sym, refl, ◌∙◌, inl, inr, arith}
use Rattle.std.proofs.lemmas.Bool.Decides.{nat_tests}
use Rattle.std.proofs.lemmas.Bool.{false≢true}
use Rattle.machine.specs.declared.types.Phase.TheVariants as ph
use Rattle.machine.specs.declared.types.Stage.TheVariants.{Looked, Noted}
use Rattle.machine.specs.declared.types.Update.{Update}
use Rattle.machine.specs.declared.types.Call.{Call}
use Rattle.machine.specs.Acts.{Answer}
use Rattle.machine.specs.World.{World, Name, used, mark, link, links_at, view, log_at, logged, place, card, named, read_all}
use Rattle.machine.specs.Cards.{new_done, draft, look_done, note_done}
use Rattle.machine.specs.Rounds.{enter, trace_done, leave_gather, obey, sweep_free}
use Rattle.line.specs.Lines.{Meaning}
use Rattle.laws.specs.Steps.{Run, done, then, Start}
use Rattle.laws.proofs.Frames.{frame}
use Rattle.laws.proofs.Cases.{Change, same, news, loads, copies, drops, looks, notes, stores, opens, obeys, hears, logs, gathers, leaves, sweeps, traces, eases, keeps, frees, settles, answered_by}
use Rattle.laws.proofs.Inv.{Inv, Logs, Covered, gathered, late, marking}
use Rattle.laws.proofs.Runs.{Lasts, changed}
use Rattle.laws.proofs.KeptNames as kn
use Rattle.laws.proofs.KeptCoverage as kc

-- a draft is made of an unmarked record alone
of_pale : (a b c : Bool) (s d : List Name) → cond (a && not b && not c) (Some s) None ≡ Some d → b ≡ false
of_pale a false c s d e = refl
of_pale true true c s d e = grind arith
of_pale false true c s d e = grind arith

-- and holds them as they were
of_draft : (b : Bool) (s d : List Name) → cond b (Some s) None ≡ Some d → d ≡ s
of_draft true s d e = grind arith
of_draft false s d e = grind arith

module _ {C : Type 0} (w : World C) (m : Meaning) (I : Inv w m) (L : Logs w) where
  -- cells, colour and turns as before, phase no earlier, and no update in hand that was not there
  steady : (v : World C) → v.cells ≡ w.cells → v.marked ≡ w.marked → (late v.phase ≡ true → late w.phase ≡ true) → (marking v.phase ≡ true → marking w.phase ≡ true) →
      (marking v.phase ≡ true → (c : ℕ) → gathered v c ≡ true → gathered w c ≡ true) → ((c : ℕ) (u : Update) → (card v c).update ≡ Some u → (card w c).update ≡ Some u) → Logs v
  steady v E M P Q G U = record {
    marked = λ l y g i x k e f. kc.same_covered w v E M x (L.marked (P l) y g i x (rw (E, M) at k) (rw E at e) f);
    drafts = λ l c u d i x e s k n f. kc.same_covered w v E M x (L.drafts (P l) c u d i x (U c u e) s (rw (E, M) at k) (rw E at n) f);
    fresh = λ l c u d i x g e s k n f. rw E (L.fresh (Q l) c u d i x (G l c g) (U c u e) s (rw (E, M) at k) (rw E at n) f);
  }

  -- nothing is claimed
  idle : (v : World C) → late v.phase ≡ false → Logs v
  idle v p = record {
    marked = λ l y g i x k e f. absurd (false≢true (sym p ∙ l));
    drafts = λ l c u d i x e s k n f. absurd (false≢true (sym p ∙ l));
    fresh = λ l c u d i x g e s k n f. absurd (grind (arith, p, l));
  }

  new_logs : (c p : ℕ) (z : C) (k : ℕ) (ks : List ℕ) → (card w c).update ≡ None → w.free ≡ k ∷ ks → Logs (new_done w c p z k ks)
  new_logs c p z k ks b f =
      let F : (k < length w.cells) × (used w k ≡ false) = I.lists.free_is k (rw f (inl refl)) in
      let v : World C = new_done w c p z k ks in
      let up : (x : ℕ) → Covered w x → Covered v x = kc.new_covered w c p z k ks F.1 in
      let old : (y : ℕ) → used w y ≡ true → (mark v y ≡ mark w y) × (logged v y ≡ logged w y) × ((i : ℕ) → link v y i ≡ link w y i) = λ y u. (grind (frame, F), grind (frame, F), λ i. grind (frame, F)) in
      let held : (d : ℕ) (u : Update) → (card v d).update ≡ Some u → ((card w d).update ≡ Some u) × (used w u.cell ≡ true) = λ d u e. let h = (kn.news_held w m I c p z k ks b d u e).0 in (h, kn.hand_used w m I d u h) in
      record {
        marked = λ l y g i x h e t. up x (L.marked l y g i x (grind (frame, F)) (grind (frame, F)) t);
        drafts = λ l d u g i x e s h n t. let q = held d u e in let o = old u.cell q.1 in up x (L.drafts l d u g i x q.0 s (sym o.0 ∙ h) (sym o.1 ∙ n) t);
        fresh = λ l d u g i x h e s r n t. let q = held d u e in let o = old u.cell q.1 in o.2 i ∙ L.fresh l d u g i x (grind frame) q.0 s (sym o.0 ∙ r) (sym o.1 ∙ n) t;
      }

  -- a draft is made of an unmarked record's links
  look_logs : (c y i q : ℕ) → c < length w.cards → Logs (look_done w c y i q)
  look_logs c y i q a =
      let v : World C = look_done w c y i q in
      record {
        marked = λ l z g j x k e f. kc.same_covered w v refl refl x (L.marked l z g j x k e f);
        drafts = λ l d u g j x e s k n f. elim (kn.look_hand w m I c y i q d u a e) [
          | inl h ↦ kc.same_covered w v refl refl x (L.drafts l d u g j x h.0.0 s k n f)
          | inr h ↦
              let Y : u.cell ≡ y = grind (arith, h) in
              let D : draft w c y ≡ Some g = grind (arith, h, s) in
              absurd (false≢true (sym (of_pale (card w c).logging (mark w y) (logged w y) (read_all w (links_at w y)) g D) ∙ rw Y at k))
        ];
        fresh = λ l d u g j x b e s k n f. elim (kn.look_hand w m I c y i q d u a e) [
          | inl h ↦ L.fresh l d u g j x (grind frame) h.0.0 s k n f
          | inr h ↦ let D : draft w c y ≡ Some g = grind (arith, h, s) in
              let K : g ≡ read_all w (links_at w y) = of_draft ((card w c).logging && not (mark w y) && not (logged w y)) (read_all w (links_at w y)) g D in let T : link w y j ≡ Some x = grind (frame, K, f) in grind (arith, h, T)
        ];
      }

  -- note writes the draft where there is no log
  module _ (c : ℕ) (u : Update) (d : Option (List Name)) (a : c < length w.cards) (b : (card w c).update ≡ Some u) (s : u.stage ≡ Looked d) where
    note_log : (y : ℕ) (g : List Name) → log_at (note_done w c u d) y ≡ Some g → (log_at w y ≡ Some g) ⊎ ((y ≡ u.cell) × (logged w y ≡ false) × (d ≡ Some g))
    note_log y g e = grind frame

    note_same : (y i : ℕ) → (mark (note_done w c u d) y ≡ mark w y) × (link (note_done w c u d) y i ≡ link w y i) × (logged (note_done w c u d) y ≡ false → logged w y ≡ false)
    note_same y i = (grind frame, grind frame, λ e. grind frame)

    note_logs : Logs (note_done w c u d)
    note_logs =
        let up : (x : ℕ) → Covered w x → Covered (note_done w c u d) x = kc.note_covered w c u d (kc.drafted w m I c u b d s) in
        record {
          marked = λ l y g i x k e f. let n : mark w y ≡ true = sym (note_same y i).0 ∙ k in elim (note_log y g e) [
            | inl h ↦ up x (L.marked l y g i x n h f)
            | inr h ↦ up x (L.drafts l c u g i x b (grind (arith, s, h)) (rw h.0 at n) (rw h.0 at h.1) f)
          ];
          drafts = λ l r z g i x e t k n f. elim (kn.note_hand w m I c u d r z a e) [
            | inl h ↦ up x (L.drafts l r z g i x h.0.0 t (sym (note_same z.cell i).0 ∙ k) ((note_same z.cell i).2 n) f)
            | inr h ↦ absurd (grind (arith, h, t))
          ];
          fresh = λ l r z g i x q e t k n f. elim (kn.note_hand w m I c u d r z a e) [
            | inl h ↦ (note_same z.cell i).1 ∙ L.fresh l r z g i x (grind frame) h.0.0 t (sym (note_same z.cell i).0 ∙ k) ((note_same z.cell i).2 n) f
            | inr h ↦ absurd (grind (arith, h, t))
          ];
        }

  -- store writes a link of a marked or logged record
  module _ (c : ℕ) (u : Update) (a : c < length w.cards) (b : (card w c).update ≡ Some u) (s : u.stage ≡ Noted) where
    store_same : (y : ℕ) → (mark (kc.stored w c u) y ≡ mark w y) × (log_at (kc.stored w c u) y ≡ log_at w y) × (logged (kc.stored w c u) y ≡ logged w y)
    store_same y = (grind frame, grind frame, grind frame)

    store_link : marking w.phase ≡ true → (y i : ℕ) → mark w y ≡ false → logged w y ≡ false → link (kc.stored w c u) y i ≡ link w y i
    store_link p y i k n = let S = kc.safe w m I c u a b s p in grind (frame, S)

    store_logs : Logs (kc.stored w c u)
    store_logs =
        let up : late w.phase ≡ true → (x : ℕ) → Covered w x → Covered (kc.stored w c u) x = kc.store_covered w m I c u a b s in
        let held : (d : ℕ) (z : Update) → (card (kc.stored w c u) d).update ≡ Some z → (card w d).update ≡ Some z = λ d z e. (kn.store_held w m I c u (named w u.target) d z e).0 in
        record {
          marked = λ l y g i x k e f. let o = store_same y in up l x (L.marked l y g i x (sym o.0 ∙ k) (sym o.1 ∙ e) f);
          drafts = λ l d z g i x e t k n f. let o = store_same z.cell in up l x (L.drafts l d z g i x (held d z e) t (sym o.0 ∙ k) (sym o.2 ∙ n) f);
          fresh = λ l d z g i x q e t k n f. let o = store_same z.cell in store_link l z.cell i (sym o.0 ∙ k) (sym o.2 ∙ n) ∙ L.fresh l d z g i x (grind frame) (held d z e) t (sym o.0 ∙ k) (sym o.2 ∙ n) f;
        }

  -- a card that obeys has no update in hand
  module _ (c n : ℕ) (b : (card w c).update ≡ None) where
    obey_same : (y i : ℕ) → (mark (obey w c n) y ≡ mark w y) × (log_at (obey w c n) y ≡ log_at w y) × (logged (obey w c n) y ≡ logged w y) × (link (obey w c n) y i ≡ link w y i)
    obey_same y i = let T = kc.obey_tells w c n y in (grind (frame, T), grind (frame, T), grind (frame, T), grind (frame, T))

    obey_turn : (d : ℕ) (u : Update) → (card (obey w c n) d).update ≡ Some u → gathered (obey w c n) d ≡ true → gathered w d ≡ true
    obey_turn d u e g = grind (frame, b)

    obey_logs : Logs (obey w c n)
    obey_logs = record {
      marked = λ l y g i x k e f. let o = obey_same y i in kc.obey_covered w c n x (L.marked l y g i x (sym o.0 ∙ k) (sym o.1 ∙ e) f);
      drafts = λ l d u g i x e t k q f. let o = obey_same u.cell i in kc.obey_covered w c n x (L.drafts l d u g i x (kn.obey_held w m I c n d u e).0 t (sym o.0 ∙ k) (sym o.2 ∙ q) f);
      fresh = λ l d u g i x h e t k q f. let o = obey_same u.cell i in o.3 ∙ L.fresh l d u g i x (obey_turn d u e h) (kn.obey_held w m I c n d u e).0 t (sym o.0 ∙ k) (sym o.2 ∙ q) f;
    }

  -- entering Gather: nothing is marked, and no card has gathered
  gather_logs : (c : ℕ) → w.phase ≡ ph.Log → Logs (enter (answered_by w c) ph.Gather)
  gather_logs c p = record {
    marked = λ l y g i x k e f. absurd (grind (arith, I.phases.log p y));
    drafts = λ l d u g i x e s k n f. absurd (grind (arith, I.phases.log p u.cell));
    fresh = λ l d u g i x h e s k n f. absurd (grind (arith, kc.none_gathered w m I p d (kn.hand_inside w m I d u e)));
  }

  leave_logs : (c : ℕ) → w.phase ≡ ph.Gather → Logs (leave_gather (answered_by w c))
  leave_logs c p =
      let v : World C = leave_gather (answered_by w c) in
      let l : late w.phase ≡ true = grind arith in
      let r : marking w.phase ≡ true = grind arith in
      let up : (x : ℕ) → Covered w x → Covered v x = λ x k. kc.leave_covered (answered_by w c) x (kc.same_covered w (answered_by w c) refl refl x k) in
      record {
        marked = λ _ y g i x k e f. let o = leave_same y i in up x (L.marked l y g i x (sym o.0 ∙ k) (sym o.1 ∙ e) f);
        drafts = λ _ d u g i x e t k q f. let o = leave_same u.cell i in up x (L.drafts l d u g i x e t (sym o.0 ∙ k) (sym o.2 ∙ q) f);
        fresh = λ _ d u g i x h e t k q f. let o = leave_same u.cell i in o.3 ∙ L.fresh r d u g i x (grind arith) e t (sym o.0 ∙ k) (sym o.2 ∙ q) f;
      }
    where
      leave_same : (y i : ℕ) → (mark (leave_gather (answered_by w c)) y ≡ mark w y) × (log_at (leave_gather (answered_by w c)) y ≡ log_at w y) × (logged (leave_gather (answered_by w c)) y ≡ logged w y) × (link (leave_gather (answered_by w c)) y i ≡ link w y i)
      leave_same y i = let T = kc.leave_tells (answered_by w c) y in (grind (frame, T), grind (frame, T), grind (frame, T), grind (frame, T))

  -- trace: what the view of the traced record names is covered from now on, its log or, where a draft is still in hand, its links
  module _ (k : ℕ) (ks : List ℕ) (p : w.phase ≡ ph.Trace) (q : w.waiting ≡ k ∷ ks) where
    used_k : used w k ≡ true
    used_k = kc.used_k w m I k ks p q

    pale_k : mark w k ≡ false
    pale_k = kc.pale_k w m I k ks p q

    caught : (i x : ℕ) → view w k i ≡ Some x → Covered (trace_done w k ks) x
    caught i x e = kc.caught w k ks used_k i x e (I.names.views (grind arith) k i x e)

    trace_same : (y i : ℕ) → (log_at (trace_done w k ks) y ≡ log_at w y) × (logged (trace_done w k ks) y ≡ logged w y) × (link (trace_done w k ks) y i ≡ link w y i)
    trace_same y i = let T = kc.trace_tells w k ks used_k y in (grind (frame, T), grind (frame, T), grind (frame, T))

    trace_mark_lem : (y : ℕ) → (mark (trace_done w k ks) y ≡ mark w y) ⊎ ((y ≡ k) × (mark (trace_done w k ks) y ≡ true))
    trace_mark_lem y = let T = kc.trace_tells w k ks used_k y in grind (frame, T)

    all_gathered : (d : ℕ) (u : Update) → (card w d).update ≡ Some u → gathered w d ≡ true
    all_gathered d u e = let h = kn.hand_inside w m I d u e in grind (nat_tests, arith, I.handshake.order, I.handshake.lasts d h)

    logged_view : (g : List Name) (i x : ℕ) → log_at w k ≡ Some g → get_or g i None ≡ Some x → view w k i ≡ Some x
    logged_view g i x e f = grind arith

    linked_view : (i x : ℕ) → logged w k ≡ false → link w k i ≡ Some x → view w k i ≡ Some x
    linked_view i x n e = grind arith

    trace_logs : Logs (trace_done w k ks)
    trace_logs =
        let up : (x : ℕ) → Covered w x → Covered (trace_done w k ks) x = kc.trace_covered w k ks used_k in
        let l : late w.phase ≡ true = grind arith in
        let r : marking w.phase ≡ true = grind arith in
        record {
          marked = λ _ y g i x n e f. let o : log_at w y ≡ Some g = sym (trace_same y i).0 ∙ e in elim (trace_mark_lem y) [
            | inl h ↦ up x (L.marked l y g i x (sym h ∙ n) o f)
            | inr h ↦ caught i x (logged_view g i x (rw h.0 at o) f)
          ];
          drafts = λ _ d u g i x e s n j f. let o : logged w u.cell ≡ false = sym (trace_same u.cell i).1 ∙ j in elim (trace_mark_lem u.cell) [
            | inl h ↦ up x (L.drafts l d u g i x e s (sym h ∙ n) o f)
            | inr h ↦
                let t : link w u.cell i ≡ Some x = L.fresh r d u g i x (all_gathered d u e) e s (rw h.0 pale_k) o f in
                caught i x (linked_view i x (rw h.0 at o) (rw h.0 at t))
          ];
          fresh = λ _ d u g i x h e s n j f. let o = trace_same u.cell i in elim (trace_mark_lem u.cell) [
            | inl t ↦ o.2 ∙ L.fresh r d u g i x h e s (sym t ∙ n) (sym o.1 ∙ j) f
            | inr t ↦ absurd (false≢true (sym n ∙ t.1))
          ];
        }

  -- sweep: what is covered is marked, and what is marked is not freed
  free_logs : w.phase ≡ ph.Sweep → mark w w.sweep ≡ false → Logs (sweep_free w)
  free_logs p f =
      let l : late w.phase ≡ true = grind arith in
      let up : (x : ℕ) → Covered w x → Covered (sweep_free w) x = λ x k. inl (still x (kc.covered_marked w m I l (grind arith) x k)) in
      record {
        marked = λ _ y g i x k e t. up x (L.marked l y g i x (grind frame) (grind frame) t);
        drafts = λ _ d u g i x e s k n t. absurd (kn.no_draft w m I d u g e s (inr (inr (inl p))));
        fresh = λ _ d u g i x h e s k n t. absurd (kn.no_draft w m I d u g e s (inr (inr (inl p))));
      }
    where
      still : (x : ℕ) → mark w x ≡ true → mark (sweep_free w) x ≡ true
      still x k = grind frame

  pub logs_kept : {v : World C} → Change w v → Logs v
  logs_kept same = L
  logs_kept (news c p x k ks a b i f) = new_logs c p x k ks i f
  logs_kept (loads c p y i q a b d e f g) = steady _ refl refl (λ p. p) (λ p. p) (λ _ d g. grind frame) (λ d u h. (kn.put_held w m I c q (named w (link w y i)) e d u h).0)
  logs_kept (copies c p q a b d) = steady _ refl refl (λ p. p) (λ p. p) (λ _ d g. grind frame) (λ r u h. (kn.put_held w m I c q (named w (place w c p)) d r u h).0)
  logs_kept (drops c p a b d) = steady _ refl refl (λ p. p) (λ p. p) (λ _ d g. grind frame) (λ r u h. (kn.put_held w m I c p None d r u h).0)
  logs_kept (looks c p y i q a b d e f) = look_logs c y i q a
  logs_kept (notes c u d a b e) = note_logs c u d a b e
  logs_kept (stores c u a b d) = store_logs c u a b d
  logs_kept (opens a) = idle _ refl
  logs_kept (obeys c n a b d e) = obey_logs c n b
  logs_kept (hears c a b d e) = steady _ refl refl (λ p. p) (λ p. p) (λ _ d g. g) (λ d u h. h)
  logs_kept (logs c a b d e) = idle _ refl
  logs_kept (gathers c a b d e) = gather_logs c b
  logs_kept (leaves c a b d e) = leave_logs c b
  logs_kept (sweeps c a b d e) = steady _ refl refl (λ p. grind arith) (λ p. grind arith) (λ l d g. grind arith) (λ d u h. h)
  logs_kept (traces k ks a b) = trace_logs k ks a b
  logs_kept (eases a b) = steady _ refl refl (λ p. grind arith) (λ p. grind arith) (λ l d g. grind arith) (λ d u h. h)
  logs_kept (keeps a b) = steady _ refl refl (λ p. grind arith) (λ p. grind arith) (λ l d g. grind arith) (λ d u h. h)
  logs_kept (frees a b d e) = free_logs a d
  logs_kept (settles a) = idle _ refl

pub logs_start : {C : Type 0} {w : World C} {m : Meaning} → Start w m → Logs w
logs_start {C} {w} s =
    let p = s.rest.phase in
    record { marked = λ l y g i x k e f. absurd (grind (arith, p)); drafts = λ l c u d i x e t k n f. absurd (grind (arith, p)); fresh = λ l c u d i x g e t k n f. absurd (grind (arith, p)) }

-- ---- along a run

module _ {C : Type 0} (K : Lasts C) where
  logs_along : {w v : World C} {m l : Meaning} {ks : List (Call C)} {rs : List (Answer C)} → Inv w m → Logs w → Run w m ks rs v l → Logs v
  logs_along I L done = L
  logs_along {w} {m = m} I L (then s r) = logs_along (K.step I s) (logs_kept w m I L (changed I s)) r

  pub logs_run : {w v : World C} {m l : Meaning} {ks : List (Call C)} {rs : List (Answer C)} → Start w m → Run w m ks rs v l → Logs v
  logs_run S r = logs_along (K.start S) (logs_start S) r
