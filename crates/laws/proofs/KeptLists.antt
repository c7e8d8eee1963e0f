-- The lists, serials and sizes are kept by every change.
use Rattle.std.proofs.Common.{◌≡◌, ℕ, ◌%◌, ◌<◌, Bool, true, false, cond, eqb, ◌⊎◌, List, ◌∷◌, length, refl, inl, inr, arith}
use Rattle.machine.specs.World.{World, used, serial_at, links_at, mark, wait, card, view_at, named}
use Rattle.machine.specs.Waiting.{heap, push_all, snooped_names}
use Rattle.machine.specs.Cards.{new_done, note_done, store_done}
use Rattle.machine.specs.Rounds.{obey, trace_mark, trace_done, sweep_free, settle_done, leave_gather}
use Rattle.line.specs.Lines.{Meaning, Among}
use Rattle.laws.specs.Steps.{Distinct, Start}
use Rattle.laws.proofs.Frames.{frame, sizes}
use Rattle.laws.proofs.Pushes.{Queue, push_all_tells, push_all-length, push_all_queue}
use Rattle.laws.proofs.Cases.{Change, same, news, loads, copies, drops, looks, notes, stores, opens, obeys, hears, logs, gathers, leaves, sweeps, traces, eases, keeps, frees, settles, answered_by}
use Rattle.laws.proofs.Inv.{Lists, Inv}

module _ {C : Type 0} {w : World C} {m : Meaning} (I : Inv w m) where
  L : Lists w
  L = I.lists

  Q : Queue w.marked (heap w)
  Q = L.queue

  -- the record in cell x as far as serials and sizes go
  abbrev Held : World C → ℕ → Type 0
  Held v x = (used v x ≡ used w x) × (serial_at v x ≡ serial_at w x) × (length (links_at v x) ≡ length (links_at w x))

  -- a change that leaves the waiting list and the marks alone
  unmoved : (v : World C) → v.waiting ≡ w.waiting → ((x : ℕ) → (wait v x ≡ wait w x) × (mark v x ≡ mark w x)) → Queue v.marked (heap v)
  unmoved v e h = record {
    queued = λ x b. grind (arith, Q.queued x (rw e at b), h x);
    waits = λ x b. rw e (Q.waits x (grind (arith, h x)));
    pale = λ x b. grind (arith, Q.pale x, h x);
    once = rw e Q.once;
  }

  -- a change by which no cell becomes free or used
  carried : (v : World C) → Queue v.marked (heap v) → v.free ≡ w.free → v.next ≡ w.next → length v.contents ≡ length w.contents → length v.cells ≡ length w.cells → ((x : ℕ) → Held v x) → ((c : ℕ) → c < length v.cards → length (card v c).places ≡ 8) → Lists v
  carried v q f n t s h e = record {
    queue = q;
    free_is = λ x b. grind (arith, L.free_is x (rw f at b), h x, s);
    free_has = λ x l u. rw f (L.free_has x (grind (arith, s)) (grind (arith, h x)));
    free_once = rw f L.free_once;
    apart = λ x y a b k. grind (arith, L.apart x y, h x, h y);
    above = λ x a. grind (arith, L.above x, h x);
    below = λ x a. grind (arith, L.below x, h x, n);
    next = omega (arith, n, L.next);
    some = omega (arith, s, L.some);
    tables = grind (arith, t, s, L.tables);
    eight = e;
    four = λ x a. grind (arith, L.four x, h x);
  }

  new_lists : (c p : ℕ) (x : C) (k : ℕ) (ks : List ℕ) → w.free ≡ k ∷ ks → Lists (new_done w c p x k ks)
  new_lists c p x k ks e =
      let F : (k < length w.cells) × (used w k ≡ false) = L.free_is k (rw e (inl refl)) in
      let D : (Among k ks → ⊥) × Distinct ks = rw e at L.free_once in
      let M : (y : ℕ) → Among y ks → (y < length w.cells) × (used w y ≡ false) = λ y b. L.free_is y (rw e (inr b)) in
      let N : (y : ℕ) → Among y ks → y ≡ k → ⊥ = λ y b c. D.0 (rw c at b) in
      let P : (y : ℕ) → y < length w.cells → used w y ≡ false → (y ≡ k) ⊎ Among y ks = λ y h u. rw e at (L.free_has y h u) in
      record {
        queue = record { queued = λ y b. grind (frame, Q.queued y b, F); waits = λ y b. grind (frame, Q.waits y); pale = λ y b. grind (frame, Q.pale y); once = Q.once };
        free_is = λ y b. grind (frame, M y b, N y b);
        free_has = λ y h u. grind (frame, P y, F);
        free_once = D.1;
        apart = λ y z u v s. grind (frame, L.apart y z, L.below y, L.below z);
        above = λ y u. grind (frame, L.above y, L.next);
        below = λ y u. grind (frame, L.below y);
        next = omega (arith, L.next);
        some = grind (sizes, L.some);
        tables = grind (sizes, L.tables);
        eight = λ d h. grind (frame, L.eight d);
        four = λ y u. grind (frame, L.four y);
      }

  free_lists : used w w.sweep ≡ true → wait w w.sweep ≡ false → w.sweep < length w.cells → Lists (sweep_free w)
  free_lists a n h =
      let Z : (y : ℕ) → Among y w.free → y ≡ w.sweep → ⊥ = λ y b e. grind (arith, L.free_is y b) in
      record {
        queue = record { queued = λ y b. grind (frame, Q.queued y b); waits = λ y b. grind (frame, Q.waits y); pale = λ y b. grind (frame, Q.pale y); once = Q.once };
        free_is = λ y b. grind (frame, L.free_is y);
        free_has = λ y h v. grind (frame, L.free_has y);
        free_once = ((λ b. Z w.sweep b refl), L.free_once);
        apart = λ y z a b s. grind (frame, L.apart y z);
        above = λ y a. grind (frame, L.above y);
        below = λ y a. grind (frame, L.below y);
        next = L.next;
        some = grind (sizes, L.some);
        tables = grind (sizes, L.tables);
        eight = L.eight;
        four = λ y a. grind (frame, L.four y);
      }

  trace_lists : (k : ℕ) (ks : List ℕ) → w.waiting ≡ k ∷ ks → Lists (trace_done w k ks)
  trace_lists k ks e =
      let D : (Among k ks → ⊥) × Distinct ks = rw e at Q.once in
      let M : (y : ℕ) → Among y ks → wait w y ≡ true = λ y b. Q.queued y (rw e (inr b)) in
      let N : (y : ℕ) → Among y ks → y ≡ k → ⊥ = λ y b c. D.0 (rw c at b) in
      let P : (y : ℕ) → wait w y ≡ true → (y ≡ k) ⊎ Among y ks = λ y h. rw e at (Q.waits y h) in
      let R : Queue w.marked (heap (trace_mark w k ks)) = record { queued = λ y b. grind (frame, M y b, N y b); waits = λ y b. grind (frame, P y); pale = λ y b. grind (frame, Q.pale y); once = D.1 } in
      let T = push_all_tells w.marked (heap (trace_mark w k ks)) (view_at w k) in
      let S = push_all-length w.marked (heap (trace_mark w k ks)) (view_at w k) in
      carried _ (push_all_queue w.marked (heap (trace_mark w k ks)) (view_at w k) R) refl refl refl (grind (sizes, S)) (λ x. (grind (frame, T x), grind (frame, T x), grind (frame, T x))) L.eight

  -- a gather puts places onto the waiting list, any other order nothing
  obey_lists : (c n : ℕ) → Lists (obey w c n)
  obey_lists c n =
      let T = push_all_tells w.marked (heap w) (card w c).places in
      let S = push_all-length w.marked (heap w) (card w c).places in
      carried _ (by (eqb (n % 4) 3)) refl refl refl (grind (sizes, S)) (λ x. (grind (frame, T x), grind (frame, T x), grind (frame, T x))) (λ d h. grind (frame, L.eight d))
    where
      by : (b : Bool) → Queue w.marked (cond b (push_all w.marked (heap w) (card w c).places) (heap w))
      by true = push_all_queue w.marked (heap w) (card w c).places Q
      by false = Q

  leave_lists : (c : ℕ) → Lists (leave_gather (answered_by w c))
  leave_lists c =
      let T = push_all_tells w.marked (heap w) (snooped_names 0 w.cells) in
      let S = push_all-length w.marked (heap w) (snooped_names 0 w.cells) in
      let R = push_all_queue w.marked (heap w) (snooped_names 0 w.cells) Q in
      carried _
      (record { queued = λ y b. grind (frame, R.queued y b); waits = λ y b. grind (frame, R.waits y); pale = λ y b. grind (frame, R.pale y); once = R.once })
      refl refl refl (grind (sizes, S)) (λ x. (grind (frame, T x), grind (frame, T x), grind (frame, T x))) L.eight

  pub lists_kept : {v : World C} → Change w v → Lists v
  lists_kept same = L
  lists_kept (news c p x k ks a b i f) = new_lists c p x k ks f
  lists_kept (loads c p y i q a b d e f g) = carried _ Q refl refl refl refl (λ x. (refl, refl, refl)) (λ d h. grind (frame, L.eight d))
  lists_kept (copies c p q a b d) = carried _ Q refl refl refl refl (λ x. (refl, refl, refl)) (λ d h. grind (frame, L.eight d))
  lists_kept (drops c p a b d) = carried _ Q refl refl refl refl (λ x. (refl, refl, refl)) (λ d h. grind (frame, L.eight d))
  lists_kept (looks c p y i q a b d e f) = carried _ Q refl refl refl refl (λ x. (refl, refl, refl)) (λ d h. grind (frame, L.eight d))
  lists_kept (notes c u d a b e) = carried _ (unmoved (note_done w c u d) refl (λ x. (grind frame, grind frame))) refl refl refl (grind sizes) (λ x. (grind frame, grind frame, grind frame)) (λ d h. grind (frame, L.eight d))
  lists_kept (stores c u a b d) = carried _ (unmoved (store_done w c u (named w u.target)) refl (λ x. (grind frame, grind frame))) refl refl refl (grind sizes) (λ x. (grind frame, grind frame, grind frame)) (λ d h. grind (frame, L.eight d))
  lists_kept (opens a) = carried _ (record { queued = Q.queued; waits = Q.waits; pale = λ y b. grind (arith, I.phases.waits, a); once = Q.once }) refl refl refl refl (λ x. (refl, refl, refl)) L.eight
  lists_kept (obeys c n a b d e) = obey_lists c n
  lists_kept (hears c a b d e) = carried _ Q refl refl refl refl (λ x. (refl, refl, refl)) L.eight
  lists_kept (logs c a b d e) = carried _ Q refl refl refl refl (λ x. (refl, refl, refl)) L.eight
  lists_kept (gathers c a b d e) = carried _ Q refl refl refl refl (λ x. (refl, refl, refl)) L.eight
  lists_kept (leaves c a b d e) = leave_lists c
  lists_kept (sweeps c a b d e) = carried _ Q refl refl refl refl (λ x. (refl, refl, refl)) L.eight
  lists_kept (traces k ks a b) = trace_lists k ks b
  lists_kept (eases a b) = carried _ Q refl refl refl refl (λ x. (refl, refl, refl)) L.eight
  lists_kept (keeps a b) = carried _ Q refl refl refl refl (λ x. (refl, refl, refl)) L.eight
  lists_kept (frees a b d e) = free_lists b e (I.phases.inside a)
  lists_kept (settles a) = carried _ (unmoved (settle_done w) refl (λ x. (grind frame, grind frame))) refl refl refl (grind sizes) (λ x. (grind frame, grind frame, grind frame)) L.eight

pub lists_start : {C : Type 0} {w : World C} {m : Meaning} → Start w m → Lists w
lists_start {C} {w} s =
    let R = s.rest in
    record {
      queue = record { queued = λ x b. grind (arith, R.waiting); waits = λ x b. grind (arith, R.waits x); pale = λ x b. grind (arith, R.waits x); once = rw R.waiting tt };
      free_is = R.free_is;
      free_has = R.free_has;
      free_once = R.free_once;
      apart = R.apart;
      above = R.above;
      below = R.below;
      next = R.next;
      some = R.some;
      tables = R.tables;
      eight = R.eight;
      four = R.four;
    }
