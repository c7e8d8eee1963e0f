-- (b): what no links led to when a round opened is not named by the living until it is freed.
use Rattle.std.proofs.Common.{◌≡◌, ℕ, ◌<◌, true, false, ◌⊎◌, List, length, get_or, Some, None, Option, sym, refl, ◌∙◌, subst, inl, inr, arith}
use Rattle.std.proofs.lemmas.Bool.Decides.{nat_tests}
use Rattle.std.proofs.lemmas.Bool.{cases_lt}
use Rattle.std.proofs.lemmas.List.{get_or_past}
use Rattle.machine.specs.declared.types.Phase.TheVariants as ph
use Rattle.machine.specs.declared.types.Stage.TheVariants.{Looked}
use Rattle.machine.specs.declared.types.Update.{Update}
use Rattle.machine.specs.declared.types.Call.{Call}
use Rattle.machine.specs.declared.types.Call.TheVariants.{Open, Settle}
use Rattle.machine.specs.Acts.{Answer}
use Rattle.machine.specs.World.{World, Name, at, used, serial_at, mark, wait, snooped, link, view, place, card, view_at, named, blank_card}
use Rattle.machine.specs.Waiting.{heap, snooped_names}
use Rattle.machine.specs.Cards.{load_done, copy_done, look_done, note_done, store_done}
use Rattle.machine.specs.Rounds.{trace_mark, trace_done, obey, leave_gather, open_done, open_call, settle_call}
use Rattle.line.specs.Lines.{Meaning}
use Rattle.machine.specs.Acts.{accepted, answer}
use Rattle.laws.specs.Leads.{leads_start, leads_link, Led, Holds}
use Rattle.laws.specs.Steps.{Step, Run, done, then, Start}
use Rattle.laws.specs.Words.{Unclosed}
use Rattle.laws.proofs.Frames.{frame, snooped_names-at, view_at_lem}
use Rattle.laws.proofs.Pushes.{push_all_tells}
use Rattle.laws.proofs.Cases.{Change, same, news, loads, copies, drops, looks, notes, stores, opens, obeys, hears, logs, gathers, leaves, sweeps, traces, eases, keeps, frees, settles, answered_by}
use Rattle.laws.proofs.Inv.{Inv, turn}
use Rattle.laws.proofs.Runs.{Lasts, changed, inv_along, inv_run}

-- no living record names a record whose serial is in D, and no such record is marked, waiting or snooped
pub record Doomed {C : Type 0} (D : ℕ → Type 0) (w : World C) : Type 0 where
  pub below : (s : ℕ) → D s → s < w.next
  pub places : (c q x s : ℕ) → place w c q ≡ Some x → used w x ≡ true → serial_at w x ≡ s → D s → ⊥
  pub marks : (x s : ℕ) → mark w x ≡ true → serial_at w x ≡ s → D s → ⊥
  pub waits : (x s : ℕ) → wait w x ≡ true → serial_at w x ≡ s → D s → ⊥
  pub snoops : (x s : ℕ) → snooped w x ≡ true → serial_at w x ≡ s → D s → ⊥
  pub links : (y i x s t : ℕ) → link w y i ≡ Some x → used w x ≡ true → serial_at w x ≡ s → serial_at w y ≡ t → D s → D t
  pub views : (y i x s t : ℕ) → view w y i ≡ Some x → used w x ≡ true → serial_at w x ≡ s → serial_at w y ≡ t → D s → D t
  pub drafts : (c : ℕ) (u : Update) (d : List Name) (i x s : ℕ) → (card w c).update ≡ Some u → u.stage ≡ Looked (Some d) → get_or d i None ≡ Some x → used w x ≡ true → serial_at w x ≡ s → D s → ⊥

abbrev draft_link : Option (List Name) → ℕ → Name
draft_link None i = None
draft_link (Some ls) i = get_or ls i None

-- what a change can have added (these stand outside: with D in scope grind cannot split on numbers under a sum)
module _ {C : Type 0} (w : World C) where
  stored_links : (c : ℕ) (u : Update) (y j x : ℕ) → link (store_done w c u (named w u.target)) y j ≡ Some x → (link w y j ≡ Some x) ⊎ (u.target ≡ Some x)
  stored_links c u y j x h = grind frame

  stored_views : (c : ℕ) (u : Update) (y j x : ℕ) → view (store_done w c u (named w u.target)) y j ≡ Some x → (view w y j ≡ Some x) ⊎ (u.target ≡ Some x)
  stored_views c u y j x h = grind frame

  stored_snoops : (c : ℕ) (u : Update) (x : ℕ) → snooped (store_done w c u (named w u.target)) x ≡ true → (snooped w x ≡ true) ⊎ ((u.target ≡ Some x) × (used w x ≡ true))
  stored_snoops c u x h = grind frame

  obeyed_waits : (c n x : ℕ) → wait (obey w c n) x ≡ true → (wait w x ≡ true) ⊎ ((used w x ≡ true) × ((i : ℕ) × (place w c i ≡ Some x)))
  obeyed_waits c n x h = elim (push_all_tells w.marked (heap w) (card w c).places x) [
    | inl e ↦ inl (grind (frame, e))
    | inr e ↦ inr (grind (frame, e.1), e.2)
  ]

  left_waits : (c x : ℕ) → wait (leave_gather (answered_by w c)) x ≡ true → (wait w x ≡ true) ⊎ (snooped w x ≡ true)
  left_waits c x h = elim (push_all_tells w.marked (heap w) (snooped_names 0 w.cells) x) [
    | inl e ↦ inl (grind (frame, e))
    | inr e ↦ let n : get_or (snooped_names 0 w.cells) e.2.0 None ≡ Some x = e.2.1 in inr (grind (frame, n, snooped_names-at 0 w.cells e.2.0))
  ]

  traced_waits : (k : ℕ) (ks : List ℕ) (x : ℕ) → wait (trace_done w k ks) x ≡ true → (wait w x ≡ true) ⊎ ((used w x ≡ true) × ((i : ℕ) × (view w k i ≡ Some x)))
  traced_waits k ks x h = elim (push_all_tells w.marked (heap (trace_mark w k ks)) (view_at w k) x) [
    | inl e ↦ inl (grind (frame, e))
    | inr e ↦ inr (grind (frame, e.1), (e.2.0, sym (view_at_lem e.2.0 (at w k)) ∙ e.2.1))
  ]

module _ {C : Type 0} (D : ℕ → Type 0) (w : World C) (m : Meaning) (I : Inv w m) (G : Doomed D w) where
  drafted : (c : ℕ) (u : Update) (d : Option (List Name)) → (card w c).update ≡ Some u → u.stage ≡ Looked d → (j x s : ℕ) → draft_link d j ≡ Some x → used w x ≡ true → serial_at w x ≡ s → D s → ⊥
  drafted c u None a b j x s e h n d = let z : ◌≡◌ {A = ℕ} 0 1 = cc in omega arith
  drafted c u (Some l) a b j x s e h n d = G.drafts c u l j x s a b e h n d

  -- the target of an update is in a place
  aimed : (c : ℕ) (u : Update) → (card w c).update ≡ Some u → (x s : ℕ) → u.target ≡ Some x → used w x ≡ true → serial_at w x ≡ s → D s → ⊥
  aimed c u a x s e h n d = let P = I.names.target c u x a e in G.places c P.0 x s P.1 h n d

  kept : {v : World C} → Change w v → Doomed D v
  kept same = G
  kept (news c p z k ks a b i f) =
      let F : used w k ≡ false = (I.lists.free_is k (rw f (inl refl))).1 in
      record {
        below = λ s d. omega (arith, G.below s d);
        places = λ e q x s h u n d. grind (frame, F, G.below s d, G.places e q x s, I.names.places e q x);
        marks = λ x s h n d. grind (frame, F, G.below s d, G.marks x s);
        waits = λ x s h n d. grind (frame, F, G.below s d, G.waits x s);
        snoops = λ x s h n d. grind (frame, F, G.below s d, G.snoops x s);
        links = λ y j x s t h u n o d. grind (frame, F, G.below s d, G.links y j x s t);
        views = λ y j x s t h u n o d. grind (frame, F, G.below s d, G.views y j x s t);
        drafts = λ e u l j x s h g n o q d. grind (frame, F, G.below s d, G.drafts e u l j x s);
      }
  kept (loads c p y i q a b d e f g) =
      let L : (r t x : ℕ) → place (load_done w c y i q) r t ≡ Some x → (place w r t ≡ Some x) ⊎ (link w y i ≡ Some x) = λ r t x h. grind frame in
      record {
        below = G.below;
        places = λ r t x s h u n k. elim (L r t x h) [
          | inl o ↦ G.places r t x s o u n k
          | inr o ↦ G.places c p y (serial_at w y) f g refl (G.links y i x s (serial_at w y) o u n refl k)
        ];
        marks = G.marks;
        waits = G.waits;
        snoops = G.snoops;
        links = G.links;
        views = G.views;
        drafts = λ r u l j x s h. G.drafts r u l j x s (grind frame);
      }
  kept (copies c p q a b d) =
      let L : (r t x : ℕ) → place (copy_done w c p q) r t ≡ Some x → (place w r t ≡ Some x) ⊎ (place w c p ≡ Some x) = λ r t x h. grind frame in
      record {
        below = G.below;
        places = λ r t x s h u n k. elim (L r t x h) [ inl o ↦ G.places r t x s o u n k | inr o ↦ G.places c p x s o u n k ];
        marks = G.marks;
        waits = G.waits;
        snoops = G.snoops;
        links = G.links;
        views = G.views;
        drafts = λ r u l j x s h. G.drafts r u l j x s (grind frame);
      }
  kept (drops c p a b d) = record {
    below = G.below;
    places = λ r t x s h. G.places r t x s (grind frame);
    marks = G.marks;
    waits = G.waits;
    snoops = G.snoops;
    links = G.links;
    views = G.views;
    drafts = λ r u l j x s h. G.drafts r u l j x s (grind frame);
  }
  kept (looks c p y i q a b d e f) =
      let L : (r : ℕ) (u : Update) (l : List Name) (j x : ℕ) → (card (look_done w c y i q) r).update ≡ Some u → u.stage ≡ Looked (Some l) → get_or l j None ≡ Some x → ((card w r).update ≡ Some u) ⊎ (link w y j ≡ Some x) = λ r u l j x h k n. grind frame in
      record {
        below = G.below;
        places = λ r t x s h. G.places r t x s (grind frame);
        marks = G.marks;
        waits = G.waits;
        snoops = G.snoops;
        links = G.links;
        views = G.views;
        drafts = λ r u l j x s h k n o g D. elim (L r u l j x h k n) [
          | inl z ↦ G.drafts r u l j x s z k n o g D
          | inr z ↦ G.places c p y (serial_at w y) e f refl (G.links y j x s (serial_at w y) z o g refl D)
        ];
      }
  kept (notes c u d a b e) =
      let v = note_done w c u d in
      let S : (x : ℕ) → serial_at v x ≡ serial_at w x = λ x. grind frame in
      let U : (x : ℕ) → used v x ≡ used w x = λ x. grind frame in
      let V : (y j x : ℕ) → view v y j ≡ Some x → (view w y j ≡ Some x) ⊎ (draft_link d j ≡ Some x) = λ y j x h. grind frame in
      record {
        below = G.below;
        places = λ r t x s h k n. G.places r t x s (grind frame) (sym (U x) ∙ k) (sym (S x) ∙ n);
        marks = λ x s h n. G.marks x s (grind frame) (sym (S x) ∙ n);
        waits = λ x s h n. G.waits x s (grind frame) (sym (S x) ∙ n);
        snoops = λ x s h n. G.snoops x s (grind frame) (sym (S x) ∙ n);
        links = λ y j x s t h k n o. G.links y j x s t (grind frame) (sym (U x) ∙ k) (sym (S x) ∙ n) (sym (S y) ∙ o);
        views = λ y j x s t h k n o D. elim (V y j x h) [
          | inl z ↦ G.views y j x s t z (sym (U x) ∙ k) (sym (S x) ∙ n) (sym (S y) ∙ o) D
          | inr z ↦ absurd (drafted c u d b e j x s z (sym (U x) ∙ k) (sym (S x) ∙ n) D)
        ];
        drafts = λ r z l j x s h k n o g. G.drafts r z l j x s (grind frame) k n (sym (U x) ∙ o) (sym (S x) ∙ g);
      }
  kept (stores c u a b d) =
      let v = store_done w c u (named w u.target) in
      let S : (x : ℕ) → serial_at v x ≡ serial_at w x = λ x. grind frame in
      let U : (x : ℕ) → used v x ≡ used w x = λ x. grind frame in
      let K = stored_links w c u in
      let V = stored_views w c u in
      let N = stored_snoops w c u in
      record {
        below = λ s k. grind (arith, G.below s k);
        places = λ r t x s h k n. G.places r t x s (grind frame) (sym (U x) ∙ k) (sym (S x) ∙ n);
        marks = λ x s h n. G.marks x s (grind frame) (sym (S x) ∙ n);
        waits = λ x s h n. G.waits x s (grind frame) (sym (S x) ∙ n);
        snoops = λ x s h n k. elim (N x h) [ inl z ↦ G.snoops x s z (sym (S x) ∙ n) k | inr z ↦ aimed c u b x s z.0 z.1 (sym (S x) ∙ n) k ];
        links = λ y j x s t h k n o D. elim (K y j x h) [
          | inl z ↦ G.links y j x s t z (sym (U x) ∙ k) (sym (S x) ∙ n) (sym (S y) ∙ o) D
          | inr z ↦ absurd (aimed c u b x s z (sym (U x) ∙ k) (sym (S x) ∙ n) D)
        ];
        views = λ y j x s t h k n o D. elim (V y j x h) [
          | inl z ↦ G.views y j x s t z (sym (U x) ∙ k) (sym (S x) ∙ n) (sym (S y) ∙ o) D
          | inr z ↦ absurd (aimed c u b x s z (sym (U x) ∙ k) (sym (S x) ∙ n) D)
        ];
        drafts = λ r z l j x s h k n o g. G.drafts r z l j x s (grind frame) k n (sym (U x) ∙ o) (sym (S x) ∙ g);
      }
  kept (opens a) =
      let M : (x s : ℕ) → used w x ≡ true → serial_at w x ≡ s → D s → ⊥ = λ x s u n d. G.marks x s (I.phases.rest a x u) n d in
      record {
        below = G.below;
        places = G.places;
        marks = λ x s h n d. M x s (grind arith) n d;
        waits = G.waits;
        snoops = G.snoops;
        links = λ y j x s t h u n o d. absurd (M x s u n d);
        views = λ y j x s t h u n o d. absurd (M x s u n d);
        drafts = G.drafts;
      }
  kept (obeys c n a b d e) =
      let T = push_all_tells w.marked (heap w) (card w c).places in
      let Q : (x : ℕ) → wait (obey w c n) x ≡ true → (wait w x ≡ true) ⊎ ((used w x ≡ true) × ((i : ℕ) × (place w c i ≡ Some x))) = obeyed_waits w c n in
      record {
        below = G.below;
        places = λ r t x s h k n. G.places r t x s (grind frame) (grind (frame, T x)) (grind (frame, T x));
        marks = λ x s h n. G.marks x s (grind (frame, T x)) (grind (frame, T x));
        waits = λ x s h n k. elim (Q x h) [ inl z ↦ G.waits x s z (grind (frame, T x)) k | inr z ↦ G.places c z.1.0 x s z.1.1 z.0 (grind (frame, T x)) k ];
        snoops = λ x s h n. G.snoops x s (grind (frame, T x)) (grind (frame, T x));
        links = λ y j x s t h k n o. G.links y j x s t (grind (frame, T y)) (grind (frame, T x)) (grind (frame, T x)) (grind (frame, T y));
        views = λ y j x s t h k n o. G.views y j x s t (grind (frame, T y)) (grind (frame, T x)) (grind (frame, T x)) (grind (frame, T y));
        drafts = λ r z l j x s h k n o g. G.drafts r z l j x s (grind frame) k n (grind (frame, T x)) (grind (frame, T x));
      }
  kept (hears c a b d e) = record { below = G.below; places = G.places; marks = G.marks; waits = G.waits; snoops = G.snoops; links = G.links; views = G.views; drafts = G.drafts }
  kept (logs c a b d e) = record { below = G.below; places = G.places; marks = G.marks; waits = G.waits; snoops = G.snoops; links = G.links; views = G.views; drafts = G.drafts }
  kept (gathers c a b d e) = record { below = G.below; places = G.places; marks = G.marks; waits = G.waits; snoops = G.snoops; links = G.links; views = G.views; drafts = G.drafts }
  kept (leaves c a b d e) =
      let T = push_all_tells w.marked (heap w) (snooped_names 0 w.cells) in
      let Q : (x : ℕ) → wait (leave_gather (answered_by w c)) x ≡ true → (wait w x ≡ true) ⊎ (snooped w x ≡ true) = left_waits w c in
      record {
        below = G.below;
        places = λ r t x s h k n. G.places r t x s (grind frame) (grind (frame, T x)) (grind (frame, T x));
        marks = λ x s h n. G.marks x s (grind (frame, T x)) (grind (frame, T x));
        waits = λ x s h n k. elim (Q x h) [ inl z ↦ G.waits x s z (grind (frame, T x)) k | inr z ↦ G.snoops x s z (grind (frame, T x)) k ];
        snoops = λ x s h n. grind (frame, T x);
        links = λ y j x s t h k n o. G.links y j x s t (grind (frame, T y)) (grind (frame, T x)) (grind (frame, T x)) (grind (frame, T y));
        views = λ y j x s t h k n o. G.views y j x s t (grind (frame, T y)) (grind (frame, T x)) (grind (frame, T x)) (grind (frame, T y));
        drafts = λ r z l j x s h k n o g. G.drafts r z l j x s (grind frame) k n (grind (frame, T x)) (grind (frame, T x));
      }
  kept (sweeps c a b d e) = record { below = G.below; places = G.places; marks = G.marks; waits = G.waits; snoops = G.snoops; links = G.links; views = G.views; drafts = G.drafts }
  kept (traces k ks a b) =
      let K : wait w k ≡ true = I.lists.queue.queued k (rw b (inl refl)) in
      let T = push_all_tells w.marked (heap (trace_mark w k ks)) (view_at w k) in
      let M : (x : ℕ) → mark (trace_done w k ks) x ≡ true → (mark w x ≡ true) ⊎ (x ≡ k) = λ x h. grind (frame, T x) in
      let Q = traced_waits w k ks in
      record {
        below = G.below;
        places = λ r t x s h k n. G.places r t x s h (grind (frame, T x)) (grind (frame, T x));
        marks = λ x s h n o. elim (M x h) [ inl z ↦ G.marks x s z (grind (frame, T x)) o | inr z ↦ G.waits x s (rw z K) (grind (frame, T x)) o ];
        waits = λ x s h n o. elim (Q x h) [
          | inl z ↦ G.waits x s z (grind (frame, T x)) o
          | inr z ↦ G.waits k (serial_at w k) K refl (G.views k z.1.0 x s (serial_at w k) z.1.1 z.0 (grind (frame, T x)) refl o)
        ];
        snoops = λ x s h n. G.snoops x s (grind (frame, T x)) (grind (frame, T x));
        links = λ y j x s t h k n o. G.links y j x s t (grind (frame, T y)) (grind (frame, T x)) (grind (frame, T x)) (grind (frame, T y));
        views = λ y j x s t h k n o. G.views y j x s t (grind (frame, T y)) (grind (frame, T x)) (grind (frame, T x)) (grind (frame, T y));
        drafts = λ r z l j x s h k n o g. G.drafts r z l j x s h k n (grind (frame, T x)) (grind (frame, T x));
      }
  kept (eases a b) = record { below = G.below; places = G.places; marks = G.marks; waits = G.waits; snoops = G.snoops; links = G.links; views = G.views; drafts = G.drafts }
  kept (keeps a b) = record { below = G.below; places = G.places; marks = G.marks; waits = G.waits; snoops = G.snoops; links = G.links; views = G.views; drafts = G.drafts }
  kept (frees a b d e) = record {
    below = G.below;
    places = λ r t x s h k n. G.places r t x s h (grind frame) (grind frame);
    marks = λ x s h n. G.marks x s (grind frame) (grind frame);
    waits = λ x s h n. G.waits x s (grind frame) (grind frame);
    snoops = λ x s h n. G.snoops x s (grind frame) (grind frame);
    links = λ y j x s t h k n o. G.links y j x s t (grind frame) (grind frame) (grind frame) (grind frame);
    views = λ y j x s t h k n o. G.views y j x s t (grind frame) (grind frame) (grind frame) (grind frame);
    drafts = λ r z l j x s h k n o g. G.drafts r z l j x s h k n (grind frame) (grind frame);
  }
  kept (settles a) = record {
    below = G.below;
    places = λ r t x s h k n. G.places r t x s h (grind frame) (grind frame);
    marks = λ x s h n. G.marks x s (grind frame) (grind frame);
    waits = λ x s h n. G.waits x s (grind frame) (grind frame);
    snoops = λ x s h n. G.snoops x s (grind frame) (grind frame);
    links = λ y j x s t h k n o. G.links y j x s t (grind frame) (grind frame) (grind frame) (grind frame);
    views = λ y j x s t h k n o. G.links y j x s t (grind frame) (grind frame) (grind frame) (grind frame);
    drafts = λ r z l j x s h k n o g. G.drafts r z l j x s h k n (grind frame) (grind frame);
  }

-- the serials to which no links lead
abbrev pub Unled : {C : Type 0} → World C → ℕ → Type 0
Unled w s = (x : ℕ) × (Holds w x s) × (Led w x → ⊥)

module _ {C : Type 0} (w : World C) (m : Meaning) (I : Inv w m) (p : w.phase ≡ ph.Rest) where
  -- at rest no card logs, so there are no drafts
  no_draft : (c : ℕ) (u : Update) (d : List Name) → (card w c).update ≡ Some u → u.stage ≡ Looked (Some d) → ⊥
  no_draft c u d a b =
      let h : c < length w.cards = grind (nat_tests, arith, get_or_past w.cards c blank_card, cases_lt c (length w.cards)) in
      let k : turn w c ≡ 0 = grind (arith, I.handshake.order, I.handshake.lasts c h) in
      grind (nat_tests, arith, k, I.updates.draft c u d a b, I.switches.logging c h)

  the_one : (x s : ℕ) → used w x ≡ true → serial_at w x ≡ s → (d : Unled w s) → x ≡ d.0
  the_one x s u n d = I.lists.apart x d.0 u d.1.0 (n ∙ sym d.1.1)

  unled : (x s : ℕ) → used w x ≡ true → serial_at w x ≡ s → Unled w s → Led w x → ⊥
  unled x s u n d l = d.2 (subst (Led w) (the_one x s u n d) l)

  turned : (x : ℕ) → mark (open_done w) x ≡ true → ⊥
  turned x h = grind (arith, I.phases.rest p x)

  backward : (y j x s t : ℕ) → link w y j ≡ Some x → used w x ≡ true → serial_at w x ≡ s → serial_at w y ≡ t → Unled w s → Unled w t
  backward y j x s t h u n o d = (y, (grind arith, o), λ l. unled x s u n d (leads_link y j x l h u))

  pub opened : Doomed (Unled w) (open_done w)
  opened = record {
    below = λ s d. omega (arith, I.lists.below d.0 d.1.0, d.1.1);
    places = λ c q x s h u n d. unled x s u n d (leads_start x (c, q, h) u);
    marks = λ x s h n d. turned x h;
    waits = λ x s h n d. grind (arith, p, I.phases.waits);
    snoops = λ x s h n d. grind (arith, p, I.phases.snoops);
    links = backward;
    views = λ y j x s t h. backward y j x s t (grind (arith, I.phases.logs (inl p) y));
    drafts = λ c u l j x s h k n o g d. no_draft c u l h k;
  }

-- an open that was accepted
pub opens_at_rest : {C : Type 0} (w : World C) → accepted {C = C} (answer (open_call w).0) ≡ true → w.phase ≡ ph.Rest
opens_at_rest w h = grind (nat_tests, arith)

pub opens_so : {C : Type 0} (w : World C) → accepted {C = C} (answer (open_call w).0) ≡ true → (open_call w).1 ≡ open_done w
opens_so w h = grind (nat_tests, arith)

pub settles_at : {C : Type 0} (w : World C) → accepted {C = C} (answer (settle_call w).0) ≡ true → w.phase ≡ ph.Settle
settles_at w h = grind (nat_tests, arith)

module _ {C : Type 0} (L : Lasts C) where
  doomed_along : (D : ℕ → Type 0) {w v : World C} {m l : Meaning} {ks : List (Call C)} {rs : List (Answer C)} → Inv w m → Doomed D w → Run w m ks rs v l → Doomed D v
  doomed_along D I G done = G
  doomed_along D {w} {v} {m} I G (then s r) = doomed_along D (L.step I s) (kept D w m I G (changed I s)) r

  -- (b)
  pub live :
      (w₀ w w' u v : World C) (m₀ m m' l n : Meaning) (ks ks' : List (Call C)) (rs rs' : List (Answer C)) (a b : Answer C) →
      Start w₀ m₀ → Run w₀ m₀ ks rs w m →
      Step w m Open a w' m' → accepted a ≡ true →
      Run w' m' ks' rs' u l → Unclosed ks' rs' →
      Step u l Settle b v n → accepted b ≡ true →
      (x s : ℕ) → Holds w x s → (Led w x → ⊥) →
      (y : ℕ) → Holds u y s → ⊥
  live w₀ w w' u v m₀ m m' l n ks ks' rs rs' a b S r o oa r' U t ta x s h nl y hy =
      let I : Inv w m = inv_run L S r in
      let A : accepted {C = C} (answer (open_call w).0) ≡ true = subst (λ z. accepted z ≡ true) o.answers oa in
      let B : accepted {C = C} (answer (settle_call u).0) ≡ true = subst (λ z. accepted z ≡ true) t.answers ta in
      let E : w' ≡ open_done w = o.leaves ∙ opens_so w A in
      let G : Doomed (Unled w) w' = subst (Doomed (Unled w)) (sym E) (opened w m I (opens_at_rest w A)) in
      let J : Inv w' m' = L.step I o in
      let K : Inv u l = inv_along L J r' in
      (doomed_along (Unled w) J G r').marks y s (K.phases.settle (settles_at u B) y hy.0) hy.1 (x, h, nl)
