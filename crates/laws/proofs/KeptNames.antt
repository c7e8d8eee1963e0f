-- Names are kept by every change: no place, update in hand, link, log or draft comes to name a free cell.
use Rattle.std.proofs.Common.{◌≡◌, ℕ, zero, suc, ◌+◌, ◌<◌, ◌≤◌, true, false, ◌||◌, eqb, ◌⊎◌, List, length, get_or, Some, None, Option, refl, inl, inr, arith}
use Rattle.std.proofs.lemmas.Bool.Decides.{nat_tests}
use Rattle.std.proofs.lemmas.Bool.{cases_eq, cases_lt, false≢true}
use Rattle.std.proofs.lemmas.List.{get_or_past}
use Rattle.machine.specs.declared.types.Phase.TheVariants as ph
use Rattle.machine.specs.declared.types.Stage.TheVariants.{Looked}
use Rattle.machine.specs.declared.types.Update.{Update}
use Rattle.machine.specs.World.{World, Name, used, mark, wait, link, view, place, card, view_at, named, blank_card, empty_links, read_all, links_at}
use Rattle.machine.specs.Waiting.{heap, snooped_names}
use Rattle.machine.specs.Cards.{new_done, put_place, look_done, note_done, store_done, noted, looked}
use Rattle.machine.specs.Rounds.{trace_mark, obey, sweep_free, ordering}
use Rattle.line.specs.Lines.{Meaning}
use Rattle.laws.specs.Steps.{Start}
use Rattle.laws.proofs.Frames.{frame}
use Rattle.laws.proofs.Pushes.{push_all_tells}
use Rattle.laws.proofs.Cases.{Change, same, news, loads, copies, drops, looks, notes, stores, opens, obeys, hears, logs, gathers, leaves, sweeps, traces, eases, keeps, frees, settles}
use Rattle.laws.proofs.Inv.{Inv, Names, Grey, grey_wait, grey_snoop, grey_next, Covered, gathered, turn, early, marking, logging, offset}

pub none_empty : (i : ℕ) → get_or empty_links i None ≡ None
none_empty zero = refl
none_empty (suc zero) = refl
none_empty (suc (suc zero)) = refl
none_empty (suc (suc (suc zero))) = refl
none_empty (suc (suc (suc (suc i)))) = refl

module _ {C : Type 0} (w : World C) (m : Meaning) (I : Inv w m) where
  -- where nothing waits and nothing is snooped, what is covered is marked
  pub no_grey : marking w.phase ≡ false → early w.phase ≡ false → {x : ℕ} → Grey w x → ⊥
  no_grey a b (grey_wait x e k) = grind (arith, I.phases.waits a x)
  no_grey a b (grey_snoop x e k) = grind (arith, I.phases.snoops b x)
  no_grey a b (grey_next y i x g e u k) = no_grey a b g

  pub covered_marked : marking w.phase ≡ false → early w.phase ≡ false → (x : ℕ) → Covered w x → mark w x ≡ true
  covered_marked a b x (inl k) = k
  covered_marked a b x (inr g) = absurd (no_grey a b g)

  -- a place that holds something, and an update in hand, are a card's
  pub place_inside : (c q x : ℕ) → place w c q ≡ Some x → c < length w.cards
  place_inside c q x e = grind (nat_tests, arith, get_or_past w.cards c blank_card, cases_lt c (length w.cards))

  pub hand_inside : (c : ℕ) (u : Update) → (card w c).update ≡ Some u → c < length w.cards
  hand_inside c u e = grind (nat_tests, arith, get_or_past w.cards c blank_card, cases_lt c (length w.cards))

  -- Sweep: every place names a marked record, and so does every marked record's link
  pub placed_marked : w.phase ≡ ph.Sweep → (c q x : ℕ) → place w c q ≡ Some x → mark w x ≡ true
  placed_marked p c q x e =
      let h = place_inside c q x e in
      let g : gathered w c ≡ true = grind (nat_tests, arith, I.handshake.order, I.handshake.lasts c h) in
      covered_marked (grind (arith, p)) (grind (arith, p)) x (I.coverage.places (grind (arith, p)) c q x g e)

  pub linked_marked : w.phase ≡ ph.Sweep → (y i x : ℕ) → mark w y ≡ true → link w y i ≡ Some x → mark w x ≡ true
  linked_marked p y i x k e = covered_marked (grind (arith, p)) (grind (arith, p)) x (I.coverage.marked (grind (arith, p)) y i x k e)

  -- an update in hand is of a record
  pub hand_used : (c : ℕ) (u : Update) → (card w c).update ≡ Some u → used w u.cell ≡ true
  hand_used c u e = let p = I.names.update c u e in I.names.places c p.0 u.cell p.1

  pub linked_used : (y i x : ℕ) → link w y i ≡ Some x → used w y ≡ true
  linked_used y i x e = grind arith

  pub used_inside : (y : ℕ) → used w y ≡ true → y < length w.cells
  used_inside y e = grind (nat_tests, arith, get_or_past w.cells y None, cases_lt y (length w.cells))

  -- ---- places

  places_kept : {v : World C} → Change w v → (c q x : ℕ) → place v c q ≡ Some x → used v x ≡ true
  places_kept same d r z e = I.names.places d r z e
  places_kept (news c p x k ks a b i f) d r z e = grind (frame, I.names.places d r z, I.lists.free_is k)
  places_kept (loads c p y i q a b h e f g) d r z k = grind (frame, I.names.places d r z)
  places_kept (copies c p q a b h) d r z e = grind (frame, I.names.places d r z)
  places_kept (drops c p a b h) d r z e = grind (frame, I.names.places d r z)
  places_kept (looks c p y i q a b h e f) d r z k = grind (frame, I.names.places d r z)
  places_kept (notes c u d a b e) x r z k = grind (frame, I.names.places x r z)
  places_kept (stores c u a b e) d r z k = grind (frame, I.names.places d r z)
  places_kept (opens a) d r z e = I.names.places d r z e
  places_kept (obeys c n a b h e) d r z k = let T = push_all_tells w.marked (heap w) (card w c).places z in grind (frame, T, I.names.places d r z)
  places_kept (hears c a b h e) d r z k = I.names.places d r z k
  places_kept (logs c a b h e) d r z k = I.names.places d r z k
  places_kept (gathers c a b h e) d r z k = I.names.places d r z k
  places_kept (leaves c a b h e) d r z k = let T = push_all_tells w.marked (heap w) (snooped_names 0 w.cells) z in grind (frame, T, I.names.places d r z)
  places_kept (sweeps c a b h e) d r z k = I.names.places d r z k
  places_kept (traces k ks a b) d r z e = let T = push_all_tells w.marked (heap (trace_mark w k ks)) (view_at w k) z in grind (frame, T, I.names.places d r z)
  places_kept (eases a b) d r z e = I.names.places d r z e
  places_kept (keeps a b) d r z e = I.names.places d r z e
  places_kept (frees a b h e) d r z k = grind (frame, I.names.places d r z k, placed_marked a d r z k)
  places_kept (settles a) d r z e = grind (frame, I.names.places d r z e)

  -- ---- updates in hand

  -- the update u of card d was in hand before, over the same places
  abbrev pub Held : World C → ℕ → Update → Type 0
  Held v d u = ((card w d).update ≡ Some u) × ((card v d).places ≡ (card w d).places)

  -- what Names says of the update u of card d
  abbrev Fits : World C → ℕ → Update → Type 0
  Fits v d u = ((q : ℕ) × (place v d q ≡ Some u.cell)) × ((x : ℕ) → u.target ≡ Some x → (q : ℕ) × (place v d q ≡ Some x)) × (u.link ≤ 3)

  held_fits : (v : World C) (d : ℕ) (u : Update) → Held v d u → Fits v d u
  held_fits v d u (e, p) =
      let k = I.names.update d u e in
      ((k.0, rw p k.1), (λ x t. let n = I.names.target d u x e t in (n.0, rw p n.1)), I.names.bound d u e)

  fits : (d : ℕ) (u : Update) → (card w d).update ≡ Some u → Fits w d u
  fits d u e = held_fits w d u (e, refl)

  pub news_held : (c p : ℕ) (x : C) (k : ℕ) (ks : List ℕ) → (card w c).update ≡ None → (d : ℕ) (u : Update) → (card (new_done w c p x k ks) d).update ≡ Some u → Held (new_done w c p x k ks) d u
  news_held c p x k ks i d u e = (grind frame, grind frame)

  pub put_held : (c p : ℕ) (t : Name) → (card w c).update ≡ None → (d : ℕ) (u : Update) → (card (put_place w c p t) d).update ≡ Some u → Held (put_place w c p t) d u
  put_held c p t i d u e = (grind frame, grind frame)

  pub store_held : (c : ℕ) (u : Update) (t : Name) → (d : ℕ) (z : Update) → (card (store_done w c u t) d).update ≡ Some z → Held (store_done w c u t) d z
  store_held c u t d z e = (grind frame, grind frame)

  pub obey_held : (c n : ℕ) → (d : ℕ) (u : Update) → (card (obey w c n) d).update ≡ Some u → Held (obey w c n) d u
  obey_held c n d u e = (grind frame, grind frame)

  -- a look brings a new one in hand, and a note moves one on
  pub look_hand : (c y i q d : ℕ) (u : Update) → c < length w.cards → (card (look_done w c y i q) d).update ≡ Some u → (Held (look_done w c y i q) d u × (d ≡ c → ⊥)) ⊎ ((d ≡ c) × (u ≡ looked w c y i q) × ((card (look_done w c y i q) d).places ≡ (card w d).places))
  look_hand c y i q d u a e = elim (cases_eq d c) [ inl k ↦ inr (k, grind frame, grind frame) | inr k ↦ inl ((grind frame, grind frame), k) ]

  pub note_hand : (c : ℕ) (u : Update) (s : Option (List Name)) (d : ℕ) (z : Update) → c < length w.cards → (card (note_done w c u s) d).update ≡ Some z → (Held (note_done w c u s) d z × (d ≡ c → ⊥)) ⊎ ((d ≡ c) × (z ≡ noted u) × ((card (note_done w c u s) d).places ≡ (card w d).places))
  note_hand c u s d z a e = elim (cases_eq d c) [ inl k ↦ inr (k, grind frame, grind frame) | inr k ↦ inl ((grind frame, grind frame), k) ]

  look_fits : (c p y i q : ℕ) → c < length w.cards → i ≤ 3 → place w c p ≡ Some y → (d : ℕ) (u : Update) → (card (look_done w c y i q) d).update ≡ Some u → Fits (look_done w c y i q) d u
  look_fits c p y i q a b t d u e =
      elim (look_hand c y i q d u a e) [
        | inl h ↦ held_fits (look_done w c y i q) d u h.0
        | inr h ↦ ((p, grind (arith, h, t)), (λ x k. (q, grind (arith, h, k))), grind (arith, h, b))
      ]

  note_fits : (c : ℕ) (u : Update) (s : Option (List Name)) → c < length w.cards → (card w c).update ≡ Some u → (d : ℕ) (z : Update) → (card (note_done w c u s) d).update ≡ Some z → Fits (note_done w c u s) d z
  note_fits c u s a k d z e =
      elim (note_hand c u s d z a e) [
        | inl h ↦ held_fits (note_done w c u s) d z h.0
        | inr h ↦ let n = fits c u k in ((n.0.0, grind (arith, h, n.0.1)), (λ x t. let r = n.1 x (grind (arith, h, t)) in (r.0, grind (arith, h, r.1))), grind (arith, h, n.2))
      ]

  fits_kept : {v : World C} → Change w v → (d : ℕ) (u : Update) → (card v d).update ≡ Some u → Fits v d u
  fits_kept same r z k = fits r z k
  fits_kept (news c p x h ks a b i f) r z k = held_fits (new_done w c p x h ks) r z (news_held c p x h ks i r z k)
  fits_kept (loads c p y i q a b d e f g) r z k = let t = named w (link w y i) in held_fits (put_place w c q t) r z (put_held c q t e r z k)
  fits_kept (copies c p q a b d) r z k = let t = named w (place w c p) in held_fits (put_place w c q t) r z (put_held c q t d r z k)
  fits_kept (drops c p a b d) r z k = held_fits (put_place w c p None) r z (put_held c p None d r z k)
  fits_kept (looks c p y i q a b d e f) r z k = look_fits c p y i q a b e r z k
  fits_kept (notes c u d a b e) r z k = note_fits c u d a b r z k
  fits_kept (stores c u a b e) r z k = let t = named w u.target in held_fits (store_done w c u t) r z (store_held c u t r z k)
  fits_kept (opens a) r z k = fits r z k
  fits_kept (obeys c n a b d e) r z k = held_fits (obey w c n) r z (obey_held c n r z k)
  fits_kept (hears c a b d e) r z k = fits r z k
  fits_kept (logs c a b d e) r z k = fits r z k
  fits_kept (gathers c a b d e) r z k = fits r z k
  fits_kept (leaves c a b d e) r z k = fits r z k
  fits_kept (sweeps c a b d e) r z k = fits r z k
  fits_kept (traces h ks a b) r z k = fits r z k
  fits_kept (eases a b) r z k = fits r z k
  fits_kept (keeps a b) r z k = fits r z k
  fits_kept (frees a b d e) r z k = fits r z k
  fits_kept (settles a) r z k = fits r z k

  -- ---- links, views and drafts

  -- the last sweep: every record is marked or is the one swept, and what a marked record's link names is marked
  swept_all : w.phase ≡ ph.Sweep → length w.cells ≤ w.sweep + 1 → (y : ℕ) → used w y ≡ true → (y ≡ w.sweep) ⊎ (mark w y ≡ true)
  swept_all p h y u = elim (cases_eq y w.sweep) [ inl e ↦ inl e | inr n ↦ inr (I.phases.swept p y (omega (arith, used_inside y u)) u) ]

  keep_link : w.phase ≡ ph.Sweep → length w.cells ≤ w.sweep + 1 → (used w w.sweep ≡ true → (mark w w.sweep || wait w w.sweep) ≡ true) → (y i x : ℕ) → link w y i ≡ Some x → used w x ≡ true
  keep_link p h k y i x e =
      let u = linked_used y i x e in
      let n : wait w w.sweep ≡ false = I.phases.waits (grind (arith, p)) w.sweep in
      let b : mark w y ≡ true = grind (arith, swept_all p h y u, k, n) in
      grind (arith, linked_marked p y i x b e)

  free_link : w.phase ≡ ph.Sweep → length w.cells ≤ w.sweep + 1 → mark w w.sweep ≡ false → (y i x : ℕ) → link (sweep_free w) y i ≡ Some x → used (sweep_free w) x ≡ true
  free_link p h k y i x e =
      let f : (link w y i ≡ Some x) × (y ≡ w.sweep → ⊥) = (grind frame, grind frame) in
      let u = linked_used y i x f.0 in
      let b : mark w y ≡ true = grind (arith, swept_all p h y u, f.1) in
      grind (frame, linked_marked p y i x b f.0)

  links_kept : {v : World C} → Change w v → (v.phase ≡ ph.Sweep → ⊥) → (y i x : ℕ) → link v y i ≡ Some x → used v x ≡ true
  links_kept same n y j z e = I.names.links n y j z e
  links_kept (news c p x k ks a b i f) n y j z e = grind (frame, none_empty j, I.names.links n y j z, I.lists.free_is k)
  links_kept (loads c p y i q a b d e f g) n t j z k = I.names.links n t j z k
  links_kept (copies c p q a b d) n y j z e = I.names.links n y j z e
  links_kept (drops c p a b d) n y j z e = I.names.links n y j z e
  links_kept (looks c p y i q a b d e f) n t j z k = I.names.links n t j z k
  links_kept (notes c u d a b e) n y j z k = grind (frame, I.names.links n y j z)
  links_kept (stores c u a b e) n y j z k = grind (frame, I.names.links n y j z)
  links_kept (opens a) n y j z e = I.names.links (grind (arith, a)) y j z e
  links_kept (obeys c k a b d e) n y j z l = let T = push_all_tells w.marked (heap w) (card w c).places in grind (frame, T y, T z, I.names.links n y j z)
  links_kept (hears c a b d e) n y j z k = I.names.links n y j z k
  links_kept (logs c a b d e) n y j z k = I.names.links (grind (arith, b)) y j z k
  links_kept (gathers c a b d e) n y j z k = I.names.links (grind (arith, b)) y j z k
  links_kept (leaves c a b d e) n y j z k = let T = push_all_tells w.marked (heap w) (snooped_names 0 w.cells) in let N : w.phase ≡ ph.Sweep → ⊥ = λ s. grind (arith, b) in grind (frame, T y, T z, I.names.links N y j z)
  links_kept (sweeps c a b d e) n y j z k = absurd (n refl)
  links_kept (traces k ks a b) n y j z e = let T = push_all_tells w.marked (heap (trace_mark w k ks)) (view_at w k) in grind (frame, T y, T z, I.names.links n y j z)
  links_kept (eases a b) n y j z e = I.names.links (grind (arith, a)) y j z e
  links_kept (keeps a b) n y j z e = keep_link a (grind (nat_tests, arith, n)) b y j z e
  links_kept (frees a b d e) n y j z k = free_link a (grind (nat_tests, arith, n)) d y j z k
  links_kept (settles a) n y j z e = let N : w.phase ≡ ph.Sweep → ⊥ = λ s. grind (arith, a) in grind (frame, I.names.links N y j z)

  -- a log written by note is the draft of the update in hand
  note_view : (c : ℕ) (u : Update) (s : Option (List Name)) → (card w c).update ≡ Some u → u.stage ≡ Looked s → logging w.phase ≡ true → (y j z : ℕ) → view (note_done w c u s) y j ≡ Some z → used w z ≡ true
  note_view c u None b e n y j z k = I.names.views n y j z (grind frame)
  note_view c u (Some l) b e n y j z k = grind (frame, I.names.views n y j z, I.names.drafts n c u l j z b e)

  store_view : (c : ℕ) (u : Update) (t : Name) (y j z : ℕ) → view (store_done w c u t) y j ≡ Some z → (view w y j ≡ Some z) ⊎ (t ≡ Some z)
  store_view c u t y j z k = grind frame

  views_kept : {v : World C} → Change w v → logging v.phase ≡ true → (y i x : ℕ) → view v y i ≡ Some x → used v x ≡ true
  views_kept same n y j z e = I.names.views n y j z e
  views_kept (news c p x k ks a b i f) n y j z e = grind (frame, none_empty j, I.names.views n y j z, I.lists.free_is k)
  views_kept (loads c p y i q a b d e f g) n t j z k = I.names.views n t j z k
  views_kept (copies c p q a b d) n y j z e = I.names.views n y j z e
  views_kept (drops c p a b d) n y j z e = I.names.views n y j z e
  views_kept (looks c p y i q a b d e f) n t j z k = I.names.views n t j z k
  views_kept (notes c u d a b e) n y j z k = let U = note_view c u d b e n y j z k in grind (frame, U)
  views_kept (stores c u a b e) n y j z k = let U : used w z ≡ true = elim (store_view c u (named w u.target) y j z k) [ inl h ↦ I.names.views n y j z h | inr h ↦ grind (arith, h) ] in grind (frame, U)
  views_kept (opens a) n y j z e = absurd (false≢true n)
  views_kept (obeys c k a b d e) n y j z l = let T = push_all_tells w.marked (heap w) (card w c).places in grind (frame, T y, T z, I.names.views n y j z)
  views_kept (hears c a b d e) n y j z k = I.names.views n y j z k
  views_kept (logs c a b d e) n y j z k = let N : w.phase ≡ ph.Sweep → ⊥ = λ s. grind (arith, b) in I.names.links N y j z (grind (arith, I.phases.logs (inr b) y))
  views_kept (gathers c a b d e) n y j z k = I.names.views (grind (arith, b)) y j z k
  views_kept (leaves c a b d e) n y j z k = let T = push_all_tells w.marked (heap w) (snooped_names 0 w.cells) in let N : logging w.phase ≡ true = grind (arith, b) in grind (frame, T y, T z, I.names.views N y j z)
  views_kept (sweeps c a b d e) n y j z k = absurd (false≢true n)
  views_kept (traces k ks a b) n y j z e = let T = push_all_tells w.marked (heap (trace_mark w k ks)) (view_at w k) in grind (frame, T y, T z, I.names.views n y j z)
  views_kept (eases a b) n y j z e = I.names.views (grind (arith, a)) y j z e
  views_kept (keeps a b) n y j z e = grind (arith, n)
  views_kept (frees a b d e) n y j z k = grind (arith, n)
  views_kept (settles a) n y j z e = absurd (false≢true n)

  -- a card with an update in hand: its switches by its turn, and its turn by the phase
  pub turns : (c : ℕ) (u : Update) → (card w c).update ≡ Some u → ((card w c).logging ≡ (eqb (turn w c) 2 || eqb (turn w c) 3)) × ((card w c).snoop ≡ (eqb (turn w c) 1 || eqb (turn w c) 2)) × ((turn w c ≡ offset w.phase) ⊎ ((ordering w.phase ≡ true) × (turn w c + 1 ≡ offset w.phase)))
  turns c u e =
      let h = hand_inside c u e in
      (I.switches.logging c h, I.switches.snoop c h, grind (arith, I.handshake.order, I.handshake.lasts c h))

  -- no draft where no card logs
  pub no_draft : (c : ℕ) (u : Update) (l : List Name) → (card w c).update ≡ Some u → u.stage ≡ Looked (Some l) → (w.phase ≡ ph.Rest) ⊎ (w.phase ≡ ph.Alert) ⊎ (w.phase ≡ ph.Sweep) ⊎ (w.phase ≡ ph.Settle) → ⊥
  no_draft c u l e s p = grind (nat_tests, arith, turns c u e, I.updates.draft c u l e s)

  look_draft : (c y i q : ℕ) → c < length w.cards → logging w.phase ≡ true → (d : ℕ) (u : Update) (l : List Name) (j x : ℕ) → (card (look_done w c y i q) d).update ≡ Some u → u.stage ≡ Looked (Some l) → get_or l j None ≡ Some x → used w x ≡ true
  look_draft c y i q a n d u l j x e s t =
      elim (look_hand c y i q d u a e) [
        | inl h ↦ I.names.drafts n d u l j x h.0.0 s t
        | inr h ↦ let k : l ≡ read_all w (links_at w y) = grind (arith, h) in grind (frame, k)
      ]

  drafts_kept : {v : World C} → Change w v → logging v.phase ≡ true → (c : ℕ) (u : Update) (d : List Name) (i x : ℕ) → (card v c).update ≡ Some u → u.stage ≡ Looked (Some d) → get_or d i None ≡ Some x → used v x ≡ true
  drafts_kept same n r z l j t k s m = I.names.drafts n r z l j t k s m
  drafts_kept (news c p x k ks a b i f) n r z l j t y s m = let U = I.names.drafts n r z l j t (news_held c p x k ks i r z y).0 s m in grind (frame, U)
  drafts_kept (loads c p y i q a b d e f g) n r z l j t k s m = I.names.drafts n r z l j t (put_held c q (named w (link w y i)) e r z k).0 s m
  drafts_kept (copies c p q a b d) n r z l j t k s m = I.names.drafts n r z l j t (put_held c q (named w (place w c p)) d r z k).0 s m
  drafts_kept (drops c p a b d) n r z l j t k s m = I.names.drafts n r z l j t (put_held c p None d r z k).0 s m
  drafts_kept (looks c p y i q a b d e f) n r z l j t k s m = look_draft c y i q a n r z l j t k s m
  drafts_kept (notes c u d a b e) n r z l j t k s m = elim (note_hand c u d r z a k) [ inl h ↦ let U = I.names.drafts n r z l j t h.0.0 s m in grind (frame, U) | inr h ↦ grind (arith, h, s) ]
  drafts_kept (stores c u a b e) n r z l j t k s m = let U = I.names.drafts n r z l j t (store_held c u (named w u.target) r z k).0 s m in grind (frame, U)
  drafts_kept (opens a) n r z l j t k s m = absurd (false≢true n)
  drafts_kept (obeys c h a b d e) n r z l j t k s m = let U = I.names.drafts n r z l j t (obey_held c h r z k).0 s m in let T = push_all_tells w.marked (heap w) (card w c).places t in grind (frame, T, U)
  drafts_kept (hears c a b d e) n r z l j t k s m = I.names.drafts n r z l j t k s m
  drafts_kept (logs c a b d e) n r z l j t k s m = absurd (no_draft r z l k s (inr (inl b)))
  drafts_kept (gathers c a b d e) n r z l j t k s m = I.names.drafts (grind (arith, b)) r z l j t k s m
  drafts_kept (leaves c a b d e) n r z l j t k s m = let U = I.names.drafts (grind (arith, b)) r z l j t k s m in let T = push_all_tells w.marked (heap w) (snooped_names 0 w.cells) t in grind (frame, T, U)
  drafts_kept (sweeps c a b d e) n r z l j t k s m = absurd (false≢true n)
  drafts_kept (traces h ks a b) n r z l j t k s m = let U = I.names.drafts n r z l j t k s m in let T = push_all_tells w.marked (heap (trace_mark w h ks)) (view_at w h) t in grind (frame, T, U)
  drafts_kept (eases a b) n r z l j t k s m = I.names.drafts (grind (arith, a)) r z l j t k s m
  drafts_kept (keeps a b) n r z l j t k s m = grind (arith, n)
  drafts_kept (frees a b d e) n r z l j t k s m = grind (arith, n)
  drafts_kept (settles a) n r z l j t k s m = absurd (false≢true n)

  -- ---- the group

  pub names_kept : {v : World C} → Change w v → Names v
  names_kept g = record { places = places_kept g; update = λ c u e. (fits_kept g c u e).0; target = λ c u x e t. (fits_kept g c u e).1 x t; bound = λ c u e. (fits_kept g c u e).2; links = links_kept g; views = views_kept g; drafts = drafts_kept g }

pub names_start : {C : Type 0} {w : World C} {m : Meaning} → Start w m → Names w
names_start {C} {w} s =
    let R = s.rest in
    record {
      places = R.places;
      update = λ c u e. grind (arith, R.updates c);
      target = λ c u x e t. grind (arith, R.updates c);
      bound = λ c u e. grind (arith, R.updates c);
      links = λ n. R.links;
      views = λ l y i x e. grind (arith, R.phase);
      drafts = λ l c u d i x e t k. grind (arith, R.phase);
    }
