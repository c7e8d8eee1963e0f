-- Updates in hand are kept by every change: a draft stays good for a log until it is noted.
use Rattle.std.proofs.Common.{◌≡◌, ℕ, ◌<◌, ◌≤◌, true, false, ◌⊎◌, List, length, get_or, set, Some, None, Option, refl, inl, inr, arith}
use Rattle.std.proofs.lemmas.Bool.Decides.{nat_tests}
use Rattle.std.proofs.lemmas.Bool.{cases_eq, cases_Bool}
use Rattle.machine.specs.declared.types.Phase.TheVariants as ph
use Rattle.machine.specs.declared.types.Stage.{Stage}
use Rattle.machine.specs.declared.types.Stage.TheVariants.{Looked, Noted}
use Rattle.machine.specs.declared.types.Update.{Update}
use Rattle.machine.specs.World.{World, Name, used, mark, snooped, link, logged, place, card, view_at, named, read_all, links_at}
use Rattle.machine.specs.Waiting.{heap, snooped_names}
use Rattle.machine.specs.Cards.{look_done, note_done, store_done, noted}
use Rattle.machine.specs.Rounds.{trace_mark, ordering}
use Rattle.line.specs.Lines.{Meaning}
use Rattle.laws.specs.Steps.{Start}
use Rattle.laws.proofs.Frames.{frame, all_of-at}
use Rattle.laws.proofs.Pushes.{push_all_tells}
use Rattle.laws.proofs.Cases.{Change, same, news, loads, copies, drops, looks, notes, stores, opens, obeys, hears, logs, gathers, leaves, sweeps, traces, eases, keeps, frees, settles, everyone}
use Rattle.laws.proofs.Inv.{Inv, Updates, Safe, gathered}
use Rattle.laws.proofs.KeptNames as kn

-- a stage at which the record is marked or logged, if the card logs
abbrev Sure : Stage → Type 0
Sure s = (s ≡ Looked None) ⊎ (s ≡ Noted)

module _ {C : Type 0} (w : World C) (m : Meaning) (I : Inv w m) where
  -- ---- drafts

  look_logs : (c y i q : ℕ) → c < length w.cards → (d : ℕ) (u : Update) (l : List Name) → (card (look_done w c y i q) d).update ≡ Some u → u.stage ≡ Looked (Some l) → (card (look_done w c y i q) d).logging ≡ true
  look_logs c y i q a d u l e s =
      elim (kn.look_hand w m I c y i q d u a e) [
        | inl h ↦ let L = I.updates.draft d u l h.0.0 s in grind (frame, L)
        | inr h ↦ let L : (card w c).logging ≡ true = grind (arith, h) in grind (frame, L, h)
      ]

  draft_kept : {v : World C} → Change w v → (c : ℕ) (u : Update) (d : List Name) → (card v c).update ≡ Some u → u.stage ≡ Looked (Some d) → (card v c).logging ≡ true
  draft_kept same r z l k s = I.updates.draft r z l k s
  draft_kept (news c p x h ks a b i f) r z l k s = grind (frame, I.updates.draft r z l)
  draft_kept (loads c p y i q a b d e f g) r z l k s = grind (frame, I.updates.draft r z l)
  draft_kept (copies c p q a b d) r z l k s = grind (frame, I.updates.draft r z l)
  draft_kept (drops c p a b d) r z l k s = grind (frame, I.updates.draft r z l)
  draft_kept (looks c p y i q a b d e f) r z l k s = look_logs c y i q a r z l k s
  draft_kept (notes c u d a b e) r z l k s = grind (frame, I.updates.draft r z l)
  draft_kept (stores c u a b e) r z l k s = grind (frame, I.updates.draft r z l)
  draft_kept (opens a) r z l k s = I.updates.draft r z l k s
  draft_kept (obeys c n a b d e) r z l k s = grind (frame, I.updates.draft r z l)
  draft_kept (hears c a b d e) r z l k s = I.updates.draft r z l k s
  draft_kept (logs c a b d e) r z l k s = I.updates.draft r z l k s
  draft_kept (gathers c a b d e) r z l k s = I.updates.draft r z l k s
  draft_kept (leaves c a b d e) r z l k s = I.updates.draft r z l k s
  draft_kept (sweeps c a b d e) r z l k s = I.updates.draft r z l k s
  draft_kept (traces h ks a b) r z l k s = I.updates.draft r z l k s
  draft_kept (eases a b) r z l k s = I.updates.draft r z l k s
  draft_kept (keeps a b) r z l k s = I.updates.draft r z l k s
  draft_kept (frees a b d e) r z l k s = I.updates.draft r z l k s
  draft_kept (settles a) r z l k s = I.updates.draft r z l k s

  -- ---- marked or logged

  sure : (d : ℕ) (u : Update) → (card w d).update ≡ Some u → (card w d).logging ≡ true → Sure u.stage → Safe w u.cell
  sure d u e l (inl s) = I.updates.looked d u e l s
  sure d u e l (inr s) = I.updates.noted d u e l s

  -- no card logs in Rest, Sweep and Settle
  no_logging : (d : ℕ) (u : Update) → (card w d).update ≡ Some u → (card w d).logging ≡ true → (w.phase ≡ ph.Rest) ⊎ (w.phase ≡ ph.Sweep) ⊎ (w.phase ≡ ph.Settle) → ⊥
  no_logging d u e l p = grind (nat_tests, arith, kn.turns w m I d u e)

  look_sure : (c y i q : ℕ) → c < length w.cards → used w y ≡ true → (d : ℕ) (u : Update) → (card (look_done w c y i q) d).update ≡ Some u → (card (look_done w c y i q) d).logging ≡ true → Sure u.stage → Safe w u.cell
  look_sure c y i q a f d u e l s =
      elim (kn.look_hand w m I c y i q d u a e) [
        | inl h ↦ sure d u h.0.0 (grind frame) s
        | inr h ↦ let L : (card w c).logging ≡ true = grind (frame, h) in grind (arith, h, L, s)
      ]

  note_sure : (c : ℕ) (u : Update) (s : Option (List Name)) → c < length w.cards → (card w c).update ≡ Some u → u.stage ≡ Looked s → (d : ℕ) (z : Update) → (card (note_done w c u s) d).update ≡ Some z → (card (note_done w c u s) d).logging ≡ true → Sure z.stage → Safe (note_done w c u s) z.cell
  note_sure c u s a b e d z k l t =
      elim (kn.note_hand w m I c u s d z a k) [
        | inl h ↦ let U = sure d z h.0.0 (grind frame) t in grind (frame, U)
        | inr h ↦ let L : (card w c).logging ≡ true = grind (frame, h) in let V = kn.hand_used w m I c u b in by s e refl L h V
      ]
    where
      by : (o : Option (List Name)) → u.stage ≡ Looked o → s ≡ o → (card w c).logging ≡ true → (d ≡ c) × (z ≡ noted u) × ((card (note_done w c u s) d).places ≡ (card w d).places) → used w u.cell ≡ true → Safe (note_done w c u s) z.cell
      by None e q L h V = let U = I.updates.looked c u b L e in grind (frame, U, h)
      by (Some o) e q L h V = inr (grind (frame, V, h))

  sure_kept : {v : World C} → Change w v → (d : ℕ) (u : Update) → (card v d).update ≡ Some u → (card v d).logging ≡ true → Sure u.stage → Safe v u.cell
  sure_kept same r z k l s = sure r z k l s
  sure_kept (news c p x h ks a b i f) r z k l s = let K = (kn.news_held w m I c p x h ks i r z k).0 in let U = sure r z K (grind frame) s in let V = kn.hand_used w m I r z K in grind (frame, U, V, I.lists.free_is h)
  sure_kept (loads c p y i q a b d e f g) r z k l s = sure r z (kn.put_held w m I c q (named w (link w y i)) e r z k).0 (grind frame) s
  sure_kept (copies c p q a b d) r z k l s = sure r z (kn.put_held w m I c q (named w (place w c p)) d r z k).0 (grind frame) s
  sure_kept (drops c p a b d) r z k l s = sure r z (kn.put_held w m I c p None d r z k).0 (grind frame) s
  sure_kept (looks c p y i q a b d e f) r z k l s = look_sure c y i q a f r z k l s
  sure_kept (notes c u d a b e) r z k l s = note_sure c u d a b e r z k l s
  sure_kept (stores c u a b e) r z k l s = let U = sure r z (kn.store_held w m I c u (named w u.target) r z k).0 (grind frame) s in grind (frame, U)
  sure_kept (opens a) r z k l s = absurd (no_logging r z k l (inl a))
  sure_kept (obeys c n a b d e) r z k l s = let U = sure r z (kn.obey_held w m I c n r z k).0 (grind frame) s in let T = push_all_tells w.marked (heap w) (card w c).places z.cell in grind (frame, U, T)
  sure_kept (hears c a b d e) r z k l s = sure r z k l s
  sure_kept (logs c a b d e) r z k l s = sure r z k l s
  sure_kept (gathers c a b d e) r z k l s = sure r z k l s
  sure_kept (leaves c a b d e) r z k l s = let U = sure r z k l s in let T = push_all_tells w.marked (heap w) (snooped_names 0 w.cells) z.cell in grind (frame, U, T)
  sure_kept (sweeps c a b d e) r z k l s = sure r z k l s
  sure_kept (traces h ks a b) r z k l s = let U = sure r z k l s in let T = push_all_tells w.marked (heap (trace_mark w h ks)) (view_at w h) z.cell in grind (frame, U, T)
  sure_kept (eases a b) r z k l s = sure r z k l s
  sure_kept (keeps a b) r z k l s = sure r z k l s
  sure_kept (frees a b d e) r z k l s = absurd (no_logging r z k l (inr (inl a)))
  sure_kept (settles a) r z k l s = absurd (no_logging r z k l (inr (inr a)))

  -- ---- drafts are current

  -- the link that names x stands in the draft, or x is snooped and the card has yet to gather
  abbrev Current : World C → ℕ → List Name → ℕ → ℕ → Type 0
  Current v c d i x = (get_or d i None ≡ Some x) ⊎ ((gathered v c ≡ false) × (snooped v x ≡ true))

  look_current : (c y i q : ℕ) → c < length w.cards → (d : ℕ) (u : Update) (l : List Name) (j x : ℕ) → (card (look_done w c y i q) d).update ≡ Some u → u.stage ≡ Looked (Some l) → mark w u.cell ≡ false → logged w u.cell ≡ false → link w u.cell j ≡ Some x → Current (look_done w c y i q) d l j x
  look_current c y i q a d u l j x e s n o t =
      elim (kn.look_hand w m I c y i q d u a e) [
        | inl h ↦ let U = I.updates.current d u l j x h.0.0 s n o t in grind (frame, U, h)
        | inr h ↦
            let K : l ≡ read_all w (links_at w y) = grind (arith, h, s) in
            let L : (card w c).logging ≡ true = grind (arith, h, s) in
            let N : w.phase ≡ ph.Sweep → ⊥ = λ p. grind (nat_tests, arith, I.switches.logging c a, I.handshake.order, I.handshake.lasts c a) in
            let T : link w y j ≡ Some x = grind (arith, h, t) in
            let V : used w x ≡ true = I.names.links N y j x T in
            inl (grind (frame, K, V, T))
      ]

  -- a card that does not log stores while another has a draft of an unmarked record: it is in Log, and the card snoops
  lone_store : (c r : ℕ) (u z : Update) (l : List Name) → (card w c).update ≡ Some u → (card w c).logging ≡ false → (card w r).update ≡ Some z → z.stage ≡ Looked (Some l) → mark w z.cell ≡ false → ((card w c).snoop ≡ true) × (gathered w r ≡ false)
  lone_store c r u z l a b d e k =
      let L = I.updates.draft r z l d e in
      let A = kn.turns w m I c u a in
      let B = kn.turns w m I r z d in
      let P : (w.phase ≡ ph.Log) ⊎ (w.phase ≡ ph.Ease) = grind (nat_tests, arith, A, B, L) in
      elim P [
        | inl p ↦ (grind (nat_tests, arith, A, B, L), grind (nat_tests, arith, A, B, L))
        | inr p ↦
            let G : gathered w r ≡ true = grind (nat_tests, arith, B, L) in
            let q = I.names.update r z d in
            let M = kn.covered_marked w m I (grind (arith, p)) (grind (arith, p)) z.cell (I.coverage.places (grind (arith, p)) r q.0 z.cell G q.1) in
            absurd (grind (arith, M, k))
      ]

  store_link : (c : ℕ) (u : Update) (t : Name) (y j x : ℕ) → link (store_done w c u t) y j ≡ Some x → (link w y j ≡ Some x) ⊎ ((y ≡ u.cell) × (t ≡ Some x))
  store_link c u t y j x k = grind frame

  store_current : (c : ℕ) (u : Update) (t : Name) → ((x : ℕ) → t ≡ Some x → used w x ≡ true) → (card w c).update ≡ Some u → u.stage ≡ Noted → (r : ℕ) (z : Update) (l : List Name) (j x : ℕ) → (card (store_done w c u t) r).update ≡ Some z → z.stage ≡ Looked (Some l) → mark w z.cell ≡ false → logged w z.cell ≡ false → link (store_done w c u t) z.cell j ≡ Some x → Current (store_done w c u t) r l j x
  store_current c u t U a b r z l j x e s n o k =
      let h = (kn.store_held w m I c u t r z e).0 in
      elim (store_link c u t z.cell j x k) [
        | inl p ↦ let K = I.updates.current r z l j x h s n o p in grind (frame, K)
        | inr p ↦
            let L : (card w c).logging ≡ false = elim (cases_Bool (card w c).logging) [ inl g ↦ let S = I.updates.noted c u a g b in absurd (grind (arith, S, n, o, p)) | inr g ↦ g ] in
            let S = lone_store c r u z l a L h s n in
            let V = U x p.1 in
            inr (grind (frame, S), grind (frame, S, V, p))
      ]

  -- leaving Gather every card has gathered
  all_gathered : (c : ℕ) → c < length w.cards → w.phase ≡ ph.Gather → w.order ≤ (card w c).last → everyone w c ≡ true → (d : ℕ) → d < length w.cards → gathered w d ≡ true
  all_gathered c a p k e d h =
      let O : ordering w.phase ≡ true = grind (arith, p) in
      let L : (card w d).last ≡ w.order = grind (frame, cases_eq d c, all_of-at (length w.cards) (set w.answered c true) e d h, I.handshake.lasts c a, I.handshake.heard d h O) in
      grind (nat_tests, arith, L, I.handshake.order)

  current_kept : {v : World C} → Change w v → (c : ℕ) (u : Update) (d : List Name) (i x : ℕ) → (card v c).update ≡ Some u → u.stage ≡ Looked (Some d) → mark v u.cell ≡ false → logged v u.cell ≡ false → link v u.cell i ≡ Some x → Current v c d i x
  current_kept same r z l j t k s n o e = I.updates.current r z l j t k s n o e
  current_kept (news c p x h ks a b i f) r z l j t k s n o e =
      let K = (kn.news_held w m I c p x h ks i r z k).0 in
      let V = kn.hand_used w m I r z K in
      let F = I.lists.free_is h in
      let U = I.updates.current r z l j t K s (grind (frame, V, F)) (grind (frame, V, F)) (grind (frame, V, F)) in
      grind (frame, U, F)
  current_kept (loads c p y i q a b d e f g) r z l j t k s n o h = let U = I.updates.current r z l j t (kn.put_held w m I c q (named w (link w y i)) e r z k).0 s n o h in grind (frame, U)
  current_kept (copies c p q a b d) r z l j t k s n o h = let U = I.updates.current r z l j t (kn.put_held w m I c q (named w (place w c p)) d r z k).0 s n o h in grind (frame, U)
  current_kept (drops c p a b d) r z l j t k s n o h = let U = I.updates.current r z l j t (kn.put_held w m I c p None d r z k).0 s n o h in grind (frame, U)
  current_kept (looks c p y i q a b d e f) r z l j t k s n o h = look_current c y i q a r z l j t k s n o h
  current_kept (notes c u d a b e) r z l j t k s n o h =
      elim (kn.note_hand w m I c u d r z a k) [
        | inl g ↦ let U = I.updates.current r z l j t g.0.0 s (grind frame) (grind frame) (grind frame) in grind (frame, U, g)
        | inr g ↦ absurd (grind (arith, g, s))
      ]
  current_kept (stores c u a b e) r z l j t k s n o h = store_current c u (named w u.target) (λ x q. grind (arith, q)) b e r z l j t k s (grind frame) (grind frame) h
  current_kept (opens a) r z l j t k s n o h = absurd (kn.no_draft w m I r z l k s (inl a))
  current_kept (obeys c q a b d e) r z l j t k s n o h =
      let T = push_all_tells w.marked (heap w) (card w c).places in
      let N : r ≡ c → ⊥ = λ g. grind (frame, b) in
      let U = I.updates.current r z l j t (kn.obey_held w m I c q r z k).0 s (grind (frame, T z.cell)) (grind (frame, T z.cell)) (grind (frame, T z.cell)) in
      grind (frame, U, N, T t)
  current_kept (hears c a b d e) r z l j t k s n o h = I.updates.current r z l j t k s n o h
  current_kept (logs c a b d e) r z l j t k s n o h = let U = I.updates.current r z l j t k s n o h in grind (arith, U, b)
  current_kept (gathers c a b d e) r z l j t k s n o h = let U = I.updates.current r z l j t k s n o h in grind (arith, U, b)
  current_kept (leaves c a b d e) r z l j t k s n o h =
      let T = push_all_tells w.marked (heap w) (snooped_names 0 w.cells) z.cell in
      let U = I.updates.current r z l j t k s (grind (frame, T)) (grind (frame, T)) (grind (frame, T)) in
      let G = all_gathered c a b d e r (kn.hand_inside w m I r z k) in
      inl (grind (arith, U, G))
  current_kept (sweeps c a b d e) r z l j t k s n o h = let U = I.updates.current r z l j t k s n o h in grind (arith, U, b)
  current_kept (traces q ks a b) r z l j t k s n o h =
      let T = push_all_tells w.marked (heap (trace_mark w q ks)) (view_at w q) in
      let U = I.updates.current r z l j t k s (grind (frame, T z.cell)) (grind (frame, T z.cell)) (grind (frame, T z.cell)) in
      grind (frame, U, T t)
  current_kept (eases a b) r z l j t k s n o h = let U = I.updates.current r z l j t k s n o h in grind (arith, U, a)
  current_kept (keeps a b) r z l j t k s n o h = absurd (kn.no_draft w m I r z l k s (inr (inr (inl a))))
  current_kept (frees a b d e) r z l j t k s n o h = absurd (kn.no_draft w m I r z l k s (inr (inr (inl a))))
  current_kept (settles a) r z l j t k s n o h = absurd (kn.no_draft w m I r z l k s (inr (inr (inr a))))

  pub updates_kept : {v : World C} → Change w v → Updates v
  updates_kept g = record { draft = draft_kept g; looked = λ c u e l s. sure_kept g c u e l (inl s); noted = λ c u e l s. sure_kept g c u e l (inr s); current = current_kept g }

pub updates_start : {C : Type 0} {w : World C} {m : Meaning} → Start w m → Updates w
updates_start {C} {w} s =
    let U = s.rest.updates in
    record {
      draft = λ c u d e k. grind (arith, U c);
      looked = λ c u e l k. grind (arith, U c);
      noted = λ c u e l k. grind (arith, U c);
      current = λ c u d i x e k n o h. grind (arith, U c);
    }
