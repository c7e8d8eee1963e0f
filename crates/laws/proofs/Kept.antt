-- (a), from the invariant: a record to which links lead stays in its cell.
use Rattle.std.proofs.Common.{◌≡◌, ℕ, ◌<◌, true, length, Some, inl, inr, arith}
use Rattle.std.proofs.lemmas.Bool.Decides.{nat_tests}
use Rattle.std.proofs.lemmas.Bool.{cases_lt}
use Rattle.std.proofs.lemmas.List.{get_or_past}
use Rattle.machine.specs.declared.types.Phase.TheVariants as ph
use Rattle.machine.specs.World.{World, mark, place, card, view_at, blank_card}
use Rattle.machine.specs.Waiting.{heap, snooped_names}
use Rattle.machine.specs.Rounds.{trace_mark}
use Rattle.line.specs.Lines.{Meaning}
use Rattle.laws.specs.Leads.{leads_start, leads_link, Led, Holds}
use Rattle.laws.proofs.Frames.{frame}
use Rattle.laws.proofs.Pushes.{push_all_tells}
use Rattle.laws.proofs.Cases.{Change, same, news, loads, copies, drops, looks, notes, stores, opens, obeys, hears, logs, gathers, leaves, sweeps, traces, eases, keeps, frees, settles}
use Rattle.laws.proofs.Inv.{Inv, Grey, grey_wait, grey_snoop, grey_next, Covered, gathered}

module _ {C : Type 0} (w : World C) (m : Meaning) (I : Inv w m) where
  -- in Sweep nothing waits and nothing is snooped, so what is covered is marked
  no_grey : w.phase ≡ ph.Sweep → {x : ℕ} → Grey w x → ⊥
  no_grey p (grey_wait x a k) = grind (arith, I.phases.waits, p)
  no_grey p (grey_snoop x a k) = grind (arith, I.phases.snoops, p)
  no_grey p (grey_next y i x g e u k) = no_grey p g

  pub covered_marked : w.phase ≡ ph.Sweep → (x : ℕ) → Covered w x → mark w x ≡ true
  covered_marked p x (inl k) = k
  covered_marked p x (inr g) = absurd (no_grey p g)

  -- a place that holds something is a card's
  inside : (c q x : ℕ) → place w c q ≡ Some x → c < length w.cards
  inside c q x e = grind (nat_tests, arith, get_or_past w.cards c blank_card, cases_lt c (length w.cards))

  all_gathered : w.phase ≡ ph.Sweep → (c : ℕ) → c < length w.cards → gathered w c ≡ true
  all_gathered p c h = grind (nat_tests, arith, I.handshake.order, I.handshake.lasts c h)

  pub led_marked : w.phase ≡ ph.Sweep → {x : ℕ} → Led w x → mark w x ≡ true
  led_marked p (leads_start x (c, q, e) u) = covered_marked p x (I.coverage.places (grind (arith, p)) c q x (all_gathered p c (inside c q x e)) e)
  led_marked p (leads_link y i x l e u) = covered_marked p x (I.coverage.marked (grind (arith, p)) y i x (led_marked p l) e)

  pub held : {v : World C} → Change w v → (x s : ℕ) → Holds w x s → Led w x → Holds v x s
  held same x s h l = h
  held (news c p z k ks a b i f) x s h l = (grind (frame, I.lists.free_is k), grind (frame, I.lists.free_is k))
  held (loads c p y i q a b d e f g) x s h l = h
  held (copies c p q a b d) x s h l = h
  held (drops c p a b d) x s h l = h
  held (looks c p y i q a b d e f) x s h l = h
  held (notes c u d a b e) x s h l = (grind frame, grind frame)
  held (stores c u a b d) x s h l = (grind frame, grind frame)
  held (opens a) x s h l = h
  held (obeys c n a b d e) x s h l = let T = push_all_tells w.marked (heap w) (card w c).places x in (grind (frame, T), grind (frame, T))
  held (hears c a b d e) x s h l = h
  held (logs c a b d e) x s h l = h
  held (gathers c a b d e) x s h l = h
  held (leaves c a b d e) x s h l = let T = push_all_tells w.marked (heap w) (snooped_names 0 w.cells) x in (grind (frame, T), grind (frame, T))
  held (sweeps c a b d e) x s h l = h
  held (traces k ks a b) x s h l = let T = push_all_tells w.marked (heap (trace_mark w k ks)) (view_at w k) x in (grind (frame, T), grind (frame, T))
  held (eases a b) x s h l = h
  held (keeps a b) x s h l = h
  held (frees a b d e) x s h l = (grind (frame, led_marked a l), grind (frame, led_marked a l))
  held (settles a) x s h l = (grind frame, grind frame)
