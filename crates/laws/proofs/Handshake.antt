-- The handshake holds at a start and is kept by every step: this is all that the four rules of a line are used for.
use Rattle.std.proofs.Common.{◌≡◌, ℕ, ◌+◌, ◌*◌, ◌<◌, ◌≤◌, Bool, true, false, cond, leb, ◌⊎◌, length, get_or, set, Some, None, Ok, Err, Option, sym, refl, ◌∙◌, subst, inl, inr, arith}
use Rattle.refusal.specs.declared.kinds.Refusal.TheVariants.{NoCard, WrongPhase}
use Rattle.machine.specs.declared.types.Call.{Call}
use Rattle.machine.specs.declared.types.Call.TheVariants.{New, Load, Copy, Drop, Read, Look, Note, Store, Open, Knock, Attend, Hear, Trace, Sweep, Settle}
use Rattle.machine.specs.Acts.{Answer}
use Rattle.machine.specs.Cards.{busy}
use Rattle.machine.specs.Acts.{act}
use Rattle.laws.specs.Steps.{Step, Moves, Unless, Sends, Replies, Attends, Start}
use Rattle.std.proofs.lemmas.Bool.Decides.{nat_tests}
use Rattle.std.proofs.lemmas.Bool.{cases_eq}
use Rattle.machine.specs.World.{World, card}
use Rattle.machine.specs.Rounds.{ordering, reply_to, attend_done}
use Rattle.line.specs.Lines.{Meaning, NoGain, Sent, Collected}
use Rattle.laws.proofs.Frames.{frame, sizes, nobody-at, all_of-at}
use Rattle.laws.proofs.Cases.{Change, same, news, loads, copies, drops, looks, notes, stores, opens, obeys, hears, logs, gathers, leaves, sweeps, traces, eases, keeps, frees, settles, Wired, everyone, step_changes, attend_out, hear_out}
use Rattle.laws.proofs.Inv.{offset, Handshake}

ruleset all = (nat_tests, frame, nobody-at)

-- what is left of the handshake without the line
pub record Shake {C : Type 0} (w : World C) : Type 0 where
  pub order : w.order ≡ 4 * w.rounds + offset w.phase
  pub lasts : (c : ℕ) → c < length w.cards → ((card w c).last ≡ w.order) ⊎ ((ordering w.phase ≡ true) × ((card w c).last + 1 ≡ w.order))
  pub heard : (c : ℕ) → c < length w.cards → ordering w.phase ≡ true → get_or w.answered c false ≡ true → (card w c).last ≡ w.order
  pub answers : length w.answered ≡ length w.cards

pub record Grows {C : Type 0} (w v : World C) : Type 0 where
  pub order : w.order ≤ v.order
  pub cards : length v.cards ≡ length w.cards
  pub lasts : (c : ℕ) → (card w c).last ≤ (card v c).last

pub grows : {C : Type 0} {w v : World C} → Change w v → Grows w v
grows same = record { order = omega arith; cards = refl; lasts = λ d. omega arith }
grows (news c p x k ks a b i f) = record { order = omega arith; cards = grind sizes; lasts = λ d. grind frame }
grows (loads c p y i q a b d e f g) = record { order = omega arith; cards = grind sizes; lasts = λ d. grind frame }
grows (copies c p q a b d) = record { order = omega arith; cards = grind sizes; lasts = λ d. grind frame }
grows (drops c p a b d) = record { order = omega arith; cards = grind sizes; lasts = λ d. grind frame }
grows (looks c p y i q a b d e f) = record { order = omega arith; cards = grind sizes; lasts = λ d. grind frame }
grows (notes c u d a b e) = record { order = omega arith; cards = grind sizes; lasts = λ d. grind frame }
grows (stores c u a b d) = record { order = grind frame; cards = grind sizes; lasts = λ d. grind frame }
grows (opens a) = record { order = omega arith; cards = refl; lasts = λ d. omega arith }
grows (obeys c n a b d e) = record { order = omega arith; cards = grind sizes; lasts = λ x. grind frame }
grows (hears c a b d e) = record { order = omega arith; cards = refl; lasts = λ d. omega arith }
grows (logs c a b d e) = record { order = omega arith; cards = refl; lasts = λ d. omega arith }
grows (gathers c a b d e) = record { order = omega arith; cards = refl; lasts = λ d. omega arith }
grows (leaves c a b d e) = record { order = omega arith; cards = refl; lasts = λ d. omega arith }
grows (sweeps c a b d e) = record { order = omega arith; cards = refl; lasts = λ d. omega arith }
grows (traces k ks a b) = record { order = omega arith; cards = refl; lasts = λ d. omega arith }
grows (eases a b) = record { order = omega arith; cards = refl; lasts = λ d. omega arith }
grows (keeps a b) = record { order = omega arith; cards = refl; lasts = λ d. omega arith }
grows (frees a b d e) = record { order = omega arith; cards = refl; lasts = λ d. omega arith }
grows (settles a) = record { order = omega arith; cards = refl; lasts = λ d. omega arith }

-- card changes that leave the last orders alone
module _ {C : Type 0} (w : World C) (S : Shake w) where
  last_order : (c : ℕ) → c < length w.cards → w.order ≤ (card w c).last → (card w c).last ≡ w.order
  last_order c a k = grind (arith, S.lasts c a)

  all_answered : (c : ℕ) → ordering w.phase ≡ true → c < length w.cards → w.order ≤ (card w c).last → everyone w c ≡ true → (d : ℕ) → d < length w.cards → (card w d).last ≡ w.order
  all_answered c o a k e d h = grind (arith, frame, cases_eq d c, all_of-at (length w.cards) (set w.answered c true) e d h, last_order c a k, S.heard d h o)

  shaken : {v : World C} → Change w v → Shake v
  shaken same = S
  shaken (news c p x k ks a b i f) = record { order = S.order; lasts = λ d h. grind (sizes, frame, S.lasts d); heard = λ d h o t. grind (sizes, frame, S.heard d); answers = grind (sizes, S.answers) }
  shaken (loads c p y i q a b d e f g) = record { order = S.order; lasts = λ d h. grind (sizes, frame, S.lasts d); heard = λ d h o t. grind (sizes, frame, S.heard d); answers = grind (sizes, S.answers) }
  shaken (copies c p q a b d) = record { order = S.order; lasts = λ d h. grind (sizes, frame, S.lasts d); heard = λ d h o t. grind (sizes, frame, S.heard d); answers = grind (sizes, S.answers) }
  shaken (drops c p a b d) = record { order = S.order; lasts = λ d h. grind (sizes, frame, S.lasts d); heard = λ d h o t. grind (sizes, frame, S.heard d); answers = grind (sizes, S.answers) }
  shaken (looks c p y i q a b d e f) = record { order = S.order; lasts = λ d h. grind (sizes, frame, S.lasts d); heard = λ d h o t. grind (sizes, frame, S.heard d); answers = grind (sizes, S.answers) }
  shaken (notes c u d a b e) = record { order = S.order; lasts = λ d h. grind (sizes, frame, S.lasts d); heard = λ d h o t. grind (sizes, frame, S.heard d); answers = grind (sizes, S.answers) }
  shaken (stores c u a b d) = record { order = grind (arith, S.order); lasts = λ d h. grind (sizes, frame, S.lasts d); heard = λ d h o t. grind (sizes, frame, S.heard d); answers = grind (sizes, S.answers) }
  shaken (opens a) = record { order = grind (arith, S.order); lasts = λ d h. grind (arith, S.lasts d h); heard = λ d h o t. grind (arith, nobody-at w.answered d); answers = grind (sizes, S.answers) }
  shaken (obeys c n a b d e) = record { order = grind (arith, S.order); lasts = λ x h. grind (sizes, frame, S.lasts x); heard = λ x h o t. grind (sizes, frame, S.heard x, S.lasts x); answers = grind (sizes, S.answers) }
  shaken (hears c a b d e) = record { order = S.order; lasts = S.lasts; heard = λ x h o t. grind (frame, S.heard x, last_order c a d); answers = grind (sizes, S.answers) }
  shaken (logs c a b d e) = record { order = grind (arith, S.order); lasts = λ x h. grind (arith, all_answered c (grind arith) a d e x h); heard = λ x h o t. grind (arith, nobody-at (set w.answered c true) x); answers = grind (sizes, S.answers) }
  shaken (gathers c a b d e) = record { order = grind (arith, S.order); lasts = λ x h. grind (arith, all_answered c (grind arith) a d e x h); heard = λ x h o t. grind (arith, nobody-at (set w.answered c true) x); answers = grind (sizes, S.answers) }
  shaken (leaves c a b d e) = record { order = grind (arith, S.order); lasts = λ x h. inl (all_answered c (grind arith) a d e x h); heard = λ x h o t. grind arith; answers = grind (sizes, S.answers) }
  shaken (sweeps c a b d e) = record { order = grind (arith, S.order); lasts = λ x h. inl (all_answered c (grind arith) a d e x h); heard = λ x h o t. grind arith; answers = grind (sizes, S.answers) }
  shaken (traces k ks a b) = record { order = S.order; lasts = S.lasts; heard = S.heard; answers = S.answers }
  shaken (eases a b) = record { order = grind (arith, S.order); lasts = λ x h. grind (arith, S.lasts x h); heard = λ x h o t. grind (arith, nobody-at w.answered x); answers = grind (sizes, S.answers) }
  shaken (keeps a b) = record { order = grind (arith, S.order); lasts = λ x h. grind (arith, S.lasts x h); heard = λ x h o t. grind arith; answers = S.answers }
  shaken (frees a b d e) = record { order = grind (arith, S.order); lasts = λ x h. grind (arith, S.lasts x h); heard = λ x h o t. grind arith; answers = S.answers }
  shaken (settles a) = record { order = grind (arith, S.order); lasts = λ x h. grind (arith, S.lasts x h); heard = λ x h o t. grind arith; answers = S.answers }

-- ---- the line

wired_grow : {C : Type 0} {w v : World C} {m : Meaning} → Wired w m → Grows w v → Wired v m
wired_grow {C} {w} {v} W G = record {
  orders = λ c x k. omega (arith, W.orders c x k, G.order);
  replies = λ c x h k. omega (arith, W.replies c x (omega (arith, G.cards)) k, G.lasts c);
}

-- no list gains a number
wired_less : {C : Type 0} {w : World C} {m l : Meaning} → Wired w m → NoGain m.orders l.orders → NoGain m.replies l.replies → Wired w l
wired_less W f g = record { orders = λ c x k. W.orders c x (f c x k); replies = λ c x h k. W.replies c x h (g c x k) }

wired_sent : {C : Type 0} {w : World C} {m l : Meaning} (c n : ℕ) → Wired w m → n ≤ w.order → Sent c n m l → Wired w l
wired_sent c n W le s = record {
  orders = λ d x k. elim (cases_eq d c) [
    | inl e ↦ elim (s.here x (rw e at k)) [ inl j ↦ W.orders c x j | inr j ↦ omega arith ]
    | inr ne ↦ W.orders d x (s.apart d x ne k)
  ];
  replies = λ d x h k. W.replies d x h (s.across d x k);
}

wired_replied : {C : Type 0} {w : World C} {m l : Meaning} (c : ℕ) (r : Option ℕ) → Wired w m → ((n : ℕ) → r ≡ Some n → n ≤ (card w c).last) → Replies c r m l → Wired w l
wired_replied c None W le e = rw e W
wired_replied {C} {w} c (Some n) W le s = record {
  orders = λ d x k. W.orders d x (s.across d x k);
  replies = λ d x h k. elim (cases_eq d c) [
    | inl e ↦ elim (s.here x (rw e at k)) [ inl j ↦ W.replies d x h (rw e j) | inr j ↦ rw e (omega (arith, le n refl)) ]
    | inr ne ↦ W.replies d x h (s.apart d x ne k)
  ];
}

module _ {C : Type 0} (w : World C) (m l : Meaning) (W : Wired w m) where
  knock_by : (c : ℕ) (b d : Bool) → Sends c (cond b (Err NoCard) (cond d (Ok w.order) (Err WrongPhase))) m l → Wired w l
  knock_by c true d s = rw s W
  knock_by c false false s = rw s W
  knock_by c false true s = wired_sent c w.order W (omega arith) s

  replied_low : (c : ℕ) (got : Option ℕ) → c < length w.cards → (n : ℕ) → reply_to w c got ≡ Some n → n ≤ (card (attend_done w c got) c).last
  replied_low c got h n e = grind (nat_tests, frame)

  attend_by : (c : ℕ) (got : Option ℕ) (b d : Bool) → leb (length w.cards) c ≡ b → Unless (attend_out w c got b d).0 (l ≡ m) (Attends c got (attend_out w c got b d).1 m l) → Grows w (attend_out w c got b d).2 → Wired (attend_out w c got b d).2 l
  attend_by c got true d e A G = rw A W
  attend_by c got false true e A G = rw A W
  attend_by c got false false e A G =
      wired_replied c (reply_to w c got) (wired_grow (wired_less W A.fetched.along A.fetched.across) G) (replied_low c got (grind (nat_tests, arith))) A.replied

  hear_by : (c : ℕ) (got : Option ℕ) (b d : Bool) → Unless (hear_out w c got b d).0 (l ≡ m) (Collected c got m l) → Grows w (hear_out w c got b d).1 → Wired (hear_out w c got b d).1 l
  hear_by c got true d A G = rw A W
  hear_by c got false false A G = rw A W
  hear_by c got false true A G = wired_grow (wired_less W A.across A.along) G

  act_wired : (k : Call C) (got : Option ℕ) → Moves w k got m l → Grows w (act w k got).1 → Wired (act w k got).1 l
  act_wired (New c p x) got A G = wired_grow (rw A W) G
  act_wired (Load c p i q) got A G = wired_grow (rw A W) G
  act_wired (Copy c p q) got A G = wired_grow (rw A W) G
  act_wired (Drop c p) got A G = wired_grow (rw A W) G
  act_wired (Read c p) got A G = rw A W
  act_wired (Look c p i q) got A G = wired_grow (rw A W) G
  act_wired (Note c) got A G = wired_grow (rw A W) G
  act_wired (Store c) got A G = wired_grow (rw A W) G
  act_wired Open got A G = wired_grow (rw A W) G
  act_wired (Knock c) got A G = knock_by c (leb (length w.cards) c) (ordering w.phase) A
  act_wired (Attend c) got A G = attend_by c got (leb (length w.cards) c) (busy w c) refl A G
  act_wired (Hear c) got A G = hear_by c got (leb (length w.cards) c) (ordering w.phase) A G
  act_wired Trace got A G = wired_grow (rw A W) G
  act_wired Sweep got A G = wired_grow (rw A W) G
  act_wired Settle got A G = wired_grow (rw A W) G

pub handshake_kept : {C : Type 0} {w v : World C} {m l : Meaning} {k : Call C} {a : Answer C} → Handshake w m → Step w m k a v l → Handshake v l
handshake_kept {C} {w} {v} {m} {l} {k} H s =
    let W = H.wired in
    let S : Shake w = record { order = H.order; lasts = H.lasts; heard = H.heard; answers = H.answers } in
    let c : Change w v = step_changes W s in
    let T : Shake v = shaken w S c in
    let g : Grows w (act w k s.got).1 = subst (Grows w) s.leaves (grows c) in
    record { order = T.order; lasts = T.lasts; heard = T.heard; answers = T.answers; wired = subst (λ u. Wired u l) (sym s.leaves) (act_wired w m l W k s.got s.line g) }

pub handshake_start : {C : Type 0} {w : World C} {m : Meaning} → Start w m → Handshake w m
handshake_start {C} {w} {m} s =
    let R = s.rest in
    record {
      order = grind (arith, R.order, R.phase);
      lasts = λ c h. inl (R.lasts c h ∙ sym R.order);
      heard = λ c h o t. grind (arith, R.phase);
      answers = R.answers;
      wired = record { orders = s.low.orders; replies = λ c x h k. omega (arith, s.low.replies c x k, R.lasts c h, R.order) };
    }
