-- The switches follow from a card's last order: every change keeps that.
use Rattle.std.proofs.Common.{◌≡◌, ℕ, ◌+◌, ◌*◌, ◌%◌, ◌<◌, ◌≤◌, true, length, arith}
use Rattle.std.proofs.lemmas.Bool.Decides.{nat_tests}
use Rattle.machine.specs.declared.types.Phase.TheVariants as ph
use Rattle.machine.specs.World.{World, card}
use Rattle.machine.specs.Rounds.{ordering, obey}
use Rattle.laws.proofs.Frames.{frame}
use Rattle.laws.proofs.Cases.{Change, same, news, loads, copies, drops, looks, notes, stores, opens, obeys, hears, logs, gathers, leaves, sweeps, traces, eases, keeps, frees, settles}
use Rattle.laws.proofs.Inv.{offset, turn, Switches}
use Rattle.laws.proofs.Handshake.{Shake}

module _ {C : Type 0} (w : World C) (H : Shake w) (S : Switches w) where
  -- a card that obeys was one behind, and its order tells what it does by how far the round is
  behind : (c n : ℕ) → c < length w.cards → n ≡ (card w c).last + 1 → n ≤ w.order → (turn w c + 1 ≡ offset w.phase) × (ordering w.phase ≡ true)
  behind c n a d e = grind (arith, H.order, H.lasts c a)

  remainder : (c n : ℕ) → c < length w.cards → n ≡ (card w c).last + 1 → n ≤ w.order → (n % 4 ≡ (turn w c + 1) % 4)
  remainder c n a d e = grind (arith, H.order, H.lasts c a)

  obey_switches : (c n : ℕ) → c < length w.cards → n ≡ (card w c).last + 1 → n ≤ w.order → Switches (obey w c n)
  obey_switches c n a d e = record {
    snoop = λ x h. grind (nat_tests, frame, S.snoop x, behind c n a d e, remainder c n a d e);
    logging = λ x h. grind (nat_tests, frame, S.logging x, behind c n a d e, remainder c n a d e);
    birth = λ x h. grind (nat_tests, frame, S.birth x, behind c n a d e, remainder c n a d e);
  }

  opened : w.phase ≡ ph.Rest → (c : ℕ) → c < length w.cards → turn w c ≡ 0
  opened p c h = grind (arith, H.order, H.lasts c h)

  settled : w.phase ≡ ph.Settle → (c : ℕ) → c < length w.cards → (card w c).last ≡ 4 * w.rounds + 4
  settled p c h = grind (arith, H.order, H.lasts c h)

  pub switches_kept : {v : World C} → Change w v → Switches v
  switches_kept same = S
  switches_kept (news c p x k ks a b i f) = record { snoop = λ d h. grind (frame, S.snoop d); logging = λ d h. grind (frame, S.logging d); birth = λ d h. grind (frame, S.birth d) }
  switches_kept (loads c p y i q a b d e f g) = record { snoop = λ d h. grind (frame, S.snoop d); logging = λ d h. grind (frame, S.logging d); birth = λ d h. grind (frame, S.birth d) }
  switches_kept (copies c p q a b d) = record { snoop = λ d h. grind (frame, S.snoop d); logging = λ d h. grind (frame, S.logging d); birth = λ d h. grind (frame, S.birth d) }
  switches_kept (drops c p a b d) = record { snoop = λ d h. grind (frame, S.snoop d); logging = λ d h. grind (frame, S.logging d); birth = λ d h. grind (frame, S.birth d) }
  switches_kept (looks c p y i q a b d e f) = record { snoop = λ d h. grind (frame, S.snoop d); logging = λ d h. grind (frame, S.logging d); birth = λ d h. grind (frame, S.birth d) }
  switches_kept (notes c u d a b e) = record { snoop = λ d h. grind (frame, S.snoop d); logging = λ d h. grind (frame, S.logging d); birth = λ d h. grind (frame, S.birth d) }
  switches_kept (stores c u a b d) = record { snoop = λ d h. grind (frame, S.snoop d); logging = λ d h. grind (frame, S.logging d); birth = λ d h. grind (frame, S.birth d) }
  switches_kept (opens a) = record { snoop = λ d h. S.snoop d h; logging = λ d h. S.logging d h; birth = λ d h. grind (nat_tests, arith, S.birth d h, opened a d h) }
  switches_kept (obeys c n a b d e) = obey_switches c n a d e
  switches_kept (hears c a b d e) = record { snoop = S.snoop; logging = S.logging; birth = S.birth }
  switches_kept (logs c a b d e) = record { snoop = S.snoop; logging = S.logging; birth = λ x h. grind (arith, S.birth x h) }
  switches_kept (gathers c a b d e) = record { snoop = S.snoop; logging = S.logging; birth = λ x h. grind (arith, S.birth x h) }
  switches_kept (leaves c a b d e) = record { snoop = S.snoop; logging = S.logging; birth = λ x h. grind (arith, S.birth x h) }
  switches_kept (sweeps c a b d e) = record { snoop = S.snoop; logging = S.logging; birth = λ x h. grind (arith, S.birth x h) }
  switches_kept (traces k ks a b) = record { snoop = S.snoop; logging = S.logging; birth = S.birth }
  switches_kept (eases a b) = record { snoop = S.snoop; logging = S.logging; birth = λ x h. grind (arith, S.birth x h) }
  switches_kept (keeps a b) = record { snoop = S.snoop; logging = S.logging; birth = λ x h. grind (arith, S.birth x h) }
  switches_kept (frees a b d e) = record { snoop = S.snoop; logging = S.logging; birth = λ x h. grind (arith, S.birth x h) }
  switches_kept (settles a) = record { snoop = λ x h. grind (nat_tests, arith, S.snoop x h, settled a x h); logging = λ x h. grind (nat_tests, arith, S.logging x h, settled a x h); birth = λ x h. grind (nat_tests, arith, S.birth x h, settled a x h) }
