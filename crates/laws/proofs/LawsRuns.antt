-- Laws of the states that a run comes to, from the invariant: marks at rest, and what may name a free cell.
use Rattle.std.proofs.Common.{◌≡◌, ℕ, ◌<◌, true, false, ◌⊎◌, List, [], ◌∷◌, length, get_or, Some, None, sym, refl, ◌∙◌, inl, inr, arith}
use Rattle.std.proofs.lemmas.Bool.Decides.{nat_tests}
use Rattle.std.proofs.lemmas.List.{get_or_past}
use Rattle.std.proofs.lemmas.Bool.{false≢true, cases_Bool, cases_lt}
use Rattle.machine.specs.declared.types.Stage.TheVariants.{Looked}
use Rattle.machine.specs.declared.types.Update.{Update}
use Rattle.machine.specs.declared.types.Phase.{Phase}
use Rattle.machine.specs.declared.types.Phase.TheVariants as ph
use Rattle.machine.specs.World.{World, Name, card, blank_card, used, mark, wait, link, view, log_at}
use Rattle.line.specs.Lines.{Meaning, Among}
use Rattle.laws.specs.Laws.{AllMarked, AtRestAllMarked, SoonFreed, NoFreeNames, NamesOfFreeCells}
use Rattle.laws.proofs.Inv.{Inv, Logs, logging, late, marking}
use Rattle.laws.proofs.Runs.{inv_run}
use Rattle.laws.proofs.Kept.{covered_marked, led_marked}
use Rattle.laws.proofs.KeptCoverage as kc
use Rattle.laws.proofs.KeptLogs.{logs_run}
use Rattle.laws.proofs.WholeRun.{lasts}

nobody_in : (xs : List ℕ) → ((x : ℕ) → Among x xs → ⊥) → xs ≡ []
nobody_in [] f = refl
nobody_in (x ∷ xs) f = absurd (f x (inl refl))

module _ {C : Type 0} (w : World C) (m : Meaning) (I : Inv w m) where
  all_marked : w.phase ≡ ph.Rest → AllMarked w
  all_marked p =
      let waits : (x : ℕ) → wait w x ≡ false = I.phases.waits (grind (arith, p)) in
      record { marked = I.phases.rest p; waits = waits; waiting = nobody_in w.waiting (λ x a. false≢true (sym (waits x) ∙ I.lists.queue.queued x a)) }

module _ {C : Type 0} (w : World C) (m : Meaning) (I : Inv w m) (L : Logs w) where
  -- a record that names a free cell in Sweep, and would not if it were marked
  soon_freed : (y : ℕ) → used w y ≡ true → w.phase ≡ ph.Sweep → (mark w y ≡ true → ⊥) → SoonFreed w y
  soon_freed y u p n = record {
    phase = p;
    ahead = elim (cases_lt y w.sweep) [ inl h ↦ absurd (n (I.phases.swept p y h u)) | inr h ↦ h ];
    unmarked = elim (cases_Bool (mark w y)) [ inl h ↦ absurd (n h) | inr h ↦ h ];
    unled = λ h. n (led_marked w m I p h);
  }

  -- ---- links

  sweeping : (y i x : ℕ) → link w y i ≡ Some x → used w x ≡ false → w.phase ≡ ph.Sweep
  sweeping y i x e f = by w.phase refl
    where
      no : (w.phase ≡ ph.Sweep → ⊥) → ⊥
      no n = false≢true (sym f ∙ I.names.links n y i x e)

      by : (p : Phase) → w.phase ≡ p → w.phase ≡ ph.Sweep
      by ph.Rest h = absurd (no (λ k. grind (arith, h, k)))
      by ph.Alert h = absurd (no (λ k. grind (arith, h, k)))
      by ph.Log h = absurd (no (λ k. grind (arith, h, k)))
      by ph.Gather h = absurd (no (λ k. grind (arith, h, k)))
      by ph.Trace h = absurd (no (λ k. grind (arith, h, k)))
      by ph.Ease h = absurd (no (λ k. grind (arith, h, k)))
      by ph.Sweep h = h
      by ph.Settle h = absurd (no (λ k. grind (arith, h, k)))

  -- what a marked record's link names in Sweep is marked, and so used
  unmarked : (y i x : ℕ) → link w y i ≡ Some x → used w x ≡ false → w.phase ≡ ph.Sweep → mark w y ≡ true → ⊥
  unmarked y i x e f p k =
      let c : mark w x ≡ true = covered_marked w m I p x (I.coverage.marked (grind (arith, p)) y i x k e) in
      grind arith

  free_linked : (y i x : ℕ) → link w y i ≡ Some x → used w x ≡ false → SoonFreed w y
  free_linked y i x e f =
      let p : w.phase ≡ ph.Sweep = sweeping y i x e f in
      soon_freed y (grind arith) p (unmarked y i x e f p)

  -- ---- logs

  module _ (y : ℕ) (l : List Name) (i x : ℕ) (e : log_at w y ≡ Some l) (g : get_or l i None ≡ Some x) (f : used w x ≡ false) where
    logs_used : used w y ≡ true
    logs_used = grind (arith, e)

    -- where nothing waits, what a marked record's log names is marked, and so used
    log_unmarked : late w.phase ≡ true → marking w.phase ≡ false → mark w y ≡ true → ⊥
    log_unmarked a b k =
        let c : mark w x ≡ true = kc.covered_marked w m I a b x (L.marked a y l i x k e g) in
        grind (arith, c, f)

    -- while views are traced they name records
    unlogged : logging w.phase ≡ true → ⊥
    unlogged a = let v : view w y i ≡ Some x = grind (arith, e, g) in false≢true (sym f ∙ I.names.views a y i x v)

    none_yet : (w.phase ≡ ph.Rest) ⊎ (w.phase ≡ ph.Alert) → ⊥
    none_yet a = grind (arith, I.phases.logs a y, e)

    log_sweeping : w.phase ≡ ph.Sweep
    log_sweeping = by w.phase refl
      where
        by : (p : Phase) → w.phase ≡ p → w.phase ≡ ph.Sweep
        by ph.Rest h = absurd (none_yet (inl h))
        by ph.Alert h = absurd (none_yet (inr h))
        by ph.Log h = absurd (unlogged (rw h refl))
        by ph.Gather h = absurd (unlogged (rw h refl))
        by ph.Trace h = absurd (unlogged (rw h refl))
        by ph.Ease h = absurd (unlogged (rw h refl))
        by ph.Sweep h = h
        by ph.Settle h = absurd (log_unmarked (rw h refl) (rw h refl) (I.phases.settle h y logs_used))

    free_logged : SoonFreed w y
    free_logged = soon_freed y logs_used log_sweeping (log_unmarked (rw log_sweeping refl) (rw log_sweeping refl))

  -- ---- drafts

  -- a card has a draft in hand only while its logging is on, which is over before Sweep
  drafting : (c : ℕ) (u : Update) (d : List Name) → (card w c).update ≡ Some u → u.stage ≡ Looked (Some d) → logging w.phase ≡ true
  drafting c u d e s =
      let h : c < length w.cards = grind (nat_tests, arith, get_or_past w.cards c blank_card, cases_lt c (length w.cards)) in
      let f : (card w c).logging ≡ true = I.updates.draft c u d e s in
      grind (nat_tests, arith, I.switches.logging c h, I.handshake.order, I.handshake.lasts c h)

  no_free_names : NoFreeNames w
  no_free_names =
      let N = I.names in
      record {
        places = N.places;
        updates = λ c u e. N.places c (N.update c u e).0 u.cell (N.update c u e).1;
        targets = λ c u x e t. N.places c (N.target c u x e t).0 x (N.target c u x e t).1;
        drafts = λ c u d i x e s g. N.drafts (drafting c u d e s) c u d i x e s g;
        links = free_linked;
        logs = free_logged;
      }

pub rest_marked : (C : Type 0) → AtRestAllMarked C
rest_marked C w₀ w m₀ m ks rs S r p = all_marked w m (inv_run lasts S r) p

pub names_used : (C : Type 0) → NamesOfFreeCells C
names_used C w₀ w m₀ m ks rs S r = no_free_names w m (inv_run lasts S r) (logs_run lasts S r)
