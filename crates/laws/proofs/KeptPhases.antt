-- What holds of marks, logs and snoops by phase is kept by every change; and the switches at the start.
use Rattle.std.proofs.Common.{◌≡◌, ℕ, ◌+◌, ◌%◌, ◌<◌, ◌≤◌, true, false, eqb, ◌⊎◌, List, length, Some, None, Option, sym, refl, ◌∙◌, inl, arith}
use Rattle.std.proofs.lemmas.Bool.Decides.{nat_tests}
use Rattle.std.proofs.lemmas.Bool.{cases_lt}
use Rattle.std.proofs.lemmas.List.{get_or_past}
use Rattle.machine.specs.declared.types.Phase.TheVariants as ph
use Rattle.machine.specs.declared.types.Stage.TheVariants.{Looked}
use Rattle.machine.specs.declared.types.Update.{Update}
use Rattle.machine.specs.World.{World, Name, used, mark, wait, snooped, log_at, card, view_at}
use Rattle.machine.specs.Waiting.{heap}
use Rattle.machine.specs.Rounds.{phase_number, ordering, trace_mark}
use Rattle.line.specs.Lines.{Meaning}
use Rattle.laws.specs.Steps.{Start}
use Rattle.laws.proofs.Frames.{frame, sizes}
use Rattle.laws.proofs.Pushes.{push_all_tells, push_all-length}
use Rattle.laws.proofs.Cases.{Change, same, news, loads, copies, drops, looks, notes, stores, opens, obeys, hears, logs, gathers, leaves, sweeps, traces, eases, keeps, frees, settles}
use Rattle.laws.proofs.Inv.{offset, early, marking, turn, Switches, Phases, Inv}

module _ {C : Type 0} {w : World C} {m : Meaning} (I : Inv w m) where
  P : Phases w
  P = I.phases

  -- how far a card can be
  pub far : (c : ℕ) → c < length w.cards → (turn w c ≡ offset w.phase) ⊎ ((ordering w.phase ≡ true) × (turn w c + 1 ≡ offset w.phase))
  far c h = grind (arith, I.handshake.order, I.handshake.lasts c h)

  -- a record is inside the table
  pub within : (x : ℕ) → used w x ≡ true → x < length w.cells
  within x u = grind (nat_tests, arith, get_or_past w.cells x None, cases_lt x (length w.cells))

  -- only a card with logging on has a draft, and in Rest and Alert none has it on
  undrafted : (w.phase ≡ ph.Rest) ⊎ (w.phase ≡ ph.Alert) → (c : ℕ) (u : Update) (d : Option (List Name)) → c < length w.cards → (card w c).update ≡ Some u → u.stage ≡ Looked d → d ≡ None
  undrafted q c u None a b e = refl
  undrafted q c u (Some d) a b e = grind (nat_tests, arith, I.updates.draft c u d b e, I.switches.logging c a, far c a)

  -- orders outside Gather put nothing onto the waiting list
  ungathered : (c n : ℕ) → c < length w.cards → n ≡ (card w c).last + 1 → n ≤ w.order → marking w.phase ≡ false → eqb (n % 4) 3 ≡ false
  ungathered c n a d e q = grind (nat_tests, arith, I.handshake.order, I.handshake.lasts c a)

  -- a change within a phase that neither frees nor marks
  steady : (v : World C) → v.phase ≡ w.phase → v.sweep ≡ w.sweep → length v.cells ≡ length w.cells → ((x : ℕ) → (used v x ≡ used w x) × (mark v x ≡ mark w x)) → (early w.phase ≡ false → (x : ℕ) → snooped v x ≡ false) → (marking w.phase ≡ false → (x : ℕ) → wait v x ≡ false) → ((w.phase ≡ ph.Rest) ⊎ (w.phase ≡ ph.Alert) → (x : ℕ) → log_at v x ≡ None) → Phases v
  steady v p s l h f g k = record {
    rest = λ q x u. grind (arith, h x, P.rest (sym p ∙ q) x);
    alert = λ q x. (h x).1 ∙ P.alert (sym p ∙ q) x;
    log = λ q x. (h x).1 ∙ P.log (sym p ∙ q) x;
    swept = λ q x b u. grind (arith, h x, s, P.swept (sym p ∙ q) x);
    inside = λ q. omega (arith, s, l, P.inside (sym p ∙ q));
    settle = λ q x u. grind (arith, h x, P.settle (sym p ∙ q) x);
    snoops = λ q. f (grind (arith, p));
    waits = λ q. g (grind (arith, p));
    logs = λ q. k (grind (arith, p));
  }

  -- in Gather, Trace and Ease little is claimed
  midway : (v : World C) → 3 ≤ phase_number v.phase → phase_number v.phase ≤ 5 → (early v.phase ≡ false → (x : ℕ) → snooped v x ≡ false) → (marking v.phase ≡ false → (x : ℕ) → wait v x ≡ false) → Phases v
  midway v a b f g = record {
    rest = λ q x u. grind arith;
    alert = λ q x. grind arith;
    log = λ q x. grind arith;
    swept = λ q x h u. grind arith;
    inside = λ q. grind arith;
    settle = λ q x u. grind arith;
    snoops = f;
    waits = g;
    logs = λ q x. grind arith;
  }

  pub phases_kept : {v : World C} → Change w v → Phases v
  phases_kept same = P
  phases_kept (news c p x k ks a b i f) = record {
    rest = λ q y u. grind (nat_tests, frame, P.rest q y, I.switches.birth c a, far c a);
    alert = λ q y. grind (nat_tests, frame, P.alert q y, I.switches.birth c a, far c a);
    log = λ q y. grind (nat_tests, frame, P.log q y, I.switches.birth c a, far c a);
    swept = λ q y h u. grind (nat_tests, frame, P.swept q y, I.switches.birth c a, far c a);
    inside = λ q. grind (sizes, P.inside q);
    settle = λ q y u. grind (nat_tests, frame, P.settle q y, I.switches.birth c a, far c a);
    snoops = λ q y. grind (frame, P.snoops q y);
    waits = λ q y. grind (frame, P.waits q y);
    logs = λ q y. grind (frame, P.logs q y);
  }
  phases_kept (loads c p y i q a b d e f g) = steady _ refl refl refl (λ x. (refl, refl)) P.snoops P.waits P.logs
  phases_kept (copies c p q a b d) = steady _ refl refl refl (λ x. (refl, refl)) P.snoops P.waits P.logs
  phases_kept (drops c p a b d) = steady _ refl refl refl (λ x. (refl, refl)) P.snoops P.waits P.logs
  phases_kept (looks c p y i q a b d e f) = steady _ refl refl refl (λ x. (refl, refl)) P.snoops P.waits P.logs
  phases_kept (notes c u d a b e) = steady _ refl refl (grind sizes) (λ x. (grind frame, grind frame)) (λ q x. grind (frame, P.snoops q x)) (λ q x. grind (frame, P.waits q x)) (λ q x. grind (frame, P.logs q x, undrafted q c u d a b e))
  phases_kept (stores c u a b d) = steady _ refl refl (grind sizes) (λ x. (grind frame, grind frame)) (λ q x. grind (nat_tests, frame, P.snoops q x, I.switches.snoop c a, far c a)) (λ q x. grind (frame, P.waits q x)) (λ q x. grind (frame, P.logs q x))
  phases_kept (opens a) = record {
    rest = λ q x u. grind arith;
    alert = λ q x. grind (arith, P.rest a x);
    log = λ q x. grind arith;
    swept = λ q x b u. grind arith;
    inside = λ q. grind arith;
    settle = λ q x u. grind arith;
    snoops = λ q x. grind arith;
    waits = λ q x. grind (arith, P.waits, a);
    logs = λ q. P.logs (inl a);
  }
  phases_kept (obeys c n a b d e) =
      let T = push_all_tells w.marked (heap w) (card w c).places in
      let S = push_all-length w.marked (heap w) (card w c).places in
      steady _ refl refl (grind (sizes, S)) (λ x. (grind (frame, T x), grind (frame, T x))) (λ q x. grind (frame, T x, P.snoops q x)) (λ q x. grind (frame, P.waits q x, ungathered c n a d e q)) (λ q x. grind (frame, T x, P.logs q x))
  phases_kept (hears c a b d e) = steady _ refl refl refl (λ x. (refl, refl)) P.snoops P.waits P.logs
  phases_kept (logs c a b d e) = record {
    rest = λ q x u. grind arith;
    alert = λ q x. grind arith;
    log = λ q. P.alert b;
    swept = λ q x h u. grind arith;
    inside = λ q. grind arith;
    settle = λ q x u. grind arith;
    snoops = λ q x. grind arith;
    waits = λ q x. grind (arith, P.waits, b);
    logs = λ q x. grind arith;
  }
  phases_kept (gathers c a b d e) = midway _ (omega arith) (omega arith) (λ q x. grind arith) (λ q x. grind arith)
  phases_kept (leaves c a b d e) = midway _ (omega arith) (omega arith) (λ q x. grind frame) (λ q x. grind arith)
  phases_kept (sweeps c a b d e) = record {
    rest = λ q x u. grind arith;
    alert = λ q x. grind arith;
    log = λ q x. grind arith;
    swept = λ q x h u. absurd (omega arith);
    inside = λ q. omega (arith, I.lists.some);
    settle = λ q x u. grind arith;
    snoops = λ q x. grind (arith, P.snoops, b);
    waits = λ q x. grind (arith, P.waits, b);
    logs = λ q x. grind arith;
  }
  phases_kept (traces k ks a b) = midway _ (grind arith) (grind arith) (λ q x. grind (frame, push_all_tells w.marked (heap (trace_mark w k ks)) (view_at w k) x, P.snoops q x)) (λ q x. grind arith)
  phases_kept (eases a b) = midway _ (omega arith) (omega arith) (λ q x. grind (arith, P.snoops, a)) (λ q x. grind (arith, I.lists.queue.waits x, b))
  phases_kept (keeps a b) = record {
    rest = λ q x u. grind arith;
    alert = λ q x. grind arith;
    log = λ q x. grind arith;
    swept = λ q x h u. grind (nat_tests, arith, P.swept a x, P.waits, b);
    inside = λ q. grind (nat_tests, arith);
    settle = λ q x u. grind (nat_tests, arith, P.swept a x, P.waits, b, within x u);
    snoops = λ q x. grind (arith, P.snoops, a);
    waits = λ q x. grind (arith, P.waits, a);
    logs = λ q x. grind arith;
  }
  phases_kept (frees a b d e) = record {
    rest = λ q x u. grind arith;
    alert = λ q x. grind arith;
    log = λ q x. grind arith;
    swept = λ q x h u. grind (nat_tests, frame, P.swept a x);
    inside = λ q. grind (nat_tests, sizes);
    settle = λ q x u. grind (nat_tests, frame, P.swept a x, within x);
    snoops = λ q x. grind (frame, P.snoops, a);
    waits = λ q x. grind (frame, P.waits, a);
    logs = λ q x. grind arith;
  }
  phases_kept (settles a) = record {
    rest = λ q x u. grind (frame, P.settle a x);
    alert = λ q x. grind arith;
    log = λ q x. grind arith;
    swept = λ q x h u. grind arith;
    inside = λ q. grind arith;
    settle = λ q x u. grind arith;
    snoops = λ q x. grind (frame, P.snoops, a);
    waits = λ q x. grind (frame, P.waits, a);
    logs = λ q x. grind frame;
  }

pub phases_start : {C : Type 0} {w : World C} {m : Meaning} → Start w m → Phases w
phases_start {C} {w} s =
    let R = s.rest in
    record {
      rest = λ q x u. grind (arith, R.colours x, R.marked);
      alert = λ q x. grind (arith, R.phase);
      log = λ q x. grind (arith, R.phase);
      swept = λ q x h u. grind (arith, R.phase);
      inside = λ q. grind (arith, R.phase);
      settle = λ q x u. grind (arith, R.phase);
      snoops = λ q. R.snoops;
      waits = λ q. R.waits;
      logs = λ q. R.logs;
    }

pub switches_start : {C : Type 0} {w : World C} {m : Meaning} → Start w m → Switches w
switches_start {C} {w} s =
    let R = s.rest in
    let z : (c : ℕ) → c < length w.cards → turn w c ≡ 0 = λ c h. grind (arith, R.lasts c h) in
    record {
      snoop = λ c h. grind (nat_tests, arith, R.snoop c, z c h);
      logging = λ c h. grind (nat_tests, arith, R.logging c, z c h);
      birth = λ c h. grind (nat_tests, arith, R.births c, R.marked, R.phase);
    }
