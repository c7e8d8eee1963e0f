-- The three promises one call at a time, from the promises of runs: each record of a run is carried on by the call.
use Rattle.std.proofs.Common.{◌≡◌, Bool, true, false, cond, not, ◌&&◌, List, [], ◌∷◌, ◌++◌, sym, refl, ap, ◌∙◌, subst, inl, inr}
use Rattle.std.proofs.lemmas.Bool.{false≢true}
use Rattle.machine.specs.declared.types.Call.{Call}
use Rattle.machine.specs.Acts.{Answer}
use Rattle.machine.specs.World.{World}
use Rattle.machine.specs.Acts.{accepted}
use Rattle.line.specs.Lines.{Meaning}
use Rattle.laws.specs.Steps.{Step, Run, done, then, Start}
use Rattle.laws.specs.Endless.{Endless, image, e_act, e_after}
use Rattle.laws.specs.Words.{says, is_open, is_settle, is_card, is_nine, counts, card_calls}
use Rattle.laws.specs.Runs.{Freed}
use Rattle.laws.specs.Calls.{Reached, InRound, Mirrored, Promised}
use Rattle.laws.proofs.Inv.{Inv}
use Rattle.laws.proofs.Invariant.{inv_start, inv_step}
use Rattle.laws.proofs.Runs.{inv_run}
use Rattle.laws.proofs.Alike.{Alike}
use Rattle.laws.proofs.AlikeRun.{image_alike, step_alike}
use Rattle.laws.proofs.WholeRun.{lasts, stand, one_more, unclosed_more, opened_by, settled_by}

-- ---- the endless store along a run

-- the relation between the store and the endless store holds where a run ends
alike_to : {C : Type 0} {w v : World C} {m l : Meaning} {ks : List (Call C)} {rs : List (Answer C)} → Inv w m → (e : Endless C) → Alike w e → Run w m ks rs v l → Alike v (e_after e (card_calls ks rs))
alike_to I e R done = R
alike_to {C} {v = v} I e R (then {k = k} {ks = ks} {a = a} {rs = rs} s r) =
    elim (step_alike I e R s) [
      | inl g ↦ by (is_card k && not (is_nine a)) g.0 (alike_to (inv_step I s) (e_act e k).1 g.2 r)
      | inr g ↦ past (is_card k && not (is_nine a)) g.0 (alike_to (inv_step I s) e g.1 r)
    ]
  where
    by : (b : Bool) → b ≡ true → Alike v (e_after (e_act e k).1 (card_calls ks rs)) → Alike v (e_after e (cond b (k ∷ card_calls ks rs) (card_calls ks rs)))
    by true h A = A
    by false h A = absurd (false≢true h)

    past : (b : Bool) → b ≡ false → Alike v (e_after e (card_calls ks rs)) → Alike v (e_after e (cond b (k ∷ card_calls ks rs) (card_calls ks rs)))
    past true h A = absurd (false≢true (sym h))
    past false h A = A

-- a call that counts is taken by the endless store after the others; one that does not leaves it there
after_counts : {C : Type 0} {w v : World C} {m l : Meaning} {ks : List (Call C)} {rs : List (Answer C)} (e : Endless C) (k : Call C) (a : Answer C) → Run w m ks rs v l → counts k a ≡ true → e_after e (card_calls (ks ++ (k ∷ [])) (rs ++ (a ∷ []))) ≡ (e_act (e_after e (card_calls ks rs)) k).1
after_counts {C} e k a done h = by (is_card k && not (is_nine a)) h
  where
    by : (b : Bool) → b ≡ true → e_after e (cond b (k ∷ []) []) ≡ (e_act e k).1
    by true h = refl
    by false h = absurd (false≢true h)
after_counts {C} e k a (then {k = j} {ks = ks} {a = b} {rs = rs} s r) h = by (is_card j && not (is_nine b)) (λ f. after_counts f k a r h)
  where
    by : (d : Bool) → ((f : Endless C) → e_after f (card_calls (ks ++ (k ∷ [])) (rs ++ (a ∷ []))) ≡ (e_act (e_after f (card_calls ks rs)) k).1) → e_after e (cond d (j ∷ card_calls (ks ++ (k ∷ [])) (rs ++ (a ∷ []))) (card_calls (ks ++ (k ∷ [])) (rs ++ (a ∷ [])))) ≡ (e_act (e_after e (cond d (j ∷ card_calls ks rs) (card_calls ks rs))) k).1
    by true g = g (e_act e j).1
    by false g = g e

after_apart : {C : Type 0} {w v : World C} {m l : Meaning} {ks : List (Call C)} {rs : List (Answer C)} (e : Endless C) (k : Call C) (a : Answer C) → Run w m ks rs v l → counts k a ≡ false → e_after e (card_calls (ks ++ (k ∷ [])) (rs ++ (a ∷ []))) ≡ e_after e (card_calls ks rs)
after_apart {C} e k a done h = by (is_card k && not (is_nine a)) h
  where
    by : (b : Bool) → b ≡ false → e_after e (cond b (k ∷ []) []) ≡ e
    by true h = absurd (false≢true (sym h))
    by false h = refl
after_apart {C} e k a (then {k = j} {ks = ks} {a = b} {rs = rs} s r) h = by (is_card j && not (is_nine b)) (λ f. after_apart f k a r h)
  where
    by : (d : Bool) → ((f : Endless C) → e_after f (card_calls (ks ++ (k ∷ [])) (rs ++ (a ∷ []))) ≡ e_after f (card_calls ks rs)) → e_after e (cond d (j ∷ card_calls (ks ++ (k ∷ [])) (rs ++ (a ∷ []))) (card_calls (ks ++ (k ∷ [])) (rs ++ (a ∷ [])))) ≡ e_after e (cond d (j ∷ card_calls ks rs) (card_calls ks rs))
    by true g = g (e_act e j).1
    by false g = g e

-- ---- where nothing was called yet

pub reached_start : {C : Type 0} {w : World C} {m : Meaning} → Start w m → Reached w m
reached_start {C} {w} {m} S = record { from = w; by = m; calls = []; answers = []; start = S; run = done }

pub mirrored_start : {C : Type 0} {w : World C} {m : Meaning} → Start w m → Mirrored (image w) w m
mirrored_start {C} {w} {m} S = record { from = w; by = m; calls = []; answers = []; start = S; run = done; same = refl }

-- ---- one call

module _ {C : Type 0} {w v : World C} {m l : Meaning} {k : Call C} {a : Answer C} (s : Step w m k a v l) where
  on : Reached w m → Reached v l
  on R = record { from = R.from; by = R.by; calls = R.calls ++ (k ∷ []); answers = R.answers ++ (a ∷ []); start = R.start; run = one_more R.run s }

  opens : Reached w m → (is_open k && accepted a) ≡ true → InRound w v l
  opens R h = let T = opened_by s h in record { by = m; reached = R; opened = v; line = l; answer = a; opens = T.0; taken = T.1; calls = []; answers = []; run = done; unclosed = tt }

  goes : (o : World C) → InRound o w m → (is_settle k && accepted a) ≡ false → InRound o v l
  goes o R h = record {
    by = R.by;
    reached = R.reached;
    opened = R.opened;
    line = R.line;
    answer = R.answer;
    opens = R.opens;
    taken = R.taken;
    calls = R.calls ++ (k ∷ []);
    answers = R.answers ++ (a ∷ []);
    run = one_more R.run s;
    unclosed = unclosed_more k a R.run R.unclosed h;
  }

  closes : (o : World C) → InRound o w m → (is_settle k && accepted a) ≡ true → Freed o w
  closes o R h = let T = settled_by s h in stand.live _ _ _ _ _ _ _ _ _ _ _ _ _ _ _ _ R.reached.start R.reached.run R.opens R.taken R.run R.unclosed T.0 T.1

  mirrored : (e : Endless C) → Mirrored e w m → Alike w e
  mirrored e M = subst (Alike w) (sym M.same) (alike_to (inv_start M.start) (image M.from) (image_alike M.from M.by (inv_start M.start)) M.run)

  follows : (e e' : Endless C) (M : Mirrored e w m) → e' ≡ e_after (image M.from) (card_calls (M.calls ++ (k ∷ [])) (M.answers ++ (a ∷ []))) → Mirrored e' v l
  follows e e' M h = record { from = M.from; by = M.by; calls = M.calls ++ (k ∷ []); answers = M.answers ++ (a ∷ []); start = M.start; run = one_more M.run s; same = h }

  alike : (e : Endless C) → Mirrored e w m → counts k a ≡ true → (says a ≡ (e_act e k).0) × Mirrored (e_act e k).1 v l
  alike e M h = (
    elim (step_alike (inv_run lasts M.start M.run) e (mirrored e M) s) [ inl g ↦ g.1 | inr g ↦ absurd (false≢true (sym g.0 ∙ h)) ],
    follows e (e_act e k).1 M (ap (λ z. (e_act z k).1) M.same ∙ sym (after_counts (image M.from) k a M.run h)),
  )

  apart : (e : Endless C) → Mirrored e w m → counts k a ≡ false → Mirrored e v l
  apart e M h = follows e e M (M.same ∙ sym (after_apart (image M.from) k a M.run h))

  pub promised : Promised w m k a v l
  promised = record {
    reached = on;
    safe = λ R. stand.safe _ _ _ _ _ _ _ _ _ _ R.start R.run s;
    opens = opens;
    goes = goes;
    closes = closes;
    alike = alike;
    apart = apart;
  }
