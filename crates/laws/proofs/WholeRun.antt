-- The three promises of a whole run, from the promises of its steps by induction along the run.
use Rattle.std.proofs.Common.{◌≡◌, Bool, true, false, ◌&&◌, List, [], ◌∷◌, ◌++◌, MatchBool, refl, subst, arith}
use Rattle.std.proofs.lemmas.Bool.{and_parts}
use Rattle.machine.specs.declared.types.Call.{Call}
use Rattle.machine.specs.declared.types.Call.TheVariants.{Open, Settle}
use Rattle.machine.specs.Acts.{Answer}
use Rattle.machine.specs.World.{World}
use Rattle.machine.specs.Acts.{accepted}
use Rattle.line.specs.Lines.{Meaning}
use Rattle.laws.specs.Steps.{Step, Run, done, then, Start}
use Rattle.laws.specs.Words.{is_open, is_settle, Unclosed}
use Rattle.laws.specs.Promises.{Promises}
use Rattle.laws.specs.Runs.{SafeRun, ClosesFreed, LiveRun, Kept, Ran}
use Rattle.laws.proofs.Invariant.{inv_start, inv_step}
use Rattle.laws.proofs.Runs.{Lasts}
use Rattle.laws.proofs.Whole.{promises}

-- the invariant lasts, and so the promises stand
pub lasts : {C : Type 0} → Lasts C
lasts = record { start = inv_start; step = inv_step }

pub stand : {C : Type 0} → Promises C
stand = promises lasts

-- ---- one more call

-- a run and one call more are a run
pub one_more : {C : Type 0} {w v u : World C} {m l n : Meaning} {ks : List (Call C)} {rs : List (Answer C)} {k : Call C} {a : Answer C} → Run w m ks rs v l → Step v l k a u n → Run w m (ks ++ (k ∷ [])) (rs ++ (a ∷ [])) u n
one_more done t = then t done
one_more (then s r) t = then s (one_more r t)

-- and it closes no round if neither did
pub unclosed_more : {C : Type 0} {w v : World C} {m l : Meaning} {ks : List (Call C)} {rs : List (Answer C)} (k : Call C) (a : Answer C) → Run w m ks rs v l → Unclosed ks rs → (is_settle k && accepted a) ≡ false → Unclosed (ks ++ (k ∷ [])) (rs ++ (a ∷ []))
unclosed_more k a done U e = (e, tt)
unclosed_more k a (then s r) U e = (U.0, unclosed_more k a r U.1 e)

-- ---- opens and closes

pub opens_only : {C : Type 0} (k : Call C) → is_open k ≡ true → k ≡ Open
opens_only k e = grind arith

pub settles_only : {C : Type 0} (k : Call C) → is_settle k ≡ true → k ≡ Settle
settles_only k e = grind arith

pub opened_by : {C : Type 0} {w v : World C} {m l : Meaning} {k : Call C} {a : Answer C} → Step w m k a v l → (is_open k && accepted a) ≡ true → Step w m Open a v l × (accepted a ≡ true)
opened_by {C} {w} {v} {m} {l} {k} {a} s e =
    let B = and_parts (is_open k) (accepted a) e in
    (subst (λ z. Step w m z a v l) (opens_only k B.0) s, B.1)

pub settled_by : {C : Type 0} {w v : World C} {m l : Meaning} {k : Call C} {a : Answer C} → Step w m k a v l → (is_settle k && accepted a) ≡ true → Step w m Settle a v l × (accepted a ≡ true)
settled_by {C} {w} {v} {m} {l} {k} {a} s e =
    let B = and_parts (is_settle k) (accepted a) e in
    (subst (λ z. Step w m z a v l) (settles_only k B.0) s, B.1)

by_test : {P Q : Type 0} (b : Bool) → (b ≡ true → P) → (b ≡ false → Q) → MatchBool b P Q
by_test true f g = f refl
by_test false f g = g refl

-- ---- along the run

-- where the run p from a start has come to w
module _ {C : Type 0} {w₀ : World C} {m₀ : Meaning} (S : Start w₀ m₀) where
  safe_along : {w v : World C} {m l : Meaning} {ks₀ ks : List (Call C)} {rs₀ rs : List (Answer C)} → Run w₀ m₀ ks₀ rs₀ w m → (ρ : Run w m ks rs v l) → SafeRun ρ
  safe_along p done = tt
  safe_along p (then s r) = (stand.safe _ _ _ _ _ _ _ _ _ _ S p s, safe_along (one_more p s) r)

  -- the round was opened at o, and q has closed none since
  closes_along :
      {o o' w v : World C} {n n' m l : Meaning} {ks₀ ks₁ ks : List (Call C)} {rs₀ rs₁ rs : List (Answer C)} {b : Answer C} →
      Run w₀ m₀ ks₀ rs₀ o n → Step o n Open b o' n' → accepted b ≡ true → Run o' n' ks₁ rs₁ w m → Unclosed ks₁ rs₁ →
      (ρ : Run w m ks rs v l) → ClosesFreed o ρ
  closes_along p t e q U done = tt
  closes_along p t e q U (then {k = k} {a = a} s r) =
      by_test (is_settle k && accepted a)
      (λ h. let T = settled_by s h in stand.live _ _ _ _ _ _ _ _ _ _ _ _ _ _ _ _ S p t e q U T.0 T.1)
      (λ h. closes_along p t e (one_more q s) (unclosed_more k a q U h) r)

  live_along : {w v : World C} {m l : Meaning} {ks₀ ks : List (Call C)} {rs₀ rs : List (Answer C)} → Run w₀ m₀ ks₀ rs₀ w m → (ρ : Run w m ks rs v l) → LiveRun ρ
  live_along p done = tt
  live_along p (then {k = k} {a = a} s r) = (
    by_test (is_open k && accepted a) (λ h. let T = opened_by s h in closes_along p T.0 T.1 done tt r) (λ _. tt),
    live_along (one_more p s) r,
  )

pub kept : {C : Type 0} {w v : World C} {m l : Meaning} {ks : List (Call C)} {rs : List (Answer C)} → Start w m → (ρ : Run w m ks rs v l) → Kept ρ
kept S ρ = record { safe = safe_along S done ρ; live = live_along S done ρ; alike = stand.alike _ _ _ _ _ _ S ρ }

pub ran : {C : Type 0} {w v : World C} {m l : Meaning} {ks : List (Call C)} {rs : List (Answer C)} → (ρ : Run w m ks rs v l) → Ran w m ks rs v l
ran ρ = record { run = ρ; kept = λ S. kept S ρ }
