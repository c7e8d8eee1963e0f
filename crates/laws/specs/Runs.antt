-- The three promises of one whole run, said step by step along the run.
use Rattle.std.specs.Prelude.{◌≡◌, ℕ, ◌&&◌, List, MatchBool}
use Rattle.machine.specs.declared.types.Call.{Call}
use Rattle.machine.specs.Acts.{Answer}
use Rattle.machine.specs.World.{World}
use Rattle.machine.specs.Acts.{accepted}
use Rattle.line.specs.Lines.{Meaning}
use Rattle.laws.specs.Leads.{Led, Holds}
use Rattle.laws.specs.Steps.{Run, done, then, Start}
use Rattle.laws.specs.Endless.{image, e_play}
use Rattle.laws.specs.Words.{is_open, is_settle, card_calls, card_answers}

-- from w to v no record went to which links led from a card's place
abbrev pub KeepsLed : {C : Type 0} → World C → World C → Type 0
KeepsLed w v = (x s : ℕ) → Holds w x s → ((y : ℕ) → Holds v y s → ⊥) → Led w x → ⊥

-- every record of w to which no links led is in no cell of u
abbrev pub Freed : {C : Type 0} → World C → World C → Type 0
Freed w u = (x s : ℕ) → Holds w x s → (Led w x → ⊥) → (y : ℕ) → Holds u y s → ⊥

-- (a) at each step of the run
abbrev pub SafeRun : {C : Type 0} {w v : World C} {m l : Meaning} {ks : List (Call C)} {rs : List (Answer C)} → Run w m ks rs v l → Type 0
SafeRun done = Unit {0}
SafeRun (then {w} {v} s r) = KeepsLed w v × SafeRun r

-- a round was opened at o: where the run first closes it, all to which no links led at o is gone
abbrev pub ClosesFreed : {C : Type 0} {w v : World C} {m l : Meaning} {ks : List (Call C)} {rs : List (Answer C)} → World C → Run w m ks rs v l → Type 0
ClosesFreed o done = Unit {0}
ClosesFreed o (then {w} {k = k} {a = a} s r) = MatchBool (is_settle k && accepted a) (Freed o w) (ClosesFreed o r)

-- (b) for each round that the run opens
abbrev pub LiveRun : {C : Type 0} {w v : World C} {m l : Meaning} {ks : List (Call C)} {rs : List (Answer C)} → Run w m ks rs v l → Type 0
LiveRun done = Unit {0}
LiveRun (then {w} {k = k} {a = a} s r) = MatchBool (is_open k && accepted a) (ClosesFreed w r) (Unit {0}) × LiveRun r

-- all three of one run; (c) is that the card calls answered as on the endless store
pub record Kept {C : Type 0} {w v : World C} {m l : Meaning} {ks : List (Call C)} {rs : List (Answer C)} (ρ : Run w m ks rs v l) : Type 0 where
  pub safe : SafeRun ρ
  pub live : LiveRun ρ
  pub alike : card_answers ks rs ≡ e_play (image w) (card_calls ks rs)

-- a run with these calls and these answers, of which the promises hold if it began at a start
pub record Ran {C : Type 0} (w : World C) (m : Meaning) (ks : List (Call C)) (rs : List (Answer C)) (v : World C) (l : Meaning) : Type 0 where
  pub run : Run w m ks rs v l
  pub kept : Start w m → Kept run

-- every run that began at a start keeps them
abbrev pub EveryRunKept : Type 0 → Type 0
EveryRunKept C = (w v : World C) (m l : Meaning) (ks : List (Call C)) (rs : List (Answer C)) (ρ : Run w m ks rs v l) → Start w m → Kept ρ
