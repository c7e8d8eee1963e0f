-- The three promises one call at a time, for a panel that runs for years and keeps no list of its calls.
use Rattle.std.specs.Prelude.{◌≡◌, true, false, ◌&&◌, List}
use Rattle.machine.specs.declared.types.Call.{Call}
use Rattle.machine.specs.declared.types.Call.TheVariants.{Open}
use Rattle.machine.specs.Acts.{Answer}
use Rattle.machine.specs.World.{World}
use Rattle.machine.specs.Acts.{accepted}
use Rattle.line.specs.Lines.{Meaning}
use Rattle.laws.specs.Steps.{Step, Run, Start}
use Rattle.laws.specs.Endless.{Endless, image, e_act, e_after}
use Rattle.laws.specs.Words.{says, is_open, is_settle, counts, Unclosed, card_calls}
use Rattle.laws.specs.Runs.{KeepsLed, Freed}

-- some run from a start has come to the store w and the line m
pub record Reached {C : Type 0} (w : World C) (m : Meaning) : Type 0 where
  pub from : World C
  pub by : Meaning
  pub calls : List (Call C)
  pub answers : List (Answer C)
  pub start : Start from by
  pub run : Run from by calls answers w m

-- such a run opened a round at o, which is not closed yet
pub record InRound {C : Type 0} (o w : World C) (m : Meaning) : Type 0 where
  pub by : Meaning
  pub reached : Reached o by
  pub opened : World C
  pub line : Meaning
  pub answer : Answer C
  pub opens : Step o by Open answer opened line
  pub taken : accepted answer ≡ true
  pub calls : List (Call C)
  pub answers : List (Answer C)
  pub run : Run opened line calls answers w m
  pub unclosed : Unclosed calls answers

-- such a run's card calls, given to the endless store too, have brought it to e
pub record Mirrored {C : Type 0} (e : Endless C) (w : World C) (m : Meaning) : Type 0 where
  pub from : World C
  pub by : Meaning
  pub calls : List (Call C)
  pub answers : List (Answer C)
  pub start : Start from by
  pub run : Run from by calls answers w m
  pub same : e ≡ e_after (image from) (card_calls calls answers)

-- what the promises say of the one call k, answered a, that takes w and m to v and l
pub record Promised {C : Type 0} (w : World C) (m : Meaning) (k : Call C) (a : Answer C) (v : World C) (l : Meaning) : Type 0 where
  pub reached : Reached w m → Reached v l
  -- (a) it frees no record to which links lead
  pub safe : Reached w m → KeepsLed w v
  -- (b) where it closes a round, all to which no links led when that round opened is gone
  pub opens : Reached w m → (is_open k && accepted a) ≡ true → InRound w v l
  pub goes : (o : World C) → InRound o w m → (is_settle k && accepted a) ≡ false → InRound o v l
  pub closes : (o : World C) → InRound o w m → (is_settle k && accepted a) ≡ true → Freed o w
  -- (c) a card call answers as the endless store does; only a new refused for want of a cell is left out
  pub alike : (e : Endless C) → Mirrored e w m → counts k a ≡ true → (says a ≡ (e_act e k).0) × Mirrored (e_act e k).1 v l
  pub apart : (e : Endless C) → Mirrored e w m → counts k a ≡ false → Mirrored e v l

-- every call on every store is promised all this
abbrev pub EveryCallPromised : Type 0 → Type 0
EveryCallPromised C = (w v : World C) (m l : Meaning) (k : Call C) (a : Answer C) → Step w m k a v l → Promised w m k a v l
