-- The three lasting promises, over any run of calls on a store that was just made or read back, over any line that keeps the
-- four rules (the only undecided thing of a Step) and starts with no number above the store's order number.
use Rattle.std.specs.Prelude.{◌≡◌, ℕ, ◌≤◌, true, List, length}
use Rattle.machine.specs.declared.types.Call.{Call}
use Rattle.machine.specs.declared.types.Call.TheVariants.{Open, Settle}
use Rattle.machine.specs.Acts.{Answer}
use Rattle.machine.specs.World.{World, fresh}
use Rattle.line.specs.Lines.{Meaning}
use Rattle.machine.specs.Acts.{accepted}
use Rattle.laws.specs.Leads.{Led, Holds}
use Rattle.laws.specs.Steps.{Step, Run, AtRest, Start}
use Rattle.laws.specs.Endless.{image, e_play}
use Rattle.laws.specs.Words.{Unclosed, card_calls, card_answers}

-- the three promises, (a), (b) and (c)
pub record Promises (C : Type 0) : Type 0 where
  -- a store just made is one where runs may start
  pub made : (n : ℕ) (cs : List C) (k first rounds : ℕ) (x : C) → 1 ≤ n → length cs ≡ n → 1 ≤ first → AtRest (fresh n cs k first rounds x)
  -- (a) no call frees a record to which links lead from a card's place
  pub safe :
      (w₀ w v : World C) (m₀ m l : Meaning) (ks : List (Call C)) (rs : List (Answer C)) (k : Call C) (a : Answer C) →
      Start w₀ m₀ → Run w₀ m₀ ks rs w m → Step w m k a v l →
      (x s : ℕ) → Holds w x s → ((y : ℕ) → Holds v y s → ⊥) → Led w x → ⊥
  -- (b) a record to which no links led when a round opened, at w, is in no cell any more when that round closes, at u
  pub live :
      (w₀ w w' u v : World C) (m₀ m m' l n : Meaning) (ks ks' : List (Call C)) (rs rs' : List (Answer C)) (a b : Answer C) →
      Start w₀ m₀ → Run w₀ m₀ ks rs w m →
      Step w m Open a w' m' → accepted a ≡ true →
      Run w' m' ks' rs' u l → Unclosed ks' rs' →
      Step u l Settle b v n → accepted b ≡ true →
      (x s : ℕ) → Holds w x s → (Led w x → ⊥) →
      (y : ℕ) → Holds u y s → ⊥
  -- (c) the card calls answer as on the endless store; only a new refused for want of a cell is left out
  pub alike :
      (w v : World C) (m l : Meaning) (ks : List (Call C)) (rs : List (Answer C)) →
      Start w m → Run w m ks rs v l →
      card_answers ks rs ≡ e_play (image w) (card_calls ks rs)
