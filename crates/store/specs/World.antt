-- The store as its users hold it, and as the machine's definitions see it.
use Rattle.std.specs.Prelude.{ℕ, Bool, List, take}
use Rattle.machine.specs.declared.types.Colour.{Colour}
use Rattle.machine.specs.declared.types.Phase.{Phase}
use Rattle.machine.specs.World.{World}
use Rattle.arrayvec.specs.ArrayVec.{array_vec_len}
use Rattle.store.specs.Model.{stack}
use Rattle.store.specs.declared.types.RoundState.{RoundState}
use Rattle.store.specs.declared.whole.Store.{Store}

abbrev pub world : {C : Type 0} → Store C → World C
world s = record {
  cells = s.cells.now;
  contents = s.contents.now;
  cards = s.cards.items;
  marked = s.state.marked;
  free = stack s.free;
  waiting = stack s.waiting;
  next = s.state.next;
  rounds = s.state.rounds;
  phase = s.state.phase;
  order = s.state.order;
  answered = take (array_vec_len s.cards) s.state.answered;
  sweep = s.state.sweep;
}

-- the plain numbers of a store, as a looker is given them and as the machine has them
pub record Round : Type 0 where
  pub marked : Colour
  pub next : ℕ
  pub rounds : ℕ
  pub phase : Phase
  pub order : ℕ
  pub answered : List Bool
  pub sweep : ℕ

-- s, of whose answers those of n cards count
abbrev pub round_of : RoundState → ℕ → Round
round_of s n = record { marked = s.marked; next = s.next; rounds = s.rounds; phase = s.phase; order = s.order; answered = take n s.answered; sweep = s.sweep }

abbrev pub round_in : {C : Type 0} → World C → Round
round_in w = record { marked = w.marked; next = w.next; rounds = w.rounds; phase = w.phase; order = w.order; answered = w.answered; sweep = w.sweep }
