-- A store that is put together again from its parts: what is asked of them, and what it is then.
use Rattle.std.specs.Prelude.{◌≡◌, ◌*◌, ◌≤◌, false, [], length, replicate, vec_len, vec_capacity}
use Rattle.machine.specs.declared.types.Colour.TheVariants.{Zero}
use Rattle.machine.specs.declared.types.Phase.TheVariants.{Rest}
use Rattle.arrayvec.specs.ArrayVec.{array_vec_len}
use Rattle.machine.specs.World.{World}
use Rattle.store.specs.Model.{stack, spares}
use Rattle.store.specs.declared.stock.Stock.{Stock}

-- tables of one length from 1 to 4,096
abbrev pub Fitting : {C : Type 0} → Stock C → Type 0
Fitting s =
    (length s.contents.now ≡ length s.cells.now)
    × (1 ≤ length s.cells.now)
    × (length s.cells.now ≤ 4096)

-- at most eight cards, and no more rounds than there can be
abbrev pub Counted : {C : Type 0} → Stock C → Type 0
Counted s = (array_vec_len s.cards ≤ 8) × (s.rounds ≤ 1073741823)

-- both lists have room for every cell; nothing waits, and no more cells are listed as free than are free
abbrev pub Listed : {C : Type 0} → Stock C → Type 0
Listed s =
    (length s.cells.now ≤ vec_capacity s.free)
    × (length s.cells.now ≤ vec_capacity s.waiting)
    × (vec_len s.free ≤ spares s.cells.now)
    × (vec_len s.waiting ≡ 0)

-- the store at rest that has these parts
abbrev pub restored : {C : Type 0} → Stock C → World C
restored s = record {
  cells = s.cells.now;
  contents = s.contents.now;
  cards = s.cards.items;
  marked = Zero;
  free = stack s.free;
  waiting = [];
  next = s.next;
  rounds = s.rounds;
  phase = Rest;
  order = 4 * s.rounds;
  answered = replicate (array_vec_len s.cards) false;
  sweep = 0;
}
