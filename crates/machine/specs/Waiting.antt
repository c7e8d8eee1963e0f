-- The waiting list. A push touches the cells and the list and nothing else, so it is defined on those two alone.
use Rattle.std.specs.Prelude.{ℕ, suc, Bool, true, false, cond, not, ◌||◌, List, [], ◌∷◌, Some, None, slice_index_or}
use Rattle.machine.specs.declared.types.Colour.{Colour}
use Rattle.machine.specs.World.{Cell}
use Rattle.machine.specs.World.{World, Name, see, same_colour, alter_at, greyen, with_heap}

-- the cells and the waiting list
pub record Heap : Type 0 where
  pub cells : List Cell
  pub waiting : List ℕ

abbrev pub heap : {C : Type 0} → World C → Heap
heap w = record { cells = w.cells; waiting = w.waiting }

-- a record that is neither marked nor waiting
abbrev pub pale : Colour → Cell → Bool
pale m c = see (λ r. not (same_colour r.colour m || r.waiting)) false c

-- cell x gets the mark waiting and goes to the front of the list
abbrev pub grey : Heap → ℕ → Heap
grey h x = record { cells = alter_at h.cells x greyen; waiting = x ∷ h.waiting }

-- a name is put on the list, unless its record is marked or waiting already, or it names none; m is the marked colour
abbrev pub push : Colour → Heap → Name → Heap
push m h None = h
push m h (Some x) = cond (pale m (slice_index_or h.cells x None)) (grey h x) h

-- one after the other, the first first
unfoldable pub push_all : Colour → Heap → List Name → Heap
push_all m h [] = h
push_all m h (v ∷ vs) = push_all m (push m h v) vs

-- the same in a store: one name, or several
abbrev pub with_marks : {C : Type 0} → World C → Heap → World C
with_marks w h = with_heap w h.cells h.waiting

abbrev pub put_waiting : {C : Type 0} → World C → Name → World C
put_waiting w v = with_marks w (push w.marked (heap w) v)

abbrev pub put_all : {C : Type 0} → World C → List Name → World C
put_all w vs = with_marks w (push_all w.marked (heap w) vs)

-- the cells that hold a snooped record, in rising order, as names; n is the number of the first cell of the list
abbrev pub name_if : Bool → ℕ → Name
name_if true n = Some n
name_if false n = None

unfoldable pub snooped_names : ℕ → List Cell → List Name
snooped_names n [] = []
snooped_names n (c ∷ h) = name_if (see (λ r. r.snooped) false c) n ∷ snooped_names (suc n) h
