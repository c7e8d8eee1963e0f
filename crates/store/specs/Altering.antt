-- Records changed in place, where all that is known of the change is a relation between a record before and after it.
use Rattle.std.specs.Prelude.{◌≡◌, ℕ, ◌<◌, List, length, Some, None, slice_index_or, slice_set}
use Rattle.std.specs.Borrow.{MutBor}
use Rattle.machine.specs.declared.types.Record.{Record}
use Rattle.machine.specs.World.{Cell}

-- r becomes s by a call of a closure, of which P says what it may leave
abbrev pub ByCall : (MutBor Record → Unit {0} → MutBor Record → Type 0) → Record → Record → Type 0
ByCall P r s = (a : MutBor Record) × (b : MutBor Record) × (a.now ≡ r) × P a tt b × (b.now ≡ s)

-- one cell, before and after: a free cell stays free
abbrev pub Alters : (Record → Record → Type 0) → Cell → Cell → Type 0
Alters R None d = d ≡ None
Alters R (Some r) d = (s : Record) × R r s × (d ≡ Some s)

-- a table h, which becomes g by a change of cell x
abbrev pub AltersAt : (Record → Record → Type 0) → List Cell → ℕ → List Cell → Type 0
AltersAt R h x g = (d : Cell) × Alters R (slice_index_or h x None) d × (g ≡ slice_set h x d)

-- a table h, which becomes g by a change of each of its first n cells
pub record AltersFirst (R : Record → Record → Type 0) (h g : List Cell) (n : ℕ) : Type 0 where
  pub long : length g ≡ length h
  pub changed : (i : ℕ) → i < n → Alters R (slice_index_or h i None) (slice_index_or g i None)
