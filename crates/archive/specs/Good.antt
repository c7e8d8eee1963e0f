-- A store that an archive can hold, as every store is that a run of calls leads to; and such a store at rest.
use Rattle.std.specs.Prelude.{◌≡◌, ℕ, ◌<◌, ◌≤◌, true, false, List, map, length, None, Option, Some}
use Rattle.std.specs.List.{slice_get}
use Rattle.line.specs.Lines.{Among}
use Rattle.laws.specs.Steps.{Distinct}
use Rattle.machine.specs.declared.types.Colour.TheVariants.{Zero}
use Rattle.machine.specs.World.{Cell}
use Rattle.machine.specs.declared.types.Card.{Card}
use Rattle.machine.specs.World.{World, see, at, used, serial_at, links_at, card, read_all, newborn}
use Rattle.archive.specs.Reading.{filled, card_with, rest_with}

-- the sizes that the types of a store give
pub record Sizes {C : Type 0} (w : World C) : Type 0 where
  pub most : length w.cells ≤ 4096
  pub card_most : length w.cards ≤ 8
  pub next_most : w.next < 4294967296
  pub rounds : w.rounds ≤ 1073741823

pub record Good {C : Type 0} (w : World C) : Type 0 where
  -- sizes
  pub some : 1 ≤ length w.cells
  pub most : length w.cells ≤ 4096
  pub tables : length w.contents ≡ length w.cells
  pub card_some : 1 ≤ length w.cards
  pub card_most : length w.cards ≤ 8
  pub eight : (c : ℕ) → c < length w.cards → length (card w c).places ≡ 8
  pub four : (x : ℕ) → used w x ≡ true → length (links_at w x) ≡ 4
  -- numbers
  pub next : 2 ≤ w.next
  pub next_most : w.next < 4294967296
  pub rounds : w.rounds ≤ 1073741823
  -- the free list: exactly the free cells, once each
  pub free_is : (x : ℕ) → Among x w.free → (x < length w.cells) × (used w x ≡ false)
  pub free_has : (x : ℕ) → x < length w.cells → used w x ≡ false → Among x w.free
  pub free_once : Distinct w.free
  -- serials
  pub apart : (x y : ℕ) → used w x ≡ true → used w y ≡ true → serial_at w x ≡ serial_at w y → x ≡ y
  pub above : (x : ℕ) → used w x ≡ true → 1 ≤ serial_at w x
  pub below : (x : ℕ) → used w x ≡ true → serial_at w x < w.next

-- a cell at rest: its names as they are read, its marks as after creation
abbrev pub rested_cell : {C : Type 0} → World C → Cell → Cell
rested_cell w None = None
rested_cell w (Some r) = Some (newborn r.serial (read_all w r.links) Zero)

abbrev pub rested_card : {C : Type 0} → World C → Card → Card
rested_card w k = card_with (read_all w k.places) w.rounds

-- the contents of a cell with a record
abbrev pub value_of : {C : Type 0} → World C → ℕ → Option C
value_of w k = see (λ r. slice_get w.contents k) None (at w k)

-- the store at rest, over a table of contents that is lent: what is reset is what rest_with says; names of free cells are none
unfoldable pub at_rest : {C : Type 0} → World C → List C → World C
at_rest w old =
    rest_with (map (rested_cell w) w.cells) (filled (value_of w) old (length w.cells)) (map (rested_card w) w.cards)
    w.free (length w.cards) w.next w.rounds
