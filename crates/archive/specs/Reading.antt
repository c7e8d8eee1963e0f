-- The store that an archive's bytes say. Assumes nothing.
use Rattle.std.specs.Prelude.{ℕ, zero, suc, ◌+◌, ◌*◌, Bool, false, cond, List, [], ◌∷◌, replicate, Some, None, Option, ◌==◌, slice_set}
use Rattle.machine.specs.declared.types.Colour.TheVariants.{Zero}
use Rattle.machine.specs.declared.types.Phase.TheVariants.{Rest}
use Rattle.machine.specs.World.{Cell}
use Rattle.machine.specs.declared.types.Card.{Card}
use Rattle.machine.specs.World.{World, Name, newborn}
use Rattle.archive.specs.Runs.{tab}
use Rattle.archive.specs.Bytes.{unname, cells_in, cards_in, next_serial_in, rounds_in, first_in, place_in, serial_in, form_in, link_in, next_in, free_in}
use Rattle.archive.specs.Rules.{count_free}

abbrev pub links_of : List ℕ → ℕ → List Name
links_of bs k = unname (link_in bs k 0) ∷ unname (link_in bs k 1) ∷ unname (link_in bs k 2) ∷ unname (link_in bs k 3) ∷ []

unfoldable pub cell_in : List ℕ → ℕ → Cell
cell_in bs k = cond (serial_in bs k == 0) None (Some (newborn (serial_in bs k) (links_of bs k) Zero))

-- the contents of a cell with a record
unfoldable pub value_in : {C : Type 0} → (List ℕ → Option C) → List ℕ → ℕ → Option C
value_in read bs k = cond (serial_in bs k == 0) None (read (form_in bs k))

-- a table with one entry changed, if there is a value for it
abbrev pub set_if : {C : Type 0} → List C → ℕ → Option C → List C
set_if l k None = l
set_if l k (Some x) = slice_set l k x

-- a table with its first n entries changed, where there are values for them
unfoldable pub filled : {C : Type 0} → (ℕ → Option C) → List C → ℕ → List C
filled v old zero = old
filled v old (suc n) = set_if (filled v old n) n (v n)

-- a card as it is after creation, but for its places
abbrev pub card_with : List Name → ℕ → Card
card_with places rounds = record { places = places; snoop = false; logging = false; birth = Zero; last = 4 * rounds; update = None }

abbrev pub places_of : List ℕ → ℕ → List Name
places_of bs c =
    unname (place_in bs (8 * c)) ∷ unname (place_in bs (8 * c + 1)) ∷ unname (place_in bs (8 * c + 2)) ∷ unname (place_in bs (8 * c + 3))
    ∷ unname (place_in bs (8 * c + 4)) ∷ unname (place_in bs (8 * c + 5)) ∷ unname (place_in bs (8 * c + 6)) ∷ unname (place_in bs (8 * c + 7)) ∷ []

unfoldable pub card_in : List ℕ → ℕ → Card
card_in bs c = card_with (places_of bs c) (rounds_in bs)

-- the free cells of a chain, at most so many: its first cell and then the chain after it
unfoldable pub chain_from : (ℕ → Name) → (ℕ → Bool) → ℕ → Name → List ℕ
chain_from next free zero o = []
chain_from next free (suc f) None = []
chain_from next free (suc f) (Some k) = cond (free k) (k ∷ chain_from next free f (next k)) []

-- at rest: colours, switches, marks, waiting list, phase, answers, sweep cell and orders are as after creation
abbrev pub rest_with : {C : Type 0} → List Cell → List C → List Card → (free : List ℕ) (cards next rounds : ℕ) → World C
rest_with cells contents ks free cards next rounds = record {
  cells = cells;
  contents = contents;
  cards = ks;
  marked = Zero;
  free = free;
  waiting = [];
  next = next;
  rounds = rounds;
  phase = Rest;
  order = 4 * rounds;
  answered = replicate cards false;
  sweep = 0;
}

-- the store that is read; a free cell's contents stay as they were in the table
unfoldable pub world_in : {C : Type 0} → (List ℕ → Option C) → List ℕ → List C → World C
world_in read bs old =
    rest_with (tab (cell_in bs) (cells_in bs)) (filled (value_in read bs) old (cells_in bs)) (tab (card_in bs) (cards_in bs))
    (chain_from (next_in bs) (free_in bs (cells_in bs)) (count_free (free_in bs (cells_in bs)) (cells_in bs)) (first_in bs))
    (cards_in bs) (next_serial_in bs) (rounds_in bs)
