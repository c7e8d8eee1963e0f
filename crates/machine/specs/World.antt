-- The store as the specs see it: what it holds, what is read of it, and the few ways in which it changes.
-- Links and places are lists of any length; a name past the table, or of a free cell, is read as empty.
use Rattle.std.specs.Prelude.{ℕ, zero, suc, ◌+◌, ◌-◌, ◌*◌, Bool, true, false, List, [], ◌∷◌, replicate, is_some, Some, None, Option, slice_index_or, slice_set}
use Rattle.machine.specs.declared.types.Colour.{Colour}
use Rattle.machine.specs.declared.types.Colour.TheVariants.{Zero, One}
use Rattle.machine.specs.declared.types.Phase.{Phase}
use Rattle.machine.specs.declared.types.Phase.TheVariants.{Rest}
use Rattle.machine.specs.declared.types.Record.{Record}
use Rattle.machine.specs.declared.types.Update.{Update}
use Rattle.machine.specs.declared.types.Card.{Card}

-- a name: empty, or a cell number
abbrev pub Name : Type 0
Name = Option ℕ

-- a cell: a record, or none where the cell is free
abbrev pub Cell : Type 0
Cell = Option Record

-- a store: cells and contents (one for each cell), cards, the marked colour, the free and the waiting list (front first), the
-- next serial, the closed rounds, the phase, the order number, which cards have answered, and the sweep cell
pub record World (C : Type 0) : Type 0 where
  pub cells : List Cell
  pub contents : List C
  pub cards : List Card
  pub marked : Colour
  pub free : List ℕ
  pub waiting : List ℕ
  pub next : ℕ
  pub rounds : ℕ
  pub phase : Phase
  pub order : ℕ
  pub answered : List Bool
  pub sweep : ℕ

-- whether two colours are one; the other of the two
abbrev pub same_colour : Colour → Colour → Bool
same_colour Zero Zero = true
same_colour Zero One = false
same_colour One Zero = false
same_colour One One = true

abbrev pub other : Colour → Colour
other Zero = One
other One = Zero

-- ---- what is read of a cell: d where it is free

abbrev pub see : {A : Type 0} → (Record → A) → A → Cell → A
see g d None = d
see g d (Some r) = g r

-- the first, if there is one, else the second
abbrev pub log_or : Option (List Name) → List Name → List Name
log_or None ls = ls
log_or (Some ms) ls = ms

-- what a trace goes by: the log of a logged record, else its links
abbrev pub view_of : Record → List Name
view_of r = log_or r.log r.links

-- cell x; past the table there is nothing but free cells
abbrev pub at : {C : Type 0} → World C → ℕ → Cell
at w x = slice_index_or w.cells x None

-- it holds a record; the record's serial, links, colour, marks and log, and what a trace sees of it
abbrev pub used : {C : Type 0} → World C → ℕ → Bool
used w x = see (λ r. true) false (at w x)

abbrev pub serial_at : {C : Type 0} → World C → ℕ → ℕ
serial_at w x = see (λ r. r.serial) 0 (at w x)

abbrev pub links_at : {C : Type 0} → World C → ℕ → List Name
links_at w x = see (λ r. r.links) [] (at w x)

abbrev pub link : {C : Type 0} → World C → ℕ → ℕ → Name
link w x i = see (λ r. slice_index_or r.links i None) None (at w x)

abbrev pub colour_at : {C : Type 0} → World C → ℕ → Colour
colour_at w x = see (λ r. r.colour) w.marked (at w x)

abbrev pub mark : {C : Type 0} → World C → ℕ → Bool
mark w x = see (λ r. same_colour r.colour w.marked) false (at w x)

abbrev pub wait : {C : Type 0} → World C → ℕ → Bool
wait w x = see (λ r. r.waiting) false (at w x)

abbrev pub snooped : {C : Type 0} → World C → ℕ → Bool
snooped w x = see (λ r. r.snooped) false (at w x)

abbrev pub log_at : {C : Type 0} → World C → ℕ → Option (List Name)
log_at w x = see (λ r. r.log) None (at w x)

abbrev pub logged : {C : Type 0} → World C → ℕ → Bool
logged w x = is_some (log_at w x)

abbrev pub view_at : {C : Type 0} → World C → ℕ → List Name
view_at w x = see view_of [] (at w x)

abbrev pub view : {C : Type 0} → World C → ℕ → ℕ → Name
view w x i = see (λ r. slice_index_or (view_of r) i None) None (at w x)

-- ---- names

-- a name of a free cell, or past the table, is read as empty
abbrev pub named : {C : Type 0} → World C → Name → Name
named w None = None
named w (Some x) = see (λ r. Some x) None (at w x)

-- the serial of the record that a name names, or 0
abbrev pub serial_of : {C : Type 0} → World C → Name → ℕ
serial_of w None = 0
serial_of w (Some x) = serial_at w x

-- each name of a list as it is read
unfoldable pub read_all : {C : Type 0} → World C → List Name → List Name
read_all w [] = []
read_all w (v ∷ vs) = named w v ∷ read_all w vs

-- ---- cards

-- a card that is not there
abbrev pub blank_card : Card
blank_card = record { places = []; snoop = false; logging = false; birth = Zero; last = 0; update = None }

-- card c, and what its place p holds
abbrev pub card : {C : Type 0} → World C → ℕ → Card
card w c = slice_index_or w.cards c blank_card

abbrev pub place : {C : Type 0} → World C → ℕ → ℕ → Name
place w c p = slice_index_or (card w c).places p None

-- ---- the few changes of a table that everything else is made of

-- a record edited; a free cell stays free
abbrev pub alter : (Record → Record) → Cell → Cell
alter f None = None
alter f (Some r) = Some (f r)

-- edits the record in cell x; a free cell stays free
unfoldable pub alter_at : List Cell → ℕ → (Record → Record) → List Cell
alter_at h x f = slice_set h x (alter f (slice_index_or h x None))

-- cell x becomes free
unfoldable pub free_at : List Cell → ℕ → List Cell
free_at h x = slice_set h x None

-- record r stands in cell x from now on
unfoldable pub born_at : List Cell → ℕ → Record → List Cell
born_at h x r = slice_set h x (Some r)

-- edits every record
unfoldable pub alter_all : List Cell → (Record → Record) → List Cell
alter_all [] f = []
alter_all (c ∷ h) f = alter f c ∷ alter_all h f

-- edits card c
unfoldable pub alter_card : List Card → ℕ → (Card → Card) → List Card
alter_card ks c f = slice_set ks c (f (slice_index_or ks c blank_card))

-- ---- edits of a record

-- marked, and off the waiting list
abbrev pub blacken : Colour → Record → Record
blacken m r = record { serial = r.serial; links = r.links; colour = m; waiting = false; snooped = r.snooped; log = r.log }

-- with the mark waiting
abbrev pub greyen : Record → Record
greyen r = record { serial = r.serial; links = r.links; colour = r.colour; waiting = true; snooped = r.snooped; log = r.log }

-- with the mark snooped, and without it
abbrev pub snoopen : Record → Record
snoopen r = record { serial = r.serial; links = r.links; colour = r.colour; waiting = r.waiting; snooped = true; log = r.log }

abbrev pub unsnoop : Record → Record
unsnoop r = record { serial = r.serial; links = r.links; colour = r.colour; waiting = r.waiting; snooped = false; log = r.log }

-- with no log
abbrev pub unlog : Record → Record
unlog r = record { serial = r.serial; links = r.links; colour = r.colour; waiting = r.waiting; snooped = r.snooped; log = None }

-- with link i set to v
abbrev pub set_link : ℕ → Name → Record → Record
set_link i v r = record { serial = r.serial; links = slice_set r.links i v; colour = r.colour; waiting = r.waiting; snooped = r.snooped; log = r.log }

-- the first of two, if there is one
abbrev pub either : Option (List Name) → Option (List Name) → Option (List Name)
either None d = d
either (Some l) d = Some l

-- the draft, if there is one, becomes the log, unless there is a log
abbrev pub log_by : Option (List Name) → Record → Record
log_by d r = record { serial = r.serial; links = r.links; colour = r.colour; waiting = r.waiting; snooped = r.snooped; log = either r.log d }

-- a new record: serial n, links ls, colour k, no marks
abbrev pub newborn : ℕ → List Name → Colour → Record
newborn n ls k = record { serial = n; links = ls; colour = k; waiting = false; snooped = false; log = None }

-- the links of a new record: four, all empty
abbrev pub empty_links : List Name
empty_links = None ∷ None ∷ None ∷ None ∷ []

-- ---- edits of a card

-- place p holds v
abbrev pub set_place : ℕ → Name → Card → Card
set_place p v k = record { places = slice_set k.places p v; snoop = k.snoop; logging = k.logging; birth = k.birth; last = k.last; update = k.update }

-- the update in hand is u, or there is none
abbrev pub set_update : Option Update → Card → Card
set_update u k = record { places = k.places; snoop = k.snoop; logging = k.logging; birth = k.birth; last = k.last; update = u }

-- ---- the world with some fields changed

abbrev pub with_cells : {C : Type 0} → World C → List Cell → World C
with_cells w h = record { cells = h; contents = w.contents; cards = w.cards; marked = w.marked; free = w.free; waiting = w.waiting; next = w.next; rounds = w.rounds; phase = w.phase; order = w.order; answered = w.answered; sweep = w.sweep }

abbrev pub with_cards : {C : Type 0} → World C → List Card → World C
with_cards w ks = record { cells = w.cells; contents = w.contents; cards = ks; marked = w.marked; free = w.free; waiting = w.waiting; next = w.next; rounds = w.rounds; phase = w.phase; order = w.order; answered = w.answered; sweep = w.sweep }

abbrev pub with_heap : {C : Type 0} → World C → List Cell → List ℕ → World C
with_heap w h q = record { cells = h; contents = w.contents; cards = w.cards; marked = w.marked; free = w.free; waiting = q; next = w.next; rounds = w.rounds; phase = w.phase; order = w.order; answered = w.answered; sweep = w.sweep }

abbrev pub with_phase : {C : Type 0} → World C → Phase → World C
with_phase w p = record { cells = w.cells; contents = w.contents; cards = w.cards; marked = w.marked; free = w.free; waiting = w.waiting; next = w.next; rounds = w.rounds; phase = p; order = w.order; answered = w.answered; sweep = w.sweep }

abbrev pub with_answered : {C : Type 0} → World C → List Bool → World C
with_answered w l = record { cells = w.cells; contents = w.contents; cards = w.cards; marked = w.marked; free = w.free; waiting = w.waiting; next = w.next; rounds = w.rounds; phase = w.phase; order = w.order; answered = l; sweep = w.sweep }

-- the record in cell x edited; card c edited
abbrev pub change : {C : Type 0} → World C → ℕ → (Record → Record) → World C
change w x f = with_cells w (alter_at w.cells x f)

abbrev pub change_card : {C : Type 0} → World C → ℕ → (Card → Card) → World C
change_card w c f = with_cards w (alter_card w.cards c f)

-- ---- a store as it is made: n cells, the contents handed in, k cards, first serial, rounds, the index record's contents

-- a, a + 1 and so on, n numbers
unfoldable pub count_up : ℕ → ℕ → List ℕ
count_up a zero = []
count_up a (suc n) = a ∷ count_up (suc a) n

-- place 0 holds the index record in cell 0
abbrev pub fresh_card : ℕ → Card
fresh_card rounds = record { places = Some 0 ∷ None ∷ None ∷ None ∷ None ∷ None ∷ None ∷ None ∷ []; snoop = false; logging = false; birth = Zero; last = 4 * rounds; update = None }

abbrev pub fresh : {C : Type 0} → ℕ → List C → ℕ → ℕ → ℕ → C → World C
fresh n cs k first rounds x = record {
  cells = born_at (replicate n None) 0 (newborn first empty_links Zero);
  contents = slice_set cs 0 x;
  cards = replicate k (fresh_card rounds);
  marked = Zero;
  free = count_up 1 (n - 1);
  waiting = [];
  next = first + 1;
  rounds = rounds;
  phase = Rest;
  order = 4 * rounds;
  answered = replicate k false;
  sweep = 0;
}
