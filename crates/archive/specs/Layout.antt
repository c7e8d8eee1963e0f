-- The bytes of an archive: a head, then the cells in order, 18 to a block. Assumes nothing.
use Rattle.std.specs.Prelude.{ℕ, zero, suc, ◌+◌, ◌-◌, ◌*◌, ◌/◌, min, cond, List, [], ◌∷◌, ◌++◌, length, replicate, Some, None, Option, ◌==◌, nat_lt, slice_index_or}
use Rattle.std.specs.List.{slice_get}
use Rattle.octets.specs.Numbers.{le16, le32}
use Rattle.octets.specs.Block.{block_of}
use Rattle.machine.specs.World.{Cell}
use Rattle.machine.specs.World.{World, Name, see, at, card}
use Rattle.archive.specs.Runs.{run}

-- a cell number is written plus one, and 0 is none; the name of a free cell, or past the table, is written as none
abbrev pub told : List Cell → Name → ℕ
told h None = 0
told h (Some x) = see (λ r. x + 1) 0 (slice_index_or h x None)

-- a free cell's number, the table having n cells
abbrev pub told_free : ℕ → Name → ℕ
told_free n None = 0
told_free n (Some x) = cond (nat_lt x n) (x + 1) 0

-- the cell after k in a list of cells
unfoldable pub after : List ℕ → ℕ → Name
after [] k = None
after (x ∷ l) k = cond (x == k) (slice_get l 0) (after l k)

-- names as they are written, one after the other
abbrev pub names_bytes : List Cell → List Name → List ℕ
names_bytes h ns = run (λ i. le16 (told h (slice_index_or ns i None))) (length ns)

abbrev pub link_bytes : List Cell → List Name → List ℕ
link_bytes h ls = le16 (told h (slice_index_or ls 0 None)) ++ (le16 (told h (slice_index_or ls 1 None)) ++ (le16 (told h (slice_index_or ls 2 None)) ++ le16 (told h (slice_index_or ls 3 None))))

abbrev pub form_of : {C : Type 0} → (C → List ℕ) → Option C → List ℕ
form_of form None = replicate 16 0
form_of form (Some x) = form x

-- a record: serial, contents, links
abbrev pub record_bytes : ℕ → List ℕ → List ℕ → List ℕ
record_bytes serial form links = le32 serial ++ (form ++ links)

-- a free cell: serial 0, zero contents, the next free cell in link 0, zeros after it
abbrev pub free_bytes : ℕ → List ℕ
free_bytes next = le32 0 ++ (replicate 16 0 ++ (le16 next ++ replicate 6 0))

-- the 28 bytes of cell k
unfoldable pub cell_bytes : {C : Type 0} → (C → List ℕ) → World C → ℕ → List ℕ
cell_bytes form w k =
    see (λ r. record_bytes r.serial (form_of form (slice_get w.contents k)) (link_bytes w.cells r.links))
    (free_bytes (told_free (length w.cells) (after w.free k))) (at w k)

-- the eight places of a card
abbrev pub places_bytes : List Cell → List Name → List ℕ
places_bytes h ps = run (λ p. le16 (told h (slice_index_or ps p None))) 8

unfoldable pub place_bytes : {C : Type 0} → World C → ℕ → List ℕ
place_bytes w c = places_bytes w.cells (card w c).places

-- the head: cells, cards, links, code, next serial, rounds, head of the free list
abbrev pub front_bytes : (cells cards code next rounds first : ℕ) → List ℕ
front_bytes cells cards code next rounds first = le16 cells ++ (le16 cards ++ (le16 4 ++ (le16 code ++ (le32 next ++ (le32 rounds ++ le16 first)))))

unfoldable pub front_of : {C : Type 0} → ℕ → World C → List ℕ
front_of code w = front_bytes (length w.cells) (length w.cards) code w.next w.rounds (told_free (length w.cells) (slice_get w.free 0))

-- and the places of each card
unfoldable pub head_bytes : {C : Type 0} → ℕ → World C → List ℕ
head_bytes code w = front_of code w ++ run (place_bytes w) (length w.cards)

-- how many of n cells stand in the b-th block of cells
abbrev pub part_of : ℕ → ℕ → ℕ
part_of n b = min 18 (n - 18 * b)

-- block 0 has the head, and the following blocks the cells in order
abbrev pub archive_block : {C : Type 0} → ℕ → (C → List ℕ) → World C → ℕ → List ℕ
archive_block code form w zero = block_of 0 0 (head_bytes code w)
archive_block code form w (suc b) = block_of (suc b) (part_of (length w.cells) b) (run (λ j. cell_bytes form w (18 * b + j)) (part_of (length w.cells) b))

-- the number of blocks for n cells
abbrev pub blocks_for : ℕ → ℕ
blocks_for n = 1 + (n + 17) / 18

-- the whole archive of a store
unfoldable pub archive_of : {C : Type 0} → ℕ → (C → List ℕ) → World C → List ℕ
archive_of code form w = run (archive_block code form w) (blocks_for (length w.cells))
