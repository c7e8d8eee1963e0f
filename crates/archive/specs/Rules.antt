-- The rules of an archive, in the order in which they are tested. Assumes nothing.
use Rattle.std.specs.Prelude.{◌≡◌, ℕ, zero, suc, ◌+◌, ◌-◌, ◌*◌, ◌/◌, ◌%◌, ◌≤◌, Bool, true, false, cond, not, ◌&&◌, ◌||◌, List, [], ◌∷◌, length, take, drop, is_some, Some, None, Option, ◌==◌, nat_lt}
use Rattle.octets.specs.Numbers.{un16}
use Rattle.octets.specs.Block.{check_right}
use Rattle.refusal.specs.declared.kinds.Refusal.{Refusal}
use Rattle.refusal.specs.declared.kinds.Refusal.TheVariants.{BadLength, BadCheck, BadArchive, OutOfRange}
use Rattle.machine.specs.World.{Name}
use Rattle.archive.specs.Runs.{every}
use Rattle.archive.specs.Layout.{part_of, blocks_for}
use Rattle.archive.specs.Bytes.{cells_in, cards_in, links_in, code_in, next_serial_in, rounds_in, first_in, place_in, serial_in, form_in, link_in, rest_in, next_in, free_in}

abbrev pub is_blank : List ℕ → Bool
is_blank [] = true
is_blank (b ∷ bs) = cond (b == 0) (is_blank bs) false

-- bytes of an archive of n cells
abbrev pub Sized : ℕ → ℕ → Type 0
Sized n len = (n ≤ 4096) × (len ≡ 512 * blocks_for n)

-- block b of the bytes
abbrev pub chunk : List ℕ → ℕ → List ℕ
chunk bs b = take 512 (drop (512 * b) bs)

unfoldable pub checks_right : List ℕ → Bool
checks_right bs = every (λ b. check_right (chunk bs b)) (length bs / 512)

-- the numbers of the head: one cell to 4,096, one card to 8, 4 links, the code of the kind, a next serial of at least 2,
-- rounds up to the last there can be
abbrev pub limits : (cells cards links code kind next rounds : ℕ) → Bool
limits cells cards links code kind next rounds =
    cond (cells == 0) false
    (cond (nat_lt 4096 cells) false
    (cond (cards == 0) false
    (cond (nat_lt 8 cards) false
    (cond (links == 4)
    (cond (code == kind)
    (cond (nat_lt next 2) false
    (cond (nat_lt 1073741823 rounds) false true))
    false) false))))

unfoldable pub head_right : ℕ → List ℕ → Bool
head_right kind bs = limits (cells_in bs) (cards_in bs) (links_in bs) (code_in bs) kind (next_serial_in bs) (rounds_in bs)

-- a block's number and count, and zeros after the bytes that it needs
unfoldable pub framed : (number count needs : ℕ) → List ℕ → Bool
framed number count needs bs =
    cond (un16 bs == number)
    (cond (un16 (drop 2 bs) == count) (is_blank (take (504 - needs) (drop needs (drop 4 bs)))) false)
    false

unfoldable pub frames_right : List ℕ → Bool
frames_right bs =
    cond (framed 0 0 (18 + 16 * cards_in bs) (chunk bs 0))
    (every (λ b. framed (b + 1) (part_of (cells_in bs) b) (28 * part_of (cells_in bs) b) (chunk bs (b + 1))) ((cells_in bs + 17) / 18))
    false

-- none, or a cell with a record
unfoldable pub name_right : List ℕ → ℕ → ℕ → Bool
name_right bs n v = cond (v == 0) true (cond (nat_lt n v) false (cond (serial_in bs (v - 1) == 0) false true))

-- a free cell has zeros but for link 0; a record's serial is below the next, its contents are the kind's, its links name records
unfoldable pub cell_right : {C : Type 0} → (List ℕ → Option C) → List ℕ → ℕ → ℕ → Bool
cell_right read bs n k =
    cond (serial_in bs k == 0)
    (cond (is_blank (form_in bs k)) (is_blank (rest_in bs k)) false)
    (cond (nat_lt (serial_in bs k) (next_serial_in bs))
    (cond (is_some (read (form_in bs k))) (every (λ i. name_right bs n (link_in bs k i)) 4) false)
    false)

-- some cell below k has serial x
abbrev pub among : (ℕ → ℕ) → ℕ → ℕ → Bool
among s x zero = false
among s x (suc k) = s k == x || among s x k

-- two records below k share a serial
unfoldable pub shared : (ℕ → ℕ) → ℕ → Bool
shared s zero = false
shared s (suc k) = (not (s k == 0) && among s (s k) k) || shared s k

unfoldable pub count_free : (ℕ → Bool) → ℕ → ℕ
count_free free zero = 0
count_free free (suc k) = cond (free k) 1 0 + count_free free k

-- the chain from a first cell on has just so many cells, each of them free, and then ends
unfoldable pub follows : (ℕ → Name) → (ℕ → Bool) → ℕ → Name → Bool
follows next free zero None = true
follows next free zero (Some k) = false
follows next free (suc f) None = false
follows next free (suc f) (Some k) = cond (free k) (follows next free f (next k)) false

unfoldable pub chain_right : List ℕ → ℕ → Bool
chain_right bs n = follows (next_in bs) (free_in bs n) (count_free (free_in bs n) n) (first_in bs)

-- the rules once the head's numbers are right
unfoldable pub rules_right : {C : Type 0} → (List ℕ → Option C) → List ℕ → Bool
rules_right read bs =
    cond (length bs == 512 * blocks_for (cells_in bs))
    (cond (frames_right bs)
    (cond (every (cell_right read bs (cells_in bs)) (cells_in bs))
    (cond (every (λ i. name_right bs (cells_in bs) (place_in bs i)) (8 * cards_in bs))
    (cond (shared (serial_in bs) (cells_in bs)) false
    (chain_right bs (cells_in bs)))
    false) false) false) false

-- all rules but those of length and check
abbrev pub archive_right : {C : Type 0} → ℕ → (List ℕ → Option C) → List ℕ → Bool
archive_right code read bs = cond (head_right code bs) (rules_right read bs) false

-- what reading is refused with, if it is: tables of so many cells and so many contents are lent
unfoldable pub refusal_of : {C : Type 0} → ℕ → (List ℕ → Option C) → List ℕ → ℕ → ℕ → Option Refusal
refusal_of code read bs cells contents =
    cond (length bs == 0) (Some BadLength)
    (cond (length bs % 512 == 0)
    (cond (checks_right bs)
    (cond (archive_right code read bs)
    (cond (cells == cells_in bs) (cond (contents == cells_in bs) None (Some OutOfRange)) (Some OutOfRange))
    (Some BadArchive)) (Some BadCheck)) (Some BadLength))
