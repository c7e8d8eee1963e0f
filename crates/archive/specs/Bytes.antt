-- What an archive's bytes say, by their places. Assumes nothing.
use Rattle.std.specs.Prelude.{ℕ, ◌+◌, ◌-◌, ◌*◌, ◌/◌, ◌%◌, Bool, cond, ◌&&◌, List, take, drop, Some, None, ◌==◌, nat_lt}
use Rattle.octets.specs.Numbers.{un16, un32}
use Rattle.machine.specs.World.{Name}

-- a number that names a cell: one more than the cell's, and 0 for none
abbrev pub unname : ℕ → Name
unname v = cond (v == 0) None (Some (v - 1))

-- the head
abbrev pub cells_in : List ℕ → ℕ
cells_in bs = un16 (drop 4 bs)

abbrev pub cards_in : List ℕ → ℕ
cards_in bs = un16 (drop 6 bs)

abbrev pub links_in : List ℕ → ℕ
links_in bs = un16 (drop 8 bs)

abbrev pub code_in : List ℕ → ℕ
code_in bs = un16 (drop 10 bs)

abbrev pub next_serial_in : List ℕ → ℕ
next_serial_in bs = un32 (drop 12 bs)

abbrev pub rounds_in : List ℕ → ℕ
rounds_in bs = un32 (drop 16 bs)

abbrev pub first_in : List ℕ → Name
first_in bs = unname (un16 (drop 20 bs))

-- place i, eight to a card, as the number that is written
unfoldable pub place_in : List ℕ → ℕ → ℕ
place_in bs i = un16 (drop (22 + 2 * i) bs)

-- where the 28 bytes of cell k stand
abbrev pub spot : ℕ → ℕ
spot k = 512 * (k / 18 + 1) + 4 + 28 * (k % 18)

unfoldable pub serial_in : List ℕ → ℕ → ℕ
serial_in bs k = un32 (drop (spot k) bs)

unfoldable pub form_in : List ℕ → ℕ → List ℕ
form_in bs k = take 16 (drop (spot k + 4) bs)

-- link i of cell k, as the number that is written
unfoldable pub link_in : List ℕ → ℕ → ℕ → ℕ
link_in bs k i = un16 (drop (spot k + 20 + 2 * i) bs)

-- the six bytes after link 0
unfoldable pub rest_in : List ℕ → ℕ → List ℕ
rest_in bs k = take 6 (drop (spot k + 22) bs)

abbrev pub next_in : List ℕ → ℕ → Name
next_in bs k = unname (link_in bs k 0)

-- a cell with serial 0 is free
abbrev pub free_in : List ℕ → ℕ → ℕ → Bool
free_in bs n k = nat_lt k n && serial_in bs k == 0
