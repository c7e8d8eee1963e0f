-- The numbers of a head, as bytes say them. Assumes nothing.
use Rattle.std.specs.Prelude.{ℕ, List, drop}
use Rattle.octets.specs.Numbers.{un16}
use Rattle.archive.specs.declared.head.Head.{Head}
use Rattle.archive.specs.Bytes.{cells_in, cards_in, links_in, code_in, next_serial_in, rounds_in}

abbrev pub head_in : List ℕ → Head
head_in bs = record { cells = cells_in bs; cards = cards_in bs; links = links_in bs; code = code_in bs; next = next_serial_in bs; rounds = rounds_in bs; first = un16 (drop 20 bs) }
