use Rattle.std.proofs.Common.{◌≡◌, ℕ, ◌+◌, ◌*◌, true, false, eqb, List, take, drop, sym, refl, ap, ◌∙◌, Some, arith}
use Rattle.std.proofs.lemmas.Bool.{eq-eqb, ne_eqb}
use Rattle.octets.specs.Numbers.{un16}
use Rattle.machine.specs.declared.types.Colour.TheVariants.{Zero}
use Rattle.machine.specs.World.{newborn}
use Rattle.archive.specs.Runs.{run, tab}
use Rattle.archive.specs.Bytes.{spot, unname, serial_in, link_in}
use Rattle.archive.specs.Reading.{links_of, cell_in}
use Rattle.archive.proofs.Glue.{two_in}
use Rattle.archive.proofs.Runs.{tab_same}
use Rattle.archive.proofs.entry.Entry.cell.Goals as goal

-- the names in the bytes of the links
named : (bs l : List ℕ) (k : ℕ) → l ≡ take 8 (drop (spot k + 20) bs) → tab (λ i. unname (un16 (drop (2 * i) l))) 4 ≡ links_of bs k
unfolding run link_in
named bs l k e = tab_same (λ i. unname (un16 (drop (2 * i) l))) (λ i. unname (link_in bs k i)) 4 (λ i h. ap unname (two_in (spot k + 20) 8 (2 * i) (spot k + 20 + 2 * i) bs l e (omega arith) refl)) ∙ refl

pub returns-then-serial-eq0 : goal.returns-then-serial-eq0
unfolding cell_in
returns-then-serial-eq0 c =
    let t : eqb (serial_in c.args.self.now.pages.bytes.now c.args.self.now.k) 0 ≡ true = eq-eqb _ 0 (sym c.serial-serial.ensures ∙ c.if-serial-eq0.true) in
    rw t

pub returns : goal.returns
unfolding cell_in
returns c =
    let bs = c.args.self.now.pages.bytes.now in
    let t : eqb (serial_in bs c.args.self.now.k) 0 ≡ false = ne_eqb _ 0 (λ z. c.if-serial-eq0.false (c.serial-serial.ensures ∙ z)) in
    rw t (ap (λ s. Some (newborn s c.names.result Zero)) c.serial-serial.ensures ∙ ap (λ l. Some (newborn (serial_in bs c.args.self.now.k) l Zero)) (c.names.ensures ∙ named bs c.links.result.now c.args.self.now.k c.links.ensures.is))
