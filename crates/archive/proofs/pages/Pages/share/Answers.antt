use Rattle.std.proofs.Common.{sym, ◌∙◌, arith}
use Rattle.archive.specs.Bytes.{serial_in}
use Rattle.archive.proofs.Serials.{distinct_no, hit_yes}
use Rattle.archive.proofs.Entries.{there}
use Rattle.archive.proofs.pages.Pages.share.Goals as goal

pub returns-after-pairs : goal.returns-after-pairs
returns-after-pairs c =
    let p = c.args.self.now in
    c.pairs.invariant.1 ∙ sym (distinct_no (serial_in p.bytes.now) p.head.cells (λ i j l m. c.pairs.invariant.0 i j l (omega arith)))

pub returns-then-serial-x : goal.returns-then-serial-x
returns-then-serial-x c =
    let p = c.args.self.now in
    let x = c.serial-x.ensures ∙ there serial_in p c.entry.result c.pairs.i c.entry.ensures.of c.entry.ensures.at in
    sym (hit_yes (serial_in p.bytes.now) p.head.cells c.pairs.i c.loop-j.j c.loop-j-test.true c.pairs-test.true
    (λ z. c.if-x-ne0.true (x ∙ z)) (sym (c.serial.ensures ∙ there serial_in p c.entry-then-x-ne0.result c.loop-j.j c.entry-then-x-ne0.ensures.of c.entry-then-x-ne0.ensures.at) ∙ c.if-serial-x.true ∙ x))
