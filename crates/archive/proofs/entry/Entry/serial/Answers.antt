use Rattle.std.proofs.Common.{drop, sym, ap, ◌∙◌, arith}
use Rattle.octets.specs.Numbers.{un32}
use Rattle.archive.specs.Bytes.{spot, serial_in}
use Rattle.archive.proofs.Glue.{part_of_lem, un32_front}
use Rattle.archive.proofs.entry.Entry.serial.Goals as goal

pub returns : goal.returns
unfolding serial_in
returns c =
    let s = spot c.args.self.now.k in
    let bs = c.args.self.now.pages.bytes.now in
    c.from_le_bytes.ensures ∙ ap un32 (c.bytes_at.ensures ∙ sym (part_of_lem s 28 0 4 s bs c.record.result.now (sym c.record.ensures.is) (omega arith) (omega arith))) ∙ un32_front (drop s bs)
