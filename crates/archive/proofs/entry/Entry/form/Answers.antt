use Rattle.std.proofs.Common.{◌+◌, sym, refl, ◌∙◌, arith}
use Rattle.archive.specs.Bytes.{spot, form_in}
use Rattle.archive.proofs.Glue.{part_of_lem}
use Rattle.archive.proofs.entry.Entry.form.Goals as goal

pub returns : goal.returns
unfolding form_in
returns c =
    let s = spot c.args.self.now.k in
    c.bytes_at.ensures ∙ sym (part_of_lem s 28 4 16 (s + 4) c.args.self.now.pages.bytes.now c.record.result.now (sym c.record.ensures.is) (omega arith) refl)
