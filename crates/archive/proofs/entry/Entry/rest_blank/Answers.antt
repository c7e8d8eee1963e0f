use Rattle.std.proofs.Common.{◌+◌, sym, refl, ap, ◌∙◌, arith}
use Rattle.archive.specs.Bytes.{spot, rest_in}
use Rattle.archive.specs.Rules.{is_blank}
use Rattle.archive.proofs.Glue.{part_of_lem}
use Rattle.archive.proofs.entry.Entry.rest_blank.Goals as goal

pub returns : goal.returns
unfolding rest_in
returns c =
    let s = spot c.args.self.now.k in
    c.blank.ensures ∙ ap is_blank (sym (part_of_lem s 28 22 6 (s + 22) c.args.self.now.pages.bytes.now c.record.result.now (sym c.record.ensures.is) (omega arith) refl))
