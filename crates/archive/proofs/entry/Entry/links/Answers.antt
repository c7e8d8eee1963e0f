use Rattle.std.proofs.Common.{◌+◌, sym, refl, arith}
use Rattle.archive.specs.Bytes.{spot}
use Rattle.archive.proofs.Glue.{part_of_lem}
use Rattle.archive.proofs.entry.Entry.links.Goals as goal

pub returns-clause-is : goal.returns-clause-is
returns-clause-is c =
    let s = spot c.args.self.now.k in
    sym (part_of_lem s 28 20 8 (s + 20) c.args.self.now.pages.bytes.now c.record.result.now (sym c.record.ensures.is) (omega arith) refl)
