use Rattle.std.proofs.Common.{◌≡◌, ℕ, ◌+◌, ◌-◌, ◌*◌, ◌/◌, ◌%◌, take, drop, sym, ap, ◌∙◌, arith}
use Rattle.archive.specs.Bytes.{spot}
use Rattle.archive.proofs.Glue.{part_of_lem}
use Rattle.archive.proofs.entry.Entry.record.Goals as goal

pub returns-clause-is : goal.returns-clause-is
returns-clause-is c =
    let a : ℕ = 4 + 28 * (c.args.self.now.k % 18) in
    let w : (a + 28) - a ≡ 28 = omega arith in
    ap (λ m. take m (drop a c.block.result.now)) w
    ∙ sym (part_of_lem (512 * (c.args.self.now.k / 18 + 1)) 512 a 28 (spot c.args.self.now.k) c.args.self.now.pages.bytes.now c.block.result.now (sym c.block.ensures.is) (omega arith) (omega arith))
