use Rattle.std.proofs.Common.{◌+◌, length, refl, arith, rules}
use Rattle.octets.proofs.Filled.{seal, written}
use Rattle.octets.proofs.blocks.write_block.Goals as goal

pub returns-clause-is : goal.returns-clause-is
returns-clause-is c =
    let body = c.args.body.now in
    written c.args.out.now _ body c.args.number c.args.count (search rules) (search rules)
    (seal c.args.number c.args.count (4 + length body) c.args.out.now body _ _ _ _ _ refl (omega arith) (search rules) (search rules) (search rules) (search rules)
    (search rules) (search rules))
