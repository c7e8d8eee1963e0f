use Rattle.std.proofs.Common.{◌*◌, drop, None, rules}
use Rattle.octets.specs.Numbers.{un16}
use Rattle.archive.specs.Bytes.{unname}
use Rattle.archive.proofs.Walks.{tabled}
use Rattle.archive.proofs.bytes.names.Goals as goal

pub returns : goal.returns
returns g c =
    tabled _ (λ i. unname (un16 (drop (2 * i) c.args.bytes.now))) _ (λ i y q k. search rules) c.from_fn.result g.row.N None c.from_fn.ensures.items
