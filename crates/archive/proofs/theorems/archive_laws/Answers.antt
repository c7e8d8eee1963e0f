use Rattle.std.proofs.Common.{◌<◌, arith}
use Rattle.archive.proofs.Forth.{forth, once}
use Rattle.archive.proofs.Rests.{starts}
use Rattle.archive.proofs.Back.{back}
use Rattle.archive.proofs.theorems.archive_laws.Goals as goal

pub returns : goal.returns
returns g c =
    let D = g.C.Contents in
    let M = g.met.C.Contents in
    let e = c.CODE.ensures in
    let small : D.CODE < 65536 = omega arith in
    record {
      forth = forth D.CODE D.form D.read M.forth;
      once = once D.CODE D.form D.read M.forth;
      starts = starts D.CODE D.read;
      back = back D.CODE D.form D.read M.sixteen M.back small;
    }
