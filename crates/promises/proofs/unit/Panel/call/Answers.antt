use Rattle.std.proofs.Common.{refl}
use Rattle.promises.proofs.Stepping.{called}
use Rattle.promises.proofs.unit.Panel.call.Goals as goal

pub returns : goal.returns
returns g c =
    let law = g.met.L.Line in
    record {
      called = called g.L.Line.means g.L.Line.sends g.L.Line.fetches g.L.Line.replies g.L.Line.collects law.sending law.fetching law.replying law.collecting _ _ _ _ _ _ c.make_call.ensures;
      lent = (refl, refl);
    }
