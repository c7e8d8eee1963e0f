use Rattle.std.proofs.Common.{◌≡◌}
use Rattle.archive.specs.Reading.{value_in, filled}
use Rattle.archive.proofs.pages.Pages.fill_contents.Given as goal

abbrev pub invariant-loop-k : goal.invariant-loop-k
invariant-loop-k g l = l.contents ≡ filled (value_in g.C.Contents.read l.self.bytes.now) l.initial.contents l.k
