use Rattle.std.proofs.Common.{◌≡◌, drop}
use Rattle.sheet.specs.Words.{digits_after}
use Rattle.sheet.proofs.words.digits.Given as goal

abbrev pub invariant-loop-b : goal.invariant-loop-b
invariant-loop-b l = digits_after 0 l.word ≡ digits_after l.n (drop l.b-index l.word)
