use Rattle.std.proofs.Common.{◌≡◌, ℕ, ◌<◌, false}
use Rattle.archive.specs.Bytes.{serial_in}
use Rattle.archive.proofs.Serials.{Distinct}
use Rattle.archive.proofs.pages.Pages.share.Given as goal

abbrev pub invariant-pairs : goal.invariant-pairs
invariant-pairs l = Distinct (serial_in l.self.bytes.now) l.i × (l.found ≡ false)

abbrev pub invariant-loop-j : goal.invariant-loop-j
invariant-loop-j l = ((k : ℕ) → k < l.j → (serial_in l.self.bytes.now l.i ≡ 0 → ⊥) → serial_in l.self.bytes.now k ≡ serial_in l.self.bytes.now l.i → ⊥) × (l.found ≡ false)
