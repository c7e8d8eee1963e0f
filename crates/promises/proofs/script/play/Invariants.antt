use Rattle.std.proofs.Common.{◌≡◌, ◌≤◌, length, take, vec_items, vec_len, vec_capacity}
use Rattle.store.specs.World.{world}
use Rattle.promises.specs.Acting.{RunBy}
use Rattle.promises.proofs.script.play.Given as goal

abbrev pub invariant-loop-call : goal.invariant-loop-call
invariant-loop-call g l =
    RunBy g.L.Line.sends g.L.Line.fetches g.L.Line.replies g.L.Line.collects (world l.initial.store) l.initial.line (take l.call-index l.script) (vec_items l.answers) (world l.store) l.line
    × (vec_len l.answers ≡ l.call-index)
    × (length l.script ≤ vec_capacity l.answers)
