use Rattle.std.proofs.Common.{◌-◌, sym, ap, ◌∙◌, arith}
use Rattle.std.proofs.lemmas.Bool.{ltb-true}
use Rattle.archive.specs.Bytes.{free_in, next_in}
use Rattle.archive.specs.Rules.{follows}
use Rattle.archive.proofs.Steps.{follows_out, follows_none, follows_not, follows_more}
use Rattle.archive.proofs.Entries.{there}
use Rattle.archive.proofs.pages.Pages.+follow.Goals as goal
use Rattle.archive.proofs.pages.Pages.+follow.Goals.{then-left-gt0, else-left-gt0}

pub returns-in-None : goal.returns-in-None
returns-in-None t c =
    let p = c.args.self.now in
    follows_none (next_in p.bytes.now) (free_in p.bytes.now p.head.cells) c.args.left ∙ ap (follows (next_in p.bytes.now) (free_in p.bytes.now p.head.cells) c.args.left) (sym c.in-None.is)

pub returns-then-is_free : goal.returns-then-is_free
returns-then-is_free t c =
    let p = c.args.self.now in
    let next = next_in p.bytes.now in
    let free = free_in p.bytes.now p.head.cells in
    let k = c.in-Some.k in
    elim c.if-left-gt0.branch [
      | then-left-gt0 w ↦
          c.follow.ensures ∙ ap (follows next free (c.args.left - 1)) (c.link.ensures ∙ there next_in p c.entry.result k c.entry.ensures.of c.entry.ensures.at)
          ∙ follows_more next free c.args.left k (λ z. omega (arith, w.if-left-gt0.true)) (sym w.is_free.ensures ∙ sym w.value-is ∙ c.if-is_free.true)
          ∙ ap (follows next free c.args.left) (sym c.in-Some.is)
      | else-left-gt0 w ↦ absurd (omega (arith, ltb-true 0 c.args.left (sym w.value-is ∙ c.if-is_free.true), w.if-left-gt0.false))
    ]

pub returns-else-is_free : goal.returns-else-is_free
returns-else-is_free t c =
    let p = c.args.self.now in
    let next = next_in p.bytes.now in
    let free = free_in p.bytes.now p.head.cells in
    let k = c.in-Some.k in
    elim c.if-left-gt0.branch [
      | then-left-gt0 w ↦ c.if-is_free.false ∙ follows_not next free c.args.left k (sym w.is_free.ensures ∙ sym w.value-is ∙ c.if-is_free.false) ∙ ap (follows next free c.args.left) (sym c.in-Some.is)
      | else-left-gt0 w ↦ c.if-is_free.false ∙ follows_out next free c.args.left k (omega (arith, w.if-left-gt0.false)) ∙ ap (follows next free c.args.left) (sym c.in-Some.is)
    ]
