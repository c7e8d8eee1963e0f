use Rattle.std.proofs.Common.{◌-◌, ◌∷◌, Some, sym, ap, ◌∙◌, arith}
use Rattle.store.proofs.Stacks.{stack_none, stack_push}
use Rattle.archive.specs.Bytes.{free_in, next_in}
use Rattle.archive.specs.Reading.{chain_from}
use Rattle.archive.proofs.Lists.{chain_out, chain_none, chain_not, chain_more}
use Rattle.archive.proofs.Entries.{there}
use Rattle.archive.proofs.pages.Pages.+list_chain.Goals as goal
use Rattle.archive.proofs.pages.Pages.+list_chain.Goals.{else-left-gt0-via-then-left-gt0+else-is_free, else-left-gt0-via-else-left-gt0}

pub returns-in_default-clause-does : goal.returns-in_default-clause-does
returns-in_default-clause-does t c =
    let p = c.args.self.now in
    let next = next_in p.bytes.now in
    let free = free_in p.bytes.now p.head.cells in
    stack_none c.args.free.now c.requires.empty ∙ chain_none next free c.args.left ∙ ap (chain_from next free c.args.left) (sym c.in_default.is)

pub returns-then-is_free-clause-does : goal.returns-then-is_free-clause-does
returns-then-is_free-clause-does t c =
    let p = c.args.self.now in
    let next = next_in p.bytes.now in
    let free = free_in p.bytes.now p.head.cells in
    let k = c.in-Some.k in
    stack_push c.list_chain.new.free c.push_reserved.new.self k c.push_reserved.ensures.items ∙ ap (λ l. k ∷ l) (c.list_chain.ensures.does ∙ ap (chain_from next free (c.args.left - 1)) (c.link.ensures ∙ there next_in p c.entry.result k c.entry.ensures.of c.entry.ensures.at))
    ∙ chain_more next free c.args.left k (λ z. omega (arith, c.if-left-gt0.true)) (sym c.if-is_free.ensures)
    ∙ ap (chain_from next free c.args.left) (sym c.in-Some.is)

pub returns-else-left-gt0-clause-does : goal.returns-else-left-gt0-clause-does
returns-else-left-gt0-clause-does t c =
    let p = c.args.self.now in
    let next = next_in p.bytes.now in
    let free = free_in p.bytes.now p.head.cells in
    let k = c.in-Some.k in
    let e = ap (chain_from next free c.args.left) (sym c.in-Some.is) in
    let n = stack_none c.args.free.now c.requires.empty in
    elim c.else-left-gt0.branch [
      | else-left-gt0-via-then-left-gt0+else-is_free w ↦ n ∙ chain_not next free c.args.left k (sym w.if-is_free.ensures) ∙ e
      | else-left-gt0-via-else-left-gt0 w ↦ n ∙ chain_out next free c.args.left (Some k) (omega (arith, w.if-left-gt0.false)) ∙ e
    ]
