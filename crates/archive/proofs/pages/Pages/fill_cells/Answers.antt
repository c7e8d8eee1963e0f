use Rattle.std.proofs.Common.{◌≡◌, length, None, sym, ap, ◌∙◌, inl, inr, arith, rules}
use Rattle.std.proofs.lemmas.Bool.{cases_eq}
use Rattle.std.proofs.lemmas.List.{get_or-set_other}
use Rattle.std.proofs.lemmas.Grind.{get_or-set_at}
use Rattle.archive.specs.Reading.{cell_in}
use Rattle.archive.proofs.Runs.{tab_is}
use Rattle.archive.proofs.Entries.{there}
use Rattle.archive.proofs.pages.Pages.fill_cells.Goals as goal

pub returns : goal.returns
returns c =
    let same : length c.loop-k.cells ≡ length c.args.cells.now = search rules in
    tab_is (cell_in c.args.self.now.bytes.now) (length c.args.cells.now) None c.loop-k.cells same (λ k h. c.loop-k.invariant k (omega arith))

pub loop-k-preserved : goal.loop-k-preserved
loop-k-preserved c k h =
    let l = c.loop-k in
    let e = c.cell.ensures ∙ there cell_in c.args.self.now c.entry.result l.k c.entry.ensures.of c.entry.ensures.at in
    elim (cases_eq k l.k) [
      | inl q ↦ get_or-set_at l.cells l.k k c.cell.result None q (search rules) ∙ e ∙ ap (cell_in c.args.self.now.bytes.now) (sym q)
      | inr q ↦ get_or-set_other l.cells l.k k c.cell.result None q ∙ l.invariant k (omega arith)
    ]
