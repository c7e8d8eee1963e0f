use Rattle.std.proofs.Common.{◌≡◌, sym, ap, ◌∙◌}
use Rattle.std.proofs.lemmas.List.{set-get_or}
use Rattle.archive.specs.Reading.{value_in, set_if}
use Rattle.archive.proofs.Tables.{filled_none, filled_more}
use Rattle.archive.proofs.Entries.{there}
use Rattle.archive.proofs.pages.Pages.fill_contents.Goals as goal
use Rattle.archive.proofs.pages.Pages.fill_contents.Goals.{in-Some, in_default}

pub loop-k-init : goal.loop-k-init
loop-k-init g c = filled_none (value_in g.C.Contents.read c.args.self.now.bytes.now) c.args.contents.now

pub loop-k-preserved : goal.loop-k-preserved
loop-k-preserved g c =
    let v = value_in g.C.Contents.read c.args.self.now.bytes.now in
    let k = c.loop-k.k in
    let e : c.value.result ≡ v k = c.value.ensures ∙ there (value_in g.C.Contents.read) c.args.self.now c.entry.result k c.entry.ensures.of c.entry.ensures.at in
    let more = ap (λ l. set_if l k (v k)) c.loop-k.invariant ∙ filled_more v c.args.contents.now k in
    elim c.match-value.branch [
      | in-Some w ↦ w.contents-is ∙ ap (set_if c.loop-k.contents k) (sym w.in-Some.is ∙ e) ∙ more
      | in_default w ↦ w.contents-is ∙ set-get_or c.loop-k.contents k c.index-contents-k.result ∙ ap (set_if c.loop-k.contents k) (sym w.in_default.is ∙ e) ∙ more
    ]
