use Rattle.std.proofs.Common.{◌≡◌, ◌+◌, false, length, get_or, drop, None, sym, ap, ◌∙◌, zero-add, arith}
use Rattle.machine.specs.World.{see}
use Rattle.machine.specs.Waiting.{put_all, put_waiting, snooped_names, name_if}
use Rattle.store.specs.World.{world}
use Rattle.store.proofs.Pushing.{put_all_more, put_all_end}
use Rattle.store.proofs.Gathering.{names_length, names_at, names_push}
use Rattle.store.proofs.whole.Store.gather_snooped.Goals as goal

pub loop-i-preserved : goal.loop-i-preserved
loop-i-preserved g c =
    let w = world c.loop-i.self in
    let i = c.loop-i.i in
    let ns = snooped_names 0 (world c.args.self.now).cells in
    let n : length (snooped_names 0 (world c.args.self.now).cells) ≡ length (world c.args.self.now).cells = names_length 0 (world c.args.self.now).cells in
    let here : get_or ns i None ≡ c.snooped_name-v.result =
    ap (λ l. get_or l i None) (sym c.loop-i.invariant.1) ∙ names_at 0 w.cells i
    ∙ ap (λ k. name_if (see (λ r. r.snooped) false (get_or w.cells i _)) k) (zero-add i)
    ∙ ap (λ x. name_if (see (λ r. r.snooped) false x) i) (sym c.at.ensures) ∙ sym c.snooped_name-v.ensures in (
      c.loop-i.invariant.0 ∙ put_all_more w ns i (omega (arith, n)) ∙ ap (λ v. put_all (put_waiting w v) (drop (i + 1) ns)) here ∙ ap (λ v. put_all v (drop (i + 1) ns)) (sym c.put_waiting.ensures),
      ap (λ v. snooped_names 0 v.cells) c.put_waiting.ensures ∙ names_push w c.snooped_name-v.result ∙ c.loop-i.invariant.1,
    )

pub returns : goal.returns
returns g c =
    let ns = snooped_names 0 (world c.args.self.now).cells in
    let n : length (snooped_names 0 (world c.args.self.now).cells) ≡ length (world c.args.self.now).cells = names_length 0 (world c.args.self.now).cells in
    sym (c.loop-i.invariant.0 ∙ put_all_end (world c.loop-i.self) ns c.loop-i.i (omega (arith, n)))
