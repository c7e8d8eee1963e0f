use Rattle.std.proofs.Common.{◌≡◌, List, ◌++◌, length, get_or, Some, None, sym, refl, ap, ◌∙◌, append_assoc, length-append, arith, rules}
use Rattle.std.specs.List.{slice_get}
use Rattle.octets.specs.Numbers.{le32}
use Rattle.store.specs.World.{world}
use Rattle.std.proofs.lemmas.Option.{slice_get_read}
use Rattle.machine.specs.World.{at, Cell, Name}
use Rattle.archive.specs.Runs.{run}
use Rattle.archive.specs.Layout.{after, told_free, free_bytes, link_bytes, names_bytes}
use Rattle.archive.proofs.Cells.{cell_free, cell_used}
use Rattle.archive.proofs.Runs.{joined}
use Rattle.archive.proofs.parts.add_cell.Goals as goal

-- the four names of a record
four : (h : List Cell) (ls : List Name) → length ls ≡ 4 → names_bytes h ls ≡ link_bytes h ls
unfolding run
four h ls e = ap (run _) e ∙ refl

pub returns-in-None-clause-is : goal.returns-in-None-clause-is
returns-in-None-clause-is g c =
    let w = world c.args.store.now in
    let k = c.args.k in
    let b = c.args.body.now.items in
    let e = c.cells-cells.ensures in
    let a : at w k ≡ None = ap (λ h. get_or h k None) (sym e) ∙ c.in-None.is in
    let n : c.after.result ≡ after w.free k = search rules in
    c.add_free.ensures
    ∙ ap (λ t. b ++ t) (ap free_bytes (c.told_free.ensures ∙ ap (λ h. told_free (length h) c.after.result) e ∙ ap (told_free (length w.cells)) n) ∙ cell_free g.C.Contents.form w k a)

pub returns-in-Some : goal.returns-in-Some
returns-in-Some g c =
    let w = world c.args.store.now in
    let k = c.args.k in
    let b = c.args.body.now.items in
    let r = c.in-Some.record in
    let x = c.index-contents-k.result in
    let e = c.cells-cells.ensures in
    let a : at w k ≡ Some r = ap (λ h. get_or h k None) (sym e) ∙ c.in-Some.is in
    let m : length r.links ≡ 4 = search rules in
    let l : names_bytes c.cells-cells.result.now r.links ≡ link_bytes w.cells r.links = ap (λ h. names_bytes h r.links) e ∙ four w.cells r.links m in
    let n : slice_get w.contents k ≡ Some x = ap (λ t. slice_get t k) (sym c.contents.ensures) ∙ slice_get_read _ _ k x refl (search rules) c.index-contents-k.is in
    let j = joined b _ _ _ _ (c.add.ensures ∙ ap (λ y. b ++ y) c.to_le_bytes.ensures) (c.add-in-Some.ensures ∙ ap (λ y. c.add.new.body.items ++ y) c.form.ensures) in
    let s = le32 r.serial in
    let f = g.C.Contents.form x in
    let o = link_bytes w.cells r.links in
    let all = joined b _ _ _ _ j (c.add_names.ensures ∙ ap (λ y. c.add-in-Some.new.body.items ++ y) l) in
    record {
      is = all ∙ ap (λ t. b ++ t) (append_assoc s f o ∙ cell_used g.C.Contents.form w k r x a n);
      long = ap length all ∙ length-append b ((s ++ f) ++ o) ∙ omega (arith, length-append (s ++ f) o, length-append s f, g.met.C.Contents.sixteen x);
    }
