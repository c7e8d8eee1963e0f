use Rattle.std.proofs.Common.{◌++◌, ap, ◌∙◌, rules}
use Rattle.store.specs.World.{world}
use Rattle.archive.proofs.Runs.{joined}
use Rattle.archive.proofs.Heads.{front_is}
use Rattle.archive.proofs.parts.add_front.Goals as goal

pub returns : goal.returns
returns g c =
    let w = world c.args.store.now in
    let b = c.args.body.now.items in
    let j1 = c.add.ensures ∙ ap (λ y. b ++ y) c.to_le_bytes.ensures in
    let j2 = joined b _ _ _ _ j1 (c.add-2.ensures ∙ ap (λ y. c.add.new.body.items ++ y) c.to_le_bytes-2.ensures) in
    let j3 = joined b _ _ _ _ j2 (c.add-3.ensures ∙ ap (λ y. c.add-2.new.body.items ++ y) c.to_le_bytes-3.ensures) in
    let j4 = joined b _ _ _ _ j3 (c.add-4.ensures ∙ ap (λ y. c.add-3.new.body.items ++ y) c.to_le_bytes-4.ensures) in
    let j5 = joined b _ _ _ _ j4 (c.add-5.ensures ∙ ap (λ y. c.add-4.new.body.items ++ y) c.to_le_bytes-5.ensures) in
    let j6 = joined b _ _ _ _ j5 (c.add-6.ensures ∙ ap (λ y. c.add-5.new.body.items ++ y) c.to_le_bytes-6.ensures) in
    let j7 = joined b _ _ _ _ j6 (c.add-7.ensures ∙ ap (λ y. c.add-6.new.body.items ++ y) c.to_le_bytes-7.ensures) in
    j7 ∙ ap (λ y. b ++ y) (front_is g.C.Contents.CODE w _ _ _ _ _ _ (search rules) (search rules) (search rules) (search rules) (search rules) (search rules))
