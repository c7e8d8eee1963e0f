use Rattle.std.proofs.Common.{ℕ, List, ◌++◌, replicate, ap, ◌∙◌}
use Rattle.archive.proofs.Runs.{joined}
use Rattle.archive.proofs.parts.add_free.Goals as goal

pub returns : goal.returns
returns c =
    let b = c.args.body.now.items in
    let n = c.to_le_bytes.result in
    let x : List ℕ = replicate 20 0 in
    let z : List ℕ = replicate 6 0 in
    joined b (x ++ n) z c.add-2.new.body.items c.add-3.new.body.items (joined b x n c.add.new.body.items c.add-2.new.body.items c.add.ensures c.add-2.ensures) c.add-3.ensures
    ∙ ap (λ y. b ++ ((x ++ y) ++ z)) c.to_le_bytes.ensures
