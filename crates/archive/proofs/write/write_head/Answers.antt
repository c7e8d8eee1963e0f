use Rattle.std.proofs.Common.{◌≡◌, ◌++◌, length, ap, ◌∙◌, arith}
use Rattle.octets.specs.Block.{block_of}
use Rattle.store.specs.World.{world}
use Rattle.archive.specs.Runs.{run}
use Rattle.archive.specs.Layout.{front_of, place_bytes}
use Rattle.archive.proofs.Heads.{front_long, head_all}
use Rattle.archive.proofs.write.write_head.Goals as goal

pub add_places-requires : goal.add_places-requires
add_places-requires g c =
    let w = world c.args.store.now in
    let e : length c.add_front.new.body.items ≡ 18 =
    ap length (c.add_front.ensures ∙ ap (λ l. l ++ front_of g.C.Contents.CODE w) c.new-body.ensures) ∙ front_long g.C.Contents.CODE w in
    omega arith

pub returns : goal.returns
returns g c =
    let w = world c.args.store.now in
    c.seal.ensures
    ∙ ap (block_of 0 0)
    (c.as_slice.ensures.value ∙ c.add_places.ensures ∙ ap (λ l. l ++ run (place_bytes w) (length w.cards)) (c.add_front.ensures ∙ ap (λ l. l ++ front_of g.C.Contents.CODE w) c.new-body.ensures)
    ∙ head_all g.C.Contents.CODE w)
