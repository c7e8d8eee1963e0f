use Rattle.std.proofs.Common.{◌≡◌, ℕ, ◌*◌, length, get_or, None, refl, ap, ◌∙◌, length-append, arith, rules}
use Rattle.octets.specs.Numbers.{le16}
use Rattle.store.specs.World.{world}
use Rattle.machine.specs.declared.types.Card.{Card}
use Rattle.machine.specs.World.{World, blank_card, card}
use Rattle.archive.specs.Runs.{run}
use Rattle.archive.specs.Layout.{told, names_bytes, place_bytes}
use Rattle.archive.proofs.Glue.{run_length}
use Rattle.archive.proofs.Runs.{row_none, row_more}
use Rattle.archive.proofs.parts.add_places.Goals as goal

-- the eight names of a card
eight : {C : Type 0} (w : World C) (i : ℕ) (k : Card) → k ≡ card w i → length k.places ≡ 8 → names_bytes w.cells k.places ≡ place_bytes w i
unfolding place_bytes
eight w i k e l =
    ap (run (λ p. le16 (told w.cells (get_or k.places p None)))) l ∙ ap (λ k. run (λ p. le16 (told w.cells (get_or k.places p None))) 8) e

pub loop-card-init : goal.loop-card-init
loop-card-init g c = (row_none (place_bytes (world c.args.store.now)) c.args.body.now.items, omega arith)

pub loop-card-preserved : goal.loop-card-preserved
loop-card-preserved g c =
    let w = world c.args.store.now in
    let i = c.loop-card.card-index in
    let k = get_or c.cards-card-items.result.now i blank_card in
    let l : length k.places ≡ 8 = search rules in
    let x = names_bytes c.cells.result.now k.places in
    let e : x ≡ place_bytes w i = ap (λ h. names_bytes h k.places) c.cells.ensures ∙ eight w i k (ap (λ l. get_or l i blank_card) c.cards-card-items.ensures) l in
    let y : length x ≡ 16 = run_length 2 (λ p. le16 (told c.cells.result.now (get_or k.places p None))) (length k.places) (λ b h. refl) ∙ ap (λ m. 2 * m) l in (
      c.add_names.ensures ∙ row_more (place_bytes w) i c.args.body.now.items c.loop-card.body.items x c.loop-card.invariant.0 e,
      ap length c.add_names.ensures ∙ omega (arith, length-append c.loop-card.body.items x, c.loop-card.invariant.1, y),
    )
