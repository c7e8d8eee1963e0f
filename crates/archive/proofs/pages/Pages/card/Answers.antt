use Rattle.std.proofs.Common.{◌≡◌, ℕ, ◌+◌, ◌-◌, ◌*◌, List, [], ◌∷◌, take, drop, ap, ◌∙◌, add-zero, arith}
use Rattle.octets.specs.Numbers.{un16}
use Rattle.machine.specs.World.{Name}
use Rattle.archive.specs.Runs.{run, tab}
use Rattle.archive.specs.Bytes.{unname, place_in}
use Rattle.archive.specs.Reading.{card_with, places_of, card_in}
use Rattle.archive.proofs.Glue.{two_in}
use Rattle.archive.proofs.Runs.{tab_same}
use Rattle.archive.proofs.pages.Pages.card.Goals as goal

-- the names in the bytes of a card's places
named : (bs l : List ℕ) (c : ℕ) → l ≡ take 16 (drop (22 + 16 * c) bs) → tab (λ i. unname (un16 (drop (2 * i) l))) 8 ≡ places_of bs c
unfolding run place_in
named bs l c e =
    let f : ℕ → Name = λ j. unname (place_in bs j) in
    tab_same (λ i. unname (un16 (drop (2 * i) l))) (λ i. f (8 * c + i)) 8 (λ i h. ap unname (two_in (22 + 16 * c) 16 (2 * i) (22 + 2 * (8 * c + i)) bs l e (omega arith) (omega arith)))
    ∙ ap (λ j. f j ∷ f (8 * c + 1) ∷ f (8 * c + 2) ∷ f (8 * c + 3) ∷ f (8 * c + 4) ∷ f (8 * c + 5) ∷ f (8 * c + 6) ∷ f (8 * c + 7) ∷ []) (add-zero (8 * c))

pub returns : goal.returns
unfolding card_in
returns c =
    let p = c.args.self.now in
    let bs = p.bytes.now in
    let a : ℕ = 22 + 16 * c.args.c in
    let w : (38 + 16 * c.args.c) - a ≡ 16 = omega arith in
    ap (λ l. card_with l p.head.rounds) (c.names.ensures ∙ named bs (take ((38 + 16 * c.args.c) - a) (drop a bs)) c.args.c (ap (λ m. take m (drop a bs)) w))
    ∙ ap (card_with (places_of bs c.args.c)) (ap (λ h. h.rounds) p.told)
