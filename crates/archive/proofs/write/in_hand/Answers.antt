use Rattle.std.proofs.Common.{◌≡◌, ◌||◌, List, [], ◌∷◌, is_some, refl, ap, ◌∙◌, rules, tests}
use Rattle.std.specs.List.{list_any}
use Rattle.std.proofs.lemmas.Iterator.{YieldsList-from_slice}
use Rattle.std.proofs.lemmas.Iterator.Search.{any_from_yields_List}
use Rattle.machine.specs.declared.types.Card.{Card}
use Rattle.archive.specs.Writing.{in_hand}
use Rattle.archive.proofs.write.in_hand.Goals as goal

some_hand : (ks : List Card) → list_any (λ k. is_some k.update) ks ≡ in_hand ks
unfolding in_hand
some_hand [] = refl
some_hand (k ∷ ks) = ap (λ b. is_some k.update || b) (some_hand ks)

pub returns : goal.returns
returns c =
    any_from_yields_List (λ k. is_some k.update) _ _ _ c.any.ensures.ran (YieldsList-from_slice c.args.cards.now cc) (λ x b q k. search (rules, tests)) ∙ some_hand c.args.cards.now
