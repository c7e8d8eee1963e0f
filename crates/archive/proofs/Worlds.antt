-- The store that is read, field by field.
use Rattle.std.proofs.Common.{◌≡◌, ℕ, zero, suc, ◌+◌, ◌*◌, ◌<◌, ◌≤◌, true, false, eqb, ◌≢◌, List, length, get_or, set, Some, None, Option, sym, refl, ap, ◌∙◌, inl, inr, arith}
use Rattle.std.specs.List.{slice_get}
use Rattle.std.proofs.lemmas.Bool.{eq-eqb, ne_eqb, cases_eq}
use Rattle.std.proofs.lemmas.Option.{slice_get-get_or}
use Rattle.std.proofs.lemmas.List.{get_or-set_same, get_or-set_other, length-set}
use Rattle.machine.specs.declared.types.Colour.TheVariants.{Zero}
use Rattle.machine.specs.World.{at, card, newborn, blank_card}
use Rattle.archive.specs.Runs.{tab}
use Rattle.archive.specs.Bytes.{unname, cells_in, cards_in, next_serial_in, rounds_in, first_in, place_in, serial_in, next_in, free_in}
use Rattle.archive.specs.Rules.{count_free}
use Rattle.archive.specs.Reading.{links_of, cell_in, value_in, set_if, filled, places_of, card_with, card_in, chain_from, world_in}
use Rattle.archive.proofs.Runs.{tab-length, tab-at}
use Rattle.archive.proofs.Tables.{filled-length}

pub cell_in_free : (bs : List ℕ) (k : ℕ) → serial_in bs k ≡ 0 → cell_in bs k ≡ None
unfolding cell_in
cell_in_free bs k e = let t : eqb (serial_in bs k) 0 ≡ true = eq-eqb (serial_in bs k) 0 e in rw t

pub cell_in_used : (bs : List ℕ) (k : ℕ) → (serial_in bs k ≡ 0 → ⊥) → cell_in bs k ≡ Some (newborn (serial_in bs k) (links_of bs k) Zero)
unfolding cell_in
cell_in_used bs k e = let t : eqb (serial_in bs k) 0 ≡ false = ne_eqb (serial_in bs k) 0 e in rw t

pub place_at : (bs : List ℕ) (c p : ℕ) → p < 8 → get_or (places_of bs c) p None ≡ unname (place_in bs (8 * c + p))
place_at bs c zero l = ap (λ i. unname (place_in bs i)) (let z : 8 * c ≡ 8 * c + 0 = omega arith in z)
place_at bs c (suc zero) l = refl
place_at bs c (suc (suc zero)) l = refl
place_at bs c (suc (suc (suc zero))) l = refl
place_at bs c (suc (suc (suc (suc zero)))) l = refl
place_at bs c (suc (suc (suc (suc (suc zero))))) l = refl
place_at bs c (suc (suc (suc (suc (suc (suc zero)))))) l = refl
place_at bs c (suc (suc (suc (suc (suc (suc (suc zero))))))) l = refl
place_at bs c (suc (suc (suc (suc (suc (suc (suc (suc p)))))))) l = absurd (omega arith)

module _ {C : Type 0} (v : ℕ → Option C) (old : List C) where
  set_at : (l : List C) (k : ℕ) (x : C) → k < length l → slice_get (set l k x) k ≡ Some x
  set_at l k x h = slice_get-get_or (set l k x) k x (simp length-set h) ∙ ap Some (get_or-set_same l k x x h)

  keeps : (l : List C) (j k : ℕ) (o : Option C) (x : C) → k ≢ j → k < length l → slice_get l k ≡ Some x → slice_get (set_if l j o) k ≡ Some x
  keeps l j k None x h m e = e
  keeps l j k (Some y) x h m e = slice_get-get_or (set l j y) k x (simp length-set m) ∙ ap Some (get_or-set_other l j k y x h) ∙ sym (slice_get-get_or l k x m) ∙ e

  -- a value that there is stands in the table
  pub filled_at : (n k : ℕ) (x : C) → k < n → n ≤ length old → v k ≡ Some x → slice_get (filled v old n) k ≡ Some x
  unfolding filled
  filled_at zero k x l h e = absurd (omega arith)
  filled_at (suc n) k x l h e =
      elim (cases_eq k n) [
        | inl i ↦ ap (λ j. slice_get (set_if (filled v old n) j (v j)) k) (sym i) ∙ ap (λ o. slice_get (set_if (filled v old n) k o) k) e ∙ set_at (filled v old n) k x (omega (arith, filled-length v old n))
        | inr i ↦ keeps (filled v old n) n k (v n) x i (omega (arith, filled-length v old n)) (filled_at n k x (omega arith) (omega arith) e)
      ]

module _ {C : Type 0} (read : List ℕ → Option C) (bs : List ℕ) (old : List C) where
  pub world_cells : (world_in read bs old).cells ≡ tab (cell_in bs) (cells_in bs)
  unfolding world_in
  world_cells = refl

  pub world_contents : (world_in read bs old).contents ≡ filled (value_in read bs) old (cells_in bs)
  unfolding world_in
  world_contents = refl

  pub world_cards : (world_in read bs old).cards ≡ tab (card_in bs) (cards_in bs)
  unfolding world_in
  world_cards = refl

  pub world_free : (world_in read bs old).free ≡ chain_from (next_in bs) (free_in bs (cells_in bs)) (count_free (free_in bs (cells_in bs)) (cells_in bs)) (first_in bs)
  unfolding world_in
  world_free = refl

  pub world_next : (world_in read bs old).next ≡ next_serial_in bs
  unfolding world_in
  world_next = refl

  pub world_rounds : (world_in read bs old).rounds ≡ rounds_in bs
  unfolding world_in
  world_rounds = refl

  pub world_long : length (world_in read bs old).cells ≡ cells_in bs
  world_long = ap length world_cells ∙ tab-length (cell_in bs) (cells_in bs)

  pub world_count : length (world_in read bs old).cards ≡ cards_in bs
  world_count = ap length world_cards ∙ tab-length (card_in bs) (cards_in bs)

  pub world-at : (k : ℕ) → k < cells_in bs → at (world_in read bs old) k ≡ cell_in bs k
  world-at k l = ap (λ h. get_or h k None) world_cells ∙ tab-at (cell_in bs) (cells_in bs) k None l

  pub world_card : (c : ℕ) → c < cards_in bs → card (world_in read bs old) c ≡ card_with (places_of bs c) (rounds_in bs)
  unfolding card_in
  world_card c l = ap (λ h. get_or h c blank_card) world_cards ∙ tab-at (card_in bs) (cards_in bs) c blank_card l
