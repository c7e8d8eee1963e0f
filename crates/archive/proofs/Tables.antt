-- Tables as they are filled.
use Rattle.std.proofs.Common.{◌≡◌, ℕ, zero, suc, ◌+◌, ◌<◌, ◌≤◌, true, false, cond, eqb, ltb, List, [], ◌∷◌, ◌++◌, length, Some, None, Option, sym, refl, ap, ◌∙◌, inl, inr, add-one, arith}
use Rattle.std.proofs.lemmas.Bool.{eq-eqb, ne_eqb, lt-ltb, cases_Bool}
use Rattle.std.proofs.lemmas.List.{length-set}
use Rattle.machine.specs.World.{Cell}
use Rattle.machine.specs.declared.types.Card.{Card}
use Rattle.store.specs.Model.{spare, spares}
use Rattle.archive.specs.Runs.{run, tab}
use Rattle.archive.specs.Rules.{count_free}
use Rattle.archive.specs.Bytes.{serial_in, form_in, free_in}
use Rattle.archive.specs.Reading.{cell_in, value_in, set_if, filled, rest_with}

pub filled_none : {C : Type 0} (v : ℕ → Option C) (old : List C) → old ≡ filled v old 0
unfolding filled
filled_none v old = refl

pub filled_more : {C : Type 0} (v : ℕ → Option C) (old : List C) (n : ℕ) → set_if (filled v old n) n (v n) ≡ filled v old (n + 1)
unfolding filled
filled_more v old n = ap (filled v old) (sym (add-one n))

set_if-length : {C : Type 0} (l : List C) (k : ℕ) (o : Option C) → length (set_if l k o) ≡ length l
set_if-length l k None = refl
set_if-length l k (Some x) = length-set l k x

pub filled-length : {C : Type 0} (v : ℕ → Option C) (old : List C) (n : ℕ) → length (filled v old n) ≡ length old
unfolding filled
filled-length v old zero = refl
filled-length v old (suc n) = set_if-length (filled v old n) n (v n) ∙ filled-length v old n

pub value_none : {C : Type 0} (read : List ℕ → Option C) (bs : List ℕ) (k : ℕ) → serial_in bs k ≡ 0 → None ≡ value_in read bs k
unfolding value_in
value_none read bs k e = let t : eqb (serial_in bs k) 0 ≡ true = eq-eqb (serial_in bs k) 0 e in rw t

pub value_is : {C : Type 0} (read : List ℕ → Option C) (bs : List ℕ) (k : ℕ) → (serial_in bs k ≡ 0 → ⊥) → read (form_in bs k) ≡ value_in read bs k
unfolding value_in
value_is read bs k h = let t : eqb (serial_in bs k) 0 ≡ false = ne_eqb (serial_in bs k) 0 h in rw t

spares_push : (l : List Cell) (c : Cell) → spares (l ++ c ∷ []) ≡ spares l + spare c
unfolding spares
spares_push [] c = omega arith
spares_push (d ∷ l) c = omega (arith, spares_push l c)

spare_in : (bs : List ℕ) (n k : ℕ) → k < n → spare (cell_in bs k) ≡ cond (free_in bs n k) 1 0
unfolding cell_in
spare_in bs n k l =
    let t : ltb k n ≡ true = lt-ltb k n l in
    elim (cases_Bool (eqb (serial_in bs k) 0)) [ inl e ↦ rw (t, e) | inr e ↦ rw (t, e) ]

-- as many cells are spare as are free in the bytes
pub spares_tab : (bs : List ℕ) (n m : ℕ) → m ≤ n → spares (tab (cell_in bs) m) ≡ count_free (free_in bs n) m
unfolding run count_free spares
spares_tab bs n zero h = refl
spares_tab bs n (suc m) h = spares_push (tab (cell_in bs) m) (cell_in bs m) ∙ omega (arith, spares_tab bs n m (omega arith), spare_in bs n m (omega arith))

pub rest_same : {C : Type 0} (h h' : List Cell) (x x' : List C) (ks ks' : List Card) (f f' : List ℕ) (c c' n n' r r' : ℕ) → h ≡ h' → x ≡ x' → ks ≡ ks' → f ≡ f' → c ≡ c' → n ≡ n' → r ≡ r' → rest_with h x ks f c n r ≡ rest_with h' x' ks' f' c' n' r'
rest_same h h' x x' ks ks' f f' c c' n n' r r' p q s t u v w =
    ap (λ a. rest_with a x ks f c n r) p ∙ ap (λ a. rest_with h' a ks f c n r) q ∙ ap (λ a. rest_with h' x' a f c n r) s ∙ ap (λ a. rest_with h' x' ks' a c n r) t
    ∙ ap (λ a. rest_with h' x' ks' f' a n r) u ∙ ap (λ a. rest_with h' x' ks' f' c' a r) v ∙ ap (rest_with h' x' ks' f' c' n') w
