-- The free list, cell by cell.
use Rattle.std.proofs.Common.{◌≡◌, ℕ, zero, suc, ◌<◌, ◌≤◌, true, false, eqb, List, [], ◌∷◌, length, drop, Some, None, vec_items, vec_len, Vec, sym, refl, ap, ◌∙◌, arith}
use Rattle.std.specs.List.{slice_get}
use Rattle.std.proofs.lemmas.Bool.{eq-eqb, ne_eqb}
use Rattle.std.proofs.lemmas.List.{length-reverse}
use Rattle.std.proofs.lemmas.Option.{none-some}
use Rattle.store.specs.Model.{stack}
use Rattle.store.specs.World.{world}
use Rattle.store.proofs.Cells.{spares_most}
use Rattle.store.specs.declared.whole.Store.{Store}
use Rattle.archive.specs.Layout.{after}

-- what comes after a cell, going through the list place by place
pub after_end : (l : List ℕ) (i k : ℕ) → slice_get l i ≡ None → after (drop i l) k ≡ None
unfolding after
after_end [] zero k e = refl
after_end [] (suc i) k e = refl
after_end (x ∷ l) zero k e = absurd (none-some x (sym e))
after_end (x ∷ l) (suc i) k e = after_end l i k e

pub after_here : (l : List ℕ) (i x k : ℕ) → Some x ≡ slice_get l i → x ≡ k → after (drop i l) k ≡ slice_get l (suc i)
unfolding after
after_here [] zero x k e q = absurd (none-some x (sym e))
after_here [] (suc i) x k e q = absurd (none-some x (sym e))
after_here (y ∷ l) zero x k e q = let p : y ≡ k = cc in let t : eqb y k ≡ true = eq-eqb y k p in rw t
after_here (y ∷ l) (suc i) x k e q = after_here l i x k e q

pub after_on : (l : List ℕ) (i x k : ℕ) → Some x ≡ slice_get l i → (x ≡ k → ⊥) → after (drop i l) k ≡ after (drop (suc i) l) k
unfolding after
after_on [] zero x k e q = absurd (none-some x (sym e))
after_on [] (suc i) x k e q = absurd (none-some x (sym e))
after_on (y ∷ l) zero x k e q = let p : x ≡ y = cc in let t : eqb y k ≡ false = ne_eqb y k (λ z. q (p ∙ z)) in rw t
after_on (y ∷ l) (suc i) x k e q = after_on l i x k e q

-- what comes after the first place that holds a cell, and nothing after a cell that no place holds
pub after_first : (l : List ℕ) (k i : ℕ) → slice_get l i ≡ Some k → ((j : ℕ) → j < i → slice_get l j ≡ Some k → ⊥) → after l k ≡ slice_get l (suc i)
unfolding after
after_first [] k zero e h = absurd (none-some k e)
after_first [] k (suc i) e h = absurd (none-some k e)
after_first (x ∷ l) k zero e h = let p : x ≡ k = cc in let t : eqb x k ≡ true = eq-eqb x k p in rw t
after_first (x ∷ l) k (suc i) e h =
    let t : eqb x k ≡ false = ne_eqb x k (λ p. h 0 (omega arith) (ap Some p)) in
    rw t (after_first l k i e (λ j m. h (suc j) (omega arith)))

pub after_never : (l : List ℕ) (k n : ℕ) → length l ≤ n → ((j : ℕ) → j < n → slice_get l j ≡ Some k → ⊥) → after l k ≡ None
unfolding after
after_never [] k n m h = refl
after_never (x ∷ l) k zero m h = absurd (omega arith)
after_never (x ∷ l) k (suc n) m h =
    let t : eqb x k ≡ false = ne_eqb x k (λ p. h 0 (omega arith) (ap Some p)) in
    rw t (after_never l k n (omega arith) (λ j i. h (suc j) (omega arith)))

pub stack-length : {Z : Type 0} (v : Vec ℕ Z) → length (stack v) ≡ vec_len v
unfolding stack
stack-length v = length-reverse (vec_items v) ∙ sym v.ok.0

-- the free list has no more cells than the store
pub free_short : {C : Type 0} (s : Store C) → length (world s).free ≤ length (world s).cells
free_short s = omega (arith, stack-length s.free, spares_most (world s).cells, s.numbers.0)
