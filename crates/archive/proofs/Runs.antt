-- Lists in a row, all of one length. Assumes nothing.
use Rattle.std.proofs.Common.{◌≡◌, ℕ, zero, suc, ◌+◌, ◌<◌, ◌≤◌, List, [], ◌∷◌, ◌++◌, length, get_or, take, sym, refl, ap, ◌∙◌, append_assoc, inl, inr, add-one, arith}
use Rattle.std.proofs.lemmas.Bool.{cases_eq}
use Rattle.std.proofs.lemmas.List.{append-nil, length_push, get_or_push, get_or_append_left, ext_get_or, length-take-le, get_or-take}
use Rattle.archive.specs.Runs.{run, tab}

pub run_none : {X : Type 0} (f : ℕ → List X) → run f 0 ≡ []
unfolding run
run_none f = refl

pub run_one : {X : Type 0} (f : ℕ → List X) → f 0 ≡ run f 1
unfolding run
run_one f = refl

pub run_more : {X : Type 0} (f : ℕ → List X) (n : ℕ) → run f n ++ f n ≡ run f (n + 1)
unfolding run
run_more f n = ap (run f) (sym (add-one n))

pub tab-length : {X : Type 0} (f : ℕ → X) (n : ℕ) → length (tab f n) ≡ n
unfolding run
tab-length f zero = refl
tab-length f (suc n) = length_push (tab f n) (f n) ∙ omega (arith, tab-length f n)

pub tab-at : {X : Type 0} (f : ℕ → X) (n k : ℕ) (d : X) → k < n → get_or (tab f n) k d ≡ f k
unfolding run
tab-at f zero k d l = absurd (omega arith)
tab-at f (suc n) k d l =
    elim (cases_eq k n) [
      | inl e ↦ get_or_push (tab f n) (f n) d k (tab-length f n ∙ sym e) ∙ ap f (sym e)
      | inr e ↦ get_or_append_left (tab f n) (f n ∷ []) d k (omega (arith, tab-length f n)) ∙ tab-at f n k d (omega arith)
    ]

-- a table that has the values of f is the list of them
pub tab_is : {X : Type 0} (f : ℕ → X) (n : ℕ) (d : X) (l : List X) → length l ≡ n → ((k : ℕ) → k < n → get_or l k d ≡ f k) → l ≡ tab f n
tab_is f n d l e h = ext_get_or d l (tab f n) (e ∙ sym (tab-length f n)) (λ k i. h k (omega arith) ∙ sym (tab-at f n k d (omega arith)))

pub tab-take : {X : Type 0} (f : ℕ → X) (m n : ℕ) (d : X) → m ≤ n → take m (tab f n) ≡ tab f m
tab-take f m n d h =
    tab_is f m d (take m (tab f n)) (length-take-le m (tab f n) (omega (arith, tab-length f n)))
    (λ k l. get_or-take m (tab f n) k d l ∙ tab-at f n k d (omega arith))

pub tab_same : {X : Type 0} (f g : ℕ → X) (n : ℕ) → ((k : ℕ) → k < n → f k ≡ g k) → tab f n ≡ tab g n
unfolding run
tab_same f g zero h = refl
tab_same f g (suc n) h = ap (λ l. l ++ f n ∷ []) (tab_same f g n (λ k l. h k (omega arith))) ∙ ap (λ x. tab g n ++ x ∷ []) (h n (omega arith))

-- a list that has so many parts of a row behind its start, and one part more
pub row_none : {X : Type 0} (f : ℕ → List X) (a : List X) → a ≡ a ++ run f 0
row_none f a = sym (ap (λ t. a ++ t) (run_none f) ∙ append-nil a)

pub row_more : {X : Type 0} (f : ℕ → List X) (n : ℕ) (a l x : List X) → l ≡ a ++ run f n → x ≡ f n → l ++ x ≡ a ++ run f (n + 1)
row_more f n a l x e q = ap (λ t. t ++ x) e ∙ append_assoc a (run f n) x ∙ ap (λ t. a ++ (run f n ++ t)) q ∙ ap (λ t. a ++ t) (run_more f n)

-- one part behind another
pub joined : {X : Type 0} (a x y l m : List X) → l ≡ a ++ x → m ≡ l ++ y → m ≡ a ++ (x ++ y)
joined a x y l m e f = f ∙ ap (λ t. t ++ y) e ∙ append_assoc a x y
