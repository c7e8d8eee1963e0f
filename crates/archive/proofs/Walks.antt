-- What a walk over numbers, bytes or blocks finds. Assumes nothing.
use Rattle.std.proofs.Common.{◌≡◌, ℕ, zero, suc, ◌+◌, ◌*◌, ◌<◌, ◌≤◌, Bool, true, false, cond, eqb, List, [], ◌∷◌, length, get_or, take, drop, sym, refl, ap, ◌∙◌, subst, inl, inr, zero-add, mul-suc, arith}
use Rattle.std.specs.List.{list_all, range_with_len, count_by, filter}
use Rattle.std.specs.Simd.{first_chunks}
use Rattle.std.specs.Array.{IsFromFnResult, IsFromFnResultFrom}
use Rattle.std.specs.Fn.{Called}
use Rattle.std.proofs.lemmas.Bool.{cases_eq, cases_Bool}
use Rattle.std.proofs.lemmas.List.{drop-drop}
use Rattle.std.proofs.lemmas.List.Sums.{length-filter, sum_by-cons}
use denote.Param.Members.{Mut}
use Rattle.archive.specs.Runs.{tab, every}
use Rattle.archive.specs.Rules.{is_blank, count_free}
use Rattle.archive.proofs.Runs.{tab_is}

-- bytes that are all 0
pub all_blank : (bs : List ℕ) → list_all (λ b. eqb b 0) bs ≡ is_blank bs
all_blank [] = refl
all_blank (b ∷ bs) = elim (cases_Bool (eqb b 0)) [ inl e ↦ rw e (all_blank bs) | inr e ↦ rw e ]

same_front : (b c d : Bool) → cond (cond b c false) d false ≡ cond b (cond c d false) false
same_front true c d = refl
same_front false c d = refl

alone : (b : Bool) → b ≡ cond b true false
alone true = refl
alone false = refl

module _ (t : ℕ → Bool) where
  pub every_front : (n : ℕ) → every t (suc n) ≡ cond (t 0) (every (λ k. t (suc k)) n) false
  unfolding every
  every_front zero = alone (t 0)
  every_front (suc n) = ap (λ b. cond b (t (suc n)) false) (every_front n) ∙ same_front (t 0) (every (λ k. t (suc k)) n) (t (suc n))

  pub every_same : (u : ℕ → Bool) (n : ℕ) → ((k : ℕ) → k < n → t k ≡ u k) → every t n ≡ every u n
  unfolding every
  every_same u zero h = refl
  every_same u (suc n) h = ap (λ b. cond b (t n) false) (every_same u n (λ k l. h k (omega arith))) ∙ ap (λ b. cond (every u n) b false) (h n (omega arith))

  pub count_same : (u : ℕ → Bool) (n : ℕ) → ((k : ℕ) → t k ≡ u k) → count_free t n ≡ count_free u n
  unfolding count_free
  count_same u zero h = refl
  count_same u (suc n) h = ap (λ b. cond b 1 0 + count_free t n) (h n) ∙ ap (λ m. cond (u n) 1 0 + m) (count_same u n h)

  pub count_front : (n : ℕ) → count_free t (suc n) ≡ cond (t 0) 1 0 + count_free (λ k. t (suc k)) n
  unfolding count_free
  count_front zero = refl
  count_front (suc n) = omega (arith, count_front n)

-- a test of each number of a range
pub all_every : (t : ℕ → Bool) (a n : ℕ) → list_all t (range_with_len a n) ≡ every (λ k. t (a + k)) n
unfolding every
all_every t a zero = refl
all_every t a (suc n) =
    let e : list_all t (range_with_len (a + 1) n) ≡ every (λ k. t (a + suc k)) n = all_every t (a + 1) n ∙ every_same (λ k. t (a + 1 + k)) (λ k. t (a + suc k)) n (λ k l. ap t (omega arith)) in
    let z : t a ≡ t (a + 0) = ap t (omega arith) in
    (elim (cases_Bool (t a)) [
      | inl h ↦ rw h (e ∙ ap (λ b. cond b (every (λ k. t (a + suc k)) n) false) (sym h ∙ z))
      | inr h ↦ rw h (ap (λ b. cond b (every (λ k. t (a + suc k)) n) false) (sym h ∙ z))
    ]) ∙ sym (every_front (λ k. t (a + k)) n)

pub all_below : (t : ℕ → Bool) (n : ℕ) → list_all t (range_with_len 0 n) ≡ every t n
all_below t n = all_every t 0 n ∙ every_same (λ k. t (0 + k)) t n (λ k l. ap t (zero-add k))

-- how many numbers of a range pass
counted : (p : ℕ → Bool) (a n : ℕ) → count_by p (range_with_len a n) ≡ count_free (λ k. p (a + k)) n
unfolding count_free
counted p a zero = refl
counted p a (suc n) =
    let e : count_by p (range_with_len (a + 1) n) ≡ count_free (λ k. p (a + suc k)) n = counted p (a + 1) n ∙ count_same (λ k. p (a + 1 + k)) (λ k. p (a + suc k)) n (λ k. ap p (omega arith)) in
    let z : p a ≡ p (a + 0) = ap p (omega arith) in
    sum_by-cons (λ x. cond (p x) 1 0) a (range_with_len (a + 1) n)
    ∙ ap (λ b. cond b 1 0 + count_by p (range_with_len (a + 1) n)) z ∙ ap (λ m. cond (p (a + 0)) 1 0 + m) e ∙ sym (count_front (λ k. p (a + k)) n)

pub count_below : (p : ℕ → Bool) (n : ℕ) → length (filter p (range_with_len 0 n)) ≡ count_free p n
count_below p n = length-filter p (range_with_len 0 n) ∙ counted p 0 n ∙ count_same (λ k. p (0 + k)) p n (λ k. ap p (zero-add k))

-- a test of each part of some bytes
pub all_parts : {X : Type 0} (t : List X → Bool) (s n : ℕ) (xs : List X) → list_all t (first_chunks s n xs) ≡ every (λ b. t (take s (drop (s * b) xs))) n
unfolding every
all_parts t s zero xs = refl
all_parts t s (suc n) xs =
    let f : ℕ → Bool = λ b. t (take s (drop (s * b) xs)) in
    let e : list_all t (first_chunks s n (drop s xs)) ≡ every (λ k. f (suc k)) n =
    all_parts t s n (drop s xs) ∙ every_same (λ b. t (take s (drop (s * b) (drop s xs)))) (λ k. f (suc k)) n
    (λ k l. ap (λ y. t (take s y)) (drop-drop (s * k) s xs ∙ ap (λ i. drop i xs) (let z : s + s * k ≡ s * suc k = omega (arith, mul-suc s k) in z))) in
    let z : t (take s xs) ≡ f 0 = ap (λ i. t (take s (drop i xs))) (let z : 0 ≡ s * 0 = omega arith in z) in
    (elim (cases_Bool (t (take s xs))) [
      | inl h ↦ rw h (e ∙ ap (λ b. cond b (every (λ k. f (suc k)) n) false) (sym h ∙ z))
      | inr h ↦ rw h (ap (λ b. cond b (every (λ k. f (suc k)) n) false) (sym h ∙ z))
    ]) ∙ sym (every_front f n)

-- an array made number by number
module _ {F B : Type 0} (g : Mut F (ℕ × Unit {0}) B) (h : ℕ → B) (f : F) (same : (i : ℕ) (y : B) (q : F) → Called g f (i, tt) y q → (q ≡ f) × (y ≡ h i)) where
  made : (ys : List B) (i n : ℕ) → IsFromFnResultFrom g f ys i n → (k : ℕ) (d : B) → i ≤ k → k < i + n → get_or ys k d ≡ h k
  made ys i zero r k d l m = absurd (omega arith)
  made ys i (suc n) r k d l m =
      let s = same i r.1 r.0 r.3 in
      elim (cases_eq k i) [
        | inl e ↦ ap (λ j. get_or ys j d) e ∙ r.2.1 d ∙ s.1 ∙ ap h (sym e)
        | inr e ↦ made ys (i + 1) n (subst (λ q. IsFromFnResultFrom g q ys (i + 1) n) s.0 r.4) k d (omega arith) (omega arith)
      ]

  pub tabled : (ys : List B) (n : ℕ) (d : B) → IsFromFnResult g f ys n → ys ≡ tab h n
  tabled ys n d r = tab_is h n d ys r.long (λ k l. made ys 0 n r.each k d (omega arith) (omega arith))
