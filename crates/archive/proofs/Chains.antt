-- A chain that is every free cell once. Assumes nothing.
use Rattle.std.proofs.Common.{◌≡◌, ℕ, zero, suc, ◌+◌, ◌<◌, ◌≤◌, Bool, true, false, cond, ◌&&◌, eqb, ltb, List, [], ◌∷◌, length, Some, None, Option, sym, refl, ap, ◌∙◌, subst, inl, inr, arith}
use Rattle.std.specs.List.{AllByRecursion as All}
use Rattle.std.proofs.lemmas.Bool.{cases_Bool, cases_eq, cases_lt, both_ways, eq-eqb, ne_eqb, lt-ltb, false≢true, and_from}
use Rattle.archive.specs.Rules.{count_free, follows}

-- the cells of a chain: its first cell and then the chain after it
abbrev pub Chain : (ℕ → Option ℕ) → Option ℕ → List ℕ → Type 0
Chain next first [] = first ≡ None
Chain next first (k ∷ l) = (first ≡ Some k) × Chain next (next k) l

-- how often k stands in a list
abbrev pub times : ℕ → List ℕ → ℕ
times k [] = 0
times k (x ∷ l) = cond (eqb x k) 1 0 + times k l

-- each free cell below n once, and nothing else
abbrev pub EachOnce : (ℕ → Bool) → ℕ → List ℕ → Type 0
EachOnce free n l = (k : ℕ) → times k l ≡ cond (ltb k n && free k) 1 0

-- sums over the numbers below n

abbrev pub sum_to : (ℕ → ℕ) → ℕ → ℕ
sum_to f zero = 0
sum_to f (suc k) = f k + sum_to f k

abbrev pub one : Bool → ℕ
one b = cond b 1 0

pub count_sum : (free : ℕ → Bool) (n : ℕ) → count_free free n ≡ sum_to (λ k. one (free k)) n
unfolding count_free
count_sum free zero = refl
count_sum free (suc k) = ap (λ m. one (free k) + m) (count_sum free k)

sum_add : (f g : ℕ → ℕ) (n : ℕ) → sum_to (λ k. f k + g k) n ≡ sum_to f n + sum_to g n
sum_add f g zero = refl
sum_add f g (suc k) = omega (arith, sum_add f g k)

sum_zero : (n : ℕ) → sum_to (λ _. 0) n ≡ 0
sum_zero zero = refl
sum_zero (suc k) = omega (arith, sum_zero k)

sum_same : (f g : ℕ → ℕ) (n : ℕ) → ((k : ℕ) → k < n → f k ≡ g k) → sum_to f n ≡ sum_to g n
sum_same f g zero h = refl
sum_same f g (suc k) h = omega (arith, h k (omega arith), sum_same f g k (λ i l. h i (omega arith)))

sum_le : (f g : ℕ → ℕ) (n : ℕ) → ((k : ℕ) → k < n → f k ≤ g k) → sum_to f n ≤ sum_to g n
sum_le f g zero h = omega arith
sum_le f g (suc k) h = omega (arith, h k (omega arith), sum_le f g k (λ i l. h i (omega arith)))

-- where each is at most the other and the sums are equal, each is equal
sum_tight : (f g : ℕ → ℕ) (n : ℕ) → ((k : ℕ) → k < n → f k ≤ g k) → sum_to f n ≡ sum_to g n → (k : ℕ) → k < n → f k ≡ g k
sum_tight f g zero h e k l = absurd (omega arith)
sum_tight f g (suc m) h e k l =
    let a : f m ≤ g m = h m (omega arith) in
    let b : sum_to f m ≤ sum_to g m = sum_le f g m (λ i j. h i (omega arith)) in
    elim (cases_eq k m) [
      | inl i ↦ subst (λ t. f t ≡ g t) (sym i) (omega arith)
      | inr i ↦ sum_tight f g m (λ i j. h i (omega arith)) (omega arith) k (omega arith)
    ]

one_past : (x n : ℕ) → n ≤ x → sum_to (λ k. one (eqb x k)) n ≡ 0
one_past x zero h = refl
one_past x (suc k) h =
    let t : one (eqb x k) ≡ 0 = ap one (ne_eqb x k (λ e. omega arith)) in
    omega (arith, t, one_past x k (omega arith))

one_sum : (x n : ℕ) → x < n → sum_to (λ k. one (eqb x k)) n ≡ 1
one_sum x zero h = absurd (omega arith)
one_sum x (suc k) h =
    elim (cases_eq x k) [
      | inl e ↦ omega (arith, ap one (eq-eqb x k e), one_past x k (omega arith))
      | inr e ↦ omega (arith, ap one (ne_eqb x k e), one_sum x k (omega arith))
    ]

-- a list of numbers below n is as long as all its numbers' times

pub length_sum : (n : ℕ) (l : List ℕ) → All (λ x. x < n) l → sum_to (λ k. times k l) n ≡ length l
length_sum n [] h = sum_zero n
length_sum n (x ∷ l) h =
    sum_add (λ k. one (eqb x k)) (λ k. times k l) n ∙ omega (arith, one_sum x n h.0, length_sum n l h.1)

pub times_has : (P : ℕ → Type 0) (k : ℕ) (l : List ℕ) → All P l → 0 < times k l → P k
times_has P k [] h t = absurd (omega arith)
times_has P k (x ∷ l) h t =
    elim (cases_eq x k) [
      | inl e ↦ subst P e h.0
      | inr e ↦ times_has P k l h.1 (omega (arith, ap one (ne_eqb x k e)))
    ]

all_times : (P : ℕ → Type 0) (l : List ℕ) → ((k : ℕ) → 0 < times k l → P k) → All P l
all_times P [] h = tt
all_times P (x ∷ l) h = (h x (omega (arith, ap one (eq-eqb x x refl))), all_times P l (λ k t. h k (omega arith)))

-- chains

module _ (next : ℕ → Option ℕ) where
  some_none : {A : Type 0} (o : Option ℕ) (k : ℕ) → o ≡ None → o ≡ Some k → A
  some_none o k p q = let z : ◌≡◌ {A = ℕ} 0 1 = cc in absurd (omega arith)

  chain_length : (o : Option ℕ) (l m : List ℕ) → Chain next o l → Chain next o m → length l ≡ length m
  chain_length o [] [] c d = refl
  chain_length o [] (y ∷ m) c d = some_none o y c d.0
  chain_length o (x ∷ l) [] c d = some_none o x d c.0
  chain_length o (x ∷ l) (y ∷ m) c d =
      let e : x ≡ y = let p = c.0 in let q = d.0 in cc in
      let d' : Chain next (next x) m = subst (λ t. Chain next (next t) m) (sym e) d.1 in
      omega (arith, chain_length (next x) l m c.1 d')

  -- past a number of a chain goes the chain after it
  chain_past : (k : ℕ) (o : Option ℕ) (l : List ℕ) → Chain next o l → 0 < times k l → (q : List ℕ) × Chain next (next k) q × (length q < length l)
  chain_past k o [] c t = absurd (omega arith)
  chain_past k o (x ∷ l) c t =
      elim (cases_eq x k) [
        | inl e ↦ (l, subst (λ y. Chain next (next y) l) e c.1, omega arith)
        | inr e ↦ let r = chain_past k (next x) l c.1 (omega (arith, ap one (ne_eqb x k e))) in (r.0, r.1, omega (arith, r.2))
      ]

  pub chain_once : (k : ℕ) (o : Option ℕ) (l : List ℕ) → Chain next o l → times k l ≤ 1
  chain_once k o [] c = omega arith
  chain_once k o (x ∷ l) c =
      elim (cases_eq x k) [
        | inr e ↦ omega (arith, ap one (ne_eqb x k e), chain_once k (next x) l c.1)
        | inl e ↦ elim (cases_lt 0 (times k l)) [
          | inr z ↦ omega (arith, ap one (eq-eqb x k e))
          | inl z ↦
              let r = chain_past k (next x) l c.1 z in
              let d : Chain next (next k) l = subst (λ y. Chain next (next y) l) e c.1 in
              absurd (omega (arith, chain_length (next k) r.0 l r.1 d, r.2))
        ]
      ]

  module _ (free : ℕ → Bool) where
    pub follows_chain : (f : ℕ) (o : Option ℕ) → follows next free f o ≡ true → (l : List ℕ) × Chain next o l × (length l ≡ f) × All (λ k. free k ≡ true) l
    unfolding follows
    follows_chain zero None e = ([], refl, refl, tt)
    follows_chain zero (Some k) e = absurd (false≢true e)
    follows_chain (suc f) None e = absurd (false≢true e)
    follows_chain (suc f) (Some k) e =
        elim (cases_Bool (free k)) [
          | inl t ↦
              let r = follows_chain f (next k) (ap (λ b. cond b (follows next free f (next k)) false) (sym t) ∙ e) in
              (k ∷ r.0, (refl, r.1), omega (arith, r.2), (t, r.3))
          | inr t ↦ absurd (false≢true (ap (λ b. cond b (follows next free f (next k)) false) (sym t) ∙ e))
        ]

    chain_follows : (o : Option ℕ) (l : List ℕ) → Chain next o l → All (λ k. free k ≡ true) l → follows next free (length l) o ≡ true
    unfolding follows
    chain_follows o [] c a = ap (follows next free 0) c
    chain_follows o (k ∷ l) c a =
        ap (follows next free (length (k ∷ l))) c.0
        ∙ ap (λ b. cond b (follows next free (length l) (next k)) false) a.0
        ∙ chain_follows (next k) l c.1 a.1

    module _ (n : ℕ) (low : (k : ℕ) → free k ≡ true → k < n) where
      both : (k : ℕ) → free k ≡ true → (ltb k n && free k) ≡ true
      both k t = and_from (ltb k n) (free k) (lt-ltb k n (low k t)) t

      neither : (k : ℕ) → free k ≡ false → (ltb k n && free k) ≡ false
      neither k t = elim (cases_Bool (ltb k n)) [ inl e ↦ rw (e, t) | inr e ↦ rw e ]

      -- the test, at the number of free cells
      pub counted : (o : Option ℕ) → follows next free (count_free free n) o ≡ true → (l : List ℕ) × Chain next o l × EachOnce free n l
      counted o e =
          let r = follows_chain (count_free free n) o e in
          let l : List ℕ = r.0 in
          let below : All (λ x. x < n) l = all_times (λ x. x < n) l (λ k t. low k (times_has (λ x. free x ≡ true) k l r.3 t)) in
          let small : (k : ℕ) → times k l ≤ one (free k) =
          λ k. elim (cases_Bool (free k)) [
            | inl t ↦ omega (arith, ap one t, chain_once k o l r.1)
            | inr t ↦ elim (cases_lt 0 (times k l)) [
              | inl z ↦ absurd (both_ways (free k) t (times_has (λ x. free x ≡ true) k l r.3 z))
              | inr z ↦ omega (arith, ap one t)
            ]
          ] in
          let sums : sum_to (λ k. times k l) n ≡ sum_to (λ k. one (free k)) n = length_sum n l below ∙ r.2 ∙ count_sum free n in (
            l,
            r.1,
            λ k.
                elim (cases_Bool (free k)) [
                  | inl t ↦ sum_tight (λ k. times k l) (λ k. one (free k)) n (λ k _. small k) sums k (low k t) ∙ ap one (t ∙ sym (both k t))
                  | inr t ↦ let z : times k l ≡ 0 = omega (arith, ap one t, small k) in z ∙ sym (ap one (neither k t))
                ],
          )

      pub accepted : (o : Option ℕ) (l : List ℕ) → Chain next o l → EachOnce free n l → follows next free (count_free free n) o ≡ true
      accepted o l c h =
          let in-free : (k : ℕ) → 0 < times k l → free k ≡ true =
          λ k t. elim (cases_Bool (free k)) [ inl e ↦ e | inr e ↦ absurd (omega (arith, h k, ap one (neither k e))) ] in
          let a : All (λ k. free k ≡ true) l = all_times (λ k. free k ≡ true) l in-free in
          let below : All (λ x. x < n) l = all_times (λ x. x < n) l (λ k t. low k (in-free k t)) in
          let same : (k : ℕ) → k < n → times k l ≡ one (free k) =
          λ k _. elim (cases_Bool (free k)) [ inl e ↦ h k ∙ ap one (both k e ∙ sym e) | inr e ↦ h k ∙ ap one (neither k e ∙ sym e) ] in
          let len : length l ≡ count_free free n = sym (length_sum n l below) ∙ sum_same (λ k. times k l) (λ k. one (free k)) n same ∙ sym (count_sum free n) in
          ap (λ f. follows next free f o) (sym len) ∙ chain_follows o l c a
