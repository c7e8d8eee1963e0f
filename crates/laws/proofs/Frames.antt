-- What the primitive changes do to what is read, each as a sum: changed here, or as before elsewhere. For `grind`.
use Rattle.std.proofs.Common.{◌≡◌, ℕ, zero, suc, ◌+◌, ◌<◌, ◌≤◌, Bool, true, false, ◌⊎◌, List, [], ◌∷◌, length, get_or, take, set, Some, None, refl, ap, ◌∙◌, inl, inr, add-zero, arith, length-set}
use Rattle.std.proofs.lemmas.List.{get_or-set_same, get_or-set_other, set_past, get_or_past, get_or-take}
use Rattle.std.proofs.lemmas.Bool.{cases_eq, cases_lt}
use Rattle.std.specs.List.{slice_get}
use Rattle.machine.specs.declared.types.Record.{Record}
use Rattle.machine.specs.World.{Cell}
use Rattle.machine.specs.declared.types.Card.{Card}
use Rattle.machine.specs.World.{World, Name, see, named, alter, alter_at, free_at, born_at, alter_all, alter_card, read_all, blank_card, view_of}
use Rattle.machine.specs.Waiting.{snooped_names, name_if}
use Rattle.machine.specs.Rounds.{nobody, all_of}

-- ---- lists

-- past the end nothing is set
pub set_tells : {A : Type 0} (l : List A) (i : ℕ) (v : A) (j : ℕ) (d : A) → ((get_or (set l i v) j d ≡ v) × (j ≡ i) × (j < length l)) ⊎ ((get_or (set l i v) j d ≡ get_or l j d) × (j ≡ i → length l ≤ j))
set_tells l i v j d =
    elim (cases_eq j i) [
      | inl e ↦ elim (cases_lt i (length l)) [
        | inl h ↦ inl (rw (e, get_or-set_same), e, omega arith)
        | inr h ↦ inr (rw set_past, λ _. omega arith)
      ]
      | inr n ↦ inr (get_or-set_other l i j v d n, λ e. absurd (n e))
    ]

pub nth_set_tells : {A : Type 0} (l : List A) (i : ℕ) (v : A) (j : ℕ) → ((slice_get (set l i v) j ≡ Some v) × (j ≡ i) × (j < length l)) ⊎ ((slice_get (set l i v) j ≡ slice_get l j) × (j ≡ i → length l ≤ j))
nth_set_tells [] i v j = inr (refl, λ _. omega arith)
nth_set_tells (a ∷ l) zero v zero = inl (refl, refl, omega arith)
nth_set_tells (a ∷ l) zero v (suc j) = inr (refl, λ e. omega arith)
nth_set_tells (a ∷ l) (suc i) v zero = inr (refl, λ e. omega arith)
nth_set_tells (a ∷ l) (suc i) v (suc j) =
    elim (nth_set_tells l i v j) [
      | inl p ↦ inl (p.0, ap suc p.1, omega (arith, p.2))
      | inr p ↦ inr (p.0, λ e. let k : j ≡ i = omega arith in omega (arith, p.1 k))
    ]

-- ---- cells

pub alter_at_tells : (h : List Cell) (x : ℕ) (f : Record → Record) (y : ℕ) → ((get_or (alter_at h x f) y None ≡ alter f (get_or h y None)) × (y ≡ x)) ⊎ ((get_or (alter_at h x f) y None ≡ get_or h y None) × (y ≡ x → ⊥))
unfolding alter_at
alter_at_tells h x f y =
    elim (cases_eq y x) [
      | inl e ↦ elim (cases_lt x (length h)) [
        | inl l ↦ inl (rw (e, get_or-set_same), e)
        | inr g ↦ inl (rw (e, set_past, get_or_past), e)
      ]
      | inr n ↦ inr (get_or-set_other h x y (alter f (get_or h x None)) None n, n)
    ]

pub alter_at-length : (h : List Cell) (x : ℕ) (f : Record → Record) → length (alter_at h x f) ≡ length h
unfolding alter_at
alter_at-length h x f = length-set h x (alter f (get_or h x None))

pub free_at_tells : (h : List Cell) (x y : ℕ) → ((get_or (free_at h x) y None ≡ None) × (y ≡ x)) ⊎ ((get_or (free_at h x) y None ≡ get_or h y None) × (y ≡ x → ⊥))
unfolding free_at
free_at_tells h x y =
    elim (cases_eq y x) [
      | inl e ↦ elim (cases_lt x (length h)) [
        | inl l ↦ inl (rw (e, get_or-set_same), e)
        | inr g ↦ inl (rw (e, set_past, get_or_past), e)
      ]
      | inr n ↦ inr (get_or-set_other h x y None None n, n)
    ]

pub free_at-length : (h : List Cell) (x : ℕ) → length (free_at h x) ≡ length h
unfolding free_at
free_at-length h x = length-set h x None

pub born_at_tells : (h : List Cell) (x : ℕ) (r : Record) (y : ℕ) → ((get_or (born_at h x r) y None ≡ Some r) × (y ≡ x) × (y < length h)) ⊎ ((get_or (born_at h x r) y None ≡ get_or h y None) × (y ≡ x → length h ≤ y))
unfolding born_at
born_at_tells h x r y = set_tells h x (Some r) y None

pub born_at-length : (h : List Cell) (x : ℕ) (r : Record) → length (born_at h x r) ≡ length h
unfolding born_at
born_at-length h x r = length-set h x (Some r)

pub alter_all-at : (h : List Cell) (f : Record → Record) (y : ℕ) → get_or (alter_all h f) y None ≡ alter f (get_or h y None)
unfolding alter_all
alter_all-at [] f y = refl
alter_all-at (c ∷ h) f zero = refl
alter_all-at (c ∷ h) f (suc y) = alter_all-at h f y

pub alter_all-length : (h : List Cell) (f : Record → Record) → length (alter_all h f) ≡ length h
unfolding alter_all
alter_all-length [] f = refl
alter_all-length (c ∷ h) f = ap suc (alter_all-length h f)

-- ---- cards

pub alter_card_tells : (ks : List Card) (c : ℕ) (f : Card → Card) (d : ℕ) → ((get_or (alter_card ks c f) d blank_card ≡ f (get_or ks d blank_card)) × (d ≡ c) × (d < length ks)) ⊎ ((get_or (alter_card ks c f) d blank_card ≡ get_or ks d blank_card) × (d ≡ c → length ks ≤ d))
unfolding alter_card
alter_card_tells ks c f d =
    elim (cases_eq d c) [
      | inl e ↦ elim (cases_lt c (length ks)) [
        | inl h ↦ inl (rw (e, get_or-set_same), e, omega arith)
        | inr h ↦ inr (rw set_past, λ _. omega arith)
      ]
      | inr n ↦ inr (get_or-set_other ks c d (f (get_or ks c blank_card)) blank_card n, λ e. absurd (n e))
    ]

pub alter_card-length : (ks : List Card) (c : ℕ) (f : Card → Card) → length (alter_card ks c f) ≡ length ks
unfolding alter_card
alter_card-length ks c f = length-set ks c (f (get_or ks c blank_card))

-- ---- names

pub read_all-length : {C : Type 0} (w : World C) (vs : List Name) → length (read_all w vs) ≡ length vs
unfolding read_all
read_all-length w [] = refl
read_all-length w (v ∷ vs) = ap suc (read_all-length w vs)

pub read_all-at : {C : Type 0} (w : World C) (vs : List Name) (i : ℕ) → get_or (read_all w vs) i None ≡ named w (get_or vs i None)
unfolding read_all
read_all-at w [] i = refl
read_all-at w (v ∷ vs) zero = refl
read_all-at w (v ∷ vs) (suc i) = read_all-at w vs i

pub snooped_names-at : (n : ℕ) (h : List Cell) (i : ℕ) → get_or (snooped_names n h) i None ≡ name_if (see (λ r. r.snooped) false (get_or h i None)) (n + i)
unfolding snooped_names
snooped_names-at n [] i = refl
snooped_names-at n (c ∷ h) zero = rw add-zero
snooped_names-at n (c ∷ h) (suc i) = let e : suc n + i ≡ n + suc i = omega arith in snooped_names-at (suc n) h i ∙ ap (name_if (see (λ r. r.snooped) false (get_or h i None))) e

pub view_at_lem : (i : ℕ) (c : Cell) → get_or (see view_of [] c) i None ≡ see (λ r. get_or (view_of r) i None) None c
view_at_lem i None = refl
view_at_lem i (Some r) = refl

pub links_at_lem : (i : ℕ) (c : Cell) → get_or (see (λ r. r.links) [] c) i None ≡ see (λ r. get_or r.links i None) None c
links_at_lem i None = refl
links_at_lem i (Some r) = refl

-- ---- answers

pub nobody-at : (l : List Bool) (c : ℕ) → get_or (nobody l) c false ≡ false
unfolding nobody
nobody-at [] c = refl
nobody-at (b ∷ l) zero = refl
nobody-at (b ∷ l) (suc c) = nobody-at l c

pub nobody-length : (l : List Bool) → length (nobody l) ≡ length l
unfolding nobody
nobody-length [] = refl
nobody-length (b ∷ l) = ap suc (nobody-length l)

pub all_of-at : (n : ℕ) (l : List Bool) → all_of n l ≡ true → (c : ℕ) → c < n → get_or l c false ≡ true
unfolding all_of
all_of-at zero l e c h = absurd (omega arith)
all_of-at (suc n) l e c h = elim (cases_eq c n) [ inl k ↦ grind (arith, all_of) | inr k ↦ all_of-at n l (grind (arith, all_of)) c (omega arith) ]

-- ---- the rules that `grind` is given

pub ruleset sizes = (arith, alter_at-length, free_at-length, born_at-length, alter_all-length, alter_card-length, length-set, nobody-length)

pub ruleset frame = (sizes, alter_at_tells, free_at_tells, born_at_tells, alter_all-at, alter_card_tells, set_tells, read_all-at, links_at_lem, view_at_lem, nobody-at)
