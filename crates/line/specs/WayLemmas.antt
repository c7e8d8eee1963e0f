-- A row with one entry changed keeps the four rules, whatever an entry is, and so does a way of which one card's numbers changed:
-- lemmas from which the lines prove them. No contract cites them.
use Rattle.std.specs.Prelude.{◌≡◌, ℕ, zero, suc, ◌<◌, Bool, true, false, cond, ◌⊎◌, List, [], ◌∷◌, ◌++◌, map, length, set, Some, None, Option, nat_lt, slice_index_or, slice_set, refl}
use Rattle.std.proofs.Common.{sym, ap, subst, ◌∙◌, inl, inr, ⊎_elim}
use Rattle.std.proofs.lemmas.List.{map-set, get_or-map}
use Rattle.line.specs.Lines.{Among, Delivered, Put, Taken}
use Rattle.line.specs.Way.{Queues, queue, front, later, put_in, taken_from, first_of}
use Rattle.line.specs.Direct.{waiting_in, replaces}
use Rattle.line.specs.Leaky.{Wire, joins, sent_to}

-- entry d of a row in which entry c was set: the new one, or as before
pub set_tells : {A : Type 0} (row : List A) (c d : ℕ) (v e : A) → ((d ≡ c) × (slice_index_or (slice_set row c v) d e ≡ v)) ⊎ (slice_index_or (slice_set row c v) d e ≡ slice_index_or row d e)
set_tells [] c d v e = inr refl
set_tells (y ∷ ys) zero zero v e = inl (refl, refl)
set_tells (y ∷ ys) zero (suc d) v e = inr refl
set_tells (y ∷ ys) (suc c) zero v e = inr refl
set_tells (y ∷ ys) (suc c) (suc d) v e = elim (set_tells ys c d v e) [ inl p ↦ inl (ap suc p.0, p.1) | inr q ↦ inr q ]

module _ {A : Type 0} (read : A → List ℕ) (e : A) (row : List A) (c : ℕ) (v : A) where
  -- what stands in list d after the change stood there before, or comes of the new entry
  came : (d x : ℕ) → Among x (read (slice_index_or (slice_set row c v) d e)) → ((d ≡ c) × Among x (read v)) ⊎ Among x (read (slice_index_or row d e))
  came d x m = elim (set_tells row c d v e) [
    | inl p ↦ inl (p.0, subst (λ a. Among x (read a)) p.1 m)
    | inr q ↦ inr (subst (λ a. Among x (read a)) q m)
  ]

  pub putting : (n : ℕ) (h : ℕ → List ℕ) (b : Bool) → ((x : ℕ) → Among x (read v) → Among x (read (slice_index_or row c e)) ⊎ (x ≡ n)) → Put c n (λ d. read (slice_index_or row d e)) h (λ d. read (slice_index_or (cond b (slice_set row c v) row) d e)) h
  putting n h true f = record {
    here = λ x m. ⊎_elim (λ p. f x p.1) inl (came c x m);
    apart = λ d x ne m. ⊎_elim (λ p. absurd (ne p.0)) (λ q. q) (came d x m);
    across = λ d x m. m;
  }
  putting n h false f = record { here = λ x m. inl m; apart = λ d x ne m. m; across = λ d x m. m }

  -- a putting that may be lost, for a card that is known or not
  pub putting_or_lost : (n : ℕ) (h : ℕ → List ℕ) (gone known : Bool) → ((x : ℕ) → Among x (read v) → Among x (read (slice_index_or row c e)) ⊎ (x ≡ n)) → Put c n (λ d. read (slice_index_or row d e)) h (λ d. read (slice_index_or (cond known (cond gone row (slice_set row c v)) row) d e)) h
  putting_or_lost n h true true f = putting n h false f
  putting_or_lost n h false true f = putting n h true f
  putting_or_lost n h gone false f = putting n h false f

  pub taking : (got : Option ℕ) (h : ℕ → List ℕ) (b : Bool) → ((x : ℕ) → Among x (read v) → Among x (read (slice_index_or row c e))) → Delivered got (read (slice_index_or row c e)) → Taken c (cond b got None) (λ d. read (slice_index_or row d e)) h (λ d. read (slice_index_or (cond b (slice_set row c v) row) d e)) h
  taking got h true f g = record {
    given = g;
    along = λ d x m. ⊎_elim (λ p. subst (λ i. Among x (read (slice_index_or row i e))) (sym p.0) (f x p.1)) (λ q. q) (came d x m);
    across = λ d x m. m;
  }
  taking got h false f g = record { given = tt; along = λ d x m. m; across = λ d x m. m }

-- the two rules of a row: a putting that may be lost, and a taking; the other row stays
module _ {A : Type 0} (read : A → List ℕ) (e : A) (row row' other other' : List A) (c : ℕ) (v : A) where
  pub row_put : (known gone : Bool) (n : ℕ) → ((x : ℕ) → Among x (read v) → Among x (read (slice_index_or row c e)) ⊎ (x ≡ n)) → row' ≡ cond known (cond gone row (slice_set row c v)) row → other' ≡ other → Put c n (λ d. read (slice_index_or row d e)) (λ d. read (slice_index_or other d e)) (λ d. read (slice_index_or row' d e)) (λ d. read (slice_index_or other' d e))
  row_put known gone n f p i = rw (p, i) (putting_or_lost read e row c v n (λ d. read (slice_index_or other d e)) gone known f)

  pub row_taken : (known : Bool) (got first : Option ℕ) → ((x : ℕ) → Among x (read v) → Among x (read (slice_index_or row c e))) → Delivered first (read (slice_index_or row c e)) → got ≡ cond known first None → row' ≡ cond known (slice_set row c v) row → other' ≡ other → Taken c got (λ d. read (slice_index_or row d e)) (λ d. read (slice_index_or other d e)) (λ d. read (slice_index_or row' d e)) (λ d. read (slice_index_or other' d e))
  row_taken known got first f g r p i = rw (r, p, i) (taking read e row c v first (λ d. read (slice_index_or other d e)) known f g)

-- a row's lists are a way: one entry set, and one read
pub way_set : {A : Type 0} (read : A → List ℕ) (row : List A) (c : ℕ) (v : A) (xs : List ℕ) → read v ≡ xs → map read (slice_set row c v) ≡ slice_set (map read row) c xs
way_set read row c v xs h = map-set read row c v ∙ ap (set (map read row) c) h

pub queue_is : {A : Type 0} (read : A → List ℕ) (e : A) (row : List A) (c : ℕ) → c < length row → read (slice_index_or row c e) ≡ queue (map read row) c
queue_is read e row c h = sym (get_or-map read row c e [] h)

-- a slot that was filled or emptied
pub slot_filled : (n x : ℕ) (P : Type 0) → Among x (waiting_in (Some n)) → P ⊎ (x ≡ n)
slot_filled n x P m = ⊎_elim inr (λ z. absurd z) m

pub slot_first : (o : Option ℕ) → Delivered o (waiting_in o)
slot_first None = tt
slot_first (Some n) = inl refl

-- what stands among numbers that one joined was there before, or is that one
pub replaced_of : (x n : ℕ) (xs : List ℕ) → Among x (replaces xs n) → Among x xs ⊎ (x ≡ n)
replaced_of x n xs m = slot_filled n x (Among x xs) m

at_end : (x n : ℕ) (xs : List ℕ) → Among x (xs ++ (n ∷ [])) → Among x xs ⊎ (x ≡ n)
at_end x n [] m = ⊎_elim inr (λ z. absurd z) m
at_end x n (y ∷ ys) m = ⊎_elim (λ e. inl (inl e)) (λ k. ⊎_elim (λ a. inl (inr a)) inr (at_end x n ys k)) m

if_room : (b : Bool) (x n : ℕ) (xs : List ℕ) → Among x (cond b (xs ++ (n ∷ [])) xs) → Among x xs ⊎ (x ≡ n)
if_room true x n xs m = at_end x n xs m
if_room false x n xs m = inl m

pub joined_of : (x n : ℕ) (xs : List ℕ) → Among x (joins xs n) → Among x xs ⊎ (x ≡ n)
joined_of x n xs m = if_room (nat_lt (length xs) 4) x n xs m

pub later_of : (x : ℕ) (xs : List ℕ) → Among x (later xs) → Among x xs
later_of x [] m = m
later_of x (y ∷ ys) m = inr m

pub first_of_lem : (xs : List ℕ) → Delivered (front xs) xs
first_of_lem [] = tt
first_of_lem (x ∷ xs) = inl refl

-- a number that may be lost, for a card that is known or not; and a taking. The other way stays
module _ (joins : List ℕ → ℕ → List ℕ) (f : (x n : ℕ) (xs : List ℕ) → Among x (joins xs n) → Among x xs ⊎ (x ≡ n)) where
  pub put_or_not : (gone known : Bool) (qs : Queues) (other : ℕ → List ℕ) (c n : ℕ) → Put c n (queue qs) other (queue (cond known (cond gone qs (slice_set qs c (joins (queue qs c) n))) qs)) other
  put_or_not gone known qs other c n = putting_or_lost (λ q. q) [] qs c (joins (queue qs c) n) n other gone known (λ x m. f x n (queue qs c) m)

  pub put_known : (known gone : Bool) (qs qs' other other' : Queues) (c n : ℕ) → qs' ≡ cond known (cond gone qs (slice_set qs c (joins (queue qs c) n))) qs → other' ≡ other → Put c n (queue qs) (queue other) (queue qs') (queue other')
  put_known known gone qs qs' other other' c n e i =
      row_put (λ q. q) [] qs qs' other other' c (joins (queue qs c) n) known gone n (λ x m. f x n (queue qs c) m) e i

pub taken_known : (known : Bool) (qs qs' other other' : Queues) (c : ℕ) (got : Option ℕ) → got ≡ cond known (front (queue qs c)) None → qs' ≡ cond known (slice_set qs c (later (queue qs c))) qs → other' ≡ other → Taken c got (queue qs) (queue other) (queue qs') (queue other')
taken_known known qs qs' other other' c got g e i =
    row_taken (λ q. q) [] qs qs' other other' c (later (queue qs c)) known got (front (queue qs c)) (λ x m. later_of x (queue qs c) m) (first_of_lem (queue qs c)) g e i

-- the two rules of a way of cards 0 to 7: a putting, and a taking; the other way stays
pub put : (joins : List ℕ → ℕ → List ℕ) → ((x n : ℕ) (xs : List ℕ) → Among x (joins xs n) → Among x xs ⊎ (x ≡ n)) → (qs qs' other other' : Queues) (c n : ℕ) → qs' ≡ put_in joins qs c n → other' ≡ other → Put c n (queue qs) (queue other) (queue qs') (queue other')
put joins f qs qs' other other' c n e i = put_known joins f (nat_lt c 8) false qs qs' other other' c n e i

pub taken : (qs qs' other other' : Queues) (c : ℕ) (got : Option ℕ) → got ≡ first_of qs c → qs' ≡ taken_from qs c → other' ≡ other → Taken c got (queue qs) (queue other) (queue qs') (queue other')
taken qs qs' other other' c got g e i = taken_known (nat_lt c 8) qs qs' other other' c got g e i

-- a putting that may be lost
pub put_or_lost : (known gone : Bool) (qs qs' other other' : Queues) (c n : ℕ) → qs' ≡ cond known (sent_to gone qs c n) qs → other' ≡ other → Put c n (queue qs) (queue other) (queue qs') (queue other')
put_or_lost true false qs qs' other other' c n e i = put joins joined_of qs qs' other other' c n e i
put_or_lost true true qs qs' other other' c n e i = put_known joins joined_of true true qs qs' other other' c n e i
put_or_lost false gone qs qs' other other' c n e i = put_known joins joined_of false gone qs qs' other other' c n e i

-- a field of a line that changed only for a known card
pub field : {A : Type 0} (f : Wire → A) (known : Bool) (v w : Wire) → f (cond known v w) ≡ cond known (f v) (f w)
field f true v w = refl
field f false v w = refl

pub both : {A : Type 0} (known : Bool) (x : A) → cond known x x ≡ x
both true x = refl
both false x = refl
