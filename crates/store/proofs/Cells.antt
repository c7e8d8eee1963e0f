-- Cells changed in place, and how many of them are spare.
use Rattle.std.proofs.Common.{◌≡◌, ℕ, zero, suc, ◌+◌, ◌<◌, ◌≤◌, true, false, cond, List, [], ◌∷◌, length, map, get_or, set, refl, ap, ◌∙◌, arith, None, Some}
use Rattle.std.proofs.lemmas.Bool.{false≢true, not-true, or_parts}
use Rattle.machine.specs.declared.types.Colour.{Colour}
use Rattle.machine.specs.declared.types.Record.{Record}
use Rattle.machine.specs.World.{Cell}
use Rattle.machine.specs.World.{alter, alter_at, alter_all, greyen, same_colour}
use Rattle.machine.specs.Waiting.{pale}
use Rattle.store.specs.Altering.{Alters, AltersAt, AltersFirst}
use Rattle.store.specs.Model.{spare, spares}

-- a change of which all that is known is a relation, where that relation tells the record that is left
alters_is : (R : Record → Record → Type 0) (f : Record → Record) → ((r s : Record) → R r s → s ≡ f r) → (c d : Cell) → Alters R c d → d ≡ alter f c
alters_is R f k None d e = e
alters_is R f k (Some r) d e = e.2 ∙ ap Some (k r e.0 e.1)

pub alters_at : (R : Record → Record → Type 0) (f : Record → Record) → ((r s : Record) → R r s → s ≡ f r) → (h : List Cell) (x : ℕ) (g : List Cell) → AltersAt R h x g → g ≡ alter_at h x f
unfolding alter_at
alters_at R f k h x g e = e.2 ∙ ap (set h x) (alters_is R f k (get_or h x None) e.0 e.1)

pub alters_all : (R : Record → Record → Type 0) (f : Record → Record) → ((r s : Record) → R r s → s ≡ f r) → (h g : List Cell) → AltersFirst R h g (length h) → g ≡ alter_all h f
unfolding alter_all
alters_all R f k [] [] e = refl
alters_all R f k [] (d ∷ g) e = absurd (omega (arith, e.long))
alters_all R f k (c ∷ h) [] e = absurd (omega (arith, e.long))
alters_all R f k (c ∷ h) (d ∷ g) e =
    let here = alters_is R f k c d (e.changed 0 (omega arith)) in
    let rest = alters_all R f k h g (record { long = omega (arith, e.long); changed = λ i l. e.changed (suc i) (omega (arith, l)) }) in
    ap (λ x. x ∷ g) here ∙ ap (λ t. alter f c ∷ t) rest

-- one cell written: the count follows that cell
pub spares_set : (h : List Cell) (x : ℕ) (c : Cell) → x < length h → spares (set h x c) + spare (get_or h x None) ≡ spares h + spare c
unfolding spares
spares_set [] x c l = absurd (omega arith)
spares_set (d ∷ h) zero c l = omega arith
spares_set (d ∷ h) (suc x) c l = let i = spares_set h x c (omega arith) in omega (arith, i)

pub spare_most : (c : Cell) → spare c ≤ 1
spare_most None = omega arith
spare_most (Some r) = elim r.waiting as (λ b. cond b 1 0 ≤ 1) [ true ↦ omega arith | false ↦ omega arith ]

pub spares_most : (h : List Cell) → spares h ≤ length h
unfolding spares
spares_most [] = omega arith
spares_most (c ∷ h) = omega (arith, spares_most h, spare_most c)

-- a cell that is not spare leaves room for one more on a list
pub spares_room : (h : List Cell) (x : ℕ) → x < length h → spare (get_or h x None) ≡ 0 → spares h < length h
unfolding spares
spares_room [] x l e = absurd (omega arith)
spares_room (c ∷ h) zero l e = omega (arith, spares_most h, e)
spares_room (c ∷ h) (suc x) l e = omega (arith, spares_room h x (omega arith) e, spare_most c)

-- whatever is written, at most one is lost
pub spares_low : (h : List Cell) (x : ℕ) (c : Cell) → spares h ≤ spares (set h x c) + 1
unfolding spares
spares_low [] x c = omega arith
spares_low (d ∷ h) zero c = omega (arith, spare_most d)
spares_low (d ∷ h) (suc x) c = omega (arith, spares_low h x c)

-- a pale record is not waiting
pub pale_spare : (m : Colour) (c : Cell) → pale m c ≡ true → spare c ≡ 0
pale_spare m None e = absurd (false≢true e)
pale_spare m (Some r) e = ap {B = ℕ} (λ b. cond b 1 0) (or_parts (same_colour r.colour m) r.waiting (not-true _ e)).1

pub spares_freed : (m : Colour) (h : List Cell) (x : ℕ) → pale m (get_or h x None) ≡ true → x < length h → spares (set h x None) ≡ spares h + 1
spares_freed m h x e l = omega (arith, spares_set h x None l, pale_spare m (get_or h x None) e)

pub alter_all-map : (h : List Cell) (f : Record → Record) → map (alter f) h ≡ alter_all h f
unfolding alter_all
alter_all-map [] f = refl
alter_all-map (c ∷ h) f = ap (λ t. alter f c ∷ t) (alter_all-map h f)

same_all : (f : Record → Record) → ((r : Record) → (f r).waiting ≡ r.waiting) → (c : Cell) → spare (alter f c) ≡ spare c
same_all f k None = refl
same_all f k (Some r) = ap {B = ℕ} (λ b. cond b 1 0) (k r)

pub spares_all : (f : Record → Record) → ((r : Record) → (f r).waiting ≡ r.waiting) → (h : List Cell) → spares (alter_all h f) ≡ spares h
unfolding spares alter_all
spares_all f k [] = refl
spares_all f k (c ∷ h) = omega (arith, same_all f k c, spares_all f k h)

-- an edit that leaves the waiting mark leaves the count
pub spares_alter : (f : Record → Record) → ((r : Record) → (f r).waiting ≡ r.waiting) → (h : List Cell) (x : ℕ) → spares (alter_at h x f) ≡ spares h
unfolding spares alter_at
spares_alter f k [] x = refl
spares_alter f k (c ∷ h) zero = omega (arith, same_all f k c)
spares_alter f k (c ∷ h) (suc x) = omega (arith, spares_alter f k h x)

pub spares_greyen : (m : Colour) (h : List Cell) (x : ℕ) → pale m (get_or h x None) ≡ true → spares (alter_at h x greyen) ≡ spares h + 1
unfolding spares alter_at
spares_greyen m [] x e = absurd (false≢true e)
spares_greyen m (None ∷ h) zero e = absurd (false≢true e)
spares_greyen m (Some r ∷ h) zero e = omega (arith, ap {B = ℕ} (λ b. cond b 1 0) (or_parts (same_colour r.colour m) r.waiting (not-true _ e)).1)
spares_greyen m (c ∷ h) (suc x) e = omega (arith, spares_greyen m h x e)

pub spares_blacken : (f : Record → Record) (h : List Cell) (x : ℕ) → spares h ≤ spares (alter_at h x f) + 1
unfolding alter_at
spares_blacken f h x = spares_low h x (alter f (get_or h x None))
