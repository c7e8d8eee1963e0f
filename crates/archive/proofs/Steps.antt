-- Steps of the count and of the chain. Assumes nothing.
use Rattle.std.proofs.Common.{◌≡◌, ℕ, zero, suc, ◌-◌, ◌<◌, Bool, true, false, eqb, ltb, List, Some, None, Option, refl, inl, inr, arith}
use Rattle.std.proofs.lemmas.Bool.{cases_Bool, eq-eqb, ne_eqb, lt-ltb, and_parts, ltb-true}
use Rattle.archive.specs.Bytes.{free_in, serial_in}
use Rattle.archive.specs.Rules.{follows}

pub free_yes : (bs : List ℕ) (n k : ℕ) → k < n → serial_in bs k ≡ 0 → free_in bs n k ≡ true
free_yes bs n k l z = let a = lt-ltb k n l in let b = eq-eqb (serial_in bs k) 0 z in rw (a, b)

pub free_not : (bs : List ℕ) (n k : ℕ) → (serial_in bs k ≡ 0 → ⊥) → free_in bs n k ≡ false
free_not bs n k z = let b = ne_eqb (serial_in bs k) 0 z in elim (cases_Bool (ltb k n)) [ inl a ↦ rw (a, b) | inr a ↦ rw a ]

pub free_low : (bs : List ℕ) (n k : ℕ) → free_in bs n k ≡ true → k < n
free_low bs n k t = ltb-true k n (and_parts (ltb k n) (eqb (serial_in bs k) 0) t).0

pub follows_none : (next : ℕ → Option ℕ) (free : ℕ → Bool) (f : ℕ) → eqb f 0 ≡ follows next free f None
unfolding follows
follows_none next free zero = refl
follows_none next free (suc f) = ne_eqb (suc f) 0 (λ e. omega arith)

pub follows_not : (next : ℕ → Option ℕ) (free : ℕ → Bool) (f k : ℕ) → free k ≡ false → false ≡ follows next free f (Some k)
unfolding follows
follows_not next free zero k t = refl
follows_not next free (suc f) k t = rw t

pub follows_more : (next : ℕ → Option ℕ) (free : ℕ → Bool) (f k : ℕ) → (f ≡ 0 → ⊥) → free k ≡ true → follows next free (f - 1) (next k) ≡ follows next free f (Some k)
unfolding follows
follows_more next free zero k z t = absurd (z refl)
follows_more next free (suc f) k z t = let e : suc f - 1 ≡ f = omega arith in rw (t, e)

pub follows_out : (next : ℕ → Option ℕ) (free : ℕ → Bool) (f k : ℕ) → f ≡ 0 → false ≡ follows next free f (Some k)
unfolding follows
follows_out next free zero k e = refl
follows_out next free (suc f) k e = absurd (omega arith)
