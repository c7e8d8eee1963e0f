-- Bytes that differ in one place have different checks: rotating and adding a byte lose nothing. Assumes nothing.
use Rattle.std.proofs.Common.{◌≡◌, ℕ, zero, suc, false, eqb, ◌+◌, ◌*◌, ◌/◌, ◌%◌, ◌^◌, ◌<◌, List, [], ◌∷◌, length, get_or, fold, sym, ap, ◌∙◌, arith}
use lib.Bits.{bit_or}
use Rattle.std.proofs.lemmas.Nat.{or_shifted}
use Rattle.std.proofs.lemmas.List.{ext_get_or}
use Rattle.std.proofs.lemmas.Bool.{ne_eqb}
use Rattle.octets.specs.Numbers.{Bytes}
use Rattle.octets.specs.Check.{rotated, mixed, check_of, DifferOnce, OneByteTells}

-- rotating puts the low 27 bits above the high five
rotated_is : (h : ℕ) → h < 2 ^ 32 → rotated h ≡ (h % 2 ^ 27) * 2 ^ 5 + h / 2 ^ 27
rotated_is h l =
    let e : (h * 2 ^ 5) % 2 ^ 32 ≡ (h % 2 ^ 27) * 2 ^ 5 = omega arith in
    ap (λ n. bit_or n (h / 2 ^ 27)) e ∙ or_shifted (h % 2 ^ 27) 5 (h / 2 ^ 27) (omega arith)

mixed_small : (h b : ℕ) → mixed h b < 2 ^ 32
mixed_small h b = omega arith

rotated_once : (h k : ℕ) → h < 2 ^ 32 → k < 2 ^ 32 → rotated h ≡ rotated k → h ≡ k
rotated_once h k l m e = omega (arith, rotated_is h l, rotated_is k m)

add_once : (t u b : ℕ) → t < 2 ^ 32 → u < 2 ^ 32 → (t + b) % 2 ^ 32 ≡ (u + b) % 2 ^ 32 → t ≡ u
add_once t u b l m e = omega arith

mixed_once : (h k b : ℕ) → h < 2 ^ 32 → k < 2 ^ 32 → mixed h b ≡ mixed k b → h ≡ k
mixed_once h k b l m e =
    let s : rotated h < 2 ^ 32 = omega (arith, rotated_is h l) in
    let t : rotated k < 2 ^ 32 = omega (arith, rotated_is k m) in
    rotated_once h k l m (add_once (rotated h) (rotated k) b s t e)

mixed_byte : (h a b : ℕ) → a < 256 → b < 256 → mixed h a ≡ mixed h b → a ≡ b
mixed_byte h a b l m e = omega arith

-- over the same bytes, different checks stay different
folded_once : (xs : List ℕ) (h k : ℕ) → h < 2 ^ 32 → k < 2 ^ 32 → fold mixed h xs ≡ fold mixed k xs → h ≡ k
folded_once [] h k l m e = e
folded_once (x ∷ xs) h k l m e =
    mixed_once h k x l m (folded_once xs (mixed h x) (mixed k x) (mixed_small h x) (mixed_small k x) e)

differs : (xs ys : List ℕ) (h i : ℕ) → h < 2 ^ 32 → Bytes xs → Bytes ys → length xs ≡ length ys → i < length xs → ((j : ℕ) → (j ≡ i → ⊥) → get_or xs j 0 ≡ get_or ys j 0) → fold mixed h xs ≡ fold mixed h ys → get_or xs i 0 ≡ get_or ys i 0
differs [] ys h i l f g n s d e = absurd (omega arith)
differs (x ∷ xs) [] h i l f g n s d e = absurd (omega arith)
differs (x ∷ xs) (y ∷ ys) h zero l f g n s d e =
    let n' : length xs ≡ length ys = omega arith in
    let same : xs ≡ ys = ext_get_or 0 xs ys n' (λ j _. d (suc j) (λ q. omega arith)) in
    mixed_byte h x y (f 0) (g 0) (folded_once xs (mixed h x) (mixed h y) (mixed_small h x) (mixed_small h y) (e ∙ ap (fold mixed (mixed h y)) (sym same)))
differs (x ∷ xs) (y ∷ ys) h (suc i) l f g n s d e =
    let q : x ≡ y = d 0 (λ q. omega arith) in
    differs xs ys (mixed h x) i (mixed_small h x) (λ j. f (suc j)) (λ j. g (suc j)) (omega arith) (omega arith) (λ j k. d (suc j) (λ q. k (omega arith))) (e ∙ ap (λ z. fold mixed (mixed h z) ys) (sym q))

pub one_byte_tells : OneByteTells
unfolding check_of
one_byte_tells xs ys f g d e = d.here (differs xs ys 0 d.place (omega arith) f g d.long d.inside d.elsewhere e)

folded_small : (xs : List ℕ) (h : ℕ) → h < 2 ^ 32 → fold mixed h xs < 2 ^ 32
folded_small [] h l = l
folded_small (x ∷ xs) h l = folded_small xs (mixed h x) (mixed_small h x)

pub check_small : (xs : List ℕ) → check_of xs < 4294967296
unfolding check_of
check_small xs = folded_small xs 0 (omega arith)

-- as a test
pub tells : (xs ys : List ℕ) → Bytes xs → Bytes ys → DifferOnce xs ys → eqb (check_of xs) (check_of ys) ≡ false
tells xs ys f g d = ne_eqb (check_of xs) (check_of ys) (one_byte_tells xs ys f g d)
