-- A buffer that is filled from its start on. Assumes nothing.
use Rattle.std.proofs.Common.{◌≡◌, ℕ, ◌+◌, ◌-◌, ◌<◌, ◌≤◌, true, false, eqb, ltb, List, ◌++◌, length, take, drop, replicate, Ok, refl, sym, ap, ◌∙◌, arith, take_all}
use borrow.Rule.Slice.PartMut.{put_mid, post_of}
use Rattle.std.proofs.lemmas.List.{length-take, length-replicate, length-append, take_at, drop_at}
use Rattle.std.proofs.lemmas.Slice.{take-put_mid}
use Rattle.std.proofs.lemmas.Bool.{eq-eqb, le-ltb}
use Rattle.octets.specs.Numbers.{le16, le32, un16, un32}
use Rattle.octets.specs.Check.{check_of}
use Rattle.octets.proofs.Numbers.{un_le16, un_le32}
use Rattle.octets.proofs.Telling.{check_small}
use Rattle.octets.specs.Block.{block_of, writing, check_right, opening, SaysWhatWasWritten}

-- one more part, at the end of what is filled
pub fill : (n k : ℕ) (o o' : List ℕ) {p q q' : List ℕ} → take n o ≡ p → take (n + length q) o' ≡ take n o ++ q → length q ≡ k → q ≡ q' → take (n + k) o' ≡ p ++ q'
fill n k o o' {p} {q} {q'} f e l s = ap (λ m. take (n + m) o') (sym l) ∙ e ∙ ap (λ t. t ++ q) f ∙ ap (λ t. p ++ t) s

pub full : (o : List ℕ) {p : List ℕ} (n : ℕ) → take n o ≡ p → length o ≡ n → o ≡ p
full o n f l = sym (take_all n o (omega arith)) ∙ f

-- the next part of a buffer that is filled so far
pub put_next : (a k n : ℕ) (o y : List ℕ) {p q : List ℕ} → take a o ≡ p → y ≡ q → n ≡ a + length y → a ≤ length o → take n (put_mid a k o y) ≡ p ++ q
put_next a k n o y {p} {q} f e l h = take-put_mid a k o y n l h ∙ ap (λ t. t ++ y) f ∙ ap (λ t. p ++ t) e

-- what stands at the front reaches that far
reach : (n : ℕ) (o p : List ℕ) → take n o ≡ p → length p ≡ n → n ≤ length o
reach n o p f l = let e : length (take n o) ≡ n = ap length f ∙ l in omega (arith, e, length-take n o)

-- number, count, body, zeros and the check, put one after the other, are a block
pub seal : (b n a : ℕ) (out body x y w z q : List ℕ) → a ≡ 4 + length body → a ≤ 508 → x ≡ le16 b → y ≡ le16 n → w ≡ body → z ≡ replicate (508 - a) 0
    → (let o : List ℕ = put_mid a (508 - a) (put_mid 4 (a - 4) (put_mid 2 2 (x ++ post_of 0 2 out) y) w) z in
    q ≡ le32 (check_of (take 508 o)) → length (put_mid 508 4 o q) ≡ 512 → put_mid 508 4 o q ≡ block_of b n body)
unfolding block_of
seal b n a out body x y w z q ea ha ex ey ew ez eq lo =
    let s : List ℕ = replicate (504 - length body) 0 in
    let o1 : List ℕ = x ++ post_of 0 2 out in
    let o2 : List ℕ = put_mid 2 2 o1 y in
    let o3 : List ℕ = put_mid 4 (a - 4) o2 w in
    let o4 : List ℕ = put_mid a (508 - a) o3 z in
    let lx : length x ≡ 2 = ap length ex in
    let t1 : take 2 o1 ≡ le16 b = take_at x (post_of 0 2 out) 2 lx ∙ ex in
    let t2 : take 4 o2 ≡ le16 b ++ le16 n = put_next 2 2 4 o1 y t1 ey (ap (λ l. 2 + length l) (sym ey)) (reach 2 o1 (le16 b) t1 refl) in
    let t3 : take a o3 ≡ (le16 b ++ le16 n) ++ body = put_next 4 (a - 4) a o2 w t2 ew (ea ∙ ap (λ l. 4 + length l) (sym ew)) (reach 4 o2 (le16 b ++ le16 n) t2 refl) in
    let m : 508 - a ≡ 504 - length body = omega arith in
    let es : z ≡ s = ez ∙ ap (λ i. replicate i 0) m in
    let ls : length z ≡ 508 - a = ap length ez ∙ length-replicate (508 - a) 0 in
    let t4 : take 508 o4 ≡ ((le16 b ++ le16 n) ++ body) ++ s = put_next a (508 - a) 508 o3 z t3 es (omega arith) (reach a o3 ((le16 b ++ le16 n) ++ body) t3 (omega arith)) in
    let eq' : q ≡ le32 (check_of (((le16 b ++ le16 n) ++ body) ++ s)) = eq ∙ ap (λ l. le32 (check_of l)) t4 in
    let ll : length (((le16 b ++ le16 n) ++ body) ++ s) ≡ 508 = length-append ((le16 b ++ le16 n) ++ body) s ∙ omega (arith, length-replicate {A = ℕ} (504 - length body) 0) in
    full (put_mid 508 4 o4 q) 512 (put_next 508 4 512 o4 q t4 eq' (ap (λ l. 508 + length l) (sym eq')) (reach 508 o4 _ t4 ll)) lo

-- the same of any buffer, once number, count and body stand in it: zeros and the check follow
pub seal_last : (b n a k : ℕ) (body o z o₂ o₃ q : List ℕ) (sum : ℕ) → take a o ≡ le16 b ++ (le16 n ++ body) → a ≡ 4 + length body → a ≤ 508 → length o ≡ 512 → z ≡ replicate (508 - a) 0
    → o₂ ≡ put_mid a k o z → sum ≡ check_of (take 508 o₂) → q ≡ le32 sum → length q ≡ 4 → take (508 + length q) o₃ ≡ take 508 o₂ ++ q → length o₃ ≡ 512 → o₃ ≡ block_of b n body
unfolding block_of
seal_last b n a k body o z o₂ o₃ q sum e ea ha lo ez e₂ es eq lq e₃ l₃ =
    let w : List ℕ = le16 b ++ (le16 n ++ (body ++ replicate (504 - length body) 0)) in
    let m : 508 - a ≡ 504 - length body = omega arith in
    let lz : length z ≡ 508 - a = ap length ez ∙ length-replicate (508 - a) 0 in
    let t : take 508 o₂ ≡ w = ap (take 508) e₂ ∙ put_next a k 508 o z e (ez ∙ ap (λ i. replicate i 0) m) (omega arith) (omega arith) in
    full o₃ 512 (fill 508 4 o₂ o₃ t e₃ lq (eq ∙ ap le32 (es ∙ ap check_of t))) l₃

-- what a writing and an opening come to once their tests are decided
pub written : (out o body : List ℕ) (b n : ℕ) → length out ≡ 512 → length body ≤ 504 → o ≡ block_of b n body → (Ok tt, o) ≡ writing out b n body
written out o body b n l h e =
    let t : eqb (length out) 512 ≡ true = eq-eqb (length out) 512 l in
    let s : ltb 504 (length body) ≡ false = le-ltb 504 (length body) h in
    rw (t, s) (ap (λ x. (Ok tt, x)) e)

pub opens : (bs body : List ℕ) (b n : ℕ) → length bs ≡ 512 → check_right bs ≡ true → b ≡ un16 bs → n ≡ un16 (drop 2 bs) → body ≡ take 504 (drop 4 bs) → Ok (record { number = b; count = n; body = body }) ≡ opening bs
opens bs body b n l r e f g =
    let t : eqb (length bs) 512 ≡ true = eq-eqb (length bs) 512 l in
    rw (t, r, e, f, g)

-- a written block says what was written
pub says : (b n : ℕ) (body : List ℕ) → b < 65536 → n < 65536 → length body ≤ 504 → SaysWhatWasWritten b n body
unfolding block_of
says b n body hb hn h =
    let z : List ℕ = replicate (504 - length body) 0 in
    let w : List ℕ = le16 b ++ (le16 n ++ (body ++ z)) in
    let q : List ℕ = le32 (check_of w) in
    let lz : length z ≡ 504 - length body = length-replicate (504 - length body) 0 in
    let lb : length (body ++ z) ≡ 504 = length-append body z ∙ omega arith in
    let lw : length w ≡ 508 = omega arith in
    let l : length (w ++ q) ≡ 512 = length-append w q ∙ omega arith in
    let t : take 508 (w ++ q) ≡ w = take_at w q 508 lw in
    let d : drop 508 (w ++ q) ≡ q = drop_at w q 508 lw in
    let told : un32 (drop 508 (w ++ q)) ≡ check_of (take 508 (w ++ q)) = ap un32 d ∙ un_le32 (check_of w) (check_small w) ∙ ap check_of (sym t) in
    sym (opens (w ++ q) (body ++ z) b n l (eq-eqb _ _ told) (sym (un_le16 b hb)) (sym (un_le16 n hn)) (sym (take_at (body ++ z) q 504 lb)))
