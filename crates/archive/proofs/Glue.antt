-- Bytes put together from their parts, and taken apart again. Assumes nothing.
use Rattle.std.proofs.Common.{◌≡◌, ℕ, zero, suc, ◌+◌, ◌-◌, ◌*◌, ◌<◌, ◌≤◌, true, List, [], ◌∷◌, ◌++◌, length, take, drop, replicate, sym, refl, ap, ◌∙◌, subst, inl, inr, mul-le-mul_left, mul-suc, arith, take-add}
use Rattle.std.proofs.lemmas.Bool.{cases_eq, cases_lt, eq-eqb, eqb-true}
use Rattle.std.proofs.lemmas.List.{take-append-drop, drop-drop, drop-take, take-take, take_all, take_at, drop_at, take-append-le, drop-append-le, length-append, length-drop, length-take, length-take-le, length-replicate, get_or-drop, get_or-take, get_or_past, append_assoc}
use Rattle.octets.specs.Numbers.{le16, le32, un16, un32, Bytes}
use Rattle.octets.specs.Check.{check_of}
use Rattle.octets.specs.Block.{block_of, check_right}
use Rattle.octets.proofs.Numbers.{le16_of, le32_of, un_le16, un_le32}
use Rattle.octets.proofs.Telling.{check_small}
use Rattle.archive.specs.Runs.{run}
use Rattle.archive.specs.Rules.{is_blank, framed}
use Rattle.archive.proofs.Zeros.{blank_zeros, zeros_blank}
use Rattle.archive.proofs.Tests.{frame_tells, frame_is}

-- the front of bytes, as a number and again as bytes
pub front16 : (bs : List ℕ) → 2 ≤ length bs → Bytes bs → le16 (un16 bs) ≡ take 2 bs
front16 [] h f = absurd (omega arith)
front16 (a ∷ []) h f = absurd (omega arith)
front16 (a ∷ b ∷ bs) h f = le16_of a b (f 0) (f 1)

pub front32 : (bs : List ℕ) → 4 ≤ length bs → Bytes bs → le32 (un32 bs) ≡ take 4 bs
front32 [] h f = absurd (omega arith)
front32 (a ∷ []) h f = absurd (omega arith)
front32 (a ∷ b ∷ []) h f = absurd (omega arith)
front32 (a ∷ b ∷ c ∷ []) h f = absurd (omega arith)
front32 (a ∷ b ∷ c ∷ d ∷ bs) h f = le32_of a b c d (f 0) (f 1) (f 2) (f 3)

pub drop_bytes : (n : ℕ) (bs : List ℕ) → Bytes bs → Bytes (drop n bs)
drop_bytes n bs f i = simp get_or-drop (f (n + i))

pub take_bytes : (k : ℕ) (bs : List ℕ) → Bytes bs → Bytes (take k bs)
take_bytes k bs f i =
    elim (cases_lt i k) [
      | inl l ↦ simp (get_or-take k bs i 0 l) (f i)
      | inr l ↦ rw (get_or_past (take k bs) i 0 (simp length-take (omega arith))) (omega arith)
    ]

-- a number at a place
pub two_at : (n v : ℕ) (bs : List ℕ) → n + 2 ≤ length bs → Bytes bs → v ≡ un16 (drop n bs) → le16 v ≡ take 2 (drop n bs)
two_at n v bs h f e = ap le16 e ∙ front16 (drop n bs) (simp length-drop (omega arith)) (drop_bytes n bs f)

pub four-at : (n v : ℕ) (bs : List ℕ) → n + 4 ≤ length bs → Bytes bs → v ≡ un32 (drop n bs) → le32 v ≡ take 4 (drop n bs)
four-at n v bs h f e = ap le32 e ∙ front32 (drop n bs) (simp length-drop (omega arith)) (drop_bytes n bs f)

-- zeros at a place
pub zeros_at : (k : ℕ) (bs : List ℕ) → k ≤ length bs → is_blank (take k bs) ≡ true → replicate k 0 ≡ take k bs
zeros_at k bs h e = sym (blank_zeros (take k bs) e ∙ ap (λ n. replicate n 0) (length-take-le k bs h))

-- the next part and what comes after it
pub glue : (i j s t : ℕ) (bs : List ℕ) {a r : List ℕ} → a ≡ take i (drop s bs) → r ≡ take j (drop t bs) → t ≡ s + i → a ++ r ≡ take (i + j) (drop s bs)
glue i j s t bs {a} {r} e f q =
    ap (λ x. x ++ r) e ∙ ap (λ x. take i (drop s bs) ++ x) (f ∙ ap (λ k. take j (drop k bs)) q ∙ ap (take j) (sym (drop-drop i s bs))) ∙ sym (take-add i j (drop s bs))

-- bytes cut into parts of one length
pub run_from : (s : ℕ) (f : ℕ → List ℕ) (bs : List ℕ) (n : ℕ) → ((b : ℕ) → b < n → f b ≡ take s (drop (s * b) bs)) → run f n ≡ take (s * n) bs
unfolding run
run_from s f bs zero h = ap (λ k. take k bs) (let z : 0 ≡ s * 0 = omega arith in z)
run_from s f bs (suc n) h =
    ap (λ t. t ++ f n) (run_from s f bs n (λ b l. h b (omega arith))) ∙ ap (λ t. take (s * n) bs ++ t) (h n (omega arith))
    ∙ sym (take-add (s * n) s bs) ∙ ap (λ i. take i bs) (sym (mul-suc s n))

pub run_length : (s : ℕ) (f : ℕ → List ℕ) (n : ℕ) → ((b : ℕ) → b < n → length (f b) ≡ s) → length (run f n) ≡ s * n
unfolding run
run_length s f zero h = let z : 0 ≡ s * 0 = omega arith in z
run_length s f (suc n) h = length-append (run f n) (f n) ∙ ap (λ m. m + length (f n)) (run_length s f n (λ b l. h b (omega arith))) ∙ ap (λ m. s * n + m) (h n (omega arith)) ∙ sym (mul-suc s n)

pub inside : {X : Type 0} (a c m : ℕ) (xs : List X) → a + c ≤ m → take c (drop a (take m xs)) ≡ take c (drop a xs)
inside a c m xs h =
    let e : m ≡ a + (m - a) = omega arith in
    ap (λ i. take c (drop a (take i xs))) e ∙ ap (take c) (drop-take a (m - a) xs) ∙ take-take c (m - a) (drop a xs) (omega arith)

-- a block that is framed right and has its check right is the block of its body
abbrev bare : ℕ → ℕ → List ℕ → List ℕ
bare b n body = le16 b ++ (le16 n ++ (body ++ replicate (504 - length body) 0))

bare_length : (b n : ℕ) (body : List ℕ) → length body ≤ 504 → length (bare b n body) ≡ 508
bare_length b n body h =
    omega (arith, length-append body (replicate (504 - length body) 0), length-replicate {A = ℕ} (504 - length body) 0)

pub block_forth : (bs : List ℕ) (b n m : ℕ) (body : List ℕ) → length bs ≡ 512 → Bytes bs → m ≤ 504 → check_right bs ≡ true → framed b n m bs ≡ true → body ≡ take m (drop 4 bs) → block_of b n body ≡ bs
unfolding block_of
block_forth bs b n m body l f h ck fr e =
    let t = frame_tells b n m bs fr in
    let q : List ℕ = drop 508 bs in
    let lb : length body ≡ m = ap length e ∙ length-take-le m (drop 4 bs) (simp length-drop (omega arith)) in
    let gap : 504 - length body ≡ 504 - m = omega arith in
    let zs : replicate (504 - length body) 0 ≡ take (504 - m) (drop (4 + m) bs) =
    ap (λ k. replicate k 0) gap ∙ zeros_at (504 - m) (drop m (drop 4 bs)) (simp (length-drop, length-drop) (omega arith)) t.2 ∙ ap (take (504 - m)) (drop-drop m 4 bs) in
    let all : m + (504 - m) ≡ 504 = omega arith in
    let rest : body ++ replicate (504 - length body) 0 ≡ take 504 (drop 4 bs) = glue m (504 - m) 4 (4 + m) bs e zs refl ∙ ap (λ k. take k (drop 4 bs)) all in
    let front : bare b n body ≡ take 508 bs =
    glue 2 506 0 2 bs (two_at 0 b bs (omega arith) f (sym t.0))
    (glue 2 504 2 4 bs (two_at 2 n bs (omega arith) f (sym t.1)) rest refl) refl in
    let sum : le32 (check_of (bare b n body)) ≡ q =
    ap (λ t. le32 (check_of t)) front ∙ ap le32 (sym (eqb-true (un32 q) (check_of (take 508 bs)) ck))
    ∙ front32 q (simp length-drop (omega arith)) (drop_bytes 508 bs f) ∙ take_all 4 q (simp length-drop (omega arith)) in
    ap (λ t. t ++ le32 (check_of (bare b n body))) front ∙ ap (λ t. take 508 bs ++ t) sum ∙ take-append-drop 508 bs

pub run_at : (s : ℕ) (f : ℕ → List ℕ) (b n : ℕ) → ((b : ℕ) → b < n → length (f b) ≡ s) → b < n → take s (drop (s * b) (run f n)) ≡ f b
unfolding run
run_at s f b zero h l = absurd (omega arith)
run_at s f b (suc n) h l =
    let h' : (b : ℕ) → b < n → length (f b) ≡ s = λ b l. h b (omega arith) in
    let ln : length (run f n) ≡ s * n = run_length s f n h' in
    elim (cases_eq b n) [
      | inl e ↦
          ap (λ i. take s (drop (s * i) (run f n ++ f n))) e
          ∙ ap (take s) (drop_at (run f n) (f n) (s * n) ln) ∙ take_all s (f n) (omega (arith, h n (omega arith))) ∙ ap f (sym e)
      | inr e ↦
          let k : s * b + s ≤ s * n = subst (λ m. m ≤ s * n) (mul-suc s b) (mul-le-mul_left {m = suc b} {n = n} s (omega arith)) in
          let k' : s * b + s ≤ length (run f n) = omega arith in
          ap (take s) (drop-append-le (s * b) (run f n) (f n) (omega arith))
          ∙ take-append-le s (drop (s * b) (run f n)) (f n) (simp length-drop (omega arith))
          ∙ run_at s f b n h' (omega arith)
    ]

-- a part of a part
pub part_of_lem : (s m a c t : ℕ) (bs : List ℕ) (F : List ℕ) → take m (drop s bs) ≡ F → a + c ≤ m → t ≡ s + a → take c (drop t bs) ≡ take c (drop a F)
part_of_lem s m a c t bs F e h q =
    ap (λ i. take c (drop i bs)) q ∙ ap (take c) (sym (drop-drop a s bs)) ∙ sym (inside a c m (drop s bs) h) ∙ ap (λ t. take c (drop a t)) e

pub un16_front : (bs : List ℕ) → un16 (take 2 bs) ≡ un16 bs
un16_front bs = let a = get_or-take 2 bs 0 0 (omega arith) in let b = get_or-take 2 bs 1 0 (omega arith) in omega arith

pub un32_front : (bs : List ℕ) → un32 (take 4 bs) ≡ un32 bs
un32_front bs =
    let a = get_or-take 4 bs 0 0 (omega arith) in
    let b = get_or-take 4 bs 1 0 (omega arith) in
    let c = get_or-take 4 bs 2 0 (omega arith) in
    let d = get_or-take 4 bs 3 0 (omega arith) in
    omega arith

-- a number of two bytes read in a part
pub two_in : (s m a t : ℕ) (bs : List ℕ) (F : List ℕ) → F ≡ take m (drop s bs) → a + 2 ≤ m → t ≡ s + a → un16 (drop a F) ≡ un16 (drop t bs)
two_in s m a t bs F e h q = sym (un16_front (drop a F)) ∙ ap un16 (sym (part_of_lem s m a 2 t bs F (sym e) h q)) ∙ un16_front (drop t bs)

-- a number read where it was written
pub two_read : (n v : ℕ) (bs : List ℕ) → v < 65536 → take 2 (drop n bs) ≡ le16 v → un16 (drop n bs) ≡ v
two_read n v bs h e = sym (un16_front (drop n bs)) ∙ ap un16 e ∙ un_le16 v h

pub four_read : (n v : ℕ) (bs : List ℕ) → v < 4294967296 → take 4 (drop n bs) ≡ le32 v → un32 (drop n bs) ≡ v
four_read n v bs h e = sym (un32_front (drop n bs)) ∙ ap un32 e ∙ un_le32 v h

-- what the block of a body is
pub record Blocked (b n : ℕ) (body : List ℕ) : Type 0 where
  pub long : length (block_of b n body) ≡ 512
  pub check : check_right (block_of b n body) ≡ true
  pub frame : framed b n (length body) (block_of b n body) ≡ true
  pub here : take (length body) (drop 4 (block_of b n body)) ≡ body

pub blocked : (b n : ℕ) (body : List ℕ) → b < 65536 → n < 65536 → length body ≤ 504 → Blocked b n body
unfolding block_of
blocked b n body hb hn h =
    let m : ℕ = length body in
    let zs : List ℕ = replicate (504 - length body) 0 in
    let w : List ℕ = bare b n body in
    let q : List ℕ = le32 (check_of w) in
    let lw : length w ≡ 508 = bare_length b n body h in
    let lz : length zs ≡ 504 - length body = length-replicate {A = ℕ} (504 - length body) 0 in
    let rest : drop 4 (w ++ q) ≡ body ++ (zs ++ q) = append_assoc body zs q in
    let blank : is_blank (take (504 - m) (drop m (drop 4 (w ++ q)))) ≡ true =
    ap (λ t. is_blank (take (504 - m) (drop m t))) rest ∙ ap (λ t. is_blank (take (504 - m) t)) (drop_at body (zs ++ q) m refl)
    ∙ ap is_blank (take_at zs q (504 - m) lz) ∙ zeros_blank (504 - length body) in
    record {
      long = length-append w q ∙ omega arith;
      check = eq-eqb (un32 (drop 508 (w ++ q))) (check_of (take 508 (w ++ q))) (ap un32 (drop_at w q 508 lw) ∙ un_le32 (check_of w) (check_small w) ∙ ap check_of (sym (take_at w q 508 lw)));
      frame = sym (frame_is b n m (w ++ q) (un_le16 b hb) (un_le16 n hn)) ∙ blank;
      here = ap (take m) rest ∙ take_at body (zs ++ q) m refl;
    }
