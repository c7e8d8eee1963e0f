-- Reading a number back from its bytes, and its bytes back from the number. Assumes nothing.
use Rattle.std.proofs.Common.{◌≡◌, ℕ, ◌+◌, ◌*◌, ◌/◌, ◌%◌, ◌<◌, [], ◌∷◌, sym, refl, ap, ◌∙◌, arith}
use Rattle.octets.specs.Numbers.{le16, le32, un16, un32}

small : (n : ℕ) → n < 256 → n % 256 ≡ n
small n h = omega arith

low : {m : ℕ} (r q : ℕ) → r < 256 → m ≡ r + q * 256 → m % 256 ≡ r
low r q h e = omega arith

pub un_le16 : (n : ℕ) → n < 65536 → un16 (le16 n) ≡ n
un_le16 n h = omega arith

add_up : (n r x s y t z u : ℕ) → n ≡ r + x * 256 → x ≡ s + y * 256 → y ≡ t + z * 256 → z ≡ u → r + s * 256 + t * 65536 + u * 16777216 ≡ n
add_up n r x s y t z u e f g h = omega arith

pub un_le32 : (n : ℕ) → n < 4294967296 → un32 (le32 n) ≡ n
un_le32 n h =
    let p : n / 65536 ≡ n / 256 / 256 = omega arith in
    let q : n / 16777216 ≡ n / 65536 / 256 = omega arith in
    let t : n / 16777216 < 256 = omega arith in
    add_up n (n % 256) (n / 256) (n / 256 % 256) (n / 65536) (n / 65536 % 256) (n / 16777216) (n / 16777216 % 256) (omega arith) (omega arith) (omega arith) (sym (small (n / 16777216) t))

-- at bytes
pub le16_of : (a b : ℕ) → a < 256 → b < 256 → le16 (a + b * 256) ≡ a ∷ b ∷ []
le16_of a b h k =
    let i : (a + b * 256) % 256 ≡ a = omega arith in
    let q : (a + b * 256) / 256 ≡ b = omega arith in
    let j : (a + b * 256) / 256 % 256 ≡ b = ap (λ m. m % 256) q ∙ small b k in
    rw (i, j)

pub le32_of : (a b c d : ℕ) → a < 256 → b < 256 → c < 256 → d < 256 → le32 (a + b * 256 + c * 65536 + d * 16777216) ≡ a ∷ b ∷ c ∷ d ∷ []
le32_of a b c d h k l m =
    let n : ℕ = a + b * 256 + c * 65536 + d * 16777216 in
    let i : n % 256 ≡ a = omega arith in
    let j' : n / 256 ≡ b + c * 256 + d * 65536 = omega arith in
    let j : n / 256 % 256 ≡ b = ap (λ m. m % 256) j' ∙ low b (c + d * 256) k (omega arith) in
    let p' : n / 65536 ≡ c + d * 256 = omega arith in
    let p : n / 65536 % 256 ≡ c = ap (λ m. m % 256) p' ∙ low c d l refl in
    let q' : n / 16777216 ≡ d = omega arith in
    let q : n / 16777216 % 256 ≡ d = ap (λ m. m % 256) q' ∙ small d m in
    rw (i, j, p, q)
