-- Which numbers and tables make a store.
use Rattle.std.specs.Prelude.{◌≡◌, ℕ, ◌≤◌, Bool, not, ◌||◌, vec_len, vec_capacity, Vec, ◌==◌, nat_lt}

-- tables not of one length, empty or above 4,096
abbrev pub bad_tables : (cells contents : ℕ) → Bool
bad_tables n m = not (m == n) || n == 0 || nat_lt 4096 n

-- no card, or above eight; first serial 0 or the last there is; rounds above the last there can be
abbrev pub bad_numbers : (cards first rounds : ℕ) → Bool
bad_numbers k first rounds = k == 0 || nat_lt 8 k || first == 0 || first == 4294967295 || nat_lt 1073741823 rounds

-- what a making is refused for, with 14
abbrev pub unfit : (cells contents cards first rounds : ℕ) → Bool
unfit n m k first rounds = bad_tables n m || bad_numbers k first rounds

-- two empty lists with room for n cells each
abbrev pub RoomFor : {Z : Type 0} → ℕ → Vec ℕ Z → Vec ℕ Z → Type 0
RoomFor n free waiting =
    (n ≤ vec_capacity free)
    × (n ≤ vec_capacity waiting)
    × (vec_len free ≡ 0)
    × (vec_len waiting ≡ 0)
