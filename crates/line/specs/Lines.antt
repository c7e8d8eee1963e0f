-- A line's meaning, and the four rules that every line keeps. A line may lose, repeat, delay and reorder: the rules only
-- say that no number comes from nowhere.
use Rattle.std.specs.Prelude.{◌≡◌, ℕ, ◌⊎◌, List, [], ◌∷◌, Some, None, Option, ◌≢◌}

-- for each card, the orders on the way to it and the replies on the way back
pub record Meaning : Type 0 where
  pub orders : ℕ → List ℕ
  pub replies : ℕ → List ℕ

-- x stands in the list
abbrev pub Among : ℕ → List ℕ → Type 0
Among x [] = ⊥
Among x (y ∷ ys) = (x ≡ y) ⊎ Among x ys

-- no list of g holds a number that the same list of f lacks
abbrev pub NoGain : (ℕ → List ℕ) → (ℕ → List ℕ) → Type 0
NoGain f g = (d x : ℕ) → Among x (g d) → Among x (f d)

-- n was put on c's list of f, which became g; h, the lists of the other way, became k
pub record Put (c n : ℕ) (f h g k : ℕ → List ℕ) : Type 0 where
  pub here : (x : ℕ) → Among x (g c) → Among x (f c) ⊎ (x ≡ n)
  pub apart : (d x : ℕ) → (d ≢ c) → Among x (g d) → Among x (f d)
  pub across : NoGain h k

-- what was delivered, if anything was, stood in the list
abbrev pub Delivered : Option ℕ → List ℕ → Type 0
Delivered None xs = Unit {0}
Delivered (Some n) xs = Among n xs

-- got came off c's list of f, which became g; h, the lists of the other way, became k
pub record Taken (c : ℕ) (got : Option ℕ) (f h g k : ℕ → List ℕ) : Type 0 where
  pub given : Delivered got (f c)
  pub along : NoGain f g
  pub across : NoGain h k

-- the four rules: sending an order, fetching it, sending a reply, collecting it. Line m became line l
abbrev pub Sent : ℕ → ℕ → Meaning → Meaning → Type 0
Sent c n m l = Put c n m.orders m.replies l.orders l.replies

abbrev pub Fetched : ℕ → Option ℕ → Meaning → Meaning → Type 0
Fetched c got m l = Taken c got m.orders m.replies l.orders l.replies

abbrev pub Replied : ℕ → ℕ → Meaning → Meaning → Type 0
Replied c n m l = Put c n m.replies m.orders l.replies l.orders

abbrev pub Collected : ℕ → Option ℕ → Meaning → Meaning → Type 0
Collected c got m l = Taken c got m.replies m.orders l.replies l.orders
