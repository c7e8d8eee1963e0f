-- The direct line: one order and one reply a card; a sending replaces, a taking empties. Cards 0 to 7. Assumes nothing.
use Rattle.std.specs.Prelude.{ℕ, List, [], ◌∷◌, map, Some, None, Option}
use Rattle.line.specs.Lines.{Meaning}
use Rattle.line.specs.Way.{Queues, queue, put_in, taken_from}
use Rattle.line.specs.declared.direct.Direct.{Direct}

-- the numbers in a slot, at most one
abbrev pub waiting_in : Option ℕ → List ℕ
waiting_in None = []
waiting_in (Some n) = n ∷ []

-- a number replaces what waits
abbrev pub replaces : List ℕ → ℕ → List ℕ
replaces xs n = n ∷ []

-- both ways
pub record Ways : Type 0 where
  pub orders : Queues
  pub replies : Queues

abbrev pub ways : Direct → Ways
ways d = record { orders = map waiting_in d.orders.slots; replies = map waiting_in d.replies.slots }

abbrev pub direct_means : Direct → Meaning
direct_means d = record { orders = queue (ways d).orders; replies = queue (ways d).replies }

-- the four acts on both ways
abbrev pub order_put : Ways → ℕ → ℕ → Ways
order_put w c n = record { orders = put_in replaces w.orders c n; replies = w.replies }

abbrev pub order_taken : Ways → ℕ → Ways
order_taken w c = record { orders = taken_from w.orders c; replies = w.replies }

abbrev pub reply_put : Ways → ℕ → ℕ → Ways
reply_put w c n = record { orders = w.orders; replies = put_in replaces w.replies c n }

abbrev pub reply_taken : Ways → ℕ → Ways
reply_taken w c = record { orders = w.orders; replies = taken_from w.replies c }
