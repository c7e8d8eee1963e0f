-- The leaky line: queues of up to four numbers a card and way, and a pattern of 32 bits that says which sendings are lost.
-- All sendings of both ways are counted together, from 0. Cards 0 to 7. Assumes nothing.
use Rattle.std.specs.Prelude.{ℕ, ◌+◌, ◌/◌, ◌%◌, ◌^◌, Bool, cond, List, [], ◌∷◌, ◌++◌, map, length, ◌==◌, nat_lt}
use Rattle.line.specs.Lines.{Meaning}
use Rattle.line.specs.Way.{Queues, queue, put_in, taken_from}
use Rattle.line.specs.declared.queue.Queue.{Queue}
use Rattle.line.specs.declared.queue.Queue.TheVariants.{Empty, One, Two, Three, Four}
use Rattle.line.specs.declared.leaky.Leaky.{Leaky}

-- the numbers in a queue, the first to come out first
abbrev pub held : Queue → List ℕ
held Empty = []
held (One a) = a ∷ []
held (Two a b) = a ∷ b ∷ []
held (Three a b c) = a ∷ b ∷ c ∷ []
held (Four a b c d) = a ∷ b ∷ c ∷ d ∷ []

-- the whole line: both ways, the pattern, and the count of sendings so far, of which only the remainder by 32 matters
pub record Wire : Type 0 where
  pub orders : Queues
  pub replies : Queues
  pub pattern : ℕ
  pub count : ℕ

abbrev pub wire : Leaky → Wire
wire l = record { orders = map held l.orders.slots; replies = map held l.replies.slots; pattern = l.pattern; count = l.count }

abbrev pub leaky_means : Leaky → Meaning
leaky_means l = record { orders = queue (wire l).orders; replies = queue (wire l).replies }

-- sending number j is lost where bit j mod 32 of the pattern is 1
abbrev pub lost : ℕ → ℕ → Bool
lost pattern j = (pattern / 2 ^ (j % 32)) % 2 == 1

-- a number joins a queue at its end, unless four wait there
abbrev pub joins : List ℕ → ℕ → List ℕ
joins q n = cond (nat_lt (length q) 4) (q ++ (n ∷ [])) q

-- a sending to card c, which is lost or not
abbrev pub sent_to : Bool → Queues → ℕ → ℕ → Queues
sent_to gone qs c n = cond gone qs (put_in joins qs c n)

-- one sending more is counted
abbrev pub counted : Wire → Wire
counted w = record { orders = w.orders; replies = w.replies; pattern = w.pattern; count = (w.count + 1) % 32 }

-- the four acts; an unknown card gets nothing, is not counted and has nothing
abbrev pub order_sent : Wire → ℕ → ℕ → Wire
order_sent w c n = cond (nat_lt c 8) (record { orders = sent_to (lost w.pattern w.count) w.orders c n; replies = w.replies; pattern = w.pattern; count = (w.count + 1) % 32 }) w

abbrev pub reply_sent : Wire → ℕ → ℕ → Wire
reply_sent w c n = cond (nat_lt c 8) (record { orders = w.orders; replies = sent_to (lost w.pattern w.count) w.replies c n; pattern = w.pattern; count = (w.count + 1) % 32 }) w

abbrev pub order_off : Wire → ℕ → Wire
order_off w c = record { orders = taken_from w.orders c; replies = w.replies; pattern = w.pattern; count = w.count }

abbrev pub reply_off : Wire → ℕ → Wire
reply_off w c = record { orders = w.orders; replies = taken_from w.replies c; pattern = w.pattern; count = w.count }
