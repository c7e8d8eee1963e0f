-- Making a store: what a check says, and what a plan says will be made.
use Rattle.std.specs.Prelude.{◌≡◌, ℕ, Bool, true, false, List, length, Ok, Err, Result}
use Rattle.refusal.specs.declared.kinds.Refusal.TheVariants.{OutOfRange}
use Rattle.machine.specs.World.{Cell}
use Rattle.machine.specs.World.{World, fresh}
use Rattle.store.specs.Ready.{unfit}
use Rattle.store.specs.declared.plan.Plan.{Plan}
use Rattle.store.specs.declared.why.Why.{Why}
use Rattle.store.specs.declared.why.Why.TheVariants.{Refused, NoMemory}
use Rattle.store.specs.declared.plan.NotMade.{NotMade}

-- a refusal is 14 and given just where something does not fit
abbrev pub Tells : Why → Bool → Type 0
Tells (Refused r) b = (r ≡ OutOfRange) × (b ≡ true)
Tells NoMemory b = b ≡ false

-- what a plan holds
pub record Asked (C : Type 0) : Type 0 where
  pub cells : List Cell
  pub contents : List C
  pub cards : ℕ
  pub first : ℕ
  pub rounds : ℕ

abbrev pub asked : {C : Type 0} → Plan C → Asked C
asked p = record { cells = p.cells.now; contents = p.contents.now; cards = p.cards; first = p.first; rounds = p.rounds }

-- the check of what is asked: a plan for just that, or the reason and the tables untouched
abbrev pub Checked : {C : Type 0} → Asked C → Result (Plan C) (NotMade C) → Type 0
Checked q (Ok p) = asked p ≡ q
Checked q (Err e) = Tells e.why (unfit (length q.cells) (length q.contents) q.cards q.first q.rounds) × (e.cells.now ≡ q.cells) × (e.contents.now ≡ q.contents)

-- the store that is made, with the index record's contents
abbrev pub made_of : {C : Type 0} → Asked C → C → World C
made_of q x = fresh (length q.cells) q.contents q.cards q.first q.rounds x
