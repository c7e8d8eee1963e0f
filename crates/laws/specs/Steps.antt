-- One call on a store and a line, runs of calls, and where a run may start.
use Rattle.std.specs.Prelude.{◌≡◌, ℕ, ◌*◌, ◌<◌, ◌≤◌, true, false, List, [], ◌∷◌, length, Some, None, Ok, Err, Option, Result, slice_index_or}
use Rattle.machine.specs.declared.types.Colour.TheVariants.{Zero}
use Rattle.machine.specs.declared.types.Phase.TheVariants.{Rest}
use Rattle.refusal.specs.declared.kinds.Refusal.{Refusal}
use Rattle.machine.specs.declared.types.Call.{Call}
use Rattle.machine.specs.declared.types.Call.TheVariants.{New, Load, Copy, Drop, Read, Look, Note, Store, Open, Knock, Attend, Hear, Trace, Sweep, Settle}
use Rattle.machine.specs.Acts.{Answer}
use Rattle.machine.specs.World.{World, used, serial_at, links_at, link, colour_at, wait, snooped, log_at, card, place}
use Rattle.machine.specs.Rounds.{knock_call, attend_call, hear_call}
use Rattle.line.specs.Lines.{Meaning, Among, Sent, Fetched, Replied, Collected}
use Rattle.machine.specs.Acts.{act}

-- ---- what a call does to the line m, which becomes l; got is what the line delivered

-- P of a call that was refused, else Q
abbrev pub Unless : Result ℕ Refusal → Type 0 → Type 0 → Type 0
Unless (Err r) P Q = P
Unless (Ok n) P Q = Q

-- the number answered was sent to card c; a call that was refused leaves the line alone
abbrev pub Sends : ℕ → Result ℕ Refusal → Meaning → Meaning → Type 0
Sends c (Err r) m l = l ≡ m
Sends c (Ok n) m l = Sent c n m l

-- card c sent the reply, if it had one
abbrev pub Replies : ℕ → Option ℕ → Meaning → Meaning → Type 0
Replies c None m l = l ≡ m
Replies c (Some n) m l = Replied c n m l

-- card c fetched what the line delivered, and then replied; mid is the line in between
pub record Attends (c : ℕ) (got reply : Option ℕ) (m l : Meaning) : Type 0 where
  pub mid : Meaning
  pub fetched : Fetched c got m mid
  pub replied : Replies c reply mid l

-- what the call k on the store w does to the line: card calls, open, trace, sweep and settle leave it alone
abbrev pub Moves : {C : Type 0} → World C → Call C → Option ℕ → Meaning → Meaning → Type 0
Moves w (New c p x) got m l = l ≡ m
Moves w (Load c p i q) got m l = l ≡ m
Moves w (Copy c p q) got m l = l ≡ m
Moves w (Drop c p) got m l = l ≡ m
Moves w (Read c p) got m l = l ≡ m
Moves w (Look c p i q) got m l = l ≡ m
Moves w (Note c) got m l = l ≡ m
Moves w (Store c) got m l = l ≡ m
Moves w Open got m l = l ≡ m
Moves w (Knock c) got m l = Sends c (knock_call w c) m l
Moves w (Attend c) got m l = Unless (attend_call w c got).0 (l ≡ m) (Attends c got (attend_call w c got).1 m l)
Moves w (Hear c) got m l = Unless (hear_call w c got).0 (l ≡ m) (Collected c got m l)
Moves w Trace got m l = l ≡ m
Moves w Sweep got m l = l ≡ m
Moves w Settle got m l = l ≡ m

-- the call k on the store w and the line m answers a and leaves the store v and the line l
pub record Step {C : Type 0} (w : World C) (m : Meaning) (k : Call C) (a : Answer C) (v : World C) (l : Meaning) : Type 0 where
  pub got : Option ℕ
  pub answers : a ≡ (act w k got).0
  pub leaves : v ≡ (act w k got).1
  pub line : Moves w k got m l

-- the calls and the answers of a whole run, the first first
pub data Run {C : Type 0} : World C → Meaning → List (Call C) → List (Answer C) → World C → Meaning → Type 0 where
  done : {w : World C} {m : Meaning} → Run w m [] [] w m
  then : {w v u : World C} {m l n : Meaning} {k : Call C} {ks : List (Call C)} {a : Answer C} {rs : List (Answer C)} → Step w m k a v l → Run v l ks rs u n → Run w m (k ∷ ks) (a ∷ rs) u n

-- ---- where a run may start

-- no number stands in the list twice
abbrev pub Distinct : List ℕ → Type 0
Distinct [] = Unit {0}
Distinct (x ∷ xs) = (Among x xs → ⊥) × Distinct xs

-- a store as it is just made, or read back from an archive: no round is open, and nothing is left of one
pub record AtRest {C : Type 0} (w : World C) : Type 0 where
  pub phase : w.phase ≡ Rest
  pub marked : w.marked ≡ Zero
  pub colours : (x : ℕ) → colour_at w x ≡ Zero
  pub waits : (x : ℕ) → wait w x ≡ false
  pub snoops : (x : ℕ) → snooped w x ≡ false
  pub logs : (x : ℕ) → log_at w x ≡ None
  pub waiting : w.waiting ≡ []
  pub order : w.order ≡ 4 * w.rounds
  pub sweep : w.sweep ≡ 0
  pub answered : (c : ℕ) → slice_index_or w.answered c false ≡ false
  -- the cards
  pub lasts : (c : ℕ) → c < length w.cards → (card w c).last ≡ 4 * w.rounds
  pub births : (c : ℕ) → (card w c).birth ≡ Zero
  pub snoop : (c : ℕ) → (card w c).snoop ≡ false
  pub logging : (c : ℕ) → (card w c).logging ≡ false
  pub updates : (c : ℕ) → (card w c).update ≡ None
  -- sizes
  pub some : 1 ≤ length w.cells
  pub tables : length w.contents ≡ length w.cells
  pub answers : length w.answered ≡ length w.cards
  pub eight : (c : ℕ) → c < length w.cards → length (card w c).places ≡ 8
  pub four : (x : ℕ) → used w x ≡ true → length (links_at w x) ≡ 4
  -- names
  pub links : (y i x : ℕ) → link w y i ≡ Some x → used w x ≡ true
  pub places : (c q x : ℕ) → place w c q ≡ Some x → used w x ≡ true
  -- the free list: exactly the free cells, once each
  pub free_is : (x : ℕ) → Among x w.free → (x < length w.cells) × (used w x ≡ false)
  pub free_has : (x : ℕ) → x < length w.cells → used w x ≡ false → Among x w.free
  pub free_once : Distinct w.free
  -- serials
  pub apart : (x y : ℕ) → used w x ≡ true → used w y ≡ true → serial_at w x ≡ serial_at w y → x ≡ y
  pub above : (x : ℕ) → used w x ≡ true → 1 ≤ serial_at w x
  pub below : (x : ℕ) → used w x ≡ true → serial_at w x < w.next
  pub next : 2 ≤ w.next

-- no number on the line is above the store's order number
pub record Low {C : Type 0} (w : World C) (m : Meaning) : Type 0 where
  pub orders : (c x : ℕ) → Among x (m.orders c) → x ≤ w.order
  pub replies : (c x : ℕ) → Among x (m.replies c) → x ≤ w.order

-- a run may start at a store at rest and a line with no number above the store's order number
pub record Start {C : Type 0} (w : World C) (m : Meaning) : Type 0 where
  pub rest : AtRest w
  pub low : Low w m
