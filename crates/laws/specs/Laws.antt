-- Six laws of the store in the subject's words: refusals, repeats, the four orders of a round, the marks at rest, the names of
-- free cells, and contents.
use Rattle.std.specs.Prelude.{◌≡◌, ℕ, zero, suc, ◌+◌, ◌*◌, ◌<◌, ◌≤◌, Bool, true, false, cond, ◌&&◌, List, [], ◌∷◌, ◌++◌, length, Some, None, Option, ◌==◌, ◌≢◌, slice_index_or}
use Rattle.std.specs.List.{slice_get}
use Rattle.machine.specs.declared.types.Phase.TheVariants as ph
use Rattle.machine.specs.declared.types.Stage.TheVariants.{Looked}
use Rattle.machine.specs.declared.types.Update.{Update}
use Rattle.machine.specs.declared.types.Call.{Call}
use Rattle.machine.specs.declared.types.Call.TheVariants.{New, Load, Copy, Drop, Read, Look, Note, Store, Open, Knock, Attend, Hear, Trace, Sweep, Settle}
use Rattle.machine.specs.Acts.{Answer}
use Rattle.machine.specs.World.{World, Name, used, mark, wait, link, log_at, card, place, fresh}
use Rattle.machine.specs.Rounds.{sweep_call}
use Rattle.machine.specs.Acts.{act, accepted}
use Rattle.line.specs.Lines.{Meaning}
use Rattle.laws.specs.Leads.{Led}
use Rattle.laws.specs.Steps.{Step, Run, done, then, Start}
use Rattle.laws.specs.Words.{Unclosed}

-- ---- refusals

-- a call that is refused leaves the store and the line as they were
abbrev pub RefusedChangesNothing : Type 0 → Type 0
RefusedChangesNothing C =
    (w v : World C) (m l : Meaning) (k : Call C) (a : Answer C) → Step w m k a v l → accepted a ≡ false → (v ≡ w) × (l ≡ m)

-- ---- repeats

-- the store w after card c has attended k times and was given the order n each time
abbrev pub again : {C : Type 0} → ℕ → World C → ℕ → ℕ → World C
again zero w c n = w
again (suc k) w c n = again k (act w (Attend c) (Some n)).1 c n

-- an order up to the card's last order changes nothing in the store, however often it is delivered
abbrev pub RepeatsChangeNothing : Type 0 → Type 0
RepeatsChangeNothing C = (w : World C) (c n k : ℕ) → n ≤ (card w c).last → again k w c n ≡ w

-- ---- the four orders of a round

-- the call is an attend of card c
abbrev pub attends : {C : Type 0} → ℕ → Call C → Bool
attends c (New d p x) = false
attends c (Load d p i q) = false
attends c (Copy d p q) = false
attends c (Drop d p) = false
attends c (Read d p) = false
attends c (Look d p i q) = false
attends c (Note d) = false
attends c (Store d) = false
attends c Open = false
attends c (Knock d) = false
attends c (Attend d) = d == c
attends c (Hear d) = false
attends c Trace = false
attends c Sweep = false
attends c Settle = false

-- what was delivered, if it is the order after card c's last
abbrev pub next_order : {C : Type 0} → World C → ℕ → Option ℕ → List ℕ
next_order w c None = []
next_order w c (Some n) = cond (n == (card w c).last + 1) (n ∷ []) []

-- the orders that card c obeyed along a run, the first first
abbrev pub obeyed : {C : Type 0} {w v : World C} {m l : Meaning} {ks : List (Call C)} {rs : List (Answer C)} → ℕ → Run w m ks rs v l → List ℕ
obeyed c done = []
obeyed c (then {w} {k = k} {a = a} s r) = cond (attends c k && accepted a) (next_order w c s.got) [] ++ obeyed c r

-- from where a round is opened, at w, to where it is closed, at u, each card obeys its four orders, each once and in order
abbrev pub OrdersOnceInOrder : Type 0 → Type 0
OrdersOnceInOrder C =
    (w₀ w w' u v : World C) (m₀ m m' l n : Meaning) (ks ks' : List (Call C)) (rs rs' : List (Answer C)) (a b : Answer C) →
    Start w₀ m₀ → Run w₀ m₀ ks rs w m →
    Step w m Open a w' m' → accepted a ≡ true →
    (ρ : Run w' m' ks' rs' u l) → Unclosed ks' rs' →
    Step u l Settle b v n → accepted b ≡ true →
    (c : ℕ) → c < length w.cards →
    obeyed c ρ ≡ (4 * w.rounds + 1) ∷ (4 * w.rounds + 2) ∷ (4 * w.rounds + 3) ∷ (4 * w.rounds + 4) ∷ []

-- ---- marks at rest

-- every record is marked, none waits, and the waiting list is empty
pub record AllMarked {C : Type 0} (w : World C) : Type 0 where
  pub marked : (x : ℕ) → used w x ≡ true → mark w x ≡ true
  pub waits : (x : ℕ) → wait w x ≡ false
  pub waiting : w.waiting ≡ []

-- so it is wherever a run from a start comes to rest
abbrev pub AtRestAllMarked : Type 0 → Type 0
AtRestAllMarked C =
    (w₀ w : World C) (m₀ m : Meaning) (ks : List (Call C)) (rs : List (Answer C)) →
    Start w₀ m₀ → Run w₀ m₀ ks rs w m → w.phase ≡ ph.Rest → AllMarked w

-- ---- names of free cells

-- where links and logs may still name a free cell: in Sweep alone, in a record that the sweep has yet to free and no links lead to
pub record SoonFreed {C : Type 0} (w : World C) (y : ℕ) : Type 0 where
  pub phase : w.phase ≡ ph.Sweep
  pub ahead : w.sweep ≤ y
  pub unmarked : mark w y ≡ false
  pub unled : Led w y → ⊥

-- what may name a free cell
pub record NoFreeNames {C : Type 0} (w : World C) : Type 0 where
  -- a place never does
  pub places : (c q x : ℕ) → place w c q ≡ Some x → used w x ≡ true
  -- nor does an update in hand, with the cell that it changes or with its target
  pub updates : (c : ℕ) (u : Update) → (card w c).update ≡ Some u → used w u.cell ≡ true
  pub targets : (c : ℕ) (u : Update) (x : ℕ) → (card w c).update ≡ Some u → u.target ≡ Some x → used w x ≡ true
  -- nor does its draft
  pub drafts : (c : ℕ) (u : Update) (d : List Name) (i x : ℕ) → (card w c).update ≡ Some u → u.stage ≡ Looked (Some d) → slice_index_or d i None ≡ Some x → used w x ≡ true
  -- and a link does only in a record that is soon freed
  pub links : (y i x : ℕ) → link w y i ≡ Some x → used w x ≡ false → SoonFreed w y
  -- and so with its log
  pub logs : (y : ℕ) (l : List Name) (i x : ℕ) → log_at w y ≡ Some l → slice_index_or l i None ≡ Some x → used w x ≡ false → SoonFreed w y

-- so it is wherever a run from a start comes
abbrev pub NamesOfFreeCells : Type 0 → Type 0
NamesOfFreeCells C =
    (w₀ w : World C) (m₀ m : Meaning) (ks : List (Call C)) (rs : List (Answer C)) →
    Start w₀ m₀ → Run w₀ m₀ ks rs w m → NoFreeNames w

-- ---- contents

-- contents stay as they are where a store is made and where a cell is freed
pub record ContentsStay (C : Type 0) : Type 0 where
  -- making a store writes the contents of cell 0 alone
  pub made : (n : ℕ) (cs : List C) (k first rounds : ℕ) (x : C) (j : ℕ) → (j ≢ 0) → slice_get (fresh n cs k first rounds x).contents j ≡ slice_get cs j
  -- a sweep writes none: the contents of a freed cell stay until the cell is taken again
  pub swept : (w : World C) → (sweep_call w).1.contents ≡ w.contents
