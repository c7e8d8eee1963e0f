-- The invariant of a run, in groups. Given all of them before a change, each holds after it: one file for each group proves that.
use Rattle.std.proofs.Common.{◌≡◌, ℕ, ◌+◌, ◌-◌, ◌*◌, ◌<◌, ◌≤◌, Bool, true, false, ◌||◌, eqb, leb, ◌⊎◌, List, length, get_or, Some, None}
use Rattle.machine.specs.declared.types.Phase.{Phase}
use Rattle.machine.specs.declared.types.Phase.TheVariants.{Rest, Alert, Log, Gather, Trace, Ease, Sweep, Settle}
use Rattle.machine.specs.declared.types.Stage.TheVariants.{Looked, Noted}
use Rattle.machine.specs.declared.types.Update.{Update}
use Rattle.machine.specs.World.{World, Name, used, serial_at, links_at, link, view, log_at, logged, mark, wait, snooped, card, place, same_colour}
use Rattle.machine.specs.Waiting.{heap}
use Rattle.machine.specs.Rounds.{ordering}
use Rattle.line.specs.Lines.{Meaning, Among}
use Rattle.laws.specs.Steps.{Distinct}
use Rattle.laws.proofs.Cases.{Wired}
use Rattle.laws.proofs.Pushes.{Queue}

-- ---- words

abbrev pub offset : Phase → ℕ
offset Rest = 0
offset Alert = 1
offset Log = 2
offset Gather = 3
offset Trace = 3
offset Ease = 4
offset Sweep = 4
offset Settle = 4

abbrev pub is_rest : Phase → Bool
is_rest Rest = true
is_rest Alert = false
is_rest Log = false
is_rest Gather = false
is_rest Trace = false
is_rest Ease = false
is_rest Sweep = false
is_rest Settle = false

-- Alert, Log, Gather: where records may be snooped
abbrev pub early : Phase → Bool
early Rest = false
early Alert = true
early Log = true
early Gather = true
early Trace = false
early Ease = false
early Sweep = false
early Settle = false

-- Gather, Trace: where records may wait
abbrev pub marking : Phase → Bool
marking Rest = false
marking Alert = false
marking Log = false
marking Gather = true
marking Trace = true
marking Ease = false
marking Sweep = false
marking Settle = false

-- Log to Ease: where no log or draft names a free cell
abbrev pub logging : Phase → Bool
logging Rest = false
logging Alert = false
logging Log = true
logging Gather = true
logging Trace = true
logging Ease = true
logging Sweep = false
logging Settle = false

-- Gather and later
abbrev pub late : Phase → Bool
late Rest = false
late Alert = false
late Log = false
late Gather = true
late Trace = true
late Ease = true
late Sweep = true
late Settle = true

-- how far card c is in its round, 0 to 4
abbrev pub turn : {C : Type 0} → World C → ℕ → ℕ
turn w c = (card w c).last - 4 * w.rounds

-- its births are marked
abbrev pub gathered : {C : Type 0} → World C → ℕ → Bool
gathered w c = leb 3 (turn w c) || is_rest w.phase

-- a path of views over unmarked records leads to x from one that waits or is snooped
pub data Grey {C : Type 0} (w : World C) : ℕ → Type 0 where
  grey_wait : (x : ℕ) → wait w x ≡ true → mark w x ≡ false → Grey w x
  grey_snoop : (x : ℕ) → snooped w x ≡ true → mark w x ≡ false → Grey w x
  grey_next : (y i x : ℕ) → Grey w y → view w y i ≡ Some x → used w x ≡ true → mark w x ≡ false → Grey w x

abbrev pub Covered : {C : Type 0} → World C → ℕ → Type 0
Covered w x = (mark w x ≡ true) ⊎ Grey w x

-- marked or logged
abbrev pub Safe : {C : Type 0} → World C → ℕ → Type 0
Safe w x = (mark w x ≡ true) ⊎ (logged w x ≡ true)

-- ---- the groups

pub record Handshake {C : Type 0} (w : World C) (m : Meaning) : Type 0 where
  pub order : w.order ≡ 4 * w.rounds + offset w.phase
  pub lasts : (c : ℕ) → c < length w.cards → ((card w c).last ≡ w.order) ⊎ ((ordering w.phase ≡ true) × ((card w c).last + 1 ≡ w.order))
  pub heard : (c : ℕ) → c < length w.cards → ordering w.phase ≡ true → get_or w.answered c false ≡ true → (card w c).last ≡ w.order
  pub answers : length w.answered ≡ length w.cards
  pub wired : Wired w m

pub record Switches {C : Type 0} (w : World C) : Type 0 where
  pub snoop : (c : ℕ) → c < length w.cards → (card w c).snoop ≡ (eqb (turn w c) 1 || eqb (turn w c) 2)
  pub logging : (c : ℕ) → c < length w.cards → (card w c).logging ≡ (eqb (turn w c) 2 || eqb (turn w c) 3)
  pub birth : (c : ℕ) → c < length w.cards → same_colour (card w c).birth w.marked ≡ gathered w c

pub record Lists {C : Type 0} (w : World C) : Type 0 where
  pub queue : Queue w.marked (heap w)
  pub free_is : (x : ℕ) → Among x w.free → (x < length w.cells) × (used w x ≡ false)
  pub free_has : (x : ℕ) → x < length w.cells → used w x ≡ false → Among x w.free
  pub free_once : Distinct w.free
  pub apart : (x y : ℕ) → used w x ≡ true → used w y ≡ true → serial_at w x ≡ serial_at w y → x ≡ y
  pub above : (x : ℕ) → used w x ≡ true → 1 ≤ serial_at w x
  pub below : (x : ℕ) → used w x ≡ true → serial_at w x < w.next
  pub next : 2 ≤ w.next
  pub some : 1 ≤ length w.cells
  pub tables : length w.contents ≡ length w.cells
  pub eight : (c : ℕ) → c < length w.cards → length (card w c).places ≡ 8
  pub four : (x : ℕ) → used w x ≡ true → length (links_at w x) ≡ 4

pub record Names {C : Type 0} (w : World C) : Type 0 where
  pub places : (c q x : ℕ) → place w c q ≡ Some x → used w x ≡ true
  pub update : (c : ℕ) (u : Update) → (card w c).update ≡ Some u → (q : ℕ) × (place w c q ≡ Some u.cell)
  pub target : (c : ℕ) (u : Update) (x : ℕ) → (card w c).update ≡ Some u → u.target ≡ Some x → (q : ℕ) × (place w c q ≡ Some x)
  pub bound : (c : ℕ) (u : Update) → (card w c).update ≡ Some u → u.link ≤ 3
  pub links : (w.phase ≡ Sweep → ⊥) → (y i x : ℕ) → link w y i ≡ Some x → used w x ≡ true
  pub views : logging w.phase ≡ true → (y i x : ℕ) → view w y i ≡ Some x → used w x ≡ true
  pub drafts : logging w.phase ≡ true → (c : ℕ) (u : Update) (d : List Name) (i x : ℕ) → (card w c).update ≡ Some u → u.stage ≡ Looked (Some d) → get_or d i None ≡ Some x → used w x ≡ true

pub record Phases {C : Type 0} (w : World C) : Type 0 where
  pub rest : w.phase ≡ Rest → (x : ℕ) → used w x ≡ true → mark w x ≡ true
  pub alert : w.phase ≡ Alert → (x : ℕ) → mark w x ≡ false
  pub log : w.phase ≡ Log → (x : ℕ) → mark w x ≡ false
  pub swept : w.phase ≡ Sweep → (x : ℕ) → x < w.sweep → used w x ≡ true → mark w x ≡ true
  pub inside : w.phase ≡ Sweep → w.sweep < length w.cells
  pub settle : w.phase ≡ Settle → (x : ℕ) → used w x ≡ true → mark w x ≡ true
  pub snoops : early w.phase ≡ false → (x : ℕ) → snooped w x ≡ false
  pub waits : marking w.phase ≡ false → (x : ℕ) → wait w x ≡ false
  pub logs : (w.phase ≡ Rest) ⊎ (w.phase ≡ Alert) → (x : ℕ) → log_at w x ≡ None

pub record Updates {C : Type 0} (w : World C) : Type 0 where
  pub draft : (c : ℕ) (u : Update) (d : List Name) → (card w c).update ≡ Some u → u.stage ≡ Looked (Some d) → (card w c).logging ≡ true
  pub looked : (c : ℕ) (u : Update) → (card w c).update ≡ Some u → (card w c).logging ≡ true → u.stage ≡ Looked None → Safe w u.cell
  pub noted : (c : ℕ) (u : Update) → (card w c).update ≡ Some u → (card w c).logging ≡ true → u.stage ≡ Noted → Safe w u.cell
  pub current : (c : ℕ) (u : Update) (d : List Name) (i x : ℕ) → (card w c).update ≡ Some u → u.stage ≡ Looked (Some d) → mark w u.cell ≡ false → logged w u.cell ≡ false → link w u.cell i ≡ Some x → (get_or d i None ≡ Some x) ⊎ ((gathered w c ≡ false) × (snooped w x ≡ true))

pub record Coverage {C : Type 0} (w : World C) : Type 0 where
  pub logged : w.phase ≡ Log → (y i x : ℕ) → link w y i ≡ Some x → (view w y i ≡ Some x) ⊎ (snooped w x ≡ true)
  pub places : late w.phase ≡ true → (c q x : ℕ) → gathered w c ≡ true → place w c q ≡ Some x → Covered w x
  pub marked : late w.phase ≡ true → (y i x : ℕ) → mark w y ≡ true → link w y i ≡ Some x → Covered w x
  pub unmarked : marking w.phase ≡ true → (y i x : ℕ) → mark w y ≡ false → link w y i ≡ Some x → (view w y i ≡ Some x) ⊎ Covered w x

pub record Inv {C : Type 0} (w : World C) (m : Meaning) : Type 0 where
  pub handshake : Handshake w m
  pub switches : Switches w
  pub lists : Lists w
  pub names : Names w
  pub phases : Phases w
  pub updates : Updates w
  pub coverage : Coverage w

-- ---- beside them: what logs name. It is kept wherever the groups hold, and none of them needs it

-- from Gather on the log of a marked record names covered ones, and so does a draft that may still become its log
pub record Logs {C : Type 0} (w : World C) : Type 0 where
  pub marked : late w.phase ≡ true → (y : ℕ) (l : List Name) (i x : ℕ) → mark w y ≡ true → log_at w y ≡ Some l → get_or l i None ≡ Some x → Covered w x
  pub drafts : late w.phase ≡ true → (c : ℕ) (u : Update) (d : List Name) (i x : ℕ) → (card w c).update ≡ Some u → u.stage ≡ Looked (Some d) → mark w u.cell ≡ true → logged w u.cell ≡ false → get_or d i None ≡ Some x → Covered w x
  -- until the record is marked or logged, a gathered card's draft names what its links name
  pub fresh : marking w.phase ≡ true → (c : ℕ) (u : Update) (d : List Name) (i x : ℕ) → gathered w c ≡ true → (card w c).update ≡ Some u → u.stage ≡ Looked (Some d) → mark w u.cell ≡ false → logged w u.cell ≡ false → get_or d i None ≡ Some x → link w u.cell i ≡ Some x
