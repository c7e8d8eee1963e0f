-- The endless store: links and places hold serials, nothing is ever freed, and there are no colours, marks, switches or drafts.
use Rattle.std.specs.Prelude.{ℕ, suc, ◌+◌, Bool, true, false, cond, List, [], ◌∷◌, length, is_some, Some, None, Option, ◌==◌, nat_le, nat_lt}
use Rattle.std.specs.List.{slice_get}
use Rattle.machine.specs.World.{Cell}
use Rattle.machine.specs.declared.types.Stage.{Stage}
use Rattle.machine.specs.declared.types.Stage.TheVariants.{Looked, Noted}
use Rattle.machine.specs.declared.types.Update.{Update}
use Rattle.machine.specs.declared.types.Call.{Call}
use Rattle.machine.specs.declared.types.Call.TheVariants.{New, Load, Copy, Drop, Read, Look, Note, Store, Open, Knock, Attend, Hear, Trace, Sweep, Settle}
use Rattle.machine.specs.World.{World, see, at, serial_at, link, card, place}

-- an update in hand: link `link` of the record `who` is to become `target`
pub record Intent : Type 0 where
  pub who : ℕ
  pub link : ℕ
  pub target : Option ℕ
  pub noted : Bool

-- the endless store: what each serial's record holds and links to, what each card's places hold, and the next serial
pub record Endless (C : Type 0) : Type 0 where
  pub cards : ℕ
  pub contents : ℕ → Option C
  pub links : ℕ → ℕ → Option ℕ
  pub places : ℕ → ℕ → Option ℕ
  pub updates : ℕ → Option Intent
  pub next : ℕ

-- an answer, with refusals by their number
pub data Said (C : Type 0) : Type 0 where
  refuses : ℕ → Said C
  answers : ℕ → Said C
  gives : ℕ → C → Said C

-- ---- the endless store that a store starts

-- the serial of the record that a name names
abbrev pub serial_name : {C : Type 0} → World C → Option ℕ → Option ℕ
serial_name w None = None
serial_name w (Some x) = see (λ r. Some r.serial) None (at w x)

-- the first cell that holds serial s, or past the table
unfoldable pub cell_of : List Cell → ℕ → ℕ
cell_of [] s = 0
cell_of (c ∷ h) s = cond (see (λ r. r.serial == s) false c) 0 (suc (cell_of h s))

-- whether an update in hand was noted
abbrev pub is_noted : Stage → Bool
is_noted (Looked d) = false
is_noted Noted = true

-- an update in hand, by serials
abbrev pub intent : {C : Type 0} → World C → Option Update → Option Intent
intent w None = None
intent w (Some u) = Some (record { who = serial_at w u.cell; link = u.link; target = serial_name w u.target; noted = is_noted u.stage })

-- what a store holds, by serials
abbrev pub image : {C : Type 0} → World C → Endless C
image w = record {
  cards = length w.cards;
  contents = λ s. slice_get w.contents (cell_of w.cells s);
  links = λ s i. serial_name w (link w (cell_of w.cells s) i);
  places = λ c p. serial_name w (place w c p);
  updates = λ c. intent w (card w c).update;
  next = w.next;
}

-- ---- its calls

-- f, but v at x
abbrev pub but : {A : Type 0} → (ℕ → A) → ℕ → A → ℕ → A
but f x v y = cond (y == x) v (f y)

-- f, but v at x and i
abbrev pub but2 : {A : Type 0} → (ℕ → ℕ → A) → ℕ → ℕ → A → ℕ → ℕ → A
but2 f x i v y j = cond (y == x) (cond (j == i) v (f y j)) (f y j)

-- the serial, or 0 for none
abbrev pub serial_or_0 : Option ℕ → ℕ
serial_or_0 None = 0
serial_or_0 (Some s) = s

-- what a call answers, and the endless store after it
abbrev pub Reply : Type 0 → Type 0
Reply C = (Said C) × (Endless C)

-- place p of card c holds v from now on
abbrev pub e_place : {C : Type 0} → Endless C → ℕ → ℕ → Option ℕ → Endless C
e_place e c p v = record { cards = e.cards; contents = e.contents; links = e.links; places = but2 e.places c p v; updates = e.updates; next = e.next }

-- card c has the update u in hand from now on, or none
abbrev pub e_update : {C : Type 0} → Endless C → ℕ → Option Intent → Endless C
e_update e c u = record { cards = e.cards; contents = e.contents; links = e.links; places = e.places; updates = but e.updates c u; next = e.next }

-- link i of the record s is v from now on
abbrev pub e_link : {C : Type 0} → Endless C → ℕ → ℕ → Option ℕ → Endless C
e_link e s i v = record { cards = e.cards; contents = e.contents; links = but2 e.links s i v; places = e.places; updates = e.updates; next = e.next }

-- a record with the contents x and no links takes the next serial
abbrev pub e_born : {C : Type 0} → Endless C → C → Endless C
e_born e x = record { cards = e.cards; contents = but e.contents e.next (Some x); links = but e.links e.next (λ i. None); places = e.places; updates = e.updates; next = e.next + 1 }

-- new: it never wants for a cell
abbrev pub e_new : {C : Type 0} → Endless C → ℕ → ℕ → C → Reply C
e_new e c p x =
    cond (nat_le e.cards c) (refuses 1, e)
    (cond (nat_lt 7 p) (refuses 2, e)
    (cond (is_some (e.updates c)) (refuses 4, e)
    (cond (e.next == 4294967295) (refuses 8, e)
    (answers e.next, e_place (e_born e x) c p (Some e.next)))))

-- load: from the record that the place holds, if it holds one
abbrev pub e_load_from : {C : Type 0} → Endless C → ℕ → Option ℕ → ℕ → ℕ → Reply C
e_load_from e c None i q = (refuses 6, e)
e_load_from e c (Some s) i q = (answers (serial_or_0 (e.links s i)), e_place e c q (e.links s i))

-- load: link i of what p holds goes into q
abbrev pub e_load : {C : Type 0} → Endless C → ℕ → ℕ → ℕ → ℕ → Reply C
e_load e c p i q =
    cond (nat_le e.cards c) (refuses 1, e)
    (cond (nat_lt 7 p) (refuses 2, e)
    (cond (nat_lt 7 q) (refuses 2, e)
    (cond (nat_lt 3 i) (refuses 3, e)
    (cond (is_some (e.updates c)) (refuses 4, e)
    (e_load_from e c (e.places c p) i q)))))

-- copy: what p holds goes into q
abbrev pub e_copy : {C : Type 0} → Endless C → ℕ → ℕ → ℕ → Reply C
e_copy e c p q =
    cond (nat_le e.cards c) (refuses 1, e)
    (cond (nat_lt 7 p) (refuses 2, e)
    (cond (nat_lt 7 q) (refuses 2, e)
    (cond (is_some (e.updates c)) (refuses 4, e)
    (answers (serial_or_0 (e.places c p)), e_place e c q (e.places c p)))))

-- drop: p is empty from now on
abbrev pub e_drop : {C : Type 0} → Endless C → ℕ → ℕ → Reply C
e_drop e c p =
    cond (nat_le e.cards c) (refuses 1, e)
    (cond (nat_lt 7 p) (refuses 2, e)
    (cond (is_some (e.updates c)) (refuses 4, e)
    (answers 0, e_place e c p None)))

-- read: the contents of the record s, if it has any
abbrev pub e_gives : {C : Type 0} → ℕ → Option C → Said C
e_gives s None = refuses 6
e_gives s (Some x) = gives s x

-- read: of the record that the place holds, if it holds one
abbrev pub e_read_from : {C : Type 0} → Endless C → Option ℕ → Said C
e_read_from e None = refuses 6
e_read_from e (Some s) = e_gives s (e.contents s)

-- read: serial and contents of what p holds
abbrev pub e_read : {C : Type 0} → Endless C → ℕ → ℕ → Reply C
e_read e c p =
    cond (nat_le e.cards c) (refuses 1, e)
    (cond (nat_lt 7 p) (refuses 2, e)
    (e_read_from e (e.places c p), e))

-- look: at the record that the place holds, if it holds one
abbrev pub e_look_from : {C : Type 0} → Endless C → ℕ → Option ℕ → ℕ → ℕ → Reply C
e_look_from e c None i q = (refuses 6, e)
e_look_from e c (Some s) i q = (answers 0, e_update e c (Some (record { who = s; link = i; target = e.places c q; noted = false })))

-- look: an update is in hand by which link i of what p holds is to become what q holds
abbrev pub e_look : {C : Type 0} → Endless C → ℕ → ℕ → ℕ → ℕ → Reply C
e_look e c p i q =
    cond (nat_le e.cards c) (refuses 1, e)
    (cond (nat_lt 7 p) (refuses 2, e)
    (cond (nat_lt 7 q) (refuses 2, e)
    (cond (nat_lt 3 i) (refuses 3, e)
    (cond (is_some (e.updates c)) (refuses 4, e)
    (e_look_from e c (e.places c p) i q)))))

-- note: the update in hand, if there is one that was not noted
abbrev pub e_note_from : {C : Type 0} → Endless C → ℕ → Option Intent → Reply C
e_note_from e c None = (refuses 5, e)
e_note_from e c (Some u) = cond u.noted (refuses 5, e) (answers 0, e_update e c (Some (record { who = u.who; link = u.link; target = u.target; noted = true })))

-- note: the update in hand is noted
abbrev pub e_note : {C : Type 0} → Endless C → ℕ → Reply C
e_note e c = cond (nat_le e.cards c) (refuses 1, e) (e_note_from e c (e.updates c))

-- store: the update in hand, if there is one that was noted
abbrev pub e_store_from : {C : Type 0} → Endless C → ℕ → Option Intent → Reply C
e_store_from e c None = (refuses 5, e)
e_store_from e c (Some u) = cond u.noted (answers (serial_or_0 u.target), e_update (e_link e u.who u.link u.target) c None) (refuses 5, e)

-- store: the update in hand is carried out
abbrev pub e_store : {C : Type 0} → Endless C → ℕ → Reply C
e_store e c = cond (nat_le e.cards c) (refuses 1, e) (e_store_from e c (e.updates c))

-- any card call; it is given no round calls
abbrev pub e_act : {C : Type 0} → Endless C → Call C → Reply C
e_act e (New c p x) = e_new e c p x
e_act e (Load c p i q) = e_load e c p i q
e_act e (Copy c p q) = e_copy e c p q
e_act e (Drop c p) = e_drop e c p
e_act e (Read c p) = e_read e c p
e_act e (Look c p i q) = e_look e c p i q
e_act e (Note c) = e_note e c
e_act e (Store c) = e_store e c
e_act e Open = (answers 0, e)
e_act e (Knock c) = (answers 0, e)
e_act e (Attend c) = (answers 0, e)
e_act e (Hear c) = (answers 0, e)
e_act e Trace = (answers 0, e)
e_act e Sweep = (answers 0, e)
e_act e Settle = (answers 0, e)

-- its answers to a list of calls
abbrev pub e_play : {C : Type 0} → Endless C → List (Call C) → List (Said C)
e_play e [] = []
e_play e (k ∷ ks) = (e_act e k).0 ∷ e_play (e_act e k).1 ks

-- and where they bring it
abbrev pub e_after : {C : Type 0} → Endless C → List (Call C) → Endless C
e_after e [] = e
e_after e (k ∷ ks) = e_after (e_act e k).1 ks
