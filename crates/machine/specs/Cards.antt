-- The eight card calls: what each answers and what it makes of the store. Refusals are tested in the table's order;
-- what an accepted call does is a definition of its own, whose name ends in _done.
use Rattle.std.specs.Prelude.{ℕ, ◌+◌, Bool, true, false, cond, not, ◌&&◌, List, [], ◌∷◌, length, is_some, Some, None, Ok, Err, Option, Result, ◌==◌, nat_le, nat_lt, slice_set}
use Rattle.std.specs.List.{slice_get}
use Rattle.machine.specs.World.{Cell}
use Rattle.refusal.specs.declared.kinds.Refusal.{Refusal}
use Rattle.refusal.specs.declared.kinds.Refusal.TheVariants.{NoCard, NoPlace, NoLink, UpdateInHand, NoUpdate, Blank, Exhausted, NoCell}
use Rattle.machine.specs.declared.types.Stage.{Stage}
use Rattle.machine.specs.declared.types.Stage.TheVariants.{Looked, Noted}
use Rattle.machine.specs.declared.types.Update.{Update}
use Rattle.machine.specs.World.{World, Name, link, links_at, mark, logged, named, serial_of, serial_at, read_all, card, place, born_at, newborn, empty_links, set_link, log_by, snoopen, set_place, set_update, with_cells, change, change_card, alter_at, alter_card}

-- an answer, and the store after the call
abbrev pub Outcome : Type 0 → Type 0
Outcome C = (Result ℕ Refusal) × (World C)

-- a refusal changes nothing
abbrev pub refuse : {C : Type 0} → Refusal → World C → Outcome C
refuse r w = (Err r, w)

-- card c has an update in hand
abbrev pub busy : {C : Type 0} → World C → ℕ → Bool
busy w c = is_some (card w c).update

-- v into place p of card c
abbrev pub put_place : {C : Type 0} → World C → ℕ → ℕ → Name → World C
put_place w c p v = change_card w c (set_place p v)

-- new: into the free cell k, which leaves the rest ks free
abbrev pub new_done : {C : Type 0} → World C → ℕ → ℕ → C → ℕ → List ℕ → World C
new_done w c p x k ks = record {
  cells = born_at w.cells k (newborn w.next empty_links (card w c).birth);
  contents = slice_set w.contents k x;
  cards = alter_card w.cards c (set_place p (Some k));
  marked = w.marked;
  free = ks;
  waiting = w.waiting;
  next = w.next + 1;
  rounds = w.rounds;
  phase = w.phase;
  order = w.order;
  answered = w.answered;
  sweep = w.sweep;
}

abbrev pub new_from : {C : Type 0} → World C → ℕ → ℕ → C → List ℕ → Outcome C
new_from w c p x [] = refuse NoCell w
new_from w c p x (k ∷ ks) = (Ok w.next, new_done w c p x k ks)

abbrev pub new_call : {C : Type 0} → World C → ℕ → ℕ → C → Outcome C
new_call w c p x =
    cond (nat_le (length w.cards) c) (refuse NoCard w)
    (cond (nat_lt 7 p) (refuse NoPlace w)
    (cond (busy w c) (refuse UpdateInHand w)
    (cond (w.next == 4294967295) (refuse Exhausted w)
    (new_from w c p x w.free))))

-- load: link i of the record in cell y goes into q
abbrev pub load_done : {C : Type 0} → World C → ℕ → ℕ → ℕ → ℕ → World C
load_done w c y i q = put_place w c q (named w (link w y i))

abbrev pub load_from : {C : Type 0} → World C → ℕ → Name → ℕ → ℕ → Outcome C
load_from w c None i q = refuse Blank w
load_from w c (Some y) i q = (Ok (serial_of w (named w (link w y i))), load_done w c y i q)

abbrev pub load_call : {C : Type 0} → World C → ℕ → ℕ → ℕ → ℕ → Outcome C
load_call w c p i q =
    cond (nat_le (length w.cards) c) (refuse NoCard w)
    (cond (nat_lt 7 p) (refuse NoPlace w)
    (cond (nat_lt 7 q) (refuse NoPlace w)
    (cond (nat_lt 3 i) (refuse NoLink w)
    (cond (busy w c) (refuse UpdateInHand w)
    (load_from w c (named w (place w c p)) i q)))))

-- copy: place p goes into place q
abbrev pub copy_done : {C : Type 0} → World C → ℕ → ℕ → ℕ → World C
copy_done w c p q = put_place w c q (named w (place w c p))

abbrev pub copy_call : {C : Type 0} → World C → ℕ → ℕ → ℕ → Outcome C
copy_call w c p q =
    cond (nat_le (length w.cards) c) (refuse NoCard w)
    (cond (nat_lt 7 p) (refuse NoPlace w)
    (cond (nat_lt 7 q) (refuse NoPlace w)
    (cond (busy w c) (refuse UpdateInHand w)
    (Ok (serial_of w (named w (place w c p))), copy_done w c p q))))

-- drop: place p becomes blank
abbrev pub drop_done : {C : Type 0} → World C → ℕ → ℕ → World C
drop_done w c p = put_place w c p None

abbrev pub drop_call : {C : Type 0} → World C → ℕ → ℕ → Outcome C
drop_call w c p =
    cond (nat_le (length w.cards) c) (refuse NoCard w)
    (cond (nat_lt 7 p) (refuse NoPlace w)
    (cond (busy w c) (refuse UpdateInHand w)
    (Ok 0, drop_done w c p)))

-- read: changes nothing; a cell past the contents table has none to give
abbrev pub read_gives : {C : Type 0} → ℕ → Option C → Result (ℕ × C) Refusal
read_gives s None = Err Blank
read_gives s (Some x) = Ok (s, x)

abbrev pub read_from : {C : Type 0} → World C → Name → Result (ℕ × C) Refusal
read_from w None = Err Blank
read_from w (Some y) = read_gives (serial_at w y) (slice_get w.contents y)

abbrev pub read_call : {C : Type 0} → World C → ℕ → ℕ → Result (ℕ × C) Refusal
read_call w c p =
    cond (nat_le (length w.cards) c) (Err NoCard)
    (cond (nat_lt 7 p) (Err NoPlace)
    (read_from w (named w (place w c p))))

-- look: link i of the record in cell y is to become what q holds
-- the draft: the links as they are read, if logging is on and the record is neither marked nor logged
abbrev pub draft : {C : Type 0} → World C → ℕ → ℕ → Option (List Name)
draft w c y = cond ((card w c).logging && not (mark w y) && not (logged w y)) (Some (read_all w (links_at w y))) None

abbrev pub looked : {C : Type 0} → World C → ℕ → ℕ → ℕ → ℕ → Update
looked w c y i q = record { cell = y; link = i; target = named w (place w c q); stage = Looked (draft w c y) }

abbrev pub look_done : {C : Type 0} → World C → ℕ → ℕ → ℕ → ℕ → World C
look_done w c y i q = change_card w c (set_update (Some (looked w c y i q)))

abbrev pub look_from : {C : Type 0} → World C → ℕ → Name → ℕ → ℕ → Outcome C
look_from w c None i q = refuse Blank w
look_from w c (Some y) i q = (Ok 0, look_done w c y i q)

abbrev pub look_call : {C : Type 0} → World C → ℕ → ℕ → ℕ → ℕ → Outcome C
look_call w c p i q =
    cond (nat_le (length w.cards) c) (refuse NoCard w)
    (cond (nat_lt 7 p) (refuse NoPlace w)
    (cond (nat_lt 7 q) (refuse NoPlace w)
    (cond (nat_lt 3 i) (refuse NoLink w)
    (cond (busy w c) (refuse UpdateInHand w)
    (look_from w c (named w (place w c p)) i q)))))

-- note: the update u, looked at with the draft d, is noted, and its draft is gone
abbrev pub noted : Update → Update
noted u = record { cell = u.cell; link = u.link; target = u.target; stage = Noted }

abbrev pub note_done : {C : Type 0} → World C → ℕ → Update → Option (List Name) → World C
note_done w c u d = change_card (change w u.cell (log_by d)) c (set_update (Some (noted u)))

abbrev pub note_stage : {C : Type 0} → World C → ℕ → Update → Stage → Outcome C
note_stage w c u (Looked d) = (Ok 0, note_done w c u d)
note_stage w c u Noted = refuse NoUpdate w

abbrev pub note_from : {C : Type 0} → World C → ℕ → Option Update → Outcome C
note_from w c None = refuse NoUpdate w
note_from w c (Some u) = note_stage w c u u.stage

abbrev pub note_call : {C : Type 0} → World C → ℕ → Outcome C
note_call w c = cond (nat_le (length w.cards) c) (refuse NoCard w) (note_from w c (card w c).update)

-- store: the link becomes t, the target as it is read now, and with snoop on t gets the mark snooped
abbrev pub snoop_on : Bool → List Cell → Name → List Cell
snoop_on false h v = h
snoop_on true h None = h
snoop_on true h (Some x) = alter_at h x snoopen

abbrev pub store_done : {C : Type 0} → World C → ℕ → Update → Name → World C
store_done w c u t = change_card (with_cells w (snoop_on (card w c).snoop (alter_at w.cells u.cell (set_link u.link t)) t)) c (set_update None)

abbrev pub store_stage : {C : Type 0} → World C → ℕ → Update → Stage → Outcome C
store_stage w c u (Looked d) = refuse NoUpdate w
store_stage w c u Noted = (Ok (serial_of w (named w u.target)), store_done w c u (named w u.target))

abbrev pub store_from : {C : Type 0} → World C → ℕ → Option Update → Outcome C
store_from w c None = refuse NoUpdate w
store_from w c (Some u) = store_stage w c u u.stage

abbrev pub store_call : {C : Type 0} → World C → ℕ → Outcome C
store_call w c = cond (nat_le (length w.cards) c) (refuse NoCard w) (store_from w c (card w c).update)
