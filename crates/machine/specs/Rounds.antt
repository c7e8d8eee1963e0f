-- The seven round calls. What a line delivers is an argument; what goes onto a line is a result.
use Rattle.std.specs.Prelude.{ℕ, zero, suc, ◌+◌, ◌%◌, Bool, true, false, cond, ◌||◌, List, [], ◌∷◌, length, Some, None, Ok, Err, Option, Result, ◌==◌, nat_le, slice_index_or, slice_set}
use Rattle.machine.specs.declared.types.Colour.{Colour}
use Rattle.machine.specs.declared.types.Phase.{Phase}
use Rattle.machine.specs.declared.types.Phase.TheVariants.{Rest, Alert, Log, Gather, Trace, Ease, Sweep, Settle}
use Rattle.refusal.specs.declared.kinds.Refusal.{Refusal}
use Rattle.refusal.specs.declared.kinds.Refusal.TheVariants.{NoCard, UpdateInHand, WrongPhase, Exhausted}
use Rattle.machine.specs.declared.types.Card.{Card}
use Rattle.machine.specs.World.{Cell}
use Rattle.machine.specs.World.{World, Name, at, mark, wait, serial_at, view_at, card, other, free_at, alter_all, blacken, unsnoop, unlog, with_cells, with_heap, with_phase, with_answered, change_card, alter_at}
use Rattle.machine.specs.Waiting.{heap, push_all, with_marks, put_all, snooped_names}
use Rattle.machine.specs.Cards.{Outcome, refuse, busy}

-- the number of each phase
abbrev pub phase_number : Phase → ℕ
phase_number Rest = 0
phase_number Alert = 1
phase_number Log = 2
phase_number Gather = 3
phase_number Trace = 4
phase_number Ease = 5
phase_number Sweep = 6
phase_number Settle = 7

-- the phases of knock and hear
abbrev pub ordering : Phase → Bool
ordering Rest = false
ordering Alert = true
ordering Log = true
ordering Gather = true
ordering Trace = false
ordering Ease = true
ordering Sweep = false
ordering Settle = false

-- a set of answers with nobody in it, as long as l
unfoldable pub nobody : List Bool → List Bool
nobody [] = []
nobody (b ∷ l) = false ∷ nobody l

-- whether each of cards 0 to n - 1 has answered
unfoldable pub all_of : ℕ → List Bool → Bool
all_of zero l = true
all_of (suc n) l = cond (slice_index_or l n false) (all_of n l) false

-- entering one of the phases with orders
abbrev pub enter : {C : Type 0} → World C → Phase → World C
enter w p = record {
  cells = w.cells;
  contents = w.contents;
  cards = w.cards;
  marked = w.marked;
  free = w.free;
  waiting = w.waiting;
  next = w.next;
  rounds = w.rounds;
  phase = p;
  order = w.order + 1;
  answered = nobody w.answered;
  sweep = w.sweep;
}

-- open: the marked colour changes, so that no record is marked any more
abbrev pub open_done : {C : Type 0} → World C → World C
open_done w = record {
  cells = w.cells;
  contents = w.contents;
  cards = w.cards;
  marked = other w.marked;
  free = w.free;
  waiting = w.waiting;
  next = w.next;
  rounds = w.rounds;
  phase = Alert;
  order = w.order + 1;
  answered = nobody w.answered;
  sweep = w.sweep;
}

abbrev pub open_call : {C : Type 0} → World C → Outcome C
open_call w =
    cond (phase_number w.phase == 0)
    (cond (w.rounds == 1073741823) (refuse Exhausted w) (Ok (w.order + 1), open_done w))
    (refuse WrongPhase w)

-- knock: the number answered is the number sent, and the store stays
abbrev pub knock_call : {C : Type 0} → World C → ℕ → Result ℕ Refusal
knock_call w c =
    cond (nat_le (length w.cards) c) (Err NoCard)
    (cond (ordering w.phase) (Ok w.order) (Err WrongPhase))

-- attend. What an order does is told by its remainder by four: 1 snoop on, 2 logging on, 3 gather (snoop off), 0 logging off
abbrev pub snoop_by : ℕ → Bool → Bool
snoop_by r b = cond (r == 1) true (cond (r == 3) false b)

abbrev pub logging_by : ℕ → Bool → Bool
logging_by r b = cond (r == 2) true (cond (r == 0) false b)

-- from gather on the card's records are born marked
abbrev pub birth_by : ℕ → Colour → Colour → Colour
birth_by r m b = cond (r == 3) m b

-- the card's own part of obeying n; m is the marked colour
abbrev pub heed : Colour → ℕ → Card → Card
heed m n k = record { places = k.places; snoop = snoop_by (n % 4) k.snoop; logging = logging_by (n % 4) k.logging; birth = birth_by (n % 4) m k.birth; last = n; update = k.update }

-- the store's part: at gather the places go onto the waiting list
abbrev pub gather_by : {C : Type 0} → ℕ → World C → List Name → World C
gather_by r w vs = with_marks w (cond (r == 3) (push_all w.marked (heap w) vs) (heap w))

-- card c obeys the order n
abbrev pub obey : {C : Type 0} → World C → ℕ → ℕ → World C
obey w c n = change_card (gather_by (n % 4) w (card w c).places) c (heed w.marked n)

-- only the order after the last one is obeyed
abbrev pub attend_done : {C : Type 0} → World C → ℕ → Option ℕ → World C
attend_done w c None = w
attend_done w c (Some n) = cond (n == (card w c).last + 1) (obey w c n) w

-- what c replies to the number that it was given
abbrev pub reply_to : {C : Type 0} → World C → ℕ → Option ℕ → Option ℕ
reply_to w c None = None
reply_to w c (Some n) = cond (nat_le n ((card w c).last + 1)) (Some n) None

abbrev pub number_or_0 : Option ℕ → ℕ
number_or_0 None = 0
number_or_0 (Some n) = n

-- the answer, the reply and the store
abbrev pub attend_call : {C : Type 0} → World C → ℕ → Option ℕ → (Result ℕ Refusal) × (Option ℕ) × (World C)
attend_call w c got =
    cond (nat_le (length w.cards) c) (Err NoCard, None, w)
    (cond (busy w c) (Err UpdateInHand, None, w)
    (Ok (number_or_0 (reply_to w c got)), reply_to w c got, attend_done w c got))

-- hear. On leaving Gather the snooped records are put on the waiting list, and those marks vanish
abbrev pub leave_gather : {C : Type 0} → World C → World C
leave_gather w =
    let v : World _ = put_all w (snooped_names 0 w.cells) in
    with_phase (with_cells v (alter_all v.cells unsnoop)) Trace

-- the sweep starts at cell 0
abbrev pub start_sweep : {C : Type 0} → World C → World C
start_sweep w = record {
  cells = w.cells;
  contents = w.contents;
  cards = w.cards;
  marked = w.marked;
  free = w.free;
  waiting = w.waiting;
  next = w.next;
  rounds = w.rounds;
  phase = Sweep;
  order = w.order;
  answered = w.answered;
  sweep = 0;
}

-- what comes after a phase whose orders all cards have answered
abbrev pub move_from : {C : Type 0} → Phase → World C → World C
move_from Rest w = w
move_from Alert w = enter w Log
move_from Log w = enter w Gather
move_from Gather w = leave_gather w
move_from Trace w = w
move_from Ease w = start_sweep w
move_from Sweep w = w
move_from Settle w = w

-- card c has answered
abbrev pub answered_by : {C : Type 0} → World C → ℕ → World C
answered_by w c = with_answered w (slice_set w.answered c true)

-- every card has
abbrev pub everyone : {C : Type 0} → World C → Bool
everyone w = all_of (length w.cards) w.answered

-- w, in which an answer has just been noted down: when it was the last, the phase moves on
abbrev pub move_on : {C : Type 0} → World C → World C
move_on w = cond (everyone w) (move_from w.phase w) w

-- only a reply to the order of now counts
abbrev pub hear_done : {C : Type 0} → World C → ℕ → Option ℕ → World C
hear_done w c None = w
hear_done w c (Some n) = cond (n == w.order) (move_on (answered_by w c)) w

abbrev pub hear_call : {C : Type 0} → World C → ℕ → Option ℕ → Outcome C
hear_call w c got =
    cond (nat_le (length w.cards) c) (refuse NoCard w)
    (cond (ordering w.phase) (Ok (number_or_0 got), hear_done w c got) (refuse WrongPhase w))

-- trace: cell k is taken off the list, of which ks is left; it is marked, and what its view names is put on the list
abbrev pub trace_mark : {C : Type 0} → World C → ℕ → List ℕ → World C
trace_mark w k ks = with_heap w (alter_at w.cells k (blacken w.marked)) ks

abbrev pub trace_done : {C : Type 0} → World C → ℕ → List ℕ → World C
trace_done w k ks = put_all (trace_mark w k ks) (view_at w k)

abbrev pub trace_from : {C : Type 0} → World C → List ℕ → Outcome C
trace_from w [] = (Ok 0, enter w Ease)
trace_from w (k ∷ ks) = (Ok (serial_at w k), trace_done w k ks)

abbrev pub trace_call : {C : Type 0} → World C → Outcome C
trace_call w = cond (phase_number w.phase == 4) (trace_from w w.waiting) (refuse WrongPhase w)

-- sweep: cells and free list as given, and on to the next cell
abbrev pub sweep_to : {C : Type 0} → World C → List Cell → List ℕ → World C
sweep_to w h fs = record {
  cells = h;
  contents = w.contents;
  cards = w.cards;
  marked = w.marked;
  free = fs;
  waiting = w.waiting;
  next = w.next;
  rounds = w.rounds;
  phase = cond (nat_le (length w.cells) (w.sweep + 1)) Settle Sweep;
  order = w.order;
  answered = w.answered;
  sweep = w.sweep + 1;
}

abbrev pub sweep_keep : {C : Type 0} → World C → World C
sweep_keep w = sweep_to w w.cells w.free

abbrev pub sweep_free : {C : Type 0} → World C → World C
sweep_free w = sweep_to w (free_at w.cells w.sweep) (w.sweep ∷ w.free)

abbrev pub sweep_cell : {C : Type 0} → World C → Cell → Outcome C
sweep_cell w None = (Ok 0, sweep_keep w)
sweep_cell w (Some r) = cond (mark w w.sweep || wait w w.sweep) (Ok 0, sweep_keep w) (Ok r.serial, sweep_free w)

abbrev pub sweep_call : {C : Type 0} → World C → Outcome C
sweep_call w = cond (phase_number w.phase == 6) (sweep_cell w (at w w.sweep)) (refuse WrongPhase w)

-- settle: logs go, and the round is counted
abbrev pub settle_done : {C : Type 0} → World C → World C
settle_done w = record {
  cells = alter_all w.cells unlog;
  contents = w.contents;
  cards = w.cards;
  marked = w.marked;
  free = w.free;
  waiting = w.waiting;
  next = w.next;
  rounds = w.rounds + 1;
  phase = Rest;
  order = w.order;
  answered = w.answered;
  sweep = w.sweep;
}

abbrev pub settle_call : {C : Type 0} → World C → Outcome C
settle_call w = cond (phase_number w.phase == 7) (Ok 0, settle_done w) (refuse WrongPhase w)
