-- Words of the promises: which calls are card calls, which answers count, and what is compared.
use Rattle.std.specs.Prelude.{◌≡◌, Bool, true, false, cond, not, ◌&&◌, List, [], ◌∷◌, Ok, Err, ◌==◌}
use Rattle.machine.specs.declared.types.Call.{Call}
use Rattle.machine.specs.declared.types.Call.TheVariants.{New, Load, Copy, Drop, Read, Look, Note, Store, Open, Knock, Attend, Hear, Trace, Sweep, Settle}
use Rattle.machine.specs.declared.types.Given.TheVariants.{Number, Contents}
use Rattle.refusal.specs.Refusals.{number}
use Rattle.machine.specs.Acts.{Answer, accepted}
use Rattle.laws.specs.Endless.{Said, refuses, answers, gives}

-- an answer by its number and values
abbrev pub says : {C : Type 0} → Answer C → Said C
says (Ok (Number n)) = answers n
says (Ok (Contents n x)) = gives n x
says (Err r) = refuses (number r)

-- one of the eight card calls
abbrev pub is_card : {C : Type 0} → Call C → Bool
is_card (New c p x) = true
is_card (Load c p i q) = true
is_card (Copy c p q) = true
is_card (Drop c p) = true
is_card (Read c p) = true
is_card (Look c p i q) = true
is_card (Note c) = true
is_card (Store c) = true
is_card Open = false
is_card (Knock c) = false
is_card (Attend c) = false
is_card (Hear c) = false
is_card Trace = false
is_card Sweep = false
is_card Settle = false

-- the call that closes a round
abbrev pub is_settle : {C : Type 0} → Call C → Bool
is_settle (New c p x) = false
is_settle (Load c p i q) = false
is_settle (Copy c p q) = false
is_settle (Drop c p) = false
is_settle (Read c p) = false
is_settle (Look c p i q) = false
is_settle (Note c) = false
is_settle (Store c) = false
is_settle Open = false
is_settle (Knock c) = false
is_settle (Attend c) = false
is_settle (Hear c) = false
is_settle Trace = false
is_settle Sweep = false
is_settle Settle = true

-- the call that opens a round
abbrev pub is_open : {C : Type 0} → Call C → Bool
is_open (New c p x) = false
is_open (Load c p i q) = false
is_open (Copy c p q) = false
is_open (Drop c p) = false
is_open (Read c p) = false
is_open (Look c p i q) = false
is_open (Note c) = false
is_open (Store c) = false
is_open Open = true
is_open (Knock c) = false
is_open (Attend c) = false
is_open (Hear c) = false
is_open Trace = false
is_open Sweep = false
is_open Settle = false

-- none of the calls closes a round
abbrev pub Unclosed : {C : Type 0} → List (Call C) → List (Answer C) → Type 0
Unclosed [] rs = Unit {0}
Unclosed (k ∷ ks) [] = Unit {0}
Unclosed (k ∷ ks) (a ∷ rs) = ((is_settle k && accepted a) ≡ false) × Unclosed ks rs

-- refused for want of a cell, which only new is
abbrev pub is_nine : {C : Type 0} → Answer C → Bool
is_nine (Ok g) = false
is_nine (Err r) = number r == 9

-- a card call that the endless store is given too
abbrev pub counts : {C : Type 0} → Call C → Answer C → Bool
counts k a = is_card k && not (is_nine a)

-- the card calls of a run, those refused for want of a cell left out
abbrev pub card_calls : {C : Type 0} → List (Call C) → List (Answer C) → List (Call C)
card_calls [] rs = []
card_calls (k ∷ ks) [] = []
card_calls (k ∷ ks) (a ∷ rs) = cond (is_card k && not (is_nine a)) (k ∷ card_calls ks rs) (card_calls ks rs)

-- and their answers
abbrev pub card_answers : {C : Type 0} → List (Call C) → List (Answer C) → List (Said C)
card_answers [] rs = []
card_answers (k ∷ ks) [] = []
card_answers (k ∷ ks) (a ∷ rs) = cond (is_card k && not (is_nine a)) (says a ∷ card_answers ks rs) (card_answers ks rs)
