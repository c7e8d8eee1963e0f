use Rattle.std.specs.Prelude.{◌≡◌, ℕ, ◌+◌, ◌*◌, ◌≤◌, Bool, cond, List, [], ◌∷◌, reverse, length, vec_items, vec_len, vec_capacity, Vec, None, Some}
use Rattle.machine.specs.declared.types.Card.{Card}
use Rattle.machine.specs.declared.types.Phase.{Phase}
use Rattle.machine.specs.declared.types.Phase.TheVariants.{Rest, Alert, Log, Gather, Trace, Ease, Sweep, Settle}
use Rattle.machine.specs.World.{Cell}
use Rattle.store.specs.declared.types.RoundState.{RoundState}

-- a list of numbers with its top at the end, top first
unfoldable pub stack : {Z : Type 0} → Vec ℕ Z → List ℕ
stack v = reverse (vec_items v)

-- 1 of a cell that is free or waiting, else 0: such a cell may stand on one of the two lists
abbrev pub spare : Cell → ℕ
spare None = 1
spare (Some r) = cond r.waiting 1 0

unfoldable pub spares : List Cell → ℕ
spares [] = 0
spares (c ∷ h) = spare c + spares h

-- how many orders of its round a phase has given
abbrev pub given : Phase → ℕ
given Rest = 0
given Alert = 1
given Log = 2
given Gather = 3
given Trace = 3
given Ease = 4
given Sweep = 4
given Settle = 4

-- 1 within a round
abbrev pub within : Phase → ℕ
within Rest = 0
within Alert = 1
within Log = 1
within Gather = 1
within Trace = 1
within Ease = 1
within Sweep = 1
within Settle = 1

-- 1 at a sweep
abbrev pub sweeping : Phase → ℕ
sweeping Rest = 0
sweeping Alert = 0
sweeping Log = 0
sweeping Gather = 0
sweeping Trace = 0
sweeping Ease = 0
sweeping Sweep = 1
sweeping Settle = 0

-- What a store asks of its fields, in three parts, short enough for a ghost field each.
-- tables of one length from 1 to 4,096, and at most eight cards
abbrev pub Tables : {C : Type 0} → List Cell → List C → List Card → Type 0
Tables cells contents cards =
    (length contents ≡ length cells)
    × (1 ≤ length cells)
    × (length cells ≤ 4096)
    × (length cards ≤ 8)

-- eight answers in memory; each list has room for every cell
abbrev pub Lists : {Z : Type 0} → List Cell → List Bool → Vec ℕ Z → Vec ℕ Z → Type 0
Lists cells answered free waiting =
    (length answered ≡ 8)
    × (length cells ≤ vec_capacity free)
    × (length cells ≤ vec_capacity waiting)

-- no more cells on the lists than may stand there; order, rounds and sweep cell fit the phase
abbrev pub Numbers : {Z : Type 0} → List Cell → Vec ℕ Z → Vec ℕ Z → RoundState → Type 0
Numbers cells free waiting state =
    (vec_len free + vec_len waiting ≤ spares cells)
    × (state.order ≡ 4 * state.rounds + given state.phase)
    × (state.rounds + within state.phase ≤ 1073741823)
    × (state.sweep + sweeping state.phase ≤ length cells)
