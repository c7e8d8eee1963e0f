-- Writing an archive: refused with 4 where an update is in hand on a card, then with 7 outside Rest, then with 14 where
-- the buffer is not of the archive's length. A refusal leaves the buffer as it was.
use Rattle.std.specs.Prelude.{ℕ, ◌*◌, Bool, true, false, cond, ◌||◌, List, [], ◌∷◌, length, is_some, Ok, Err, Result, ◌==◌}
use Rattle.refusal.specs.declared.kinds.Refusal.{Refusal}
use Rattle.refusal.specs.declared.kinds.Refusal.TheVariants.{UpdateInHand, WrongPhase, OutOfRange}
use Rattle.machine.specs.declared.types.Phase.{Phase}
use Rattle.machine.specs.declared.types.Phase.TheVariants.{Rest, Alert, Log, Gather, Trace, Ease, Sweep, Settle}
use Rattle.machine.specs.declared.types.Card.{Card}
use Rattle.machine.specs.World.{World}
use Rattle.archive.specs.Layout.{archive_of, blocks_for}

-- some card has an update in hand
unfoldable pub in_hand : List Card → Bool
in_hand [] = false
in_hand (k ∷ ks) = is_some k.update || in_hand ks

abbrev pub resting : Phase → Bool
resting Rest = true
resting Alert = false
resting Log = false
resting Gather = false
resting Trace = false
resting Ease = false
resting Sweep = false
resting Settle = false

abbrev pub writing : {C : Type 0} → ℕ → (C → List ℕ) → World C → List ℕ → (Result ℕ Refusal) × (List ℕ)
writing code form w out =
    cond (in_hand w.cards) (Err UpdateInHand, out)
    (cond (resting w.phase)
    (cond (length out == 512 * blocks_for (length w.cells)) (Ok (blocks_for (length w.cells)), archive_of code form w) (Err OutOfRange, out))
    (Err WrongPhase, out))
