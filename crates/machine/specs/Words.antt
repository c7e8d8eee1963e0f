-- What is printed of a phase and of a colour. Assumes nothing.
use Rattle.std.specs.Prelude.{ℕ, List, codes}
use Rattle.machine.specs.declared.types.Colour.{Colour}
use Rattle.machine.specs.declared.types.Colour.TheVariants.{Zero, One}
use Rattle.machine.specs.declared.types.Phase.{Phase}
use Rattle.machine.specs.declared.types.Phase.TheVariants.{Rest, Alert, Log, Gather, Trace, Ease, Sweep, Settle}

-- the name of a phase
abbrev pub phase_word : Phase → List ℕ
phase_word Rest = codes "Rest"
phase_word Alert = codes "Alert"
phase_word Log = codes "Log"
phase_word Gather = codes "Gather"
phase_word Trace = codes "Trace"
phase_word Ease = codes "Ease"
phase_word Sweep = codes "Sweep"
phase_word Settle = codes "Settle"

-- the digit of a colour
abbrev pub colour_digit : Colour → List ℕ
colour_digit Zero = codes "0"
colour_digit One = codes "1"
