-- Any one call: its answer and the store after it. Only attend and hear use what the line delivered.
use Rattle.std.specs.Prelude.{ℕ, Bool, true, false, Ok, Err, Option, Result}
use Rattle.refusal.specs.declared.kinds.Refusal.{Refusal}
use Rattle.machine.specs.declared.types.Call.{Call}
use Rattle.machine.specs.declared.types.Call.TheVariants.{New, Load, Copy, Drop, Read, Look, Note, Store, Open, Knock, Attend, Hear, Trace, Sweep, Settle}
use Rattle.machine.specs.declared.types.Given.{Given}
use Rattle.machine.specs.declared.types.Given.TheVariants.{Number, Contents}
use Rattle.machine.specs.World.{World}
use Rattle.machine.specs.Cards.{Outcome, new_call, load_call, copy_call, drop_call, read_call, look_call, note_call, store_call}
use Rattle.machine.specs.Rounds.{open_call, knock_call, attend_call, hear_call, trace_call, sweep_call, settle_call}

-- what any call answers: a number or contents, or a refusal
abbrev pub Answer : Type 0 → Type 0
Answer C = Result (Given C) Refusal

abbrev pub answer : {C : Type 0} → Result ℕ Refusal → Answer C
answer (Ok n) = Ok (Number n)
answer (Err r) = Err r

abbrev pub answer_read : {C : Type 0} → Result (ℕ × C) Refusal → Answer C
answer_read (Ok p) = Ok (Contents p.0 p.1)
answer_read (Err r) = Err r

abbrev pub told : {C : Type 0} → Outcome C → (Answer C) × (World C)
told o = (answer o.0, o.1)

-- call k on store w; got is what the line delivered
abbrev pub act : {C : Type 0} → World C → Call C → Option ℕ → (Answer C) × (World C)
act w (New c p x) got = told (new_call w c p x)
act w (Load c p i q) got = told (load_call w c p i q)
act w (Copy c p q) got = told (copy_call w c p q)
act w (Drop c p) got = told (drop_call w c p)
act w (Read c p) got = (answer_read (read_call w c p), w)
act w (Look c p i q) got = told (look_call w c p i q)
act w (Note c) got = told (note_call w c)
act w (Store c) got = told (store_call w c)
act w Open got = told (open_call w)
act w (Knock c) got = (answer (knock_call w c), w)
act w (Attend c) got = (answer (attend_call w c got).0, (attend_call w c got).2)
act w (Hear c) got = told (hear_call w c got)
act w Trace got = told (trace_call w)
act w Sweep got = told (sweep_call w)
act w Settle got = told (settle_call w)

-- the call was not refused
abbrev pub accepted : {C : Type 0} → Answer C → Bool
accepted (Ok g) = true
accepted (Err r) = false
