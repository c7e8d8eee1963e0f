-- One call on a store and a line, and whole runs of calls, exactly: by the line's own acts. Over a line whose acts are
-- equations nothing is left open.
use Rattle.std.specs.Prelude.{◌≡◌, ℕ, List, [], ◌∷◌, None, Option, Result}
use Rattle.refusal.specs.declared.kinds.Refusal.{Refusal}
use Rattle.machine.specs.declared.types.Call.{Call}
use Rattle.machine.specs.declared.types.Call.TheVariants.{New, Load, Copy, Drop, Read, Look, Note, Store, Open, Knock, Attend, Hear, Trace, Sweep, Settle}
use Rattle.machine.specs.Acts.{Answer}
use Rattle.machine.specs.World.{World}
use Rattle.machine.specs.Acts.{act, answer}
use Rattle.store.specs.Over.{KnocksBy, AttendsBy, HearsBy}

-- a call that has nothing to do with the line
abbrev pub Aside : {C L : Type 0} → World C → L → Call C → Answer C → World C → L → Type 0
Aside w l k a v m = (a ≡ (act w k None).0) × (v ≡ (act w k None).1) × (m ≡ l)

-- a call that is answered with a number or a refusal
abbrev pub Told : {C : Type 0} → Answer C → (Result ℕ Refusal → Type 0) → Type 0
Told a P = (r : Result ℕ Refusal) × (a ≡ answer r) × P r

module _ {C L : Type 0} (sends : L → ℕ → ℕ → L → Type 0) (fetches : L → ℕ → Option ℕ → L → Type 0) (replies : L → ℕ → ℕ → L → Type 0) (collects : L → ℕ → Option ℕ → L → Type 0) where
  -- the call k on store w and line l answers a and leaves store v and line m
  abbrev pub ActBy : World C → L → Call C → Answer C → World C → L → Type 0
  ActBy w l (New c p x) a v m = Aside w l (New c p x) a v m
  ActBy w l (Load c p i q) a v m = Aside w l (Load c p i q) a v m
  ActBy w l (Copy c p q) a v m = Aside w l (Copy c p q) a v m
  ActBy w l (Drop c p) a v m = Aside w l (Drop c p) a v m
  ActBy w l (Read c p) a v m = Aside w l (Read c p) a v m
  ActBy w l (Look c p i q) a v m = Aside w l (Look c p i q) a v m
  ActBy w l (Note c) a v m = Aside w l (Note c) a v m
  ActBy w l (Store c) a v m = Aside w l (Store c) a v m
  ActBy w l Open a v m = Aside w l Open a v m
  ActBy w l (Knock c) a v m = Told a (λ r. KnocksBy sends c w l r m) × (v ≡ w)
  ActBy w l (Attend c) a v m = Told a (λ r. AttendsBy fetches replies c w l r v m)
  ActBy w l (Hear c) a v m = Told a (λ r. HearsBy collects c w l r v m)
  ActBy w l Trace a v m = Aside w l Trace a v m
  ActBy w l Sweep a v m = Aside w l Sweep a v m
  ActBy w l Settle a v m = Aside w l Settle a v m

  -- the calls and the answers of a whole run, the first first
  pub data RunBy : World C → L → List (Call C) → List (Answer C) → World C → L → Type 0 where
    ended : {w : World C} {l : L} → RunBy w l [] [] w l
    acts : {w v u : World C} {l m n : L} {k : Call C} {ks : List (Call C)} {a : Answer C} {rs : List (Answer C)} → ActBy w l k a v m → RunBy v m ks rs u n → RunBy w l (k ∷ ks) (a ∷ rs) u n
