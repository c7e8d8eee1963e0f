-- What a played script, and one call of a panel, come to.
use Rattle.std.specs.Prelude.{◌≡◌, ℕ, List, [], Ok, Err, vec_items, Option, Result, Vec}
use Rattle.machine.specs.declared.types.Call.{Call}
use Rattle.machine.specs.Acts.{Answer}
use Rattle.machine.specs.World.{World}
use Rattle.line.specs.Lines.{Meaning}
use Rattle.laws.specs.Runs.{Ran}
use Rattle.laws.specs.Calls.{Reached, Mirrored, Promised}
use Rattle.laws.specs.Endless.{image}
use Rattle.promises.specs.Acting.{ActBy, RunBy}

-- no number is on its way
pub record Silent (m : Meaning) : Type 0 where
  pub orders : (c : ℕ) → m.orders c ≡ []
  pub replies : (c : ℕ) → m.replies c ≡ []

module _ {C L : Type 0} (means : L → Meaning) (sends : L → ℕ → ℕ → L → Type 0) (fetches : L → ℕ → Option ℕ → L → Type 0) (replies : L → ℕ → ℕ → L → Type 0) (collects : L → ℕ → Option ℕ → L → Type 0) where
  -- the script ks was played on store w and line l, with the answers rs: exactly this run, and what the promises say of it
  pub record PlayedBy (w : World C) (l : L) (ks : List (Call C)) (rs : List (Answer C)) (v : World C) (m : L) : Type 0 where
    pub exact : RunBy sends fetches replies collects w l ks rs v m
    pub promised : Ran w (means l) ks rs v (means m)

  -- the answers came, or memory for them was wanting and no call was made
  abbrev pub Played : {Z E : Type 0} → World C → L → List (Call C) → Result (Vec (Answer C) Z) E → World C → L → Type 0
  Played w l ks (Ok answers) v m = PlayedBy w l ks (vec_items answers) v m
  Played w l ks (Err e) v m = (v ≡ w) × (m ≡ l)

  -- one call: exactly this act, and what the promises say of it
  pub record CalledBy (w : World C) (l : L) (k : Call C) (a : Answer C) (v : World C) (m : L) : Type 0 where
    pub exact : ActBy sends fetches replies collects w l k a v m
    pub promised : Promised w (means l) k a v (means m)

-- where a panel begins
pub record Begins {C : Type 0} (w : World C) (m : Meaning) : Type 0 where
  pub reached : Reached w m
  pub mirrored : Mirrored (image w) w m
