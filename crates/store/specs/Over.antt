-- The calls over a line, given what the line's own acts are: take is fetching or collecting, put is sending or replying.
-- The only thing left open is the number that the line delivers.
use Rattle.std.specs.Prelude.{◌≡◌, ℕ, Some, None, Ok, Err, Option, Result}
use Rattle.refusal.specs.declared.kinds.Refusal.{Refusal}
use Rattle.machine.specs.World.{World}
use Rattle.machine.specs.Rounds.{knock_call, attend_call, hear_call}

-- what a card replies, if it replies: line l became line m
abbrev pub Said : {L : Type 0} → (L → ℕ → ℕ → L → Type 0) → ℕ → Option ℕ → L → L → Type 0
Said put c None l m = m ≡ l
Said put c (Some n) l m = put l c n m

-- P of a call that was refused, Q of one that was not
abbrev pub Unless : Result ℕ Refusal → Type 0 → Type 0 → Type 0
Unless (Err r) P Q = P
Unless (Ok n) P Q = Q

-- what goes out is the number that is answered; a refusal leaves the line alone
abbrev pub Knocked : {L : Type 0} → (L → ℕ → ℕ → L → Type 0) → ℕ → Result ℕ Refusal → L → L → Type 0
Knocked put c (Err r) l m = m ≡ l
Knocked put c (Ok n) l m = put l c n m

-- knock at card c of store w answers a, and line l becomes line m
pub record KnocksBy {C L : Type 0} (put : L → ℕ → ℕ → L → Type 0) (c : ℕ) (w : World C) (l : L) (a : Result ℕ Refusal) (m : L) : Type 0 where
  pub answers : a ≡ knock_call w c
  pub line : Knocked put c a l m

-- attend by card c takes store w and line l to store v and line m; got is what line l delivered, mid the line after that
pub record AttendsBy {C L : Type 0} (take : L → ℕ → Option ℕ → L → Type 0) (put : L → ℕ → ℕ → L → Type 0) (c : ℕ) (w : World C) (l : L) (a : Result ℕ Refusal) (v : World C) (m : L) : Type 0 where
  pub got : Option ℕ
  pub answers : a ≡ (attend_call w c got).0
  pub leaves : v ≡ (attend_call w c got).2
  pub line : Unless a (m ≡ l) ((mid : L) × take l c got mid × Said put c (attend_call w c got).1 mid m)

-- hear of card c takes store w and line l to store v and line m; got is what line l delivered
pub record HearsBy {C L : Type 0} (take : L → ℕ → Option ℕ → L → Type 0) (c : ℕ) (w : World C) (l : L) (a : Result ℕ Refusal) (v : World C) (m : L) : Type 0 where
  pub got : Option ℕ
  pub does : (a, v) ≡ hear_call w c got
  pub line : Unless a (m ≡ l) (take l c got m)
