-- What the words of a commissioning sheet say. Assumes nothing.
use Rattle.std.specs.Prelude.{ℕ, ◌+◌, ◌-◌, ◌*◌, min, Bool, cond, ◌&&◌, List, [], ◌∷◌, Some, None, Ok, Err, Option, Result, nat_le}
use Rattle.refusal.specs.declared.kinds.Refusal.TheVariants.{OutOfRange}
use Rattle.contents.specs.Kinds.{kind_number, kind_called}
use Rattle.contents.specs.Events.{event_of}
use Rattle.contents.specs.Effects.{effect_of}
use Rattle.contents.specs.declared.kind.Kind.{Kind}
use Rattle.contents.specs.declared.event.Event.{Event}
use Rattle.contents.specs.declared.effect.Effect.{Effect}
use Rattle.sheet.specs.declared.fault.Fault.{Fault}
use Rattle.sheet.specs.declared.fault.Fault.TheVariants.{NotANumber, NoSuchKind, Refused}

-- the largest number that is told apart; what is larger counts as this one, which is out of every range
abbrev pub most : ℕ
most = 18446744073709551615

-- a number goes on by one digit
abbrev pub goes_on : ℕ → ℕ → ℕ
goes_on n b = min (min (n * 10) most + (b - 48)) most

abbrev pub is_digit : ℕ → Bool
is_digit b = nat_le 48 b && nat_le b 57

-- the digits after n
abbrev pub digits_after : ℕ → List ℕ → Option ℕ
digits_after n [] = Some n
digits_after n (b ∷ bs) = cond (is_digit b) (digits_after (goes_on n b) bs) None

-- a word of one or more decimal digits is a number
unfoldable pub number_in : List ℕ → Option ℕ
number_in [] = None
number_in (b ∷ bs) = digits_after 0 (b ∷ bs)

-- a kind is told by its word or by a number
abbrev pub kind_or : Option Kind → Option ℕ → Option ℕ
kind_or (Some k) n = Some (kind_number k)
kind_or None n = n

abbrev pub kind_in : List ℕ → Option ℕ
kind_in word = kind_or (kind_called word) (number_in word)

-- a number that has to be there
abbrev pub given : {X : Type 0} → Fault → Option ℕ → (ℕ → Result X Fault) → Result X Fault
given f None k = Err f
given f (Some n) k = k n

-- a value that has to be in range
abbrev pub in_range : {X : Type 0} → Option X → Result X Fault
in_range None = Err (Refused OutOfRange)
in_range (Some x) = Ok x

-- the event that four words say, and the effect that two words say: the first word that says no number is at fault,
-- and only numbers are held to their ranges
abbrev pub event_said : (moment device zone kind : List ℕ) → Result Event Fault
event_said m d z k =
    given NotANumber (number_in m) (λ a. given NotANumber (number_in d) (λ b. given NotANumber (number_in z) (λ c. given NoSuchKind (kind_in k) (λ e. in_range (event_of a b c e)))))

abbrev pub effect_said : (relay delay : List ℕ) → Result Effect Fault
effect_said r d = given NotANumber (number_in r) (λ a. given NotANumber (number_in d) (λ b. in_range (effect_of a b)))
