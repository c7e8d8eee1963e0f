-- The kinds of event: all of them, their numbers and their words. Assumes nothing.
use Rattle.std.specs.Prelude.{ℕ, Bool, List, [], ◌∷◌, codes, find, Option, ◌==◌}
use Rattle.std.specs.Str.{bytes_eq}
use Rattle.contents.specs.declared.kind.Kind.{Kind}
use Rattle.contents.specs.declared.kind.UnknownKind.{UnknownKind}
use Rattle.contents.specs.declared.kind.Kind.TheVariants.{Fire, Fault, Test, Acknowledged, Silenced, Reset}

-- every kind, in the order of the numbers
abbrev pub kinds : List Kind
kinds = Fire ∷ Fault ∷ Test ∷ Acknowledged ∷ Silenced ∷ Reset ∷ []

abbrev pub kind_number : Kind → ℕ
kind_number Fire = 1
kind_number Fault = 2
kind_number Test = 3
kind_number Acknowledged = 4
kind_number Silenced = 5
kind_number Reset = 6

abbrev pub kind_word : Kind → List ℕ
kind_word Fire = codes "fire"
kind_word Fault = codes "fault"
kind_word Test = codes "test"
kind_word Acknowledged = codes "acknowledged"
kind_word Silenced = codes "silenced"
kind_word Reset = codes "reset"

-- whether a kind has this number, and whether it has this word
abbrev pub number_is : ℕ → Kind → Bool
number_is n k = kind_number k == n

abbrev pub word_is : List ℕ → Kind → Bool
word_is word k = bytes_eq (kind_word k) word

-- the kind with a number, and the kind with a word, if there is one
unfoldable pub kind_numbered : ℕ → Option Kind
kind_numbered n = find (number_is n) kinds

unfoldable pub kind_called : List ℕ → Option Kind
kind_called word = find (word_is word) kinds

-- what is wrong with a word that is no kind's
abbrev pub unknown_kind : UnknownKind
unknown_kind = record {}
