-- Reading a form: the fields give a candidate, which counts only if its own form is just these bytes. Assumes nothing.
use Rattle.std.specs.Prelude.{ℕ, cond, List, Some, None, Option}
use Rattle.std.specs.Str.{bytes_eq}

abbrev pub kept : {X : Type 0} → (X → List ℕ) → List ℕ → Option X → Option X
kept form bytes None = None
kept form bytes (Some x) = cond (bytes_eq (form x) bytes) (Some x) None
