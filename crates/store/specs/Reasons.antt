-- What is printed where no store is made.
use Rattle.std.specs.Prelude.{ℕ, List, codes}
use Rattle.refusal.specs.Refusals.{text}
use Rattle.store.specs.declared.why.Why.{Why}
use Rattle.store.specs.declared.why.Why.TheVariants.{Refused, NoMemory}

-- the refusal's own words, or these
abbrev pub why_text : Why → List ℕ
why_text (Refused r) = text r
why_text NoMemory = codes "there is no memory for the lists of a store"
