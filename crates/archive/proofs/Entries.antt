-- What a cell of some pages says is what the pages say of it.
use Rattle.std.proofs.Common.{◌≡◌, ℕ, List, ap, ◌∙◌}
use Rattle.archive.specs.declared.pages.Pages.{Pages}
use Rattle.archive.specs.declared.entry.Entry.{Entry}

pub there : {X : Type 0} (f : List ℕ → ℕ → X) (p : Pages) (e : Entry) (k : ℕ) → e.pages ≡ p → e.k ≡ k → f e.pages.bytes.now e.k ≡ f p.bytes.now k
there f p e k a b = ap (f e.pages.bytes.now) b ∙ ap (λ p. f p.bytes.now k) a
