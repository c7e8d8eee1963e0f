-- What is at hand before a reading.
use Rattle.std.specs.Prelude.{◌≡◌, ℕ, List, None, Option}
use Rattle.archive.specs.Rules.{refusal_of}
use Rattle.archive.specs.declared.pages.Pages.{Pages}
use Rattle.store.specs.Ready.{RoomFor}
use Rattle.store.specs.declared.lists.Lists.{Lists}

-- some bytes that are refused for nothing, as the pages of an archive, fit tables of these lengths, and the lists have room
abbrev pub Ready : {C : Type 0} → ℕ → (List ℕ → Option C) → List ℕ → (cells contents : ℕ) → Pages → Lists → Type 0
Ready code read bs n m p l =
    (refusal_of code read bs n m ≡ None) × (p.bytes.now ≡ bs) × (n ≡ p.head.cells) × (m ≡ p.head.cells) × RoomFor n l.free l.waiting
