-- The head of an archive, and what its writing is refused for.
use Rattle.std.proofs.Common.{◌≡◌, ℕ, ◌++◌, length, refl, ap, ◌∙◌}
use Rattle.std.specs.List.{slice_get}
use Rattle.machine.specs.World.{World}
use Rattle.archive.specs.Runs.{run}
use Rattle.archive.specs.Layout.{front_bytes, front_of, place_bytes, head_bytes, told_free}

pub front_is : {C : Type 0} (code : ℕ) (w : World C) (a b c d e f : ℕ) → a ≡ length w.cells → b ≡ length w.cards → c ≡ code → d ≡ w.next → e ≡ w.rounds → f ≡ told_free (length w.cells) (slice_get w.free 0) → front_bytes a b c d e f ≡ front_of code w
unfolding front_of
front_is code w a b c d e f p q r s t u =
    ap (λ x. front_bytes x b c d e f) p ∙ ap (λ x. front_bytes (length w.cells) x c d e f) q ∙ ap (λ x. front_bytes (length w.cells) (length w.cards) x d e f) r
    ∙ ap (λ x. front_bytes (length w.cells) (length w.cards) code x e f) s ∙ ap (λ x. front_bytes (length w.cells) (length w.cards) code w.next x f) t
    ∙ ap (front_bytes (length w.cells) (length w.cards) code w.next w.rounds) u

pub front_long : {C : Type 0} (code : ℕ) (w : World C) → length (front_of code w) ≡ 18
unfolding front_of
front_long code w = refl

pub head_all : {C : Type 0} (code : ℕ) (w : World C) → front_of code w ++ run (place_bytes w) (length w.cards) ≡ head_bytes code w
unfolding head_bytes
head_all code w = refl
