use Rattle.std.proofs.Common.{◌≡◌, ℕ, ◌+◌, ◌*◌, ◌/◌, ◌%◌, min, Bool, true, false, cond, List, refl, sym, ap, ◌∙◌, arith, rules, tests}
use Rattle.std.proofs.lemmas.Iterator.{YieldsList-from_range}
use Rattle.std.proofs.lemmas.Iterator.Search.{all_from_yields_List}
use Rattle.archive.specs.Runs.{every}
use Rattle.archive.specs.Layout.{part_of}
use Rattle.archive.specs.Bytes.{cells_in, cards_in}
use Rattle.archive.specs.Rules.{framed, chunk, frames_right}
use Rattle.archive.proofs.Walks.{all_below}
use Rattle.archive.proofs.pages.Pages.frames_right.Goals as goal

-- the frames, the head's first, over the numbers that the head has
abbrev frames : List ℕ → ℕ → ℕ → ℕ → Bool
frames bs n m k =
    cond (framed 0 0 (18 + 16 * m) (chunk bs 0))
    (every (λ b. framed (b + 1) (part_of n b) (28 * part_of n b) (chunk bs (b + 1))) k)
    false

told : (bs : List ℕ) (n m k : ℕ) → n ≡ cells_in bs → m ≡ cards_in bs → k ≡ n / 18 + min 1 (n % 18) → frames bs n m k ≡ frames_right bs
unfolding frames_right
told bs n m k e f g =
    let r : k ≡ (n + 17) / 18 = g ∙ omega arith in
    ap (frames bs n m) r ∙ ap (λ n. frames bs n m ((n + 17) / 18)) e ∙ ap (λ m. frames bs (cells_in bs) m ((cells_in bs + 17) / 18)) f

pub returns-then-framed : goal.returns-then-framed
returns-then-framed c =
    let p = c.args.self.now in
    let bs = p.bytes.now in
    let n = p.head.cells in
    let m = c.div_ceil-blocks.result in
    let t : ℕ → Bool = λ b. framed (b + 1) (part_of n b) (28 * part_of n b) (chunk bs (b + 1)) in
    let f : framed 0 0 (18 + 16 * p.head.cards) (chunk bs 0) ≡ true = ap (framed 0 0 (18 + 16 * p.head.cards)) (sym c.block.ensures.is) ∙ sym c.if-framed.ensures in
    all_from_yields_List t _ _ _ c.all.ensures.ran (YieldsList-from_range 0 m m refl (omega arith)) (λ x b q k. search (rules, tests)) ∙ all_below t m
    ∙ ap (λ b. cond b (every t m) false) (sym f) ∙ told bs n p.head.cards m (ap (λ h. h.cells) p.told) (ap (λ h. h.cards) p.told) c.div_ceil-blocks.ensures

pub returns-else-framed : goal.returns-else-framed
returns-else-framed c =
    let p = c.args.self.now in
    let bs = p.bytes.now in
    let n = p.head.cells in
    let m = n / 18 + min 1 (n % 18) in
    let t : ℕ → Bool = λ b. framed (b + 1) (part_of n b) (28 * part_of n b) (chunk bs (b + 1)) in
    let f : framed 0 0 (18 + 16 * p.head.cards) (chunk bs 0) ≡ false = ap (framed 0 0 (18 + 16 * p.head.cards)) (sym c.block.ensures.is) ∙ sym c.framed.ensures ∙ c.if-framed.false in
    c.if-framed.false ∙ ap (λ b. cond b (every t m) false) (sym f) ∙ told bs n p.head.cards m (ap (λ h. h.cells) p.told) (ap (λ h. h.cards) p.told) refl
