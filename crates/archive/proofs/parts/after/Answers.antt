use Rattle.std.proofs.Common.{◌≡◌, ℕ, ◌+◌, ◌<◌, ◌≤◌, ◌⊎◌, inl, inr, List, length, Some, None, Option, sym, ap, ◌∙◌, subst, add-one, arith, rules, tests}
use Rattle.std.specs.List.{slice_get}
use Rattle.std.specs.Option.{MatchOption}
use Rattle.std.proofs.lemmas.Iterator.{first_from_Range}
use Rattle.std.proofs.lemmas.Option.{none-some, slice_get_past, slice_get_cases}
use Rattle.store.specs.World.{world}
use Rattle.archive.specs.Layout.{after}
use Rattle.archive.proofs.Free.{after_first, after_never, free_short}
use Rattle.archive.proofs.parts.after.Goals as goal

-- where a search through the list stops: at the list's end, or at the cell
abbrev Stops : List ℕ → ℕ → ℕ → Type 0
Stops l k i = (slice_get l i ≡ None) ⊎ (slice_get l i ≡ Some k)

-- and where it goes on
abbrev Goes : List ℕ → ℕ → ℕ → Type 0
Goes l k i = (slice_get l i ≡ None → ⊥) × (slice_get l i ≡ Some k → ⊥)

-- what a search through the list finds
abbrev Found : List ℕ → ℕ → ℕ → Option ℕ → Type 0
Found l k n o = MatchOption o ((j : ℕ) → 0 ≤ j → j < n → Goes l k j) (λ i. (0 ≤ i) × (i < n) × Stops l k i × ((j : ℕ) → 0 ≤ j → j < i → Goes l k j))

past_of : (l : List ℕ) (i : ℕ) → slice_get l i ≡ None → length l ≤ i
past_of l i e = elim (slice_get_cases l i).1 [ inl p ↦ absurd (none-some p.0 (sym e ∙ p.2)) | inr q ↦ q.0 ]

nothing : (l : List ℕ) (k n : ℕ) (o : Option ℕ) → length l ≤ n → o ≡ None → Found l k n o → after l k ≡ None
nothing l k n None m e f = after_never l k n m (λ j h. (f j (omega arith) h).1)
nothing l k n (Some i) m e f = absurd (none-some i (sym e))

stopped : (l : List ℕ) (k i : ℕ) → Stops l k i → ((j : ℕ) → 0 ≤ j → j < i → Goes l k j) → slice_get l (i + 1) ≡ after l k
stopped l k i (inl e) f = slice_get_past l (i + 1) (omega (arith, past_of l i e)) ∙ sym (after_never l k i (past_of l i e) (λ j h. (f j (omega arith) h).1))
stopped l k i (inr e) f = ap (slice_get l) (add-one i) ∙ sym (after_first l k i e (λ j h. (f j (omega arith) h).1))

something : (l : List ℕ) (k n : ℕ) (o : Option ℕ) (i : ℕ) → o ≡ Some i → Found l k n o → (i < n) × (slice_get l (i + 1) ≡ after l k)
something l k n None i e f = absurd (none-some i e)
something l k n (Some j) i e f =
    let q : j ≡ i = cc in
    subst (λ i. (i < n) × (slice_get l (i + 1) ≡ after l k)) q (f.1, stopped l k j f.2 f.3)

pub returns-in_err-at : goal.returns-in_err-at
returns-in_err-at g c =
    let l = (world c.args.store.now).free in
    let k = c.args.k in
    let n = length c.cells.result.now in
    let e = ap length c.cells.ensures in
    let short = free_short c.args.store.now in
    let found = first_from_Range _ _ _ c.find.result (Stops l k) (Goes l k) c.find.ensures.ran (λ x q b. search (rules, tests)) (λ x q b. search (rules, tests)) in
    let none : c.from_residual.result ≡ None = search rules in
    none ∙ sym (nothing l k n c.find.result (omega arith) c.in_err-at.was found)

pub overflow_add-at : goal.overflow_add-at
overflow_add-at g c =
    let l = (world c.args.store.now).free in
    let k = c.args.k in
    let n = length c.cells.result.now in
    let e = ap length c.cells.ensures in
    let few = c.args.store.now.tables.2 in
    let found = first_from_Range _ _ _ c.find.result (Stops l k) (Goes l k) c.find.ensures.ran (λ x q b. search (rules, tests)) (λ x q b. search (rules, tests)) in
    let low = (something l k n c.find.result c.in_ok-at.at c.in_ok-at.was found).0 in
    omega arith

pub returns : goal.returns
returns g c =
    let l = (world c.args.store.now).free in
    let k = c.args.k in
    let n = length c.cells.result.now in
    let found = first_from_Range _ _ _ c.find.result (Stops l k) (Goes l k) c.find.ensures.ran (λ x q b. search (rules, tests)) (λ x q b. search (rules, tests)) in
    c.free_cell.ensures ∙ (something l k n c.find.result c.in_ok-at.at c.in_ok-at.was found).1
