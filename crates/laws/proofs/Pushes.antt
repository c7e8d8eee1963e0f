-- What pushes onto the waiting list do: each cell is as before, or was pale, is named and is grey now.
use Rattle.std.proofs.Common.{◌≡◌, ℕ, zero, suc, true, false, ◌⊎◌, List, [], ◌∷◌, length, get_or, Some, None, sym, refl, ap, ◌∙◌, inl, inr, arith}
use Rattle.machine.specs.declared.types.Colour.{Colour}
use Rattle.machine.specs.World.{Cell}
use Rattle.machine.specs.World.{Name, see, same_colour, alter, greyen}
use Rattle.machine.specs.Waiting.{Heap, pale, push, push_all}
use Rattle.line.specs.Lines.{Among}
use Rattle.laws.specs.Steps.{Distinct}
use Rattle.laws.proofs.Frames.{frame, sizes}

abbrev pub cell_of : Heap → ℕ → Cell
cell_of h x = get_or h.cells x None

-- one cell's way through pushes of vs
abbrev pub Told : Colour → Heap → Heap → List Name → ℕ → Type 0
Told m h t vs x = (cell_of t x ≡ cell_of h x) ⊎ ((cell_of t x ≡ alter greyen (cell_of h x)) × (pale m (cell_of h x) ≡ true) × ((i : ℕ) × (get_or vs i None ≡ Some x)))

push_tells : (m : Colour) (h : Heap) (v : Name) (x : ℕ) → (cell_of (push m h v) x ≡ cell_of h x) ⊎ ((cell_of (push m h v) x ≡ alter greyen (cell_of h x)) × (pale m (cell_of h x) ≡ true) × (v ≡ Some x))
push_tells m h None x = inl refl
push_tells m h (Some y) x = grind frame

pale_grey : (m : Colour) (c : Cell) → pale m (alter greyen c) ≡ false
pale_grey m c = grind arith

pub push_all_tells : (m : Colour) (h : Heap) (vs : List Name) (x : ℕ) → Told m h (push_all m h vs) vs x
unfolding push_all
push_all_tells m h [] x = inl refl
push_all_tells m h (v ∷ vs) x =
    elim (push_all_tells m (push m h v) vs x) [
      | inl a ↦ elim (push_tells m h v x) [
        | inl b ↦ inl (a ∙ b)
        | inr b ↦ inr (a ∙ b.0, b.1, (zero, b.2))
      ]
      | inr a ↦ elim (push_tells m h v x) [
        | inl b ↦ inr (a.0 ∙ ap (alter greyen) b, ap (pale m) (sym b) ∙ a.1, (suc a.2.0, a.2.1))
        | inr b ↦ let k : pale m (cell_of (push m h v) x) ≡ false = ap (pale m) b.0 ∙ pale_grey m (cell_of h x) in inl (grind (arith, k, a.1))
      ]
    ]

pub push_all-length : (m : Colour) (h : Heap) (vs : List Name) → length (push_all m h vs).cells ≡ length h.cells
unfolding push_all
push_all-length m h [] = refl
push_all-length m h (v ∷ vs) = push_all-length m (push m h v) vs ∙ one m h v
  where
    one : (m : Colour) (h : Heap) (v : Name) → length (push m h v).cells ≡ length h.cells
    one m h None = refl
    one m h (Some y) = grind (sizes)

-- what is named is marked, waiting or free afterwards
pub push_all_catches : (m : Colour) (h : Heap) (vs : List Name) (i x : ℕ) → get_or vs i None ≡ Some x → pale m (cell_of (push_all m h vs) x) ≡ false
unfolding push_all
push_all_catches m h [] i x e = grind arith
push_all_catches m h (v ∷ vs) zero x e =
    let k : pale m (cell_of (push m h v) x) ≡ false = grind (frame, pale_grey) in
    grind (arith, push_all_tells m (push m h v) vs x, k)
push_all_catches m h (v ∷ vs) (suc i) x e = push_all_catches m (push m h v) vs i x e

-- the waiting list has exactly the waiting records, once each, and they are unmarked
pub record Queue (m : Colour) (h : Heap) : Type 0 where
  pub queued : (x : ℕ) → Among x h.waiting → see (λ r. r.waiting) false (cell_of h x) ≡ true
  pub waits : (x : ℕ) → see (λ r. r.waiting) false (cell_of h x) ≡ true → Among x h.waiting
  pub pale : (x : ℕ) → see (λ r. r.waiting) false (cell_of h x) ≡ true → see (λ r. same_colour r.colour m) false (cell_of h x) ≡ false
  pub once : Distinct h.waiting

abbrev cell_in : Name → ℕ
cell_in None = 0
cell_in (Some x) = x

push_queue : (m : Colour) (h : Heap) (v : Name) → Queue m h → Queue m (push m h v)
push_queue m h v Q = record {
  queued = λ x k. grind (frame, Q.queued x);
  waits = λ x k. grind (frame, Q.waits x);
  pale = λ x k. grind (frame, Q.pale x);
  once = grind (frame, Q.once, Q.queued (cell_in v));
}

pub push_all_queue : (m : Colour) (h : Heap) (vs : List Name) → Queue m h → Queue m (push_all m h vs)
unfolding push_all
push_all_queue m h [] Q = Q
push_all_queue m h (v ∷ vs) Q = push_all_queue m (push m h v) vs (push_queue m h v Q)
