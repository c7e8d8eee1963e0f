-- A list with its top at the end.
use Rattle.std.proofs.Common.{◌≡◌, ℕ, ◌+◌, ◌-◌, ◌<◌, ◌≤◌, [], ◌∷◌, ◌++◌, reverse, length, get_or, Some, None, vec_items, vec_len, Option, Vec, sym, ap, ◌∙◌, arith, MatchOption}
use Rattle.std.specs.List.{slice_get}
use Rattle.std.proofs.lemmas.Option.{slice_get-get_or, slice_get_past}
use Rattle.std.proofs.lemmas.List.{nil_from_length, reverse-append, length-reverse, get_or-reverse}
use Rattle.std.specs.Option.{option_to_list}
use Rattle.store.specs.Model.{stack}

pub stack_push : {Z : Type 0} (v w : Vec ℕ Z) (x : ℕ) → vec_items w ≡ vec_items v ++ x ∷ [] → stack w ≡ x ∷ stack v
unfolding stack
stack_push v w x e = ap reverse e ∙ reverse-append (vec_items v) (x ∷ [])

pub stack_none : {Z : Type 0} (v : Vec ℕ Z) → vec_len v ≡ 0 → stack v ≡ []
unfolding stack
stack_none v e = ap reverse (nil_from_length (vec_items v) (omega (arith, v.ok.0)))

pub stack_pop : {Z : Type 0} (v w : Vec ℕ Z) (r : Option ℕ) → vec_items v ≡ vec_items w ++ option_to_list r → MatchOption r ((vec_len v ≡ 0) × (vec_len w ≡ 0)) (λ k. vec_len w + 1 ≡ vec_len v)
    → MatchOption r ((stack v ≡ []) × (stack w ≡ [])) (λ k. stack v ≡ k ∷ stack w)
unfolding stack
stack_pop v w None e n = (stack_none v n.0, stack_none w n.1)
stack_pop v w (Some k) e n = ap reverse e ∙ reverse-append (vec_items w) (k ∷ [])

-- number i, counted from the top
pub stack_past : {Z : Type 0} (v : Vec ℕ Z) (i : ℕ) → vec_len v ≤ i → None ≡ slice_get (stack v) i
unfolding stack
stack_past v i h = sym (slice_get_past (reverse (vec_items v)) i (simp length-reverse (omega (arith, v.ok.0))))

pub stack_at : {Z : Type 0} (v : Vec ℕ Z) (i x : ℕ) → i < vec_len v → x ≡ get_or (vec_items v) (vec_len v - 1 - i) x → Some x ≡ slice_get (stack v) i
unfolding stack
stack_at v i x h e =
    let n : vec_len v ≡ length (vec_items v) = v.ok.0 in
    let l : i < length (vec_items v) = omega arith in
    let r : get_or (reverse (vec_items v)) i x ≡ x = get_or-reverse (vec_items v) i x l ∙ ap (λ k. get_or (vec_items v) (k - 1 - i) x) (sym n) ∙ sym e in
    sym (slice_get-get_or (reverse (vec_items v)) i x (simp length-reverse (omega arith)) ∙ ap Some r)
