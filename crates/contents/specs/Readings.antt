-- The two laws of a form, from one fact: the fields of a value's form give the value again. Assumes nothing.
use Rattle.std.specs.Prelude.{◌≡◌, ℕ, Bool, true, false, cond, List, Some, None, Ok, Err, Option, refl}
use Rattle.std.proofs.Common.{sym, ap, ◌∙◌, arith}
use Rattle.std.specs.Str.{bytes_eq}
use Rattle.std.proofs.lemmas.Slice.Eq.{bytes_eq-Decides}
use Rattle.std.specs.Option.{ok_or}
use Rattle.contents.specs.Reading.{kept}

module _ {X : Type 0} (form : X → List ℕ) where
  never : {A : Type 0} (x : X) → None ≡ Some x → A
  never x q = let z : ◌≡◌ {A = ℕ} 0 1 = cc in absurd (omega arith)

  picked : (t : Bool) (bs : List ℕ) (y x : X) → (t ≡ true → form y ≡ bs) → cond t (Some y) None ≡ Some x → form x ≡ bs
  picked true bs y x h q = let i : y ≡ x = cc in ap form (sym i) ∙ h refl
  picked false bs y x h q = never x q

  -- a value that was read has those bytes as its form
  pub kept_forth : (bs : List ℕ) (o : Option X) (x : X) → kept form bs o ≡ Some x → form x ≡ bs
  kept_forth bs None x q = never x q
  kept_forth bs (Some y) x q = picked (bytes_eq (form y) bs) bs y x (bytes_eq-Decides (form y) bs).0 q

  -- reading a form gives the value, where its fields do
  pub kept_back : (x : X) (o : Option X) → o ≡ Some x → kept form (form x) o ≡ Some x
  kept_back x o e =
      let t : bytes_eq (form x) (form x) ≡ true = (bytes_eq-Decides (form x) (form x)).1 refl in
      ap (kept form (form x)) e ∙ rw t refl

  -- what a reading comes to, by its candidate
  pub read_none : (bs : List ℕ) (o : Option X) → o ≡ None → None ≡ kept form bs o
  read_none bs o e = sym (ap (kept form bs) e)

  pub read_same : (bs : List ℕ) (o : Option X) (x : X) → o ≡ Some x → true ≡ bytes_eq (form x) bs → Some x ≡ kept form bs o
  read_same bs o x e t = sym (ap (kept form bs) e ∙ ap (λ b. cond b (Some x) None) (sym t))

  pub read_other : (bs : List ℕ) (o : Option X) (x : X) → o ≡ Some x → false ≡ bytes_eq (form x) bs → None ≡ kept form bs o
  read_other bs o x e t = sym (ap (kept form bs) e ∙ ap (λ b. cond b (Some x) None) (sym t))

-- what a making answered, as an option again
pub made : {X E : Type 0} (o : Option X) (e : E) (x : X) → Ok x ≡ ok_or o e → o ≡ Some x
made None e x q = let z : ◌≡◌ {A = ℕ} 0 1 = cc in absurd (omega arith)
made (Some y) e x q = cc

-- what a making that was refused says
pub refused_with : {X E : Type 0} (o : Option X) (e y : E) → Err y ≡ ok_or o e → (o ≡ None) × (y ≡ e)
refused_with None e y q = (refl, cc)
refused_with (Some x) e y q = let z : ◌≡◌ {A = ℕ} 0 1 = cc in absurd (omega arith)

pub refused : {X E : Type 0} (o : Option X) (e y : E) → Err y ≡ ok_or o e → o ≡ None
refused o e y q = (refused_with o e y q).0

-- and the other way
pub refuses : {X E : Type 0} (o : Option X) (e : E) → o ≡ None → Err e ≡ ok_or o e
refuses o e q = sym (ap (λ p. ok_or p e) q)

pub makes : {X E : Type 0} (o : Option X) (e : E) (x : X) → o ≡ Some x → Ok x ≡ ok_or o e
makes o e x q = sym (ap (λ p. ok_or p e) q)
