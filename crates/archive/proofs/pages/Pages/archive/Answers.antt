use Rattle.std.proofs.Common.{◌≡◌, ℕ, ◌*◌, Bool, true, false, cond, ◌&&◌, eqb, List, length, Some, None, Option, is_some, sym, refl, ap, ◌∙◌, inl, inr, rules}
use Rattle.std.specs.Option.{MatchOption, IfSome}
use Rattle.std.specs.Bool.{then_some}
use Rattle.std.proofs.lemmas.Bool.{cases_Bool}
use Rattle.archive.specs.declared.pages.Pages.{Pages}
use Rattle.archive.specs.Layout.{blocks_for}
use Rattle.archive.specs.Bytes.{cells_in}
use Rattle.archive.specs.Rules.{head_right, rules_right, archive_right}
use Rattle.archive.proofs.pages.Pages.archive.Goals as goal

-- a test before a value, and no value
kept : {X : Type 0} (b : Bool) (x : X) → is_some (then_some b x) ≡ b
kept true x = refl
kept false x = refl

module _ {C : Type 0} (code : ℕ) (read : List ℕ → Option C) (bs : List ℕ) (Q : Pages → Bool → Type 0) (says : (p : Pages) (b : Bool) → Q p b → b ≡ rules_right read p.bytes.now) where
  archived : (o r : Option Pages) → is_some o ≡ (head_right code bs && eqb (length bs) (512 * blocks_for (cells_in bs))) → IfSome o (λ p. p.bytes.now ≡ bs)
      → MatchOption o (r ≡ None) (λ p. (b : Bool) × Q p b × (r ≡ then_some b p)) → is_some r ≡ archive_right code read bs
  unfolding rules_right
  archived None r e s m =
      elim (cases_Bool (head_right code bs)) [
        | inr h ↦ ap is_some m ∙ (rw h refl)
        | inl h ↦
            let l : false ≡ eqb (length bs) (512 * blocks_for (cells_in bs)) = e ∙ ap (λ t. t && eqb (length bs) (512 * blocks_for (cells_in bs))) h in
            ap is_some m ∙ (rw (h, ← l) refl)
      ]
  archived (Some p) r e s m =
      elim (cases_Bool (head_right code bs)) [
        | inl h ↦ ap is_some m.2 ∙ kept m.0 p ∙ says p m.0 m.1 ∙ ap (rules_right read) s ∙ ap (λ t. cond t (rules_right read bs) false) (sym h)
        | inr h ↦ let z : true ≡ false = e ∙ ap (λ t. t && eqb (length bs) (512 * blocks_for (cells_in bs))) h in cc
      ]

pub returns-clause-is : goal.returns-clause-is
returns-clause-is g c =
    archived c.CODE.result g.C.Contents.read c.args.bytes.now _ (λ p b q. search rules) c.of.result c.filter.result c.of.ensures.is c.of.ensures.same c.filter.ensures
    ∙ ap (λ k. archive_right k g.C.Contents.read c.args.bytes.now) c.CODE.ensures
