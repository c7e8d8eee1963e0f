-- What it means that reading is refused with nothing. Assumes nothing.
use Rattle.std.proofs.Common.{◌≡◌, ℕ, ◌*◌, ◌%◌, Bool, true, false, cond, eqb, List, length, Some, None, Option, refl, arith}
use Rattle.std.proofs.lemmas.Bool.{eqb-true, eq-eqb, ne_eqb}
use Rattle.refusal.specs.declared.kinds.Refusal.{Refusal}
use Rattle.refusal.specs.declared.kinds.Refusal.TheVariants.{BadLength, BadCheck, BadArchive, OutOfRange}
use Rattle.archive.specs.Runs.{every}
use Rattle.archive.specs.Layout.{blocks_for}
use Rattle.archive.specs.Bytes.{cells_in, cards_in, links_in, code_in, next_serial_in, rounds_in, place_in, serial_in}
use Rattle.archive.specs.Rules.{checks_right, head_right, frames_right, name_right, cell_right, shared, chain_right, rules_right, archive_right, refusal_of}
use Rattle.archive.proofs.Tests.{past, not_past, Limits, head_tells, head_holds}

pub record Accepted {C : Type 0} (code : ℕ) (read : List ℕ → Option C) (bs : List ℕ) : Type 0 where
  pub checks : checks_right bs ≡ true
  pub limits : Limits (cells_in bs) (cards_in bs) (links_in bs) (code_in bs) code (next_serial_in bs) (rounds_in bs)
  pub long : length bs ≡ 512 * blocks_for (cells_in bs)
  pub frames : frames_right bs ≡ true
  pub cells : every (cell_right read bs (cells_in bs)) (cells_in bs) ≡ true
  pub places : every (λ i. name_right bs (cells_in bs) (place_in bs i)) (8 * cards_in bs) ≡ true
  pub apart : shared (serial_in bs) (cells_in bs) ≡ false
  pub chain : chain_right bs (cells_in bs) ≡ true

some_not : {X A : Type 0} (x : X) → Some x ≡ None → A
some_not x e = let z : ◌≡◌ {A = ℕ} 0 1 = cc in absurd (omega arith)

go_yes : {t : Bool} (r : Refusal) {o : Option Refusal} → cond t o (Some r) ≡ None → (t ≡ true) × (o ≡ None)
go_yes {t = true} r e = (refl, e)
go_yes {t = false} r e = some_not r e

go_no : {t : Bool} (r : Refusal) {o : Option Refusal} → cond t (Some r) o ≡ None → (t ≡ false) × (o ≡ None)
go_no {t = true} r e = some_not r e
go_no {t = false} r e = (refl, e)

module _ {C : Type 0} (code : ℕ) (read : List ℕ → Option C) (bs : List ℕ) where
  rules_tell : checks_right bs ≡ true → head_right code bs ≡ true → rules_right read bs ≡ true → Accepted code read bs
  unfolding rules_right
  rules_tell k h e =
      let n : ℕ = cells_in bs in
      let a = past {t = eqb (length bs) (512 * blocks_for n)} e in
      let b = past {t = frames_right bs} a.1 in
      let c = past {t = every (cell_right read bs n) n} b.1 in
      let d = past {t = every (λ i. name_right bs n (place_in bs i)) (8 * cards_in bs)} c.1 in
      let f = not_past {t = shared (serial_in bs) n} d.1 in
      record { checks = k; limits = head_tells code bs h; long = eqb-true (length bs) (512 * blocks_for n) a.0; frames = b.0; cells = c.0; places = d.0; apart = f.0; chain = f.1 }

  rules_hold : Accepted code read bs → rules_right read bs ≡ true
  unfolding rules_right
  rules_hold A =
      let a : eqb (length bs) (512 * blocks_for (cells_in bs)) ≡ true = eq-eqb (length bs) (512 * blocks_for (cells_in bs)) A.long in
      let b = A.frames in
      let c = A.cells in
      let d = A.places in
      let f = A.apart in
      rw (a, b, c, d, f) A.chain

  module _ (cells contents : ℕ) where
    pub accepted_tells : refusal_of code read bs cells contents ≡ None → Accepted code read bs × (cells ≡ cells_in bs) × (contents ≡ cells_in bs)
    unfolding refusal_of
    accepted_tells e =
        let a = go_no {t = eqb (length bs) 0} BadLength e in
        let b = go_yes {t = eqb (length bs % 512) 0} BadLength a.1 in
        let c = go_yes {t = checks_right bs} BadCheck b.1 in
        let d = go_yes {t = archive_right code read bs} BadArchive c.1 in
        let f = go_yes {t = eqb cells (cells_in bs)} OutOfRange d.1 in
        let g = go_yes {t = eqb contents (cells_in bs)} OutOfRange f.1 in
        let h = past {t = head_right code bs} d.0 in
        (rules_tell c.0 h.0 h.1, eqb-true cells (cells_in bs) f.0, eqb-true contents (cells_in bs) g.0)

    pub accepted_holds : Accepted code read bs → cells ≡ cells_in bs → contents ≡ cells_in bs → refusal_of code read bs cells contents ≡ None
    unfolding refusal_of
    accepted_holds A ec ex =
        let l = A.long in
        let a : eqb (length bs) 0 ≡ false = ne_eqb (length bs) 0 (λ z. omega arith) in
        let b : eqb (length bs % 512) 0 ≡ true = eq-eqb (length bs % 512) 0 (omega arith) in
        let c = A.checks in
        let h = head_holds code bs A.limits in
        let r = rules_hold A in
        let f : eqb cells (cells_in bs) ≡ true = eq-eqb cells (cells_in bs) ec in
        let g : eqb contents (cells_in bs) ≡ true = eq-eqb contents (cells_in bs) ex in
        rw (a, b, c, h, r, f, g)
