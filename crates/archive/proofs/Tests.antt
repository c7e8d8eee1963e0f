-- The rules of one block, one name and one cell, test by test. Assumes nothing.
use Rattle.std.proofs.Common.{◌≡◌, ℕ, ◌-◌, ◌<◌, ◌≤◌, Bool, true, false, cond, not, eqb, ltb, List, take, drop, is_some, Option, refl, arith}
use Rattle.std.proofs.lemmas.Bool.{eq-eqb, ne_eqb, lt-ltb, le-ltb, eqb-true, eqb-false, ltb-false, false≢true}
use Rattle.octets.specs.Numbers.{un16}
use Rattle.archive.specs.Runs.{every}
use Rattle.archive.specs.Bytes.{cells_in, cards_in, links_in, code_in, next_serial_in, rounds_in, serial_in, form_in, link_in, rest_in}
use Rattle.archive.specs.Rules.{is_blank, limits, head_right, framed, name_right, cell_right}

-- a test that is passed
pub past : {t b : Bool} → cond t b false ≡ true → (t ≡ true) × (b ≡ true)
past {t = true} e = (refl, e)
past {t = false} e = absurd (false≢true e)

pub not_past : {t b : Bool} → cond t false b ≡ true → (t ≡ false) × (b ≡ true)
not_past {t = true} e = absurd (false≢true e)
not_past {t = false} e = (refl, e)

module _ (b n needs : ℕ) (bs : List ℕ) where
  pub frame_is : un16 bs ≡ b → un16 (drop 2 bs) ≡ n → is_blank (take (504 - needs) (drop needs (drop 4 bs))) ≡ framed b n needs bs
  unfolding framed
  frame_is e h =
      let t : eqb (un16 bs) b ≡ true = eq-eqb (un16 bs) b e in
      let s : eqb (un16 (drop 2 bs)) n ≡ true = eq-eqb (un16 (drop 2 bs)) n h in
      rw (t, s)

  pub frame_tells : framed b n needs bs ≡ true → (un16 bs ≡ b) × (un16 (drop 2 bs) ≡ n) × (is_blank (take (504 - needs) (drop needs (drop 4 bs))) ≡ true)
  unfolding framed
  frame_tells e =
      let p = past {t = eqb (un16 bs) b} e in
      let q = past {t = eqb (un16 (drop 2 bs)) n} p.1 in
      (eqb-true (un16 bs) b p.0, eqb-true (un16 (drop 2 bs)) n q.0, q.1)

not_is : (t : Bool) → not t ≡ cond t false true
not_is true = refl
not_is false = refl

module _ (bs : List ℕ) (n v : ℕ) where
  pub name_none : v ≡ 0 → true ≡ name_right bs n v
  unfolding name_right
  name_none e = let t : eqb v 0 ≡ true = eq-eqb v 0 e in rw t

  pub name_is : (v ≡ 0 → ⊥) → v ≤ n → not (eqb (serial_in bs (v - 1)) 0) ≡ name_right bs n v
  unfolding name_right
  name_is h l = let t : eqb v 0 ≡ false = ne_eqb v 0 h in let s : ltb n v ≡ false = le-ltb n v l in rw (t, s) (not_is (eqb (serial_in bs (v - 1)) 0))

module _ {C : Type 0} (read : List ℕ → Option C) (bs : List ℕ) (n k : ℕ) where
  pub cell_blank : serial_in bs k ≡ 0 → cond (is_blank (form_in bs k)) (is_blank (rest_in bs k)) false ≡ cell_right read bs n k
  unfolding cell_right
  cell_blank e = let t : eqb (serial_in bs k) 0 ≡ true = eq-eqb (serial_in bs k) 0 e in rw t

  pub cell_high : (serial_in bs k ≡ 0 → ⊥) → next_serial_in bs ≤ serial_in bs k → false ≡ cell_right read bs n k
  unfolding cell_right
  cell_high h l =
      let t : eqb (serial_in bs k) 0 ≡ false = ne_eqb (serial_in bs k) 0 h in
      let s : ltb (serial_in bs k) (next_serial_in bs) ≡ false = le-ltb (serial_in bs k) (next_serial_in bs) l in
      rw (t, s)

  pub cell_full : (serial_in bs k ≡ 0 → ⊥) → serial_in bs k < next_serial_in bs → cond (is_some (read (form_in bs k))) (every (λ i. name_right bs n (link_in bs k i)) 4) false ≡ cell_right read bs n k
  unfolding cell_right
  cell_full h l =
      let t : eqb (serial_in bs k) 0 ≡ false = ne_eqb (serial_in bs k) 0 h in
      let s : ltb (serial_in bs k) (next_serial_in bs) ≡ true = lt-ltb (serial_in bs k) (next_serial_in bs) l in
      rw (t, s)

-- what right numbers of a head are
pub record Limits (n c l d k s r : ℕ) : Type 0 where
  pub some : 1 ≤ n
  pub most : n ≤ 4096
  pub card : 1 ≤ c
  pub cards : c ≤ 8
  pub links : l ≡ 4
  pub code : d ≡ k
  pub next : 2 ≤ s
  pub rounds : r ≤ 1073741823

pub limits_tell : (n c l d k s r : ℕ) → limits n c l d k s r ≡ true → Limits n c l d k s r
limits_tell n c l d k s r e =
    let p = not_past {t = eqb n 0} e in
    let q = not_past {t = ltb 4096 n} p.1 in
    let u = not_past {t = eqb c 0} q.1 in
    let v = not_past {t = ltb 8 c} u.1 in
    let w = past {t = eqb l 4} v.1 in
    let x = past {t = eqb d k} w.1 in
    let y = not_past {t = ltb s 2} x.1 in
    let z = not_past {t = ltb 1073741823 r} y.1 in
    let n0 = eqb-false n 0 p.0 in
    let c0 = eqb-false c 0 u.0 in
    record {
      some = omega arith;
      most = ltb-false 4096 n q.0;
      card = omega arith;
      cards = ltb-false 8 c v.0;
      links = eqb-true l 4 w.0;
      code = eqb-true d k x.0;
      next = ltb-false s 2 y.0;
      rounds = ltb-false 1073741823 r z.0;
    }

pub limits_hold : (n c l d k s r : ℕ) → Limits n c l d k s r → limits n c l d k s r ≡ true
limits_hold n c l d k s r h =
    let p : eqb n 0 ≡ false = ne_eqb n 0 (λ e. omega (arith, h.some)) in
    let q : ltb 4096 n ≡ false = le-ltb 4096 n h.most in
    let u : eqb c 0 ≡ false = ne_eqb c 0 (λ e. omega (arith, h.card)) in
    let v : ltb 8 c ≡ false = le-ltb 8 c h.cards in
    let w : eqb l 4 ≡ true = eq-eqb l 4 h.links in
    let x : eqb d k ≡ true = eq-eqb d k h.code in
    let y : ltb s 2 ≡ false = le-ltb s 2 h.next in
    let z : ltb 1073741823 r ≡ false = le-ltb 1073741823 r h.rounds in
    rw (p, q, u, v, w, x, y, z)

pub head_tells : (kind : ℕ) (bs : List ℕ) → head_right kind bs ≡ true → Limits (cells_in bs) (cards_in bs) (links_in bs) (code_in bs) kind (next_serial_in bs) (rounds_in bs)
unfolding head_right
head_tells kind bs e = limits_tell (cells_in bs) (cards_in bs) (links_in bs) (code_in bs) kind (next_serial_in bs) (rounds_in bs) e

pub head_holds : (kind : ℕ) (bs : List ℕ) → Limits (cells_in bs) (cards_in bs) (links_in bs) (code_in bs) kind (next_serial_in bs) (rounds_in bs) → head_right kind bs ≡ true
unfolding head_right
head_holds kind bs h = limits_hold (cells_in bs) (cards_in bs) (links_in bs) (code_in bs) kind (next_serial_in bs) (rounds_in bs) h
