-- Reading what a store writes gives that store at rest.
use Rattle.std.proofs.Common.{◌≡◌, ℕ, zero, suc, ◌+◌, ◌-◌, ◌*◌, ◌/◌, ◌%◌, ◌<◌, ◌≤◌, Bool, true, false, cond, not, ◌&&◌, eqb, ltb, ◌⊎◌, List, [], ◌∷◌, map, length, get_or, is_some, Some, None, Option, sym, refl, ap, ◌∙◌, subst, inl, inr, add-one, arith}
use Rattle.std.specs.List.{slice_get, AllByRecursion as All}
use Rattle.std.proofs.lemmas.Bool.{cases_eq, cases_lt, cases_Bool, eq-eqb, ne_eqb, lt-ltb, le-ltb, false≢true, and_from}
use Rattle.std.proofs.lemmas.List.{get_or_past, get_or-map, length-map, ext_get_or}
use Rattle.octets.specs.Block.{block_of, check_right}
use Rattle.line.specs.Lines.{Among}
use Rattle.laws.specs.Steps.{Distinct}
use Rattle.machine.specs.declared.types.Record.{Record}
use Rattle.machine.specs.World.{Cell}
use Rattle.machine.specs.declared.types.Colour.TheVariants.{Zero}
use Rattle.machine.specs.World.{World, Name, see, at, used, serial_at, card, place, named, read_all, newborn, blank_card}
use Rattle.store.proofs.Cards.{read_four}
use Rattle.archive.specs.Runs.{every, tab}
use Rattle.archive.specs.Layout.{told, told_free, after, head_bytes, part_of, archive_block, archive_of, blocks_for}
use Rattle.archive.specs.Bytes.{unname, cells_in, cards_in, next_serial_in, first_in, place_in, serial_in, form_in, link_in, rest_in, next_in, free_in}
use Rattle.archive.specs.Rules.{is_blank, chunk, checks_right, framed, frames_right, name_right, cell_right, shared, count_free, follows, chain_right}
use Rattle.archive.specs.Reading.{links_of, cell_in, value_in, set_if, filled, places_of, card_with, card_in, chain_from, world_in}
use Rattle.archive.specs.Good.{Good, rested_cell, rested_card, value_of, at_rest}
use Rattle.archive.specs.Laws.{Back}
use Rattle.archive.proofs.Chains.{Chain, times, one, EachOnce, accepted}
use Rattle.archive.proofs.Chained.{Of, listed, chain_same}
use Rattle.archive.proofs.Serials.{distinct_no}
use Rattle.archive.proofs.Steps.{free_yes, free_not, free_low}
use Rattle.archive.proofs.Every.{every_all}
use Rattle.archive.proofs.Tests.{name_none, name_is, cell_blank, cell_full}
use Rattle.archive.proofs.Runs.{tab_is}
use Rattle.archive.proofs.Tables.{value_none, value_is, rest_same}
use Rattle.archive.proofs.Worlds.{cell_in_free, cell_in_used, place_at}
use Rattle.archive.proofs.Rests.{times_among, among_times}
use Rattle.archive.proofs.Accepted.{Accepted, accepted_holds}
use Rattle.archive.proofs.Written.{head_long, body_long, head_block, cells_blocked, bytes_long, chunk_is, cells_read, cards_read, links_read, code_read, next_read, rounds_read, first_read, place_read, free_says, used_says, FreeSays, UsedSays}

-- names

unname_told : {C : Type 0} (w : World C) (v : Name) → unname (told w.cells v) ≡ named w v
unname_told w None = refl
unname_told w (Some y) = here (at w y)
  where
    here : (c : Cell) → unname (see (λ r. y + 1) 0 c) ≡ see (λ r. Some y) None c
    here None = refl
    here (Some r) =
        let t : eqb (y + 1) 0 ≡ false = ne_eqb (y + 1) 0 (λ e. omega arith) in
        let m : (y + 1) - 1 ≡ y = omega arith in
        rw (t, m)

unname_free : (n : ℕ) (o : Option ℕ) → Of (λ x. x < n) o → unname (told_free n o) ≡ o
unname_free n None h = refl
unname_free n (Some x) h =
    let s : ltb x n ≡ true = lt-ltb x n h in
    let t : eqb (x + 1) 0 ≡ false = ne_eqb (x + 1) 0 (λ e. omega arith) in
    let m : (x + 1) - 1 ≡ x = omega arith in
    rw (s, t, m)

-- lists of free cells

nth_of : (P : ℕ → Type 0) (l : List ℕ) → All P l → Of P (slice_get l 0)
nth_of P [] a = tt
nth_of P (x ∷ l) a = a.0

after_of : (P : ℕ → Type 0) (k : ℕ) (l : List ℕ) → All P l → Of P (after l k)
unfolding after
after_of P k [] a = tt
after_of P k (x ∷ l) a = elim (cases_Bool (eqb x k)) [ inl e ↦ rw e (nth_of P l a.1) | inr e ↦ rw e (after_of P k l a.1) ]

chain_ext : (f g : ℕ → Option ℕ) (o : Option ℕ) (l : List ℕ) → Chain f o l → ((k : ℕ) → Among k l → f k ≡ g k) → Chain g o l
chain_ext f g o [] c h = c
chain_ext f g o (x ∷ l) c h = (c.0, chain_ext f g (g x) l (subst (λ p. Chain f p l) (h x (inl refl)) c.1) (λ k a. h k (inr a)))

chain_of : (l : List ℕ) → Distinct l → Chain (after l) (slice_get l 0) l
unfolding after
chain_of [] d = refl
chain_of (x ∷ l) d = (
  refl,
  subst (λ o. Chain (after (x ∷ l)) o l) (ap (λ b. cond b (slice_get l 0) (after l x)) (sym (eq-eqb x x refl)))
      (chain_ext (after l) (after (x ∷ l)) (slice_get l 0) l (chain_of l d.1)
      (λ k a. ap (λ b. cond b (slice_get l 0) (after l k)) (sym (ne_eqb x k (λ e. d.0 (subst (λ y. Among y l) (sym e) a)))))),
)

none_times : (k : ℕ) (l : List ℕ) → (Among k l → ⊥) → times k l ≡ 0
none_times k l h = elim (cases_lt 0 (times k l)) [ inl t ↦ absurd (h (times_among k l t)) | inr t ↦ omega arith ]

distinct_times : (k : ℕ) (l : List ℕ) → Distinct l → times k l ≤ 1
distinct_times k [] d = omega arith
distinct_times k (x ∷ l) d =
    elim (cases_eq x k) [
      | inl e ↦ omega (arith, ap one (eq-eqb x k e), none_times k l (λ a. d.0 (subst (λ y. Among y l) (sym e) a)))
      | inr e ↦ omega (arith, ap one (ne_eqb x k e), distinct_times k l d.1)
    ]

all_from : (P : ℕ → Type 0) (l : List ℕ) → ((k : ℕ) → Among k l → P k) → All P l
all_from P [] h = tt
all_from P (x ∷ l) h = (h x (inl refl), all_from P l (λ k a. h k (inr a)))

-- tables

and_no : (a b : Bool) → b ≡ false → (a && b) ≡ false
and_no true b e = e
and_no false b e = refl

filled_ext : {C : Type 0} (u v : ℕ → Option C) (old : List C) (n : ℕ) → ((k : ℕ) → k < n → u k ≡ v k) → filled u old n ≡ filled v old n
unfolding filled
filled_ext u v old zero h = refl
filled_ext u v old (suc n) h = ap (λ l. set_if l n (u n)) (filled_ext u v old n (λ k l. h k (omega arith))) ∙ ap (set_if (filled v old n) n) (h n (omega arith))

nth_some : {C : Type 0} (l : List C) (k : ℕ) → k < length l → (x : C) × (slice_get l k ≡ Some x)
nth_some [] k h = absurd (omega arith)
nth_some (x ∷ l) zero h = (x, refl)
nth_some (x ∷ l) (suc k) h = nth_some l k (omega arith)

read_length : {C : Type 0} (w : World C) (l : List Name) → length (read_all w l) ≡ length l
unfolding read_all
read_length w [] = refl
read_length w (v ∷ l) = ap (λ m. suc m) (read_length w l)

read_at : {C : Type 0} (w : World C) (l : List Name) (p : ℕ) → get_or (read_all w l) p None ≡ named w (get_or l p None)
unfolding read_all
read_at w [] p = refl
read_at w (v ∷ l) zero = refl
read_at w (v ∷ l) (suc p) = read_at w l p

module _ {C : Type 0} (code : ℕ) (form : C → List ℕ) (read : List ℕ → Option C) (sixteen : (x : C) → length (form x) ≡ 16) (again : (x : C) → read (form x) ≡ Some x) (small : code < 65536) (w : World C) (G : Good w) where
  abbrev n : ℕ
  n = length w.cells

  abbrev m : ℕ
  m = length w.cards

  abbrev bs : List ℕ
  bs = archive_of code form w

  pub record Here (k : ℕ) : Type 0 where
    pub rec : Record
    pub val : C
    pub cell : at w k ≡ Some rec
    pub content : slice_get w.contents k ≡ Some val
    pub low : 1 ≤ rec.serial
    pub high : rec.serial < w.next
    pub four : length rec.links ≡ 4
    pub says : UsedSays code form sixteen small w G k rec val

  cell_is : (k : ℕ) → k < n → (c : Cell) → at w k ≡ c → ((at w k ≡ None) × FreeSays code form sixteen small w G k) ⊎ Here k
  cell_is k l None e = inl (e, free_says code form sixteen small w G k l e)
  cell_is k l (Some r) e =
      let u : used w k ≡ true = ap (see (λ r. true) false) e in
      let s : serial_at w k ≡ r.serial = ap (see (λ r. r.serial) 0) e in
      let x = nth_some w.contents k (omega (arith, G.tables)) in
      let lo = G.above k u in
      let hi = G.below k u in
      let top = G.next_most in
      inr (record {
        rec = r;
        val = x.0;
        cell = e;
        content = x.1;
        low = omega arith;
        high = omega arith;
        four = sym (ap (λ c. length (see (λ r. r.links) [] c)) e) ∙ G.four k u;
        says = used_says code form sixteen small w G k r x.0 l e x.1 (omega arith);
      })

  cases : (k : ℕ) → k < n → ((at w k ≡ None) × FreeSays code form sixteen small w G k) ⊎ Here k
  cases k l = cell_is k l (at w k) refl

  not_zero : (k : ℕ) (H : Here k) → serial_in bs k ≡ 0 → ⊥
  not_zero k H z = let a = H.says.serial in let b = H.low in omega arith

  is_used : (k : ℕ) → Here k → used w k ≡ true
  is_used k H = ap (see (λ r. true) false) H.cell

  is_free : (k : ℕ) → at w k ≡ None → used w k ≡ false
  is_free k e = ap (see (λ r. true) false) e

  name_ok : (v : Name) → name_right bs n (told w.cells v) ≡ true
  name_ok None = sym (name_none bs n 0 refl)
  name_ok (Some y) =
      elim (cases_lt y n) [
        | inr l ↦ ap (name_right bs n) (ap (see (λ r. y + 1) 0) (get_or_past w.cells y None l)) ∙ sym (name_none bs n 0 refl)
        | inl l ↦ elim (cases y l) [
          | inl p ↦ ap (name_right bs n) (ap (see (λ r. y + 1) 0) p.0) ∙ sym (name_none bs n 0 refl)
          | inr H ↦
              let e : (y + 1) - 1 ≡ y = omega arith in
              ap (name_right bs n) (ap (see (λ r. y + 1) 0) H.cell) ∙ sym (name_is bs n (y + 1) (λ z. omega arith) (omega arith))
              ∙ ap not (ap (λ i. eqb (serial_in bs i) 0) e ∙ ne_eqb (serial_in bs y) 0 (not_zero y H))
        ]
      ]

  cell_ok : (k : ℕ) → k < n → cell_right read bs n k ≡ true
  cell_ok k l =
      elim (cases k l) [
        | inl p ↦ sym (cell_blank read bs n k p.1.serial) ∙ ap (λ b. cond b (is_blank (rest_in bs k)) false) p.1.blank ∙ p.1.rest
        | inr H ↦
            let lo : serial_in bs k < next_serial_in bs = omega (arith, H.says.serial, H.high, next_read code form sixteen small w G) in
            let some : is_some (read (form_in bs k)) ≡ true = ap (λ t. is_some (read t)) H.says.form_is ∙ ap is_some (again H.val) in
            sym (cell_full read bs n k (not_zero k H) lo) ∙ ap (λ b. cond b (every (λ i. name_right bs n (link_in bs k i)) 4) false) some
            ∙ every_all (λ i. name_right bs n (link_in bs k i)) 4 (λ i h. ap (name_right bs n) (H.says.link_is i h) ∙ name_ok (get_or H.rec.links i None))
      ]

  place_ok : (i : ℕ) → i < 8 * m → name_right bs n (place_in bs i) ≡ true
  place_ok i l =
      let e : 8 * (i / 8) + i % 8 ≡ i = omega arith in
      let p : i % 8 < 8 = omega arith in
      ap (λ j. name_right bs n (place_in bs j)) (sym e) ∙ ap (name_right bs n) (place_read code form sixteen small w G (i / 8) (i % 8) (omega arith) p) ∙ name_ok (place w (i / 8) (i % 8))

  apart : shared (serial_in bs) n ≡ false
  apart = distinct_no (serial_in bs) n (λ i j l h z e.
      elim (cases i h) [
        | inl p ↦ z p.1.serial
        | inr I ↦ elim (cases j (omega arith)) [
          | inl p ↦ z (sym e ∙ p.1.serial)
          | inr J ↦
              let a : serial_at w i ≡ serial_in bs i = ap (see (λ r. r.serial) 0) I.cell ∙ sym I.says.serial in
              let b : serial_at w j ≡ serial_in bs j = ap (see (λ r. r.serial) 0) J.cell ∙ sym J.says.serial in
              let q : i ≡ j = G.apart i j (is_used i I) (is_used j J) (a ∙ sym e ∙ sym b) in
              omega arith
        ]
      ])

  -- the chain

  are_low : All (λ x. x < n) w.free
  are_low = all_from (λ x. x < n) w.free (λ k a. (G.free_is k a).0)

  next_is : (k : ℕ) → Among k w.free → after w.free k ≡ next_in bs k
  next_is k a =
      let f = G.free_is k a in
      elim (cases k f.0) [
        | inl p ↦ sym (ap unname p.1.next ∙ unname_free n (after w.free k) (after_of (λ x. x < n) k w.free are_low))
        | inr H ↦ absurd (false≢true (sym f.1 ∙ is_used k H))
      ]

  first_is : slice_get w.free 0 ≡ first_in bs
  first_is = sym (ap unname (first_read code form sixteen small w G) ∙ unname_free n (slice_get w.free 0) (nth_of (λ x. x < n) w.free are_low))

  is_chain : Chain (next_in bs) (first_in bs) w.free
  is_chain = subst (λ o. Chain (next_in bs) o w.free) first_is (chain_ext (after w.free) (next_in bs) (slice_get w.free 0) w.free (chain_of w.free G.free_once) next_is)

  each_once : EachOnce (free_in bs n) n w.free
  each_once k =
      elim (cases_lt k n) [
        | inr l ↦
            let t : ltb k n ≡ false = le-ltb k n l in
            none_times k w.free (λ a. omega (arith, (G.free_is k a).0)) ∙ rw t
        | inl l ↦
            let t : ltb k n ≡ true = lt-ltb k n l in
            elim (cases k l) [
              | inl p ↦
                  let f : free_in bs n k ≡ true = free_yes bs n k l p.1.serial in
                  let a : Among k w.free = G.free_has k l (is_free k p.0) in
                  let e : times k w.free ≡ 1 = omega (arith, among_times k w.free a, distinct_times k w.free G.free_once) in
                  e ∙ sym (ap one (and_from (ltb k n) (free_in bs n k) t f))
              | inr H ↦
                  let f : free_in bs n k ≡ false = free_not bs n k (not_zero k H) in
                  none_times k w.free (λ a. false≢true (sym (G.free_is k a).1 ∙ is_used k H)) ∙ sym (ap one (and_no (ltb k n) (free_in bs n k) f))
            ]
      ]

  chain_ok : follows (next_in bs) (free_in bs n) (count_free (free_in bs n) n) (first_in bs) ≡ true
  chain_ok = accepted (next_in bs) (free_in bs n) n (free_low bs n) (first_in bs) w.free is_chain each_once

  -- each rule is kept

  block_check : (b : ℕ) → b < blocks_for n → check_right (archive_block code form w b) ≡ true
  block_check zero l = (head_block code form sixteen small w G).check
  block_check (suc b) l = (cells_blocked code form sixteen small w G b (omega arith)).check

  checks_ok : checks_right bs ≡ true
  unfolding checks_right
  checks_ok =
      let e = bytes_long code form sixteen small w G in
      every_all (λ b. check_right (chunk bs b)) (length bs / 512) (λ b l. ap check_right (chunk_is code form sixteen small w G b (omega arith)) ∙ block_check b (omega arith))

  head_frame : framed 0 0 (18 + 16 * cards_in bs) (chunk bs 0) ≡ true
  head_frame =
      ap (λ i. framed 0 0 (18 + 16 * i) (chunk bs 0)) (cards_read code form sixteen small w G) ∙ ap (framed 0 0 (18 + 16 * m)) (chunk_is code form sixteen small w G 0 (omega arith))
      ∙ ap (λ i. framed 0 0 i (block_of 0 0 (head_bytes code w))) (sym (head_long code form sixteen small w G)) ∙ (head_block code form sixteen small w G).frame

  cells_frame : (b : ℕ) → b < (n + 17) / 18 → framed (b + 1) (part_of (cells_in bs) b) (28 * part_of (cells_in bs) b) (chunk bs (b + 1)) ≡ true
  cells_frame b l =
      let B : List ℕ = archive_block code form w (suc b) in
      ap (λ i. framed (b + 1) (part_of i b) (28 * part_of i b) (chunk bs (b + 1))) (cells_read code form sixteen small w G)
      ∙ ap (λ i. framed i (part_of n b) (28 * part_of n b) (chunk bs i)) (add-one b)
      ∙ ap (framed (suc b) (part_of n b) (28 * part_of n b)) (chunk_is code form sixteen small w G (suc b) (omega arith))
      ∙ ap (λ i. framed (suc b) (part_of n b) i B) (sym (body_long code form sixteen small w G b)) ∙ (cells_blocked code form sixteen small w G b l).frame

  frames_ok : frames_right bs ≡ true
  unfolding frames_right
  frames_ok =
      let e = cells_read code form sixteen small w G in
      ap (λ t. cond t (every (λ b. framed (b + 1) (part_of (cells_in bs) b) (28 * part_of (cells_in bs) b) (chunk bs (b + 1))) ((cells_in bs + 17) / 18)) false) head_frame
      ∙ every_all (λ b. framed (b + 1) (part_of (cells_in bs) b) (28 * part_of (cells_in bs) b) (chunk bs (b + 1))) ((cells_in bs + 17) / 18)
      (λ b l. cells_frame b (subst (λ i. b < (i + 17) / 18) e l))

  chain_right_lem : chain_right bs n ≡ true
  unfolding chain_right
  chain_right_lem = chain_ok

  pub all_right : Accepted code read bs
  all_right =
      let e = sym (cells_read code form sixteen small w G) in
      let c = sym (cards_read code form sixteen small w G) in
      let s = G.some in
      let t = G.most in
      let u = G.card_some in
      let v = G.card_most in
      let x = G.next in
      let y = G.rounds in
      let p = next_read code form sixteen small w G in
      let q = rounds_read code form sixteen small w G in
      record {
        checks = checks_ok;
        limits = record {
          some = omega arith;
          most = omega arith;
          card = omega arith;
          cards = omega arith;
          links = links_read code form sixteen small w G;
          code = code_read code form sixteen small w G;
          next = omega arith;
          rounds = omega arith;
        };
        long = bytes_long code form sixteen small w G ∙ ap (λ i. 512 * blocks_for i) e;
        frames = frames_ok;
        cells = subst (λ i. every (cell_right read bs i) i ≡ true) e (every_all (cell_right read bs n) n cell_ok);
        places = subst (λ i. every (λ j. name_right bs i (place_in bs j)) (8 * cards_in bs) ≡ true) e
            (subst (λ i. every (λ j. name_right bs n (place_in bs j)) (8 * i) ≡ true) c (every_all (λ j. name_right bs n (place_in bs j)) (8 * m) place_ok));
        apart = subst (λ i. shared (serial_in bs) i ≡ false) e apart;
        chain = subst (λ i. chain_right bs i ≡ true) e chain_right_lem;
      }

  -- the store that is read

  cell_same : (k : ℕ) → k < n → rested_cell w (at w k) ≡ cell_in bs k
  cell_same k l =
      elim (cases k l) [
        | inl p ↦ ap (rested_cell w) p.0 ∙ sym (cell_in_free bs k p.1.serial)
        | inr H ↦
            let ls : List Name = H.rec.links in
            let name : (i : ℕ) → i < 4 → unname (link_in bs k i) ≡ named w (get_or ls i None) = λ i h. ap unname (H.says.link_is i h) ∙ unname_told w (get_or ls i None) in
            let a = name 0 (omega arith) in
            let b = name 1 (omega arith) in
            let c = name 2 (omega arith) in
            let d = name 3 (omega arith) in
            let f = read_four w ls H.four in
            let e : links_of bs k ≡ read_all w ls = cc in
            ap (rested_cell w) H.cell ∙ ap (λ s. Some (newborn s (read_all w ls) Zero)) (sym H.says.serial) ∙ ap (λ l. Some (newborn (serial_in bs k) l Zero)) (sym e)
            ∙ sym (cell_in_used bs k (not_zero k H))
      ]

  cells_same : tab (cell_in bs) (cells_in bs) ≡ map (rested_cell w) w.cells
  cells_same =
      ap (tab (cell_in bs)) (cells_read code form sixteen small w G)
      ∙ sym (tab_is (cell_in bs) n None (map (rested_cell w) w.cells) (length-map w.cells (rested_cell w)) (λ k l. get_or-map (rested_cell w) w.cells k None None l ∙ cell_same k l))

  value_same : (k : ℕ) → k < n → value_in read bs k ≡ value_of w k
  value_same k l =
      elim (cases k l) [
        | inl p ↦ sym (value_none read bs k p.1.serial) ∙ sym (ap (see (λ r. slice_get w.contents k) None) p.0)
        | inr H ↦
            sym (value_is read bs k (not_zero k H)) ∙ ap read H.says.form_is ∙ again H.val ∙ sym H.content ∙ sym (ap (see (λ r. slice_get w.contents k) None) H.cell)
      ]

  contents_same : (old : List C) → filled (value_in read bs) old (cells_in bs) ≡ filled (value_of w) old n
  contents_same old = ap (filled (value_in read bs) old) (cells_read code form sixteen small w G) ∙ filled_ext (value_in read bs) (value_of w) old n value_same

  places_same : (c : ℕ) → c < m → read_all w (card w c).places ≡ places_of bs c
  places_same c l =
      let ps : List Name = (card w c).places in
      let e : length ps ≡ 8 = G.eight c l in
      let r = read_length w ps in
      ext_get_or None (read_all w ps) (places_of bs c) (r ∙ e)
      (λ p h.
      let q : p < 8 = omega arith in
      read_at w ps p ∙ sym (place_at bs c p q ∙ ap unname (place_read code form sixteen small w G c p l q) ∙ unname_told w (get_or ps p None)))

  card_same : (c : ℕ) → c < m → rested_card w (card w c) ≡ card_in bs c
  unfolding card_in
  card_same c l = ap (λ ps. card_with ps w.rounds) (places_same c l) ∙ ap (card_with (places_of bs c)) (sym (rounds_read code form sixteen small w G))

  cards_same : tab (card_in bs) (cards_in bs) ≡ map (rested_card w) w.cards
  cards_same =
      ap (tab (card_in bs)) (cards_read code form sixteen small w G)
      ∙ sym (tab_is (card_in bs) m blank_card (map (rested_card w) w.cards) (length-map w.cards (rested_card w)) (λ c l. get_or-map (rested_card w) w.cards c blank_card blank_card l ∙ card_same c l))

  free_same : chain_from (next_in bs) (free_in bs (cells_in bs)) (count_free (free_in bs (cells_in bs)) (cells_in bs)) (first_in bs) ≡ w.free
  free_same =
      ap (λ i. chain_from (next_in bs) (free_in bs i) (count_free (free_in bs i) i) (first_in bs)) (cells_read code form sixteen small w G)
      ∙ chain_same (next_in bs) (first_in bs) (chain_from (next_in bs) (free_in bs n) (count_free (free_in bs n) n) (first_in bs)) w.free
      (listed (next_in bs) (free_in bs n) (count_free (free_in bs n) n) (first_in bs) chain_ok).0 is_chain

  pub all_same : (old : List C) → world_in read bs old ≡ at_rest w old
  unfolding world_in at_rest
  all_same old =
      rest_same _ _ _ _ _ _ _ _ _ _ _ _ _ _ cells_same (contents_same old) cards_same free_same
      (cards_read code form sixteen small w G) (next_read code form sixteen small w G) (rounds_read code form sixteen small w G)

pub back : {C : Type 0} (code : ℕ) (form : C → List ℕ) (read : List ℕ → Option C) → ((x : C) → length (form x) ≡ 16) → ((x : C) → read (form x) ≡ Some x) → code < 65536 → Back code form read
back code form read sixteen again small w old G lo =
    let e = sym (cells_read code form sixteen small w G) in (
      accepted_holds code read (archive_of code form w) (length w.cells) (length old) (all_right code form read sixteen again small w G) e (lo ∙ e),
      all_same code form read sixteen again small w G old,
    )
