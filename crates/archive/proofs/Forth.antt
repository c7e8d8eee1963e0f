-- Bytes that are read are the bytes that the store read from them writes.
use Rattle.std.proofs.Common.{◌≡◌, ℕ, zero, suc, ◌+◌, ◌-◌, ◌*◌, ◌/◌, ◌%◌, ◌<◌, ◌≤◌, true, false, cond, eqb, ltb, List, [], ◌∷◌, length, get_or, take, drop, is_some, Some, None, Option, sym, refl, ap, ◌∙◌, inl, inr, add-one, arith}
use Rattle.std.specs.List.{slice_get, AllByRecursion as All}
use Rattle.std.proofs.lemmas.Bool.{cases_eq, cases_lt, eq-eqb, ne_eqb, lt-ltb, eqb-false, ltb-false, false≢true}
use Rattle.std.proofs.lemmas.List.{drop-drop, take_all, length-drop, length-take-le}
use Rattle.octets.specs.Numbers.{le16, un16, Bytes}
use Rattle.octets.specs.Block.{block_of, check_right}
use Rattle.machine.specs.declared.types.Colour.TheVariants.{Zero}
use Rattle.machine.specs.World.{World, newborn}
use Rattle.archive.specs.Runs.{run, every}
use Rattle.archive.specs.Layout.{told, told_free, after, free_bytes, cell_bytes, places_bytes, place_bytes, front_of, head_bytes, part_of, archive_block, archive_of, blocks_for}
use Rattle.archive.specs.Bytes.{unname, cells_in, cards_in, next_serial_in, rounds_in, first_in, place_in, spot, serial_in, form_in, link_in, rest_in, next_in, free_in}
use Rattle.archive.specs.Rules.{is_blank, chunk, checks_right, framed, frames_right, name_right, cell_right, count_free, follows, chain_right}
use Rattle.archive.specs.Reading.{links_of, value_in, places_of, chain_from, world_in}
use Rattle.archive.specs.Laws.{Forth, Once}
use Rattle.archive.proofs.Glue.{two_at, four-at, zeros_at, glue, run_from, inside, block_forth, take_bytes, drop_bytes}
use Rattle.archive.proofs.Chains.{Chain, times}
use Rattle.archive.proofs.Chained.{Of, listed, listed_once, chain_first, chain_after, first_of, next_of}
use Rattle.archive.proofs.Steps.{free_yes, free_low}
use Rattle.archive.proofs.Tests.{past, not_past, cell_blank, cell_high, cell_full}
use Rattle.archive.proofs.Every.{every_each}
use Rattle.archive.proofs.Cells.{cell_free, cell_used}
use Rattle.archive.proofs.Heads.{front_is}
use Rattle.archive.proofs.Tables.{value_is}
use Rattle.archive.proofs.Worlds.{cell_in_free, cell_in_used, place_at, filled_at, world_contents, world_free, world_next, world_rounds, world_long, world_count, world-at, world_card}
use Rattle.archive.proofs.Accepted.{Accepted, accepted_tells}

-- a number that names a free cell, or none, as it is written again
told_free_again : (n v : ℕ) → Of (λ x. x < n) (unname v) → told_free n (unname v) ≡ v
told_free_again n v h =
    elim (cases_eq v 0) [
      | inl z ↦ let t : eqb v 0 ≡ true = eq-eqb v 0 z in rw t (sym z)
      | inr z ↦
          let t : eqb v 0 ≡ false = ne_eqb v 0 z in
          let l : v - 1 < n = rw t at h in
          let s : ltb (v - 1) n ≡ true = lt-ltb (v - 1) n l in
          rw (t, s) (omega arith)
    ]

pub some_is : {X : Type 0} (o : Option X) → is_some o ≡ true → (x : X) × (o ≡ Some x)
some_is None e = absurd (false≢true e)
some_is (Some x) e = (x, refl)

-- what a right name says
pub name_tells : (bs : List ℕ) (n v : ℕ) → name_right bs n v ≡ true → (v ≡ 0 → ⊥) → (v ≤ n) × (serial_in bs (v - 1) ≡ 0 → ⊥)
unfolding name_right
name_tells bs n v e z =
    let t : eqb v 0 ≡ false = ne_eqb v 0 z in
    let f : cond (ltb n v) false (cond (eqb (serial_in bs (v - 1)) 0) false true) ≡ true = rw t at e in
    let p = not_past {t = ltb n v} f in
    let q = not_past {t = eqb (serial_in bs (v - 1)) 0} p.1 in
    (ltb-false n v p.0, eqb-false (serial_in bs (v - 1)) 0 q.0)

module _ {C : Type 0} (code : ℕ) (form : C → List ℕ) (read : List ℕ → Option C) (forthC : (bs : List ℕ) (x : C) → read bs ≡ Some x → form x ≡ bs) (bs : List ℕ) (old : List C) (f : Bytes bs) (A : Accepted code read bs) (lo : length old ≡ cells_in bs) where
  abbrev n : ℕ
  n = cells_in bs

  abbrev w : World C
  w = world_in read bs old

  most : n ≤ 4096
  most = A.limits.most

  few : cards_in bs ≤ 8
  few = A.limits.cards

  chain_ok : follows (next_in bs) (free_in bs n) (count_free (free_in bs n) n) (first_in bs) ≡ true
  unfolding chain_right
  chain_ok = A.chain

  abbrev free : List ℕ
  free = chain_from (next_in bs) (free_in bs n) (count_free (free_in bs n) n) (first_in bs)

  is_chain : Chain (next_in bs) (first_in bs) free
  is_chain = (listed (next_in bs) (free_in bs n) (count_free (free_in bs n) n) (first_in bs) chain_ok).0

  all_low : (l : List ℕ) → All (λ k. free_in bs n k ≡ true) l → All (λ k. k < n) l
  all_low [] a = tt
  all_low (x ∷ l) a = (free_low bs n x a.0, all_low l a.1)

  are_low : All (λ k. k < n) free
  are_low = all_low free (listed (next_in bs) (free_in bs n) (count_free (free_in bs n) n) (first_in bs) chain_ok).1

  is_listed : (k : ℕ) → k < n → serial_in bs k ≡ 0 → 0 < times k free
  is_listed k l z =
      let t : free_in bs n k ≡ true = free_yes bs n k l z in
      let u : ltb k n ≡ true = lt-ltb k n l in
      let e = listed_once (next_in bs) (free_in bs n) n (free_low bs n) (first_in bs) chain_ok k in
      let e' : times k free ≡ 1 = e ∙ rw (t, u) in
      omega arith

  -- a name of a record, or none, as it is written again
  told_again : (v : ℕ) → name_right bs n v ≡ true → told w.cells (unname v) ≡ v
  told_again v e =
      elim (cases_eq v 0) [
        | inl z ↦ let t : eqb v 0 ≡ true = eq-eqb v 0 z in rw t (sym z)
        | inr z ↦
            let r = name_tells bs n v e z in
            let t : eqb v 0 ≡ false = ne_eqb v 0 z in
            let a : get_or w.cells (v - 1) None ≡ Some (newborn (serial_in bs (v - 1)) (links_of bs (v - 1)) Zero) = world-at read bs old (v - 1) (omega (arith, r.0)) ∙ cell_in_used bs (v - 1) r.1 in
            rw (t, a) (omega arith)
      ]

  spot_in : (k : ℕ) → k < n → spot k + 28 ≤ length bs
  spot_in k l = let h = A.long in let m = most in let q : k / 18 ≤ (n - 1) / 18 = omega arith in omega arith

  cell_ok : (k : ℕ) → k < n → cell_right read bs n k ≡ true
  cell_ok k l = every_each (cell_right read bs n) k n l A.cells

  link_is : (k i t : ℕ) → t ≡ spot k + 20 + 2 * i → link_in bs k i ≡ un16 (drop t bs)
  unfolding link_in
  link_is k i t e = ap (λ j. un16 (drop j bs)) (sym e)

  free_bytes_lem : (k : ℕ) → k < n → serial_in bs k ≡ 0 → free_bytes (link_in bs k 0) ≡ take 28 (drop (spot k) bs)
  unfolding serial_in form_in rest_in
  free_bytes_lem k l z =
      let s : ℕ = spot k in
      let h : s + 28 ≤ length bs = spot_in k l in
      let p = past {t = is_blank (form_in bs k)} (cell_blank read bs n k z ∙ cell_ok k l) in
      glue 4 24 s (s + 4) bs (four-at s 0 bs (omega arith) f (sym z))
      (glue 16 8 (s + 4) (s + 20) bs (zeros_at 16 (drop (s + 4) bs) (simp length-drop (omega arith)) p.0)
      (glue 2 6 (s + 20) (s + 22) bs (two_at (s + 20) (link_in bs k 0) bs (omega arith) f (link_is k 0 (s + 20) (omega arith)))
      (zeros_at 6 (drop (s + 22) bs) (simp length-drop (omega arith)) p.1) (omega arith)) (omega arith)) refl

  free_forth : (k : ℕ) → k < n → serial_in bs k ≡ 0 → cell_bytes form w k ≡ take 28 (drop (spot k) bs)
  free_forth k l z =
      let there = is_listed k l z in
      let num : told_free (length w.cells) (after w.free k) ≡ link_in bs k 0 =
      ap (λ m. told_free m (after w.free k)) (world_long read bs old) ∙ ap (λ l. told_free n (after l k)) (world_free read bs old)
      ∙ ap (told_free n) (chain_after (next_in bs) k (first_in bs) free is_chain there)
      ∙ told_free_again n (link_in bs k 0) (next_of (next_in bs) (λ x. x < n) k (first_in bs) free is_chain are_low there) in
      sym (cell_free form w k (world-at read bs old k l ∙ cell_in_free bs k z)) ∙ ap free_bytes num ∙ free_bytes_lem k l z

  low_serial : (k : ℕ) → k < n → (serial_in bs k ≡ 0 → ⊥) → serial_in bs k < next_serial_in bs
  low_serial k l z =
      elim (cases_lt (serial_in bs k) (next_serial_in bs)) [ inl h ↦ h | inr h ↦ absurd (false≢true (cell_high read bs n k z h ∙ cell_ok k l)) ]

  full_cell : (k : ℕ) → k < n → (serial_in bs k ≡ 0 → ⊥) → (is_some (read (form_in bs k)) ≡ true) × (every (λ i. name_right bs n (link_in bs k i)) 4 ≡ true)
  full_cell k l z = past {t = is_some (read (form_in bs k))} (cell_full read bs n k z (low_serial k l z) ∙ cell_ok k l)

  link_told : (k i t : ℕ) → k < n → (serial_in bs k ≡ 0 → ⊥) → i < 4 → t ≡ spot k + 20 + 2 * i → le16 (told w.cells (unname (link_in bs k i))) ≡ take 2 (drop t bs)
  link_told k i t l z h e =
      let ok : name_right bs n (link_in bs k i) ≡ true = every_each (λ i. name_right bs n (link_in bs k i)) i 4 h (full_cell k l z).1 in
      ap le16 (told_again (link_in bs k i) ok) ∙ two_at t (link_in bs k i) bs (omega (arith, spot_in k l)) f (link_is k i t e)

  used_forth : (k : ℕ) → k < n → (serial_in bs k ≡ 0 → ⊥) → cell_bytes form w k ≡ take 28 (drop (spot k) bs)
  unfolding serial_in form_in
  used_forth k l z =
      let s : ℕ = spot k in
      let h : s + 28 ≤ length bs = spot_in k l in
      let x = some_is (read (form_in bs k)) (full_cell k l z).0 in
      let there : slice_get w.contents k ≡ Some x.0 =
      ap (λ c. slice_get c k) (world_contents read bs old) ∙ filled_at (value_in read bs) old n k x.0 l (omega arith) (sym (value_is read bs k z) ∙ x.1) in
      sym (cell_used form w k (newborn (serial_in bs k) (links_of bs k) Zero) x.0 (world-at read bs old k l ∙ cell_in_used bs k z) there)
      ∙ glue 4 24 s (s + 4) bs (four-at s (serial_in bs k) bs (omega arith) f refl)
      (glue 16 8 (s + 4) (s + 20) bs (forthC (form_in bs k) x.0 x.1)
      (glue 2 6 (s + 20) (s + 22) bs (link_told k 0 (s + 20) l z (omega arith) (omega arith))
      (glue 2 4 (s + 22) (s + 24) bs (link_told k 1 (s + 22) l z (omega arith) (omega arith))
      (glue 2 2 (s + 24) (s + 26) bs (link_told k 2 (s + 24) l z (omega arith) (omega arith)) (link_told k 3 (s + 26) l z (omega arith) (omega arith)) (omega arith)) (omega arith)) (omega arith)) (omega arith)) refl

  cell_forth : (k : ℕ) → k < n → cell_bytes form w k ≡ take 28 (drop (spot k) bs)
  cell_forth k l = elim (cases_eq (serial_in bs k) 0) [ inl z ↦ free_forth k l z | inr z ↦ used_forth k l z ]

  long : 512 ≤ length bs
  long = omega (arith, A.long)

  front_forth : front_of code w ≡ take 18 (drop 4 bs)
  front_forth =
      let h = long in
      let v : ℕ = un16 (drop 20 bs) in
      let first : told_free (length w.cells) (slice_get w.free 0) ≡ v =
      ap (λ m. told_free m (slice_get w.free 0)) (world_long read bs old) ∙ ap (λ l. told_free n (slice_get l 0)) (world_free read bs old)
      ∙ ap (told_free n) (chain_first (next_in bs) (first_in bs) free is_chain)
      ∙ told_free_again n v (first_of (next_in bs) (λ x. x < n) (first_in bs) free is_chain are_low) in
      sym (front_is code w n (cards_in bs) code (next_serial_in bs) (rounds_in bs) v (sym (world_long read bs old)) (sym (world_count read bs old)) refl (sym (world_next read bs old)) (sym (world_rounds read bs old)) (sym first))
      ∙ glue 2 16 4 6 bs (two_at 4 n bs (omega arith) f refl)
      (glue 2 14 6 8 bs (two_at 6 (cards_in bs) bs (omega arith) f refl)
      (glue 2 12 8 10 bs (two_at 8 4 bs (omega arith) f (sym A.limits.links))
      (glue 2 10 10 12 bs (two_at 10 code bs (omega arith) f (sym A.limits.code))
      (glue 4 6 12 16 bs (four-at 12 (next_serial_in bs) bs (omega arith) f refl)
      (glue 4 2 16 20 bs (four-at 16 (rounds_in bs) bs (omega arith) f refl) (two_at 20 v bs (omega arith) f refl) refl) refl) refl) refl) refl) refl

  one_place : (c p : ℕ) → c < cards_in bs → p < 8 → le16 (told w.cells (get_or (places_of bs c) p None)) ≡ take 2 (drop (2 * p) (drop (16 * c) (drop 22 bs)))
  unfolding place_in
  one_place c p l h =
      let i : ℕ = 8 * c + p in
      let m = few in
      let ok : name_right bs n (place_in bs i) ≡ true = every_each (λ i. name_right bs n (place_in bs i)) i (8 * cards_in bs) (omega arith) A.places in
      let pos : 22 + 2 * i ≡ 22 + (16 * c + 2 * p) = omega arith in
      ap (λ o. le16 (told w.cells o)) (place_at bs c p h) ∙ ap le16 (told_again (place_in bs i) ok)
      ∙ two_at (22 + 2 * i) (place_in bs i) bs (omega (arith, long)) f refl
      ∙ ap (λ j. take 2 (drop j bs)) pos
      ∙ ap (take 2) (sym (drop-drop (16 * c + 2 * p) 22 bs) ∙ sym (drop-drop (2 * p) (16 * c) (drop 22 bs)))

  place_forth : (c : ℕ) → c < cards_in bs → place_bytes w c ≡ take 16 (drop (16 * c) (drop 22 bs))
  unfolding place_bytes
  place_forth c l =
      ap (λ k. places_bytes w.cells k.places) (world_card read bs old c l)
      ∙ run_from 2 (λ p. le16 (told w.cells (get_or (places_of bs c) p None))) (drop (16 * c) (drop 22 bs)) 8 (λ p h. one_place c p l h)

  head_forth : head_bytes code w ≡ take (18 + 16 * cards_in bs) (drop 4 bs)
  unfolding head_bytes
  head_forth =
      glue 18 (16 * cards_in bs) 4 22 bs front_forth
      (ap (run (place_bytes w)) (world_count read bs old) ∙ run_from 16 (place_bytes w) (drop 22 bs) (cards_in bs) place_forth) refl

  blocks_are : length bs / 512 ≡ blocks_for n
  blocks_are = let h = A.long in omega arith

  chunk_long : (b : ℕ) → b < blocks_for n → length (chunk bs b) ≡ 512
  chunk_long b l = length-take-le 512 (drop (512 * b) bs) (simp length-drop (omega (arith, A.long)))

  chunk_check : (b : ℕ) → b < blocks_for n → check_right (chunk bs b) ≡ true
  unfolding checks_right
  chunk_check b l = every_each (λ b. check_right (chunk bs b)) b (length bs / 512) (omega (arith, blocks_are)) A.checks

  frames_ok : (framed 0 0 (18 + 16 * cards_in bs) (chunk bs 0) ≡ true) × (every (λ b. framed (b + 1) (part_of n b) (28 * part_of n b) (chunk bs (b + 1))) ((n + 17) / 18) ≡ true)
  unfolding frames_right
  frames_ok = past {t = framed 0 0 (18 + 16 * cards_in bs) (chunk bs 0)} A.frames

  frame_ok : (b : ℕ) → b < (n + 17) / 18 → framed (suc b) (part_of n b) (28 * part_of n b) (chunk bs (suc b)) ≡ true
  frame_ok b l =
      ap (λ i. framed i (part_of n b) (28 * part_of n b) (chunk bs i)) (sym (add-one b))
      ∙ every_each (λ b. framed (b + 1) (part_of n b) (28 * part_of n b) (chunk bs (b + 1))) b ((n + 17) / 18) l frames_ok.1

  slot : (b j : ℕ) → j < 18 → take 28 (drop (spot (18 * b + j)) bs) ≡ take 28 (drop (28 * j) (drop 4 (chunk bs (suc b))))
  slot b j h =
      let q : (18 * b + j) / 18 ≡ b = omega arith in
      let r : (18 * b + j) % 18 ≡ j = omega arith in
      let p : spot (18 * b + j) ≡ 512 * suc b + (4 + 28 * j) = ap (λ i. 512 * (i + 1) + 4 + 28 * ((18 * b + j) % 18)) q ∙ ap (λ i. 512 * (b + 1) + 4 + 28 * i) r ∙ omega arith in
      ap (λ i. take 28 (drop i bs)) p ∙ ap (take 28) (sym (drop-drop (4 + 28 * j) (512 * suc b) bs))
      ∙ sym (inside (4 + 28 * j) 28 512 (drop (512 * suc b) bs) (omega arith))
      ∙ ap (take 28) (sym (drop-drop (28 * j) 4 (chunk bs (suc b))))

  block_is : (b : ℕ) → b < blocks_for n → archive_block code form w b ≡ take 512 (drop (512 * b) bs)
  block_is zero l =
      block_forth (chunk bs 0) 0 0 (18 + 16 * cards_in bs) (head_bytes code w) (chunk_long 0 l) (take_bytes 512 bs f) (omega (arith, few)) (chunk_check 0 l) frames_ok.0
      (head_forth ∙ sym (inside 4 (18 + 16 * cards_in bs) 512 bs (omega (arith, few))))
  block_is (suc b) l =
      let m : ℕ = part_of n b in
      let g : ℕ → List ℕ = λ j. cell_bytes form w (18 * b + j) in
      ap (λ k. block_of (suc b) (part_of k b) (run g (part_of k b))) (world_long read bs old)
      ∙ block_forth (chunk bs (suc b)) (suc b) m (28 * m) (run g m) (chunk_long (suc b) l) (take_bytes 512 (drop (512 * suc b) bs) (drop_bytes (512 * suc b) bs f)) (omega arith) (chunk_check (suc b) l) (frame_ok b (omega arith))
      (run_from 28 g (drop 4 (chunk bs (suc b))) m (λ j h. cell_forth (18 * b + j) (omega arith) ∙ slot b j (omega arith)))

  pub whole : archive_of code form w ≡ bs
  unfolding archive_of
  whole =
      ap (λ m. run (archive_block code form w) (blocks_for m)) (world_long read bs old) ∙ run_from 512 (archive_block code form w) bs (blocks_for n) block_is
      ∙ take_all (512 * blocks_for n) bs (omega (arith, A.long))

pub forth : {C : Type 0} (code : ℕ) (form : C → List ℕ) (read : List ℕ → Option C) → ((bs : List ℕ) (x : C) → read bs ≡ Some x → form x ≡ bs) → Forth code form read
forth code form read h bs cells old f e =
    let r = accepted_tells code read bs cells (length old) e in
    whole code form read h bs old f r.0 r.2

pub once : {C : Type 0} (code : ℕ) (form : C → List ℕ) (read : List ℕ → Option C) → ((bs : List ℕ) (x : C) → read bs ≡ Some x → form x ≡ bs) → Once code read
once code form read h bs cs m n old new f g d e s =
    sym (forth code form read h bs m old f d) ∙ ap (archive_of code form) s ∙ forth code form read h cs n new g e
