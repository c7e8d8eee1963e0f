-- What the bytes that a store writes say.
use Rattle.std.proofs.Common.{◌≡◌, ℕ, zero, suc, ◌+◌, ◌*◌, ◌/◌, ◌%◌, ◌<◌, ◌≤◌, true, false, ltb, List, length, get_or, take, drop, Some, None, Option, sym, refl, ap, ◌∙◌, inl, inr, arith}
use Rattle.std.specs.List.{slice_get}
use Rattle.std.proofs.lemmas.Bool.{cases_lt, lt-ltb, le-ltb}
use Rattle.std.proofs.lemmas.List.{drop-drop, take_all, take_at, drop_at, length-append, get_or_past}
use Rattle.octets.specs.Numbers.{le16, un16}
use Rattle.octets.specs.Block.{block_of}
use Rattle.machine.specs.declared.types.Record.{Record}
use Rattle.machine.specs.World.{Cell}
use Rattle.machine.specs.World.{World, Name, see, at, card, place}
use Rattle.archive.specs.Runs.{run}
use Rattle.archive.specs.Layout.{told, told_free, after, link_bytes, form_of, record_bytes, free_bytes, cell_bytes, place_bytes, front_bytes, front_of, head_bytes, part_of, archive_block, archive_of, blocks_for}
use Rattle.archive.specs.Bytes.{cells_in, cards_in, links_in, code_in, next_serial_in, rounds_in, place_in, spot, serial_in, form_in, link_in, rest_in}
use Rattle.archive.specs.Rules.{is_blank, chunk}
use Rattle.archive.specs.Good.{Good}
use Rattle.archive.proofs.Glue.{inside, run_length, run_at, part_of_lem, two_read, four_read, Blocked, blocked}
use Rattle.archive.proofs.Cells.{cell_free, cell_used}

pub told_most : (h : List Cell) (v : Name) → told h v ≤ length h
told_most h None = omega arith
told_most h (Some x) =
    elim (cases_lt x (length h)) [
      | inr l ↦ rw (get_or_past h x None l) (omega arith)
      | inl l ↦ here (get_or h x None) l
    ]
  where
    here : (c : Cell) → x < length h → see (λ r. x + 1) 0 c ≤ length h
    here None l = omega arith
    here (Some r) l = omega arith

pub free_most : (n : ℕ) (v : Name) → told_free n v ≤ n
free_most n None = omega arith
free_most n (Some x) =
    elim (cases_lt x n) [
      | inl l ↦ let t : ltb x n ≡ true = lt-ltb x n l in rw t (omega arith)
      | inr l ↦ let t : ltb x n ≡ false = le-ltb x n l in rw t (omega arith)
    ]

link_part : (h : List Cell) (ls : List Name) (i : ℕ) → i < 4 → take 2 (drop (2 * i) (link_bytes h ls)) ≡ le16 (told h (get_or ls i None))
link_part h ls zero l = refl
link_part h ls (suc zero) l = refl
link_part h ls (suc (suc zero)) l = refl
link_part h ls (suc (suc (suc zero))) l = refl
link_part h ls (suc (suc (suc (suc i)))) l = absurd (omega arith)

form_long : {C : Type 0} (form : C → List ℕ) → ((x : C) → length (form x) ≡ 16) → (o : Option C) → length (form_of form o) ≡ 16
form_long form h None = refl
form_long form h (Some x) = h x

record_long : (s : ℕ) (f : List ℕ) (h : List Cell) (ls : List Name) → length f ≡ 16 → length (record_bytes s f (link_bytes h ls)) ≡ 28
record_long s f h ls e = omega (arith, length-append f (link_bytes h ls))

module _ {C : Type 0} (code : ℕ) (form : C → List ℕ) (sixteen : (x : C) → length (form x) ≡ 16) (small : code < 65536) (w : World C) (G : Good w) where
  abbrev n : ℕ
  n = length w.cells

  abbrev m : ℕ
  m = length w.cards

  abbrev bs : List ℕ
  bs = archive_of code form w

  most : n ≤ 4096
  most = G.most

  few : m ≤ 8
  few = G.card_most

  cell_long : (k : ℕ) → length (cell_bytes form w k) ≡ 28
  unfolding cell_bytes
  cell_long k = here (at w k)
    where
      here : (c : Cell) → length (see (λ r. record_bytes r.serial (form_of form (slice_get w.contents k)) (link_bytes w.cells r.links)) (free_bytes (told_free (length w.cells) (after w.free k))) c) ≡ 28
      here None = refl
      here (Some r) = record_long r.serial (form_of form (slice_get w.contents k)) w.cells r.links (form_long form sixteen (slice_get w.contents k))

  place_long : (c : ℕ) → length (place_bytes w c) ≡ 16
  unfolding place_bytes run
  place_long c = refl

  places_long : length (run (place_bytes w) m) ≡ 16 * m
  places_long = run_length 16 (place_bytes w) m (λ c l. place_long c)

  pub head_long : length (head_bytes code w) ≡ 18 + 16 * m
  unfolding head_bytes front_of
  head_long = length-append (front_of code w) (run (place_bytes w) m) ∙ omega (arith, places_long)

  pub head_block : Blocked 0 0 (head_bytes code w)
  head_block = blocked 0 0 (head_bytes code w) (omega arith) (omega arith) (omega (arith, head_long, few))

  abbrev pub body : ℕ → List ℕ
  body b = run (λ j. cell_bytes form w (18 * b + j)) (part_of n b)

  pub body_long : (b : ℕ) → length (body b) ≡ 28 * part_of n b
  body_long b = run_length 28 (λ j. cell_bytes form w (18 * b + j)) (part_of n b) (λ j l. cell_long (18 * b + j))

  pub cells_blocked : (b : ℕ) → b < (n + 17) / 18 → Blocked (suc b) (part_of n b) (body b)
  cells_blocked b l = blocked (suc b) (part_of n b) (body b) (omega (arith, most)) (omega arith) (omega (arith, body_long b))

  block_long : (b : ℕ) → b < blocks_for n → length (archive_block code form w b) ≡ 512
  block_long zero l = head_block.long
  block_long (suc b) l = (cells_blocked b (omega arith)).long

  pub bytes_long : length bs ≡ 512 * blocks_for n
  unfolding archive_of
  bytes_long = run_length 512 (archive_block code form w) (blocks_for n) block_long

  pub chunk_is : (b : ℕ) → b < blocks_for n → chunk bs b ≡ archive_block code form w b
  unfolding archive_of
  chunk_is b l = run_at 512 (archive_block code form w) b (blocks_for n) block_long l

  head_at : take (18 + 16 * m) (drop 4 bs) ≡ head_bytes code w
  head_at =
      sym (inside 4 (18 + 16 * m) 512 bs (omega (arith, few))) ∙ ap (λ t. take (18 + 16 * m) (drop 4 t)) (chunk_is 0 (omega arith))
      ∙ ap (λ i. take i (drop 4 (block_of 0 0 (head_bytes code w)))) (sym head_long) ∙ head_block.here

  abbrev first : ℕ
  first = told_free n (slice_get w.free 0)

  front_at : take 18 (drop 4 bs) ≡ front_bytes n m code w.next w.rounds first
  unfolding head_bytes front_of
  front_at = part_of_lem 4 (18 + 16 * m) 0 18 4 bs (head_bytes code w) head_at (omega arith) refl

  pub cells_read : cells_in bs ≡ n
  cells_read = two_read 4 n bs (omega (arith, most)) (part_of_lem 4 18 0 2 4 bs (front_bytes n m code w.next w.rounds first) front_at (omega arith) refl)

  pub cards_read : cards_in bs ≡ m
  cards_read = two_read 6 m bs (omega (arith, few)) (part_of_lem 4 18 2 2 6 bs (front_bytes n m code w.next w.rounds first) front_at (omega arith) refl)

  pub links_read : links_in bs ≡ 4
  links_read = two_read 8 4 bs (omega arith) (part_of_lem 4 18 4 2 8 bs (front_bytes n m code w.next w.rounds first) front_at (omega arith) refl)

  pub code_read : code_in bs ≡ code
  code_read = two_read 10 code bs small (part_of_lem 4 18 6 2 10 bs (front_bytes n m code w.next w.rounds first) front_at (omega arith) refl)

  pub next_read : next_serial_in bs ≡ w.next
  next_read = four_read 12 w.next bs G.next_most (part_of_lem 4 18 8 4 12 bs (front_bytes n m code w.next w.rounds first) front_at (omega arith) refl)

  pub rounds_read : rounds_in bs ≡ w.rounds
  rounds_read = four_read 16 w.rounds bs (omega (arith, G.rounds)) (part_of_lem 4 18 12 4 16 bs (front_bytes n m code w.next w.rounds first) front_at (omega arith) refl)

  pub first_read : un16 (drop 20 bs) ≡ first
  first_read = two_read 20 first bs (omega (arith, most, free_most n (slice_get w.free 0))) (part_of_lem 4 18 16 2 20 bs (front_bytes n m code w.next w.rounds first) front_at (omega arith) refl)

  places-at : take (16 * m) (drop 22 bs) ≡ run (place_bytes w) m
  unfolding head_bytes front_of
  places-at = part_of_lem 4 (18 + 16 * m) 18 (16 * m) 22 bs (head_bytes code w) head_at (omega arith) refl ∙ take_all (16 * m) (run (place_bytes w) m) (omega (arith, places_long))

  place_part : (c p : ℕ) → p < 8 → take 2 (drop (2 * p) (place_bytes w c)) ≡ le16 (told w.cells (place w c p))
  unfolding place_bytes
  place_part c p l = run_at 2 (λ p. le16 (told w.cells (get_or (card w c).places p None))) p 8 (λ b h. refl) l

  pub place_read : (c p : ℕ) → c < m → p < 8 → place_in bs (8 * c + p) ≡ told w.cells (place w c p)
  unfolding place_in
  place_read c p l h =
      let one : take 16 (drop (22 + 16 * c) bs) ≡ place_bytes w c =
      part_of_lem 22 (16 * m) (16 * c) 16 (22 + 16 * c) bs (run (place_bytes w) m) places-at (omega arith) refl ∙ run_at 16 (place_bytes w) c m (λ c l. place_long c) l in
      two_read (22 + 2 * (8 * c + p)) (told w.cells (place w c p)) bs (omega (arith, most, told_most w.cells (place w c p)))
      (part_of_lem (22 + 16 * c) 16 (2 * p) 2 (22 + 2 * (8 * c + p)) bs (place_bytes w c) one (omega arith) (omega arith) ∙ place_part c p h)

  pub cell_at : (k : ℕ) → k < n → take 28 (drop (spot k) bs) ≡ cell_bytes form w k
  cell_at k l =
      let b : ℕ = k / 18 in
      let j : ℕ = k % 18 in
      let jl : k % 18 < 18 = omega arith in
      let back : 18 * (k / 18) + k % 18 ≡ k = omega arith in
      let bl : k / 18 < (n + 17) / 18 = omega arith in
      let jp : k % 18 < part_of n (k / 18) = omega arith in
      let p : spot k ≡ 512 * suc (k / 18) + (4 + 28 * (k % 18)) = omega arith in
      let B : List ℕ = block_of (suc b) (part_of n b) (body b) in
      let in_body : take (28 * part_of n b) (drop 4 B) ≡ body b = ap (λ i. take i (drop 4 B)) (sym (body_long b)) ∙ (cells_blocked b bl).here in
      ap (λ i. take 28 (drop i bs)) p ∙ ap (take 28) (sym (drop-drop (4 + 28 * j) (512 * suc b) bs))
      ∙ sym (inside (4 + 28 * j) 28 512 (drop (512 * suc b) bs) (omega arith))
      ∙ ap (λ t. take 28 (drop (4 + 28 * j) t)) (chunk_is (suc b) (omega arith))
      ∙ part_of_lem 4 (28 * part_of n b) (28 * j) 28 (4 + 28 * j) B (body b) in_body (omega arith) refl
      ∙ run_at 28 (λ j. cell_bytes form w (18 * b + j)) j (part_of n b) (λ j l. cell_long (18 * b + j)) jp
      ∙ ap (cell_bytes form w) back

  -- a free cell
  pub record FreeSays (k : ℕ) : Type 0 where
    pub serial : serial_in bs k ≡ 0
    pub blank : is_blank (form_in bs k) ≡ true
    pub rest : is_blank (rest_in bs k) ≡ true
    pub next : link_in bs k 0 ≡ told_free n (after w.free k)

  pub free_says : (k : ℕ) → k < n → at w k ≡ None → FreeSays k
  unfolding serial_in form_in rest_in link_in
  free_says k l e =
      let v : ℕ = told_free n (after w.free k) in
      let h : take 28 (drop (spot k) bs) ≡ free_bytes v = cell_at k l ∙ sym (cell_free form w k e) in
      let s : ℕ = spot k in
      record {
        serial = four_read s 0 bs (omega arith) (part_of_lem s 28 0 4 s bs (free_bytes v) h (omega arith) (omega arith));
        blank = ap is_blank (part_of_lem s 28 4 16 (s + 4) bs (free_bytes v) h (omega arith) refl) ∙ refl;
        rest = ap is_blank (part_of_lem s 28 22 6 (s + 22) bs (free_bytes v) h (omega arith) refl) ∙ refl;
        next = two_read (s + 20 + 2 * 0) v bs (omega (arith, most, free_most n (after w.free k))) (part_of_lem s 28 20 2 (s + 20 + 2 * 0) bs (free_bytes v) h (omega arith) (omega arith));
      }

  -- a cell with a record
  pub record UsedSays (k : ℕ) (r : Record) (x : C) : Type 0 where
    pub serial : serial_in bs k ≡ r.serial
    pub form_is : form_in bs k ≡ form x
    pub link_is : (i : ℕ) → i < 4 → link_in bs k i ≡ told w.cells (get_or r.links i None)

  pub used_says : (k : ℕ) (r : Record) (x : C) → k < n → at w k ≡ Some r → slice_get w.contents k ≡ Some x → r.serial < 4294967296 → UsedSays k r x
  unfolding serial_in form_in link_in
  used_says k r x l e q low =
      let L : List ℕ = link_bytes w.cells r.links in
      let F : List ℕ = record_bytes r.serial (form x) L in
      let h : take 28 (drop (spot k) bs) ≡ F = cell_at k l ∙ sym (cell_used form w k r x e q) in
      let s : ℕ = spot k in
      let past : drop 20 F ≡ L = drop_at (form x) L 16 (sixteen x) in
      record {
        serial = four_read s r.serial bs low (part_of_lem s 28 0 4 s bs F h (omega arith) (omega arith));
        form_is = part_of_lem s 28 4 16 (s + 4) bs F h (omega arith) refl ∙ take_at (form x) L 16 (sixteen x);
        link_is = λ i il.
            two_read (s + 20 + 2 * i) (told w.cells (get_or r.links i None)) bs (omega (arith, most, told_most w.cells (get_or r.links i None)))
            (part_of_lem s 28 (20 + 2 * i) 2 (s + 20 + 2 * i) bs F h (omega arith) (omega arith)
            ∙ ap (take 2) (sym (drop-drop (2 * i) 20 F)) ∙ ap (λ t. take 2 (drop (2 * i) t)) past ∙ link_part w.cells r.links i il);
      }
