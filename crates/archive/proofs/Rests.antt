-- A store that was read is at rest.
use Rattle.std.proofs.Common.{◌≡◌, ℕ, zero, suc, ◌+◌, ◌-◌, ◌*◌, ◌<◌, ◌≤◌, Bool, true, false, cond, not, ◌&&◌, eqb, ltb, ◌⊎◌, List, [], ◌∷◌, length, get_or, is_some, Some, None, Option, sym, refl, ap, ◌∙◌, subst, inl, inr, arith}
use Rattle.std.specs.List.{AllByRecursion as All}
use Rattle.std.proofs.lemmas.Bool.{cases_eq, cases_lt, eq-eqb, ne_eqb, lt-ltb, eqb-true, ltb-true, false≢true, and_parts}
use Rattle.std.proofs.lemmas.Option.{none-some}
use Rattle.std.proofs.lemmas.List.{get_or_past, length-replicate, places}
use Rattle.line.specs.Lines.{Among}
use Rattle.laws.specs.Steps.{AtRest, Distinct}
use Rattle.machine.specs.declared.types.Record.{Record}
use Rattle.machine.specs.declared.types.Card.{Card}
use Rattle.machine.specs.declared.types.Colour.TheVariants.{Zero}
use Rattle.machine.specs.World.{World, Name, see, at, used, serial_at, link, card, place, blank_card, newborn}
use Rattle.archive.specs.Bytes.{unname, cells_in, cards_in, next_serial_in, rounds_in, first_in, place_in, serial_in, form_in, link_in, next_in, free_in}
use Rattle.archive.specs.Rules.{name_right, cell_right, count_free, follows, chain_right}
use Rattle.archive.specs.Reading.{links_of, places_of, card_with, chain_from, world_in}
use Rattle.archive.specs.Laws.{Starts}
use Rattle.archive.proofs.Chains.{times, one, EachOnce}
use Rattle.archive.proofs.Chained.{listed, listed_once}
use Rattle.archive.proofs.Serials.{distinct_means}
use Rattle.archive.proofs.Steps.{free_yes, free_low}
use Rattle.archive.proofs.Tests.{past, cell_high, cell_full}
use Rattle.archive.proofs.Every.{every_each}
use Rattle.archive.proofs.Tables.{filled-length}
use Rattle.archive.proofs.Forth.{name_tells}
use Rattle.archive.proofs.Worlds.{cell_in_free, cell_in_used, place_at, world_long, world_count, world-at, world_card}
use Rattle.archive.proofs.Accepted.{Accepted, accepted_tells}

-- lists of cells

pub times_among : (k : ℕ) (l : List ℕ) → 0 < times k l → Among k l
times_among k [] t = absurd (omega arith)
times_among k (x ∷ l) t = elim (cases_eq x k) [ inl e ↦ inl (sym e) | inr e ↦ inr (times_among k l (omega (arith, ap one (ne_eqb x k e)))) ]

pub among_times : (k : ℕ) (l : List ℕ) → Among k l → 0 < times k l
among_times k [] a = absurd a
among_times k (x ∷ l) (inl e) = omega (arith, ap one (eq-eqb x k (sym e)))
among_times k (x ∷ l) (inr a) = omega (arith, among_times k l a)

once_distinct : (l : List ℕ) → ((k : ℕ) → times k l ≤ 1) → Distinct l
once_distinct [] h = tt
once_distinct (x ∷ l) h = (λ a. omega (arith, h x, among_times x l a, ap one (eq-eqb x x refl)), once_distinct l (λ k. omega (arith, h k)))

pub all_among : (P : ℕ → Type 0) (k : ℕ) (l : List ℕ) → All P l → Among k l → P k
all_among P k [] h a = absurd a
all_among P k (x ∷ l) h (inl e) = subst P (sym e) h.0
all_among P k (x ∷ l) h (inr a) = all_among P k l h.1 a

not_zero : (b : Bool) → cond b 1 0 ≤ 1
not_zero true = omega arith
not_zero false = omega arith

-- a link within the four, or none
link_cases : (bs : List ℕ) (k i : ℕ) → ((i < 4) × (get_or (links_of bs k) i None ≡ unname (link_in bs k i))) ⊎ (get_or (links_of bs k) i None ≡ None)
link_cases bs k zero = inl (omega arith, refl)
link_cases bs k (suc zero) = inl (omega arith, refl)
link_cases bs k (suc (suc zero)) = inl (omega arith, refl)
link_cases bs k (suc (suc (suc zero))) = inl (omega arith, refl)
link_cases bs k (suc (suc (suc (suc i)))) = inr refl

module _ {C : Type 0} (code : ℕ) (read : List ℕ → Option C) (bs : List ℕ) (old : List C) (A : Accepted code read bs) (lo : length old ≡ cells_in bs) where
  abbrev n : ℕ
  n = cells_in bs

  abbrev w : World C
  w = world_in read bs old

  abbrev record_in : ℕ → Record
  record_in x = newborn (serial_in bs x) (links_of bs x) Zero

  -- a cell is free, or has just the record that its bytes say
  pub record Full (x : ℕ) : Type 0 where
    pub low : x < n
    pub serial : serial_in bs x ≡ 0 → ⊥
    pub here : at w x ≡ Some (record_in x)

  cell_cases : (x : ℕ) → (at w x ≡ None) ⊎ Full x
  cell_cases x =
      elim (cases_lt x n) [
        | inr l ↦ inl (get_or_past w.cells x None (omega (arith, world_long read bs old)))
        | inl l ↦ elim (cases_eq (serial_in bs x) 0) [
          | inl z ↦ inl (world-at read bs old x l ∙ cell_in_free bs x z)
          | inr z ↦ inr (record { low = l; serial = z; here = world-at read bs old x l ∙ cell_in_used bs x z })
        ]
      ]

  seen : {X : Type 0} (g : Record → X) (d a : X) → d ≡ a → ((s : ℕ) (ls : List Name) → g (newborn s ls Zero) ≡ a) → (x : ℕ) → see g d (at w x) ≡ a
  seen g d a e h x =
      elim (cell_cases x) [
        | inl p ↦ ap (see g d) p ∙ e
        | inr p ↦ ap (see g d) p.here ∙ h (serial_in bs x) (links_of bs x)
      ]

  is_used : (x : ℕ) → Full x → used w x ≡ true
  is_used x p = ap (see (λ r. true) false) p.here

  is_full : (x : ℕ) → used w x ≡ true → Full x
  is_full x u = elim (cell_cases x) [ inl p ↦ absurd (false≢true (sym (ap (see (λ r. true) false) p) ∙ u)) | inr p ↦ p ]

  full : (x : ℕ) → x < n → (serial_in bs x ≡ 0 → ⊥) → Full x
  full x l z = record { low = l; serial = z; here = world-at read bs old x l ∙ cell_in_used bs x z }

  -- a right name that is not empty names a record
  named_used : (v x : ℕ) → name_right bs n v ≡ true → unname v ≡ Some x → used w x ≡ true
  named_used v x e s =
      elim (cases_eq v 0) [
        | inl z ↦ absurd (none-some x (ap (λ b. cond b None (Some (v - 1))) (sym (eq-eqb v 0 z)) ∙ s))
        | inr z ↦
            let r = name_tells bs n v e z in
            let p : Some (v - 1) ≡ Some x = ap (λ b. cond b None (Some (v - 1))) (sym (ne_eqb v 0 z)) ∙ s in
            let q : v - 1 ≡ x = cc in
            subst (λ y. used w y ≡ true) q (is_used (v - 1) (full (v - 1) (omega (arith, r.0)) r.1))
      ]

  cell_ok : (k : ℕ) → k < n → cell_right read bs n k ≡ true
  cell_ok k l = every_each (cell_right read bs n) k n l A.cells

  low_serial : (k : ℕ) → k < n → (serial_in bs k ≡ 0 → ⊥) → serial_in bs k < next_serial_in bs
  low_serial k l z =
      elim (cases_lt (serial_in bs k) (next_serial_in bs)) [ inl h ↦ h | inr h ↦ absurd (false≢true (cell_high read bs n k z h ∙ cell_ok k l)) ]

  link_ok : (k i : ℕ) → k < n → (serial_in bs k ≡ 0 → ⊥) → i < 4 → name_right bs n (link_in bs k i) ≡ true
  link_ok k i l z h = every_each (λ i. name_right bs n (link_in bs k i)) i 4 h (past {t = is_some (read (form_in bs k))} (cell_full read bs n k z (low_serial k l z) ∙ cell_ok k l)).1

  links_used : (y i x : ℕ) → link w y i ≡ Some x → used w x ≡ true
  links_used y i x e =
      elim (cell_cases y) [
        | inl p ↦ absurd (none-some x (sym (ap (see (λ r. get_or r.links i None) None) p) ∙ e))
        | inr p ↦
            let f : get_or (links_of bs y) i None ≡ Some x = sym (ap (see (λ r. get_or r.links i None) None) p.here) ∙ e in
            elim (link_cases bs y i) [
              | inl q ↦ named_used (link_in bs y i) x (link_ok y i p.low p.serial q.0) (sym q.1 ∙ f)
              | inr q ↦ absurd (none-some x (sym q ∙ f))
            ]
      ]

  card_past : (c : ℕ) → cards_in bs ≤ c → card w c ≡ blank_card
  card_past c l = get_or_past w.cards c blank_card (omega (arith, world_count read bs old))

  -- what holds of a blank card and of a card at rest
  each_card : (P : Card → Type 0) → P blank_card → ((ps : List Name) → P (card_with ps (rounds_in bs))) → (c : ℕ) → P (card w c)
  each_card P b h c =
      elim (cases_lt c (cards_in bs)) [
        | inl l ↦ subst P (sym (world_card read bs old c l)) (h (places_of bs c))
        | inr l ↦ subst P (sym (card_past c l)) b
      ]

  places_used : (c q x : ℕ) → place w c q ≡ Some x → used w x ≡ true
  places_used c q x e =
      elim (cases_lt c (cards_in bs)) [
        | inr l ↦ absurd (none-some x (sym (ap (λ k. get_or k.places q None) (card_past c l)) ∙ e))
        | inl l ↦
            let f : get_or (places_of bs c) q None ≡ Some x = sym (ap (λ k. get_or k.places q None) (world_card read bs old c l)) ∙ e in
            elim (cases_lt q 8) [
              | inr h ↦ absurd (none-some x (sym (get_or_past (places_of bs c) q None h) ∙ f))
              | inl h ↦
                  let ok : name_right bs n (place_in bs (8 * c + q)) ≡ true = every_each (λ i. name_right bs n (place_in bs i)) (8 * c + q) (8 * cards_in bs) (omega arith) A.places in
                  named_used (place_in bs (8 * c + q)) x ok (sym (place_at bs c q h) ∙ f)
            ]
      ]

  chain_ok : follows (next_in bs) (free_in bs n) (count_free (free_in bs n) n) (first_in bs) ≡ true
  unfolding chain_right
  chain_ok = A.chain

  abbrev free : List ℕ
  free = chain_from (next_in bs) (free_in bs n) (count_free (free_in bs n) n) (first_in bs)

  each_once : EachOnce (free_in bs n) n free
  each_once = listed_once (next_in bs) (free_in bs n) n (free_low bs n) (first_in bs) chain_ok

  free_are : (x : ℕ) → Among x free → (x < length w.cells) × (used w x ≡ false)
  free_are x a =
      let t : free_in bs n x ≡ true = all_among (λ k. free_in bs n k ≡ true) x free (listed (next_in bs) (free_in bs n) (count_free (free_in bs n) n) (first_in bs) chain_ok).1 a in
      let p = and_parts (ltb x n) (eqb (serial_in bs x) 0) t in
      let l : x < n = ltb-true x n p.0 in
      (omega (arith, world_long read bs old), ap (see (λ r. true) false) (world-at read bs old x l ∙ cell_in_free bs x (eqb-true (serial_in bs x) 0 p.1)))

  free_there : (x : ℕ) → x < length w.cells → used w x ≡ false → Among x free
  free_there x l u =
      let h : x < n = omega (arith, world_long read bs old) in
      elim (cases_eq (serial_in bs x) 0) [
        | inr z ↦ absurd (false≢true (sym u ∙ is_used x (full x h z)))
        | inl z ↦
            let t : free_in bs n x ≡ true = free_yes bs n x h z in
            let s : ltb x n ≡ true = lt-ltb x n h in
            let e : times x free ≡ 1 = each_once x ∙ rw (t, s) in
            times_among x free (omega arith)
      ]

  serial_is : (x : ℕ) → Full x → serial_at w x ≡ serial_in bs x
  serial_is x p = ap (see (λ r. r.serial) 0) p.here

  serials_apart : (x y : ℕ) → used w x ≡ true → used w y ≡ true → serial_at w x ≡ serial_at w y → x ≡ y
  serials_apart x y u v e =
      let p = is_full x u in
      let q = is_full y v in
      let D = (distinct_means (serial_in bs) n true (sym (ap not A.apart))).0 refl in
      let s : serial_in bs x ≡ serial_in bs y = sym (serial_is x p) ∙ e ∙ serial_is y q in
      elim (cases_lt x y) [
        | inl l ↦ absurd (D y x l q.low q.serial s)
        | inr l ↦ elim (cases_eq x y) [ inl i ↦ i | inr i ↦ absurd (D x y (omega arith) p.low p.serial (sym s)) ]
      ]

  pub at_rest : AtRest w
  unfolding world_in
  at_rest = record {
    phase = refl;
    marked = refl;
    colours = seen (λ r. r.colour) Zero Zero refl (λ _ _. refl);
    waits = seen (λ r. r.waiting) false false refl (λ _ _. refl);
    snoops = seen (λ r. r.snooped) false false refl (λ _ _. refl);
    logs = seen (λ r. r.log) None None refl (λ _ _. refl);
    waiting = refl;
    order = refl;
    sweep = refl;
    answered = λ c. grind (arith, places);
    lasts = λ c l. ap (λ k. k.last) (world_card read bs old c (omega (arith, world_count read bs old)));
    births = each_card (λ k. k.birth ≡ Zero) refl (λ _. refl);
    snoop = each_card (λ k. k.snoop ≡ false) refl (λ _. refl);
    logging = each_card (λ k. k.logging ≡ false) refl (λ _. refl);
    updates = each_card (λ k. k.update ≡ None) refl (λ _. refl);
    some = omega (arith, world_long read bs old, A.limits.some);
    tables = filled-length _ old n ∙ lo ∙ sym (world_long read bs old);
    answers = length-replicate (cards_in bs) false ∙ sym (world_count read bs old);
    eight = λ c l. ap (λ k. length k.places) (world_card read bs old c (omega (arith, world_count read bs old)));
    four = λ x u. ap (λ c. length (see (λ r. r.links) [] c)) (is_full x u).here;
    links = links_used;
    places = places_used;
    free_is = free_are;
    free_has = free_there;
    free_once = once_distinct free (λ k. omega (arith, each_once k, not_zero (ltb k n && free_in bs n k)));
    apart = serials_apart;
    above = λ x u. let p = is_full x u in let z = p.serial in omega (arith, serial_is x p);
    below = λ x u. let p = is_full x u in omega (arith, serial_is x p, low_serial x p.low p.serial);
    next = A.limits.next;
  }

pub starts : {C : Type 0} (code : ℕ) (read : List ℕ → Option C) → Starts code read
starts code read bs cells old e =
    let r = accepted_tells code read bs cells (length old) e in
    at_rest code read bs old r.0 r.2
