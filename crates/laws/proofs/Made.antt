-- A store just made is at rest.
use Rattle.std.proofs.Common.{◌≡◌, ℕ, zero, suc, ◌+◌, ◌-◌, ◌<◌, ◌≤◌, false, ◌⊎◌, List, length, get_or, replicate, sym, refl, ◌∙◌, inl, inr, arith, length-set, None}
use lib.ListN.{length-replicate}
use Rattle.std.proofs.lemmas.Bool.{cases_lt}
use Rattle.std.proofs.lemmas.List.{get_or_past, get_or-replicate, places}
use Rattle.machine.specs.declared.types.Colour.TheVariants.{Zero}
use Rattle.machine.specs.World.{Cell, fresh, born_at, newborn, empty_links, fresh_card, blank_card, count_up}
use Rattle.line.specs.Lines.{Among}
use Rattle.laws.specs.Steps.{AtRest, Distinct}
use Rattle.laws.proofs.Frames.{frame, born_at-length}

free_at_lem : (n y : ℕ) → get_or {A = Cell} (replicate n None) y None ≡ None
free_at_lem n y = grind (arith, places)

-- one of n equal things, or the default past them
like : {A : Type 0} (n : ℕ) (a d : A) (c : ℕ) → ((get_or (replicate n a) c d ≡ a) × (c < n)) ⊎ ((get_or (replicate n a) c d ≡ d) × (n ≤ c))
like n a d c = elim (cases_lt c n) [ inl l ↦ inl (get_or-replicate n c a d l, l) | inr l ↦ inr (get_or_past (replicate n a) c d (omega (arith, length-replicate n a)), l) ]

count_is : (a n x : ℕ) → Among x (count_up a n) → (a ≤ x) × (x < a + n)
unfolding count_up
count_is a zero x k = absurd k
count_is a (suc n) x (inl e) = (omega arith, omega arith)
count_is a (suc n) x (inr k) = let p = count_is (suc a) n x k in (omega (arith, p.0), omega (arith, p.1))

count_has : (a n x : ℕ) → a ≤ x → x < a + n → Among x (count_up a n)
unfolding count_up
count_has a zero x h k = absurd (omega arith)
count_has a (suc n) x h k = elim (split a x h) [ inl e ↦ inl e | inr l ↦ inr (count_has (suc a) n x l (omega arith)) ]
  where
    split : (a x : ℕ) → a ≤ x → (x ≡ a) ⊎ (suc a ≤ x)
    split a x h = grind arith

count_once : (a n : ℕ) → Distinct (count_up a n)
unfolding count_up
count_once a zero = tt
count_once a (suc n) = (λ k. omega (arith, (count_is (suc a) n a k).0), count_once (suc a) n)

pub made : {C : Type 0} (n : ℕ) (cs : List C) (k first rounds : ℕ) (x : C) → 1 ≤ n → length cs ≡ n → 1 ≤ first → AtRest (fresh n cs k first rounds x)
made n cs k first rounds x h e f =
    let cells : length (born_at (replicate n None) 0 (newborn first empty_links Zero)) ≡ n = born_at-length (replicate n None) 0 (newborn first empty_links Zero) ∙ length-replicate n None in
    let size : length {A = Cell} (replicate n None) ≡ n = length-replicate n None in
    let K : (c : ℕ) → _ = like k (fresh_card rounds) blank_card in
    let kards : length (replicate k (fresh_card rounds)) ≡ k = length-replicate k (fresh_card rounds) in
    record {
      phase = refl;
      marked = refl;
      colours = λ y. grind (frame, free_at_lem n);
      waits = λ y. grind (frame, free_at_lem n);
      snoops = λ y. grind (frame, free_at_lem n);
      logs = λ y. grind (frame, free_at_lem n);
      waiting = refl;
      order = refl;
      sweep = refl;
      answered = λ c. grind (arith, like k false false c);
      lasts = λ c l. grind (arith, K c);
      births = λ c. grind (arith, K c);
      snoop = λ c. grind (arith, K c);
      logging = λ c. grind (arith, K c);
      updates = λ c. grind (arith, K c);
      some = omega (arith, cells);
      tables = length-set cs 0 x ∙ e ∙ sym cells;
      answers = length-replicate k false ∙ sym kards;
      eight = λ c l. grind (arith, K c);
      four = λ y u. grind (frame, free_at_lem n);
      links = λ y i z a. grind (frame, free_at_lem n);
      places = λ c q z a. grind (frame, free_at_lem n, K c);
      free_is = λ y a. grind (frame, count_is 1 (n - 1) y a, cells, free_at_lem n);
      free_has = λ y l u. count_has 1 (n - 1) y (grind (frame, free_at_lem n, cells)) (grind (frame, free_at_lem n, cells));
      free_once = count_once 1 (n - 1);
      apart = λ y z u v s. grind (frame, free_at_lem n);
      above = λ y u. grind (frame, free_at_lem n);
      below = λ y u. grind (frame, free_at_lem n);
      next = omega arith;
    }
