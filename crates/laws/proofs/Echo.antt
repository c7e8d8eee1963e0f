-- (c), the card calls: what each does to the relation between the store and the endless store (load and store: in Alike).
use Rattle.std.proofs.Common.{◌≡◌, ℕ, ◌+◌, ◌<◌, ◌≤◌, true, false, ◌⊎◌, List, ◌∷◌, length, Some, None, Option, sym, refl, ap, ◌∙◌, inl, inr, arith}
use Rattle.std.proofs.lemmas.Bool.Decides.{nat_tests}
use Rattle.machine.specs.declared.types.Update.{Update}
use Rattle.machine.specs.World.{World, Name, used, serial_at, link, place, card, named}
use Rattle.machine.specs.Cards.{new_done, copy_done, drop_done, look_done, note_done}
use Rattle.line.specs.Lines.{Meaning}
use Rattle.laws.specs.Leads.{leads_start, leads_link, Led}
use Rattle.laws.specs.Endless.{Endless, serial_name, intent, e_place, e_update, e_born}
use Rattle.laws.proofs.Frames.{frame, sizes, nth_set_tells, alter_card_tells}
use Rattle.laws.proofs.Inv.{Inv}
use Rattle.laws.proofs.Alike.{Alike}
use Rattle.laws.proofs.Quiet.{led_used, led_names, placed_led}

-- a name as it is read has the same serial
pub named_serial : {C : Type 0} (w : World C) (n : Name) → serial_name w (named w n) ≡ serial_name w n
named_serial w None = refl
named_serial w (Some x) = grind arith

module _ {C : Type 0} (w : World C) (m : Meaning) (I : Inv w m) (e : Endless C) (R : Alike w e) where
  -- copy
  module _ (c p q : ℕ) (K : c < length w.cards) (Q : q ≤ 7) where
    copied : (d r x : ℕ) → place (copy_done w c p q) d r ≡ Some x → (place w d r ≡ Some x) ⊎ (place w c p ≡ Some x)
    copied d r x a = grind frame

    copy_led : {x : ℕ} → Led (copy_done w c p q) x → Led w x
    copy_led (leads_start x (d, r, a) u) = elim (copied d r x a) [ inl b ↦ leads_start x (d, r, b) u | inr b ↦ leads_start x (c, p, b) u ]
    copy_led (leads_link z j x l a u) = leads_link z j x (copy_led l) a u

    pub copy_alike : Alike (copy_done w c p q) (e_place e c q (e.places c p))
    copy_alike = record {
      cards = grind (sizes, R.cards);
      next = R.next;
      places = λ d r. grind (nat_tests, frame, R.places d r, R.places c p, named_serial w (place w c p), I.lists.eight c K);
      updates = λ d. grind (frame, R.updates d);
      links = λ x j l. R.links x j (copy_led l);
      contents = λ x l. R.contents x (copy_led l);
    }

  -- drop
  module _ (c p : ℕ) (K : c < length w.cards) (Q : p ≤ 7) where
    drop_led : {x : ℕ} → Led (drop_done w c p) x → Led w x
    drop_led (leads_start x (d, r, a) u) = leads_start x (d, r, grind frame) u
    drop_led (leads_link z j x l a u) = leads_link z j x (drop_led l) a u

    pub drop_alike : Alike (drop_done w c p) (e_place e c p None)
    drop_alike = record {
      cards = grind (sizes, R.cards);
      next = R.next;
      places = λ d r. grind (nat_tests, frame, R.places d r, I.lists.eight c K);
      updates = λ d. grind (frame, R.updates d);
      links = λ x j l. R.links x j (drop_led l);
      contents = λ x l. R.contents x (drop_led l);
    }

  -- look
  module _ (c y i q : ℕ) (K : c < length w.cards) where
    look_led : {x : ℕ} → Led (look_done w c y i q) x → Led w x
    look_led (leads_start x (d, r, a) u) = leads_start x (d, r, grind frame) u
    look_led (leads_link z j x l a u) = leads_link z j x (look_led l) a u

    pub look_alike : Alike (look_done w c y i q) (e_update e c (Some (record { who = serial_at w y; link = i; target = e.places c q; noted = false })))
    look_alike = record {
      cards = grind (sizes, R.cards);
      next = R.next;
      places = λ d r. grind (frame, R.places d r);
      updates = λ d. grind (nat_tests, frame, R.updates d, R.places c q, named_serial w (place w c q));
      links = λ x j l. R.links x j (look_led l);
      contents = λ x l. R.contents x (look_led l);
    }

  -- note
  module _ (c : ℕ) (u : Update) (b : Option (List Name)) (K : c < length w.cards) (U : (card w c).update ≡ Some u) where
    note_led : {x : ℕ} → Led (note_done w c u b) x → Led w x
    note_led (leads_start x (d, r, a) v) = leads_start x (d, r, grind frame) (grind frame)
    note_led (leads_link z j x l a v) = leads_link z j x (note_led l) (grind frame) (grind frame)

    note_serial : (x : ℕ) → serial_at (note_done w c u b) x ≡ serial_at w x
    note_serial x = grind frame

    note_name : (n : Name) → serial_name (note_done w c u b) n ≡ serial_name w n
    note_name n = grind frame

    note_place : (d r : ℕ) → place (note_done w c u b) d r ≡ place w d r
    note_place d r = grind (arith, alter_card_tells)

    note_link : (x j : ℕ) → link (note_done w c u b) x j ≡ link w x j
    note_link x j = grind frame

    note_intent : (v : Option Update) → intent (note_done w c u b) v ≡ intent w v
    note_intent None = refl
    note_intent (Some v) = grind (arith, note_serial v.cell, note_name v.target)

    pub note_alike : Alike (note_done w c u b) (e_update e c (Some (record { who = serial_at w u.cell; link = u.link; target = serial_name w u.target; noted = true })))
    note_alike = record {
      cards = grind (sizes, R.cards);
      next = R.next;
      places = λ d r. R.places d r ∙ sym (note_name (place w d r)) ∙ ap (serial_name (note_done w c u b)) (sym (note_place d r));
      updates = λ d. grind (nat_tests, frame, R.updates d, note_intent (card w d).update, note_serial u.cell, note_name u.target);
      links = λ x j l. ap (λ s. e.links s j) (note_serial x) ∙ R.links x j (note_led l) ∙ sym (note_name (link w x j)) ∙ ap (serial_name (note_done w c u b)) (sym (note_link x j));
      contents = λ x l. ap e.contents (note_serial x) ∙ R.contents x (note_led l);
    }

  -- new
  module _ (c p : ℕ) (z : C) (k : ℕ) (ks : List ℕ) (K : c < length w.cards) (Q : p ≤ 7) (F : w.free ≡ k ∷ ks) where
    free_cell : (k < length w.cells) × (used w k ≡ false)
    free_cell = I.lists.free_is k (rw F (inl refl))

    not_new : (x : ℕ) → Led w x → x ≡ k → ⊥
    not_new x l a = grind (arith, led_used w l, free_cell)

    new_led : {x : ℕ} → Led (new_done w c p z k ks) x → (x ≡ k) ⊎ Led w x
    new_led (leads_start x (d, r, a) u) = elim (was d r x a) [ inl b ↦ inl b | inr b ↦ inr (placed_led w m I d r x b) ]
      where
        was : (d r x : ℕ) → place (new_done w c p z k ks) d r ≡ Some x → (x ≡ k) ⊎ (place w d r ≡ Some x)
        was d r x a = grind frame
    new_led (leads_link y j x l a u) = elim (new_led l) [
      | inl b ↦ absurd (grind (frame, free_cell))
      | inr b ↦ let n : link w y j ≡ Some x = grind (frame, not_new y b) in inr (leads_link y j x b n (led_names w m I y j x b n))
    ]

    new_serial : (x : ℕ) → Led w x → serial_at (new_done w c p z k ks) x ≡ serial_at w x
    new_serial x l = grind (frame, not_new x l)

    new_name : (n : Name) → ((x : ℕ) → n ≡ Some x → Led w x) → serial_name (new_done w c p z k ks) n ≡ serial_name w n
    new_name None f = refl
    new_name (Some x) f = grind (frame, not_new x (f x refl))

    new_intent : (d : ℕ) (u : Option Update) → (card w d).update ≡ u → intent (new_done w c p z k ks) u ≡ intent w u
    new_intent d None h = refl
    new_intent d (Some u) h =
        let P = I.names.update d u h in
        let A = new_serial u.cell (placed_led w m I d P.0 u.cell P.1) in
        let B = new_name u.target (λ x a. let T = I.names.target d u x h a in placed_led w m I d T.0 x T.1) in
        grind (arith, A, B)

    born : (serial_at (new_done w c p z k ks) k ≡ w.next)
    born = grind (frame, free_cell)

    born_name : serial_name (new_done w c p z k ks) (Some k) ≡ Some w.next
    born_name = grind (frame, free_cell)

    new_place : (d r : ℕ) → ((place (new_done w c p z k ks) d r ≡ Some k) × (d ≡ c) × (r ≡ p)) ⊎ ((place (new_done w c p z k ks) d r ≡ place w d r) × ((d ≡ c) → (r ≡ p) → ⊥))
    new_place d r = grind (frame, I.lists.eight c K)

    new_update : (d : ℕ) → (card (new_done w c p z k ks) d).update ≡ (card w d).update
    new_update d = grind frame

    new_links : (x j : ℕ) → Led w x → link (new_done w c p z k ks) x j ≡ link w x j
    new_links x j l = grind (frame, not_new x l)

    born_links : (j : ℕ) → link (new_done w c p z k ks) k j ≡ None
    born_links j = grind (frame, free_cell)

    older : (x : ℕ) → Led w x → serial_at w x < w.next
    older x l = I.lists.below x (led_used w l)

    pub new_alike : Alike (new_done w c p z k ks) (e_place (e_born e z) c p (Some e.next))
    new_alike = record {
      cards = grind (sizes, R.cards);
      next = ap (λ n. n + 1) R.next;
      places = λ d r. grind (nat_tests, arith, R.places d r, R.next, new_place d r, new_name (place w d r) (placed_led w m I d r), born_name);
      updates = λ d. R.updates d ∙ sym (new_intent d (card w d).update refl) ∙ ap (intent (new_done w c p z k ks)) (sym (new_update d));
      links = λ x j l. elim (new_led l) [
        | inl b ↦ grind (nat_tests, arith, born, born_links j, R.next)
        | inr b ↦ grind (nat_tests, arith, new_serial x b, older x b, R.next, R.links x j b, new_links x j b, new_name (link w x j) (λ y a. leads_link x j y b a (led_names w m I x j y b a)))
      ];
      contents = λ x l. elim (new_led l) [
        | inl b ↦ grind (nat_tests, arith, born, R.next, nth_set_tells w.contents k z x, free_cell, I.lists.tables)
        | inr b ↦ grind (nat_tests, arith, new_serial x b, older x b, R.next, R.contents x b, nth_set_tells w.contents k z x, not_new x b)
      ];
    }
