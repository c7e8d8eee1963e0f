-- (c): the relation between the store and the endless store, and what load, store and read do to it.
use Rattle.std.proofs.Common.{◌≡◌, ℕ, ◌<◌, ◌≤◌, true, ◌⊎◌, length, Some, None, Option, sym, refl, ap, ◌∙◌, inl, inr, arith}
use Rattle.std.proofs.lemmas.Bool.Decides.{nat_tests}
use Rattle.std.specs.List.{slice_get}
use Rattle.machine.specs.declared.types.Update.{Update}
use Rattle.machine.specs.World.{World, Name, used, serial_at, link, place, card, named}
use Rattle.machine.specs.Cards.{load_done, store_done, read_call}
use Rattle.machine.specs.Acts.{answer_read}
use Rattle.laws.specs.Leads.{leads_start, leads_link, Led}
use Rattle.laws.specs.Endless.{Endless, serial_name, intent, e_place, e_link, e_update, e_read, but2}
use Rattle.laws.specs.Words.{says}
use Rattle.laws.proofs.Frames.{frame, sizes, alter_card_tells}
use Rattle.laws.proofs.Inv.{Names, Lists}

pub record Alike {C : Type 0} (w : World C) (e : Endless C) : Type 0 where
  pub cards : e.cards ≡ length w.cards
  pub next : e.next ≡ w.next
  pub places : (c p : ℕ) → e.places c p ≡ serial_name w (place w c p)
  pub updates : (c : ℕ) → e.updates c ≡ intent w (card w c).update
  pub links : (x i : ℕ) → Led w x → e.links (serial_at w x) i ≡ serial_name w (link w x i)
  pub contents : (x : ℕ) → Led w x → e.contents (serial_at w x) ≡ slice_get w.contents x

abbrev cell_in : Name → ℕ
cell_in None = 0
cell_in (Some x) = x

-- load
module _ {C : Type 0} (w : World C) (e : Endless C) (R : Alike w e) (N : Names w) (L : Lists w) (c p i q y : ℕ)
    (K : c < length w.cards) (Q : q ≤ 7) (P : place w c p ≡ Some y) where
  loaded : (d r x : ℕ) → place (load_done w c y i q) d r ≡ Some x → (place w d r ≡ Some x) ⊎ (link w y i ≡ Some x)
  loaded d r x a = grind frame

  led_y : Led w y
  led_y = leads_start y (c, p, P) (N.places c p y P)

  load_led : {x : ℕ} → Led (load_done w c y i q) x → Led w x
  load_led (leads_start x (d, r, a) u) = elim (loaded d r x a) [ inl b ↦ leads_start x (d, r, b) u | inr b ↦ leads_link y i x led_y b u ]
  load_led (leads_link z j x l a u) = leads_link z j x (load_led l) a u

  pub load_alike : Alike (load_done w c y i q) (e_place e c q (e.links (serial_at w y) i))
  load_alike = record {
    cards = grind (sizes, R.cards);
    next = R.next;
    places = λ d r. grind (nat_tests, frame, R.places d r, R.links y i led_y, L.eight c K);
    updates = λ d. grind (frame, R.updates d);
    links = λ x j l. R.links x j (load_led l);
    contents = λ x l. R.contents x (load_led l);
  }

-- read's answer, refusals and all
pub read_says : {C : Type 0} (w : World C) (e : Endless C) (R : Alike w e) (N : Names w) (c p : ℕ) → says (answer_read (read_call w c p)) ≡ (e_read e c p).0
read_says w e R N c p =
    let led : place w c p ≡ Some (cell_in (place w c p)) → Led w (cell_in (place w c p)) = λ a. leads_start _ (c, p, a) (N.places c p _ a) in
    grind (nat_tests, frame, R.cards, R.places c p, N.places c p (cell_in (place w c p)), led, R.contents (cell_in (place w c p)))

-- store
module _ {C : Type 0} (w : World C) (e : Endless C) (R : Alike w e) (N : Names w) (L : Lists w) (c : ℕ) (u : Update)
    (K : c < length w.cards) (U : (card w c).update ≡ Some u) (I : u.link ≤ 3) where
  private_used : used w u.cell ≡ true
  private_used = N.places c (N.update c u U).0 u.cell (N.update c u U).1

  target_used : (x : ℕ) → u.target ≡ Some x → used w x ≡ true
  target_used x a = N.places c (N.target c u x U a).0 x (N.target c u x U a).1

  stored : (z j x : ℕ) → link (store_done w c u (named w u.target)) z j ≡ Some x → (link w z j ≡ Some x) ⊎ (u.target ≡ Some x)
  stored z j x a = grind frame

  store_led : {x : ℕ} → Led (store_done w c u (named w u.target)) x → Led w x
  store_led (leads_start x (d, r, a) v) = leads_start x (d, r, grind frame) (grind frame)
  store_led (leads_link z j x l a v) =
      elim (stored z j x a) [
        | inl b ↦ leads_link z j x (store_led l) b (grind frame)
        | inr b ↦ leads_start x (c, (N.target c u x U b).0, (N.target c u x U b).1) (target_used x b)
      ]

  -- serials stay
  same_serial : (x : ℕ) → serial_at (store_done w c u (named w u.target)) x ≡ serial_at w x
  same_serial x = grind frame

  same_name : (v : Name) → serial_name (store_done w c u (named w u.target)) v ≡ serial_name w v
  same_name v = grind frame

  led_used : {x : ℕ} → Led w x → used w x ≡ true
  led_used (leads_start x s v) = v
  led_used (leads_link z j x l a v) = v

  store_links : (x j : ℕ) → Led w x → but2 e.links (serial_at w u.cell) u.link (serial_name w u.target) (serial_at w x) j ≡ serial_name w (link (store_done w c u (named w u.target)) x j)
  store_links x j l = grind (nat_tests, frame, R.links x j l, L.apart x u.cell (led_used l) private_used, L.four u.cell private_used, target_used (cell_in u.target))

  same_place : (d r : ℕ) → place (store_done w c u (named w u.target)) d r ≡ place w d r
  same_place d r = grind (arith, alter_card_tells)

  same_intent : (v : Option Update) → intent (store_done w c u (named w u.target)) v ≡ intent w v
  same_intent None = refl
  same_intent (Some v) = grind (arith, same_serial v.cell, same_name v.target)

  pub store_alike : Alike (store_done w c u (named w u.target)) (e_update (e_link e (serial_at w u.cell) u.link (serial_name w u.target)) c None)
  store_alike = record {
    cards = grind (sizes, R.cards);
    next = grind (frame, R.next);
    places = λ d r. R.places d r ∙ sym (same_name (place w d r)) ∙ ap (serial_name (store_done w c u (named w u.target))) (sym (same_place d r));
    updates = λ d. grind (nat_tests, frame, R.updates d, same_intent (card w d).update);
    links = λ x j l. grind (arith, same_serial x, same_name (link (store_done w c u (named w u.target)) x j), store_links x j (store_led l));
    contents = λ x l. grind (frame, same_serial x, R.contents x (store_led l));
  }
