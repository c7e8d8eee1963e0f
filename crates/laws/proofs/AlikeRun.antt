-- (c): the relation holds at the start, every call keeps it and answers alike, and so do whole runs.
use Rattle.std.proofs.Common.{◌≡◌, ℕ, zero, suc, ◌<◌, ◌≤◌, Bool, true, false, cond, not, ◌&&◌, eqb, ltb, leb, ◌⊎◌, List, [], ◌∷◌, length, get_or, is_some, Some, None, Option, sym, refl, ap, ◌∙◌, subst, inl, inr, arith, Err}
use Rattle.std.proofs.lemmas.Bool.{false≢true}
use Rattle.std.proofs.lemmas.Bool.Decides.{nat_tests}
use Rattle.std.specs.List.{slice_get}
use Rattle.machine.specs.World.{Cell}
use Rattle.refusal.specs.declared.kinds.Refusal.{Refusal}
use Rattle.refusal.specs.declared.kinds.Refusal.TheVariants.{NoCard, NoPlace, NoLink, UpdateInHand, Exhausted}
use Rattle.machine.specs.declared.types.Update.{Update}
use Rattle.machine.specs.declared.types.Stage.{Stage}
use Rattle.machine.specs.declared.types.Stage.TheVariants.{Looked, Noted}
use Rattle.machine.specs.declared.types.Call.{Call}
use Rattle.machine.specs.declared.types.Call.TheVariants.{New, Load, Copy, Drop, Read, Look, Note, Store, Open, Knock, Attend, Hear, Trace, Sweep, Settle}
use Rattle.machine.specs.Acts.{Answer}
use Rattle.machine.specs.World.{World, Name, used, serial_at, serial_of, link, place, card, see, named}
use Rattle.refusal.specs.Refusals.{number}
use Rattle.machine.specs.Cards.{Outcome, refuse, busy, new_from, new_call, load_from, load_call, copy_call, drop_call, read_call, look_from, look_call, note_from, note_stage, note_call, store_from, store_stage, store_call}
use Rattle.line.specs.Lines.{Meaning}
use Rattle.machine.specs.Acts.{act, answer, answer_read}
use Rattle.laws.specs.Leads.{leads_start}
use Rattle.laws.specs.Steps.{Step, Run, done, then, Start}
use Rattle.laws.specs.Endless.{Endless, Said, refuses, answers, Reply, serial_name, intent, image, cell_of, is_noted, serial_or_0, e_place, e_link, e_update, e_born, e_new, e_load, e_load_from, e_copy, e_drop, e_read, e_look, e_look_from, e_note, e_note_from, e_store, e_store_from, e_act, e_play}
use Rattle.laws.specs.Words.{says, is_card, is_nine, card_calls, card_answers}
use Rattle.laws.proofs.Inv.{Inv}
use Rattle.laws.proofs.Runs.{Lasts}
use Rattle.laws.proofs.Alike.{Alike, load_alike, store_alike, read_says}
use Rattle.laws.proofs.Quiet.{quiet_alike, open_still, attend_still, hear_still, trace_still, settle_still, sweep_alike, led_used}
use Rattle.laws.proofs.Echo.{copy_alike, drop_alike, look_alike, note_alike, new_alike}

-- ---- the start

abbrev has : ℕ → Cell → Bool
has s c = see (λ r. eqb r.serial s) false c

-- the one cell that holds a serial is found
finds : (h : List Cell) (s x : ℕ) → has s (get_or h x None) ≡ true → ((y : ℕ) → has s (get_or h y None) ≡ true → y ≡ x) → cell_of h s ≡ x
unfolding cell_of
finds [] s x a f = absurd (false≢true a)
finds (c ∷ h) s zero a f = rw a
finds (c ∷ h) s (suc x) a f = by (has s c) refl (finds h s x a (λ y b. omega (arith, f (suc y) b)))
  where
    by : (b : Bool) → has s c ≡ b → cell_of h s ≡ x → cond b 0 (suc (cell_of h s)) ≡ suc x
    by true k g = absurd (omega (arith, f 0 k))
    by false k g = ap suc g

module _ {C : Type 0} (w : World C) (m : Meaning) (I : Inv w m) where
  found : (x : ℕ) → used w x ≡ true → cell_of w.cells (serial_at w x) ≡ x
  found x u = finds w.cells (serial_at w x) x (grind (nat_tests, arith)) (λ y h. I.lists.apart y x (grind (nat_tests, arith)) u (grind (nat_tests, arith)))

  pub image_alike : Alike w (image w)
  image_alike = record {
    cards = refl;
    next = refl;
    places = λ c p. refl;
    updates = λ c. refl;
    links = λ x i l. ap (λ z. serial_name w (link w z i)) (found x (led_used w l));
    contents = λ x l. ap (slice_get w.contents) (found x (led_used w l));
  }

-- ---- the card calls

-- the answers agree and the relation holds after, or the store wants a cell and stays as it was
abbrev Goes : {C : Type 0} → Endless C → Answer C → World C → Reply C → Type 0
Goes e a v r = ((is_nine a ≡ false) × (says a ≡ r.0) × Alike v r.1) ⊎ ((is_nine a ≡ true) × Alike v e)

-- a place as it is read on both sides
data Met {C : Type 0} (w : World C) (c p : ℕ) : Name → Option ℕ → Type 0 where
  blank : Met w c p None None
  met : (y : ℕ) → place w c p ≡ Some y → used w y ≡ true → Met w c p (Some y) (Some (serial_at w y))

named_or : {C : Type 0} (w : World C) (n : Name) → serial_of w (named w n) ≡ serial_or_0 (serial_name w n)
named_or w None = refl
named_or w (Some x) = grind arith

module _ {C : Type 0} (w : World C) (m : Meaning) (I : Inv w m) (e : Endless C) (R : Alike w e) where
  gate : (b d : Bool) → d ≡ b → (r : Refusal) → is_nine {C = C} (Err r) ≡ false → (o : Outcome C) (q : Reply C) → (b ≡ false → Goes e (answer o.0) o.1 q) → Goes e (answer (cond b (refuse r w) o).0) (cond b (refuse r w) o).1 (cond d (refuses (number r), e) q)
  gate true true k r n o q f = inl (n, refl, R)
  gate false false k r n o q f = f refl
  gate true false k r n o q f = absurd (false≢true k)
  gate false true k r n o q f = absurd (false≢true (sym k))

  carded : (c : ℕ) → leb e.cards c ≡ leb (length w.cards) c
  carded c = ap (λ n. leb n c) R.cards

  handed : (c : ℕ) → is_some (e.updates c) ≡ busy w c
  handed c = grind (arith, R.updates c)

  meets : (c p : ℕ) → Met w c p (named w (place w c p)) (e.places c p)
  meets c p = from (place w c p) refl
    where
      from : (n : Name) → place w c p ≡ n → Met w c p (named w (place w c p)) (e.places c p)
      from None h =
          let a : named w (place w c p) ≡ None = rw h in
          let b : e.places c p ≡ None = R.places c p ∙ rw h in
          subst (λ z. Met w c p z (e.places c p)) (sym a) (subst (λ z. Met w c p None z) (sym b) blank)
      from (Some y) h =
          let u : used w y ≡ true = I.names.places c p y h in
          let a : named w (place w c p) ≡ Some y = grind (arith, u, h) in
          let b : e.places c p ≡ Some (serial_at w y) = grind (arith, u, h, R.places c p) in
          subst (λ z. Met w c p z (e.places c p)) (sym a) (subst (λ z. Met w c p (Some y) z) (sym b) (met y h u))

  new_goes : (c p : ℕ) (x : C) → Goes e (answer (new_call w c p x).0) (new_call w c p x).1 (e_new e c p x)
  new_goes c p x =
      gate (leb (length w.cards) c) _ (carded c) NoCard refl _ _ (λ a. gate (ltb 7 p) _ refl NoPlace refl _ _ (λ b. gate (busy w c) _ (handed c) UpdateInHand refl _ _ (λ d.
      gate (eqb w.next 4294967295) _ (ap (λ n. eqb n 4294967295) R.next) Exhausted refl _ _ (λ f. from w.free refl (grind (nat_tests, arith)) (grind (nat_tests, arith))))))
    where
      from : (fs : List ℕ) → w.free ≡ fs → c < length w.cards → p ≤ 7 → Goes e (answer (new_from w c p x fs).0) (new_from w c p x fs).1 (answers e.next, e_place (e_born e x) c p (Some e.next))
      from [] h k l = inr (refl, R)
      from (j ∷ js) h k l = inl (refl, ap answers (sym R.next), new_alike w m I e R c p x j js k l h)

  load_goes : (c p i q : ℕ) → Goes e (answer (load_call w c p i q).0) (load_call w c p i q).1 (e_load e c p i q)
  load_goes c p i q =
      gate (leb (length w.cards) c) _ (carded c) NoCard refl _ _ (λ a. gate (ltb 7 p) _ refl NoPlace refl _ _ (λ b. gate (ltb 7 q) _ refl NoPlace refl _ _ (λ d. gate (ltb 3 i) _ refl NoLink refl _ _ (λ f.
      gate (busy w c) _ (handed c) UpdateInHand refl _ _ (λ g. from (meets c p) (grind (nat_tests, arith)) (grind (nat_tests, arith)))))))
    where
      from : {n : Name} {s : Option ℕ} → Met w c p n s → c < length w.cards → q ≤ 7 → Goes e (answer (load_from w c n i q).0) (load_from w c n i q).1 (e_load_from e c s i q)
      from blank k l = inl (refl, refl, R)
      from (met y h u) k l =
          inl (refl, ap answers (named_or w (link w y i) ∙ ap serial_or_0 (sym (R.links y i (leads_start y (c, p, h) u)))), load_alike w e R I.names I.lists c p i q y k l h)

  copy_goes : (c p q : ℕ) → Goes e (answer (copy_call w c p q).0) (copy_call w c p q).1 (e_copy e c p q)
  copy_goes c p q =
      gate (leb (length w.cards) c) _ (carded c) NoCard refl _ _ (λ a. gate (ltb 7 p) _ refl NoPlace refl _ _ (λ b. gate (ltb 7 q) _ refl NoPlace refl _ _ (λ d. gate (busy w c) _ (handed c) UpdateInHand refl _ _ (λ g.
      inl (refl, ap answers (named_or w (place w c p) ∙ ap serial_or_0 (sym (R.places c p))), copy_alike w m I e R c p q (grind (nat_tests, arith)) (grind (nat_tests, arith)))))))

  drop_goes : (c p : ℕ) → Goes e (answer (drop_call w c p).0) (drop_call w c p).1 (e_drop e c p)
  drop_goes c p =
      gate (leb (length w.cards) c) _ (carded c) NoCard refl _ _ (λ a. gate (ltb 7 p) _ refl NoPlace refl _ _ (λ b. gate (busy w c) _ (handed c) UpdateInHand refl _ _ (λ g.
      inl (refl, refl, drop_alike w m I e R c p (grind (nat_tests, arith)) (grind (nat_tests, arith))))))

  look_goes : (c p i q : ℕ) → Goes e (answer (look_call w c p i q).0) (look_call w c p i q).1 (e_look e c p i q)
  look_goes c p i q =
      gate (leb (length w.cards) c) _ (carded c) NoCard refl _ _ (λ a. gate (ltb 7 p) _ refl NoPlace refl _ _ (λ b. gate (ltb 7 q) _ refl NoPlace refl _ _ (λ d. gate (ltb 3 i) _ refl NoLink refl _ _ (λ f.
      gate (busy w c) _ (handed c) UpdateInHand refl _ _ (λ g. from (meets c p) (grind (nat_tests, arith)))))))
    where
      from : {n : Name} {s : Option ℕ} → Met w c p n s → c < length w.cards → Goes e (answer (look_from w c n i q).0) (look_from w c n i q).1 (e_look_from e c s i q)
      from blank k = inl (refl, refl, R)
      from (met y h u) k = inl (refl, refl, look_alike w m I e R c y i q k)

  note_goes : (c : ℕ) → Goes e (answer (note_call w c).0) (note_call w c).1 (e_note e c)
  note_goes c =
      gate (leb (length w.cards) c) _ (carded c) NoCard refl _ _ (λ a.
      subst (λ z. Goes e (answer (note_from w c (card w c).update).0) (note_from w c (card w c).update).1 (e_note_from e c z)) (sym (R.updates c)) (from (card w c).update refl (grind (nat_tests, arith))))
    where
      at_stage : (u : Update) (s : Stage) → (card w c).update ≡ Some u → c < length w.cards → Goes e (answer (note_stage w c u s).0) (note_stage w c u s).1 (cond (is_noted s) (refuses 5, e) (answers 0, e_update e c (Some (record { who = serial_at w u.cell; link = u.link; target = serial_name w u.target; noted = true }))))
      at_stage u (Looked d) h k = inl (refl, refl, note_alike w m I e R c u d k h)
      at_stage u Noted h k = inl (refl, refl, R)

      from : (u : Option Update) → (card w c).update ≡ u → c < length w.cards → Goes e (answer (note_from w c u).0) (note_from w c u).1 (e_note_from e c (intent w u))
      from None h k = inl (refl, refl, R)
      from (Some u) h k = at_stage u u.stage h k

  store_goes : (c : ℕ) → Goes e (answer (store_call w c).0) (store_call w c).1 (e_store e c)
  store_goes c =
      gate (leb (length w.cards) c) _ (carded c) NoCard refl _ _ (λ a.
      subst (λ z. Goes e (answer (store_from w c (card w c).update).0) (store_from w c (card w c).update).1 (e_store_from e c z)) (sym (R.updates c)) (from (card w c).update refl (grind (nat_tests, arith))))
    where
      at_stage : (u : Update) (s : Stage) → (card w c).update ≡ Some u → c < length w.cards → Goes e (answer (store_stage w c u s).0) (store_stage w c u s).1 (cond (is_noted s) (answers (serial_or_0 (serial_name w u.target)), e_update (e_link e (serial_at w u.cell) u.link (serial_name w u.target)) c None) (refuses 5, e))
      at_stage u (Looked d) h k = inl (refl, refl, R)
      at_stage u Noted h k = inl (refl, ap answers (named_or w u.target), store_alike w e R I.names I.lists c u k h (I.names.bound c u h))

      from : (u : Option Update) → (card w c).update ≡ u → c < length w.cards → Goes e (answer (store_from w c u).0) (store_from w c u).1 (e_store_from e c (intent w u))
      from None h k = inl (refl, refl, R)
      from (Some u) h k = at_stage u u.stage h k

  read_goes : (c p : ℕ) → Goes e (answer_read (read_call w c p)) w (e_read e c p)
  read_goes c p = inl (grind (nat_tests, arith), read_says w e R I.names c p, subst (Alike w) (sym (ends (leb e.cards c) (ltb 7 p) _)) R)
    where
      ends : (b d : Bool) (s : Said C) → (cond {A = Reply C} b (refuses 1, e) (cond d (refuses 2, e) (s, e))).1 ≡ e
      ends true d s = refl
      ends false true s = refl
      ends false false s = refl

  -- ---- any call

  counts : (a : Answer C) (v : World C) (r : Reply C) → Goes e a v r → (((true && not (is_nine a)) ≡ true) × (says a ≡ r.0) × Alike v r.1) ⊎ (((true && not (is_nine a)) ≡ false) × Alike v e)
  counts a v r (inl g) = inl (ap not g.0, g.1, g.2)
  counts a v r (inr g) = inr (ap not g.0, g.1)

  act_alike : (k : Call C) (got : Option ℕ) → (((is_card k && not (is_nine (act w k got).0)) ≡ true) × (says (act w k got).0 ≡ (e_act e k).0) × Alike (act w k got).1 (e_act e k).1) ⊎ (((is_card k && not (is_nine (act w k got).0)) ≡ false) × Alike (act w k got).1 e)
  act_alike (New c p x) got = counts _ _ _ (new_goes c p x)
  act_alike (Load c p i q) got = counts _ _ _ (load_goes c p i q)
  act_alike (Copy c p q) got = counts _ _ _ (copy_goes c p q)
  act_alike (Drop c p) got = counts _ _ _ (drop_goes c p)
  act_alike (Read c p) got = counts _ _ _ (read_goes c p)
  act_alike (Look c p i q) got = counts _ _ _ (look_goes c p i q)
  act_alike (Note c) got = counts _ _ _ (note_goes c)
  act_alike (Store c) got = counts _ _ _ (store_goes c)
  act_alike Open got = inr (refl, quiet_alike w _ (open_still w) e R)
  act_alike (Knock c) got = inr (refl, R)
  act_alike (Attend c) got = inr (refl, quiet_alike w _ (attend_still w c got) e R)
  act_alike (Hear c) got = inr (refl, quiet_alike w _ (hear_still w c got) e R)
  act_alike Trace got = inr (refl, quiet_alike w _ (trace_still w) e R)
  act_alike Sweep got = inr (refl, sweep_alike w m I e R)
  act_alike Settle got = inr (refl, quiet_alike w _ (settle_still w) e R)

-- a step of a run: the call counts, and both sides took it; or it does not count, and the store alone took it
pub step_alike : {C : Type 0} {w v : World C} {m l : Meaning} {k : Call C} {a : Answer C} → Inv w m → (e : Endless C) → Alike w e → Step w m k a v l → (((is_card k && not (is_nine a)) ≡ true) × (says a ≡ (e_act e k).0) × Alike v (e_act e k).1) ⊎ (((is_card k && not (is_nine a)) ≡ false) × Alike v e)
step_alike {C} {w} {v} {m} {l} {k} {a} I e R s =
    subst (λ z. (((is_card k && not (is_nine z)) ≡ true) × (says z ≡ (e_act e k).0) × Alike v (e_act e k).1) ⊎ (((is_card k && not (is_nine z)) ≡ false) × Alike v e)) (sym s.answers)
    (subst (λ u. (((is_card k && not (is_nine (act w k s.got).0)) ≡ true) × (says (act w k s.got).0 ≡ (e_act e k).0) × Alike u (e_act e k).1) ⊎ (((is_card k && not (is_nine (act w k s.got).0)) ≡ false) × Alike u e)) (sym s.leaves)
    (act_alike w m I e R k s.got))

-- ---- runs

taken : {C : Type 0} (b : Bool) (e : Endless C) (k : Call C) (ks : List (Call C)) (t : Said C) (ts : List (Said C)) → b ≡ true → t ≡ (e_act e k).0 → ts ≡ e_play (e_act e k).1 ks → cond b (t ∷ ts) ts ≡ e_play e (cond b (k ∷ ks) ks)
taken true e k ks t ts h p q = cc
taken false e k ks t ts h p q = absurd (false≢true h)

passed : {C : Type 0} (b : Bool) (e : Endless C) (k : Call C) (ks : List (Call C)) (t : Said C) (ts : List (Said C)) → b ≡ false → ts ≡ e_play e ks → cond b (t ∷ ts) ts ≡ e_play e (cond b (k ∷ ks) ks)
passed true e k ks t ts h q = absurd (false≢true (sym h))
passed false e k ks t ts h q = q

module _ {C : Type 0} (L : Lasts C) where
  alike_along : {w v : World C} {m l : Meaning} {ks : List (Call C)} {rs : List (Answer C)} → Inv w m → (e : Endless C) → Alike w e → Run w m ks rs v l → card_answers ks rs ≡ e_play e (card_calls ks rs)
  alike_along I e R done = refl
  alike_along I e R (then {k = k} {ks = ks} {a = a} {rs = rs} s r) =
      elim (step_alike I e R s) [
        | inl g ↦ taken (is_card k && not (is_nine a)) e k (card_calls ks rs) (says a) (card_answers ks rs) g.0 g.1 (alike_along (L.step I s) (e_act e k).1 g.2 r)
        | inr g ↦ passed (is_card k && not (is_nine a)) e k (card_calls ks rs) (says a) (card_answers ks rs) g.0 (alike_along (L.step I s) e g.1 r)
      ]

  -- (c)
  pub alike :
      (w v : World C) (m l : Meaning) (ks : List (Call C)) (rs : List (Answer C)) →
      Start w m → Run w m ks rs v l →
      card_answers ks rs ≡ e_play (image w) (card_calls ks rs)
  alike w v m l ks rs S r = let I : Inv w m = L.start S in alike_along I (image w) (image_alike w m I) r
