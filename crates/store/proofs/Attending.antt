-- What a card makes of an order, in the steps of the code.
use Rattle.std.proofs.Common.{◌≡◌, ℕ, ◌+◌, ◌%◌, ◌<◌, ◌≤◌, true, false, eqb, leb, List, ◌∷◌, length, Some, None, Ok, Option, sym, refl, ap, ◌∙◌, subst, arith, eq-eqb, ne_eqb, le-leb}
use borrow.Author.Tests.{lt-leb}
use Rattle.machine.specs.declared.types.Card.{Card}
use Rattle.machine.specs.World.{World, at, card, alter_card, with_cards}
use Rattle.machine.specs.Waiting.{push_all, put_all}
use Rattle.machine.specs.Rounds.{phase_number, heed, obey, attend_call, attend_done, reply_to, number_or_0, trace_call, trace_mark}
use Rattle.store.specs.Over.{Said, AttendsBy}

pub trace_none : {C : Type 0} (w v : World C) (k : ℕ) (ks : List ℕ) → phase_number w.phase ≡ 4 → w.waiting ≡ k ∷ ks → at w k ≡ None → v ≡ trace_mark w k ks → trace_call w ≡ (Ok 0, v)
unfolding push_all
trace_none w v k ks p q e i = rw (p, q, e, i)

pub obey_gather : {C : Type 0} (w : World C) (c n : ℕ) (ks : List Card) → n % 4 ≡ 3 → ks ≡ alter_card w.cards c (heed w.marked n) → put_all (with_cards w ks) (card w c).places ≡ obey w c n
obey_gather w c n ks e i = rw (i, e)

pub obey_plain : {C : Type 0} (w : World C) (c n : ℕ) (ks : List Card) → (n % 4 ≡ 3 → ⊥) → ks ≡ alter_card w.cards c (heed w.marked n) → with_cards w ks ≡ obey w c n
obey_plain w c n ks e i = let f : eqb (n % 4) 3 ≡ false = ne_eqb _ _ e in rw (i, f)

attend_ok : {C : Type 0} (w : World C) (c : ℕ) (got : Option ℕ) → c < length w.cards → (card w c).update ≡ None → attend_call w c got ≡ (Ok (number_or_0 (reply_to w c got)), reply_to w c got, attend_done w c got)
attend_ok w c got l e = let f : leb (length w.cards) c ≡ false = lt-leb _ _ l in rw (f, e)

module _ {C L : Type 0} (take : L → ℕ → Option ℕ → L → Type 0) (put : L → ℕ → ℕ → L → Type 0) (c : ℕ) (w : World C) (lt : c < length w.cards) (up : (card w c).update ≡ None) (l : L) where
  attended : (got : Option ℕ) (mid m : L) (a : ℕ) (v : World C) → take l c got mid → Said put c (reply_to w c got) mid m → v ≡ attend_done w c got → a ≡ number_or_0 (reply_to w c got) → AttendsBy take put c w l (Ok a) v m
  attended got mid m a v f s d n =
      let e = attend_ok w c got lt up in
      record {
        got = got;
        answers = ap Ok n ∙ sym (ap (λ x. x.0) e);
        leaves = d ∙ sym (ap (λ x. x.2) e);
        line = (mid, f, subst (λ o. Said put c o mid m) (sym (ap (λ x. x.1) e)) s);
      }

  pub idle : (m : L) → take l c None m → AttendsBy take put c w l (Ok 0) w m
  idle m f = attended None m m 0 w f refl refl refl

  pub old : (n : ℕ) (mid m : L) → take l c (Some n) mid → put mid c n m → n ≤ (card w c).last → AttendsBy take put c w l (Ok n) w m
  old n mid m f p h =
      let le : leb n ((card w c).last + 1) ≡ true = le-leb _ _ (omega arith) in
      let ne : eqb n ((card w c).last + 1) ≡ false = ne_eqb _ _ (λ e. omega (arith, e)) in
      attended (Some n) mid m n w f (rw le p) (rw ne) (rw le)

  pub over : (n : ℕ) (mid : L) → take l c (Some n) mid → (card w c).last + 1 < n → AttendsBy take put c w l (Ok 0) w mid
  over n mid f h =
      let le : leb n ((card w c).last + 1) ≡ false = lt-leb _ _ h in
      let ne : eqb n ((card w c).last + 1) ≡ false = ne_eqb _ _ (λ e. omega (arith, e)) in
      attended (Some n) mid mid 0 w f (rw le) (rw ne) (rw le)

  pub new : (n : ℕ) (mid m : L) (v : World C) → take l c (Some n) mid → put mid c n m → n ≡ (card w c).last + 1 → v ≡ obey w c n → AttendsBy take put c w l (Ok n) v m
  new n mid m v f p h o =
      let le : leb n ((card w c).last + 1) ≡ true = le-leb _ _ (omega arith) in
      let eq : eqb n ((card w c).last + 1) ≡ true = eq-eqb _ _ h in
      attended (Some n) mid m n v f (rw le p) (rw eq o) (rw le)
