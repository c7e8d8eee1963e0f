-- From the exact acts to the steps and runs that the promises speak of, by the four laws of a line.
use Rattle.std.proofs.Common.{◌≡◌, ℕ, List, [], ◌∷◌, ◌++◌, Some, None, Ok, Err, Option, Result, ap, ◌∙◌, subst}
use Rattle.refusal.specs.declared.kinds.Refusal.{Refusal}
use Rattle.machine.specs.declared.types.Call.{Call}
use Rattle.machine.specs.declared.types.Call.TheVariants.{New, Load, Copy, Drop, Read, Look, Note, Store, Open, Knock, Attend, Hear, Trace, Sweep, Settle}
use Rattle.machine.specs.Acts.{Answer}
use Rattle.machine.specs.World.{World}
use Rattle.machine.specs.Acts.{answer}
use Rattle.machine.specs.Rounds.{attend_call}
use Rattle.line.specs.Lines.{Meaning, Among, Sent, Fetched, Replied, Collected}
use Rattle.store.specs.Over.{Said, Knocked, KnocksBy, AttendsBy, HearsBy}
use Rattle.store.specs.Over as over
use Rattle.laws.specs.Steps.{Sends, Replies, Attends, Step, Run, done, then, AtRest, Low, Start}
use Rattle.laws.specs.Steps as steps
use Rattle.laws.proofs.WholeRun.{ran}
use Rattle.laws.proofs.OneCall.{promised, reached_start, mirrored_start}
use Rattle.promises.specs.Acting.{Aside, ActBy, RunBy, ended, acts}
use Rattle.promises.specs.Playing.{Silent, PlayedBy, CalledBy, Begins}

module _ {L : Type 0} (means : L → Meaning) (sends : L → ℕ → ℕ → L → Type 0) (fetches : L → ℕ → Option ℕ → L → Type 0) (replies : L → ℕ → ℕ → L → Type 0) (collects : L → ℕ → Option ℕ → L → Type 0)
    (sending : (s t : L) (c n : ℕ) → sends s c n t → Sent c n (means s) (means t))
    (fetching : (s t : L) (c : ℕ) (got : Option ℕ) → fetches s c got t → Fetched c got (means s) (means t))
    (replying : (s t : L) (c n : ℕ) → replies s c n t → Replied c n (means s) (means t))
    (collecting : (s t : L) (c : ℕ) (got : Option ℕ) → collects s c got t → Collected c got (means s) (means t)) where
  aside : {C : Type 0} (w v : World C) (l m : L) (k : Call C) (a : Answer C) → ((x y : Meaning) → y ≡ x → steps.Moves w k None x y) → Aside w l k a v m → Step w (means l) k a v (means m)
  aside w v l m k a f h = record { got = None; answers = h.0; leaves = h.1; line = f (means l) (means m) (ap means h.2) }

  knocked : (c : ℕ) (r : Result ℕ Refusal) (l m : L) → Knocked sends c r l m → Sends c r (means l) (means m)
  knocked c (Err e) l m h = ap means h
  knocked c (Ok n) l m h = sending l m c n h

  said : (c : ℕ) (o : Option ℕ) (l m : L) → Said replies c o l m → Replies c o (means l) (means m)
  said c None l m h = ap means h
  said c (Some n) l m h = replying l m c n h

  attended : (c : ℕ) (got o : Option ℕ) (r : Result ℕ Refusal) (l m : L) → over.Unless r (m ≡ l) ((mid : L) × fetches l c got mid × Said replies c o mid m) → steps.Unless r (means m ≡ means l) (Attends c got o (means l) (means m))
  attended c got o (Err e) l m h = ap means h
  attended c got o (Ok n) l m h = record { mid = means h.0; fetched = fetching l h.0 c got h.1; replied = said c o h.0 m h.2 }

  heard : (c : ℕ) (got : Option ℕ) (r : Result ℕ Refusal) (l m : L) → over.Unless r (m ≡ l) (collects l c got m) → steps.Unless r (means m ≡ means l) (Collected c got (means l) (means m))
  heard c got (Err e) l m h = ap means h
  heard c got (Ok n) l m h = collecting l m c got h

  pub step_of : {C : Type 0} (w v : World C) (l m : L) (k : Call C) (a : Answer C) → ActBy sends fetches replies collects w l k a v m → Step w (means l) k a v (means m)
  step_of w v l m (New c p x) a h = aside w v l m (New c p x) a (λ x y e. e) h
  step_of w v l m (Load c p i q) a h = aside w v l m (Load c p i q) a (λ x y e. e) h
  step_of w v l m (Copy c p q) a h = aside w v l m (Copy c p q) a (λ x y e. e) h
  step_of w v l m (Drop c p) a h = aside w v l m (Drop c p) a (λ x y e. e) h
  step_of w v l m (Read c p) a h = aside w v l m (Read c p) a (λ x y e. e) h
  step_of w v l m (Look c p i q) a h = aside w v l m (Look c p i q) a (λ x y e. e) h
  step_of w v l m (Note c) a h = aside w v l m (Note c) a (λ x y e. e) h
  step_of w v l m (Store c) a h = aside w v l m (Store c) a (λ x y e. e) h
  step_of w v l m Open a h = aside w v l m Open a (λ x y e. e) h
  step_of w v l m (Knock c) a h =
      let r = h.0.0 in
      let k = h.0.2 in
      record { got = None; answers = h.0.1 ∙ ap answer k.answers; leaves = h.1; line = subst (λ q. Sends c q (means l) (means m)) k.answers (knocked c r l m k.line) }
  step_of w v l m (Attend c) a h =
      let r = h.0 in
      let k = h.2 in
      record { got = k.got; answers = h.1 ∙ ap answer k.answers; leaves = k.leaves; line = subst (λ q. steps.Unless q (means m ≡ means l) (Attends c k.got (attend_call w c k.got).1 (means l) (means m))) k.answers (attended c k.got (attend_call w c k.got).1 r l m k.line) }
  step_of w v l m (Hear c) a h =
      let r = h.0 in
      let k = h.2 in
      let e = ap (λ o. o.0) k.does in
      record { got = k.got; answers = h.1 ∙ ap answer e; leaves = ap (λ o. o.1) k.does; line = subst (λ q. steps.Unless q (means m ≡ means l) (Collected c k.got (means l) (means m))) e (heard c k.got r l m k.line) }
  step_of w v l m Trace a h = aside w v l m Trace a (λ x y e. e) h
  step_of w v l m Sweep a h = aside w v l m Sweep a (λ x y e. e) h
  step_of w v l m Settle a h = aside w v l m Settle a (λ x y e. e) h

  run_of : {C : Type 0} {w v : World C} {l m : L} {ks : List (Call C)} {rs : List (Answer C)} → RunBy sends fetches replies collects w l ks rs v m → Run w (means l) ks rs v (means m)
  run_of ended = done
  run_of (acts {w} {v} {l = l} {m = m} {k = k} {a = a} h r) = then (step_of w v l m k a h) (run_of r)

  pub one_act_more : {C : Type 0} {w v u : World C} {l m n : L} {ks : List (Call C)} {rs : List (Answer C)} (k : Call C) (a : Answer C) → RunBy sends fetches replies collects w l ks rs v m → ActBy sends fetches replies collects v m k a u n → RunBy sends fetches replies collects w l (ks ++ (k ∷ [])) (rs ++ (a ∷ [])) u n
  one_act_more k a ended h = acts h ended
  one_act_more k a (acts g r) h = acts g (one_act_more k a r h)

  pub played : {C : Type 0} {w v : World C} {l m : L} {ks : List (Call C)} {rs : List (Answer C)} → RunBy sends fetches replies collects w l ks rs v m → PlayedBy means sends fetches replies collects w l ks rs v m
  played r = record { exact = r; promised = ran (run_of r) }

  pub called : {C : Type 0} (w v : World C) (l m : L) (k : Call C) (a : Answer C) → ActBy sends fetches replies collects w l k a v m → CalledBy means sends fetches replies collects w l k a v m
  called w v l m k a h = record { exact = h; promised = promised (step_of w v l m k a h) }

pub begins : {C : Type 0} {w : World C} {m : Meaning} → Start w m → Begins w m
begins s = record { reached = reached_start s; mirrored = mirrored_start s }

none_among : {P : Type 0} (x : ℕ) (xs : List ℕ) → xs ≡ [] → Among x xs → P
none_among x xs e h = absurd (subst (Among x) e h)

pub silent_start : {C : Type 0} (w : World C) (m : Meaning) → AtRest w → Silent m → Start w m
silent_start w m r s = record { rest = r; low = record { orders = λ c x h. none_among x (m.orders c) (s.orders c) h; replies = λ c x h. none_among x (m.replies c) (s.replies c) h } }
