use Rattle.std.proofs.Common.{◌≡◌, ◌+◌, [], ◌∷◌, ◌++◌, take, vec_items, sym, ap, ◌∙◌, subst, rules}
use Rattle.std.proofs.lemmas.List.{take_more, take_all}
use Rattle.store.specs.World.{world}
use Rattle.promises.specs.Acting.{RunBy, ended}
use Rattle.promises.proofs.Stepping.{one_act_more, played}
use Rattle.promises.proofs.script.play.Goals as goal

pub loop-call-init : goal.loop-call-init
loop-call-init g c =
    let m = c.in_ok-answers.ensures in
    let By = RunBy g.L.Line.sends g.L.Line.fetches g.L.Line.replies g.L.Line.collects (world c.args.store.now) c.args.line.now [] in
    (subst (λ rs. By rs (world c.args.store.now) c.args.line.now) (sym m.items) ended, m.len, m.capacity)

pub loop-call-preserved : goal.loop-call-preserved
loop-call-preserved g c =
    let law = g.met.L.Line in
    let i = c.loop-call.call-index in
    let ks = c.args.script.now in
    let k = c.call-item.result in
    let By = RunBy g.L.Line.sends g.L.Line.fetches g.L.Line.replies g.L.Line.collects (world c.args.store.now) c.args.line.now in
    let calls : take i ks ++ (k ∷ []) ≡ take (i + 1) ks = ap (λ x. take i ks ++ (x ∷ [])) c.call-item.is ∙ sym (take_more ks i k c.loop-call-test.true) in
    let r = one_act_more g.L.Line.means g.L.Line.sends g.L.Line.fetches g.L.Line.replies g.L.Line.collects law.sending law.fetching law.replying law.collecting k c.make_call-answer.result c.loop-call.invariant.0 c.make_call-answer.ensures in (
      subst (λ qs. By qs (vec_items c.push_reserved.new.self) (world c.make_call-answer.new.store) c.make_call-answer.new.line) calls
          (subst (λ rs. By (take i ks ++ (k ∷ [])) rs (world c.make_call-answer.new.store) c.make_call-answer.new.line) (sym c.push_reserved.ensures.items) r),
      search rules,
      search rules,
    )

pub returns : goal.returns
returns g c =
    let law = g.met.L.Line in
    let ks = c.args.script.now in
    let By = RunBy g.L.Line.sends g.L.Line.fetches g.L.Line.replies g.L.Line.collects (world c.args.store.now) c.args.line.now in
    played g.L.Line.means g.L.Line.sends g.L.Line.fetches g.L.Line.replies g.L.Line.collects law.sending law.fetching law.replying law.collecting
    (subst (λ qs. By qs (vec_items c.loop-call.answers) (world c.loop-call.store) c.loop-call.line) (take_all c.loop-call.call-index ks c.loop-call-test.false) c.loop-call.invariant.0)
