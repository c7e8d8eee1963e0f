use Rattle.std.proofs.Common.{◌≡◌, ℕ, Err, ◌∙◌, arith, rules}
use Rattle.std.specs.Option.{ok_or}
use Rattle.refusal.specs.declared.kinds.Refusal.TheVariants.{OutOfRange}
use Rattle.contents.specs.Readings.{refused_with, refuses, makes}
use Rattle.contents.specs.Kinds.{kind_numbered}
use Rattle.contents.specs.EventLaws.{event_some, event_none}
use Rattle.contents.proofs.event.Event.new.Goals as goal

pub returns-in_err-kind : goal.returns-in_err-kind
returns-in_err-kind c =
    let r : Err c.in_err-kind.field-0.0 ≡ ok_or (kind_numbered c.args.kind) OutOfRange = search rules in
    let o = refused_with _ OutOfRange _ r in
    let e : c.from_residual.result ≡ Err OutOfRange = search rules in
    e ∙ refuses _ OutOfRange (event_none c.args.moment c.args.device c.args.zone c.args.kind (λ k e p q s. let z : ◌≡◌ {A = ℕ} 0 1 = cc (e, o.0) in omega arith))

pub returns-then-not-contains : goal.returns-then-not-contains
returns-then-not-contains c = refuses _ OutOfRange (event_none c.args.moment c.args.device c.args.zone c.args.kind (λ k e p q r. search rules))

pub returns : goal.returns
returns c = makes _ OutOfRange _ (event_some c.args.moment c.args.device c.args.zone c.args.kind c.in_ok-kind.kind _ _ _ (search rules))
