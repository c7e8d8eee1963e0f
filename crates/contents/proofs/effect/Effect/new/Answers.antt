use Rattle.std.proofs.Common.{rules}
use Rattle.refusal.specs.declared.kinds.Refusal.TheVariants.{OutOfRange}
use Rattle.contents.specs.Readings.{refuses, makes}
use Rattle.contents.specs.EffectLaws.{effect_some, effect_none}
use Rattle.contents.proofs.effect.Effect.new.Goals as goal

pub returns-then-not-contains : goal.returns-then-not-contains
returns-then-not-contains c = refuses _ OutOfRange (effect_none c.args.relay c.args.delay (λ p q. search rules))

pub returns : goal.returns
returns c = makes _ OutOfRange _ (effect_some c.args.relay c.args.delay _ _)
