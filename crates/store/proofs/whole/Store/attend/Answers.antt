use Rattle.std.proofs.Common.{◌≡◌, ◌<◌, length, None, rules}
use Rattle.machine.specs.World.{card}
use Rattle.store.specs.World.{world}
use Rattle.store.proofs.Attending.{idle, old, over, new}
use Rattle.store.proofs.whole.Store.attend.Goals as goal

pub returns-in_default : goal.returns-in_default
returns-in_default g c =
    let w = world c.args.self.now in
    let lt : c.args.c < length w.cards = search rules in
    let up : (card w c.args.c).update ≡ None = search rules in
    idle g.L.Line.fetches g.L.Line.replies c.args.c w lt up c.args.line.now c.fetch.new.self c.in_default.ensures

pub returns-then-n-card : goal.returns-then-n-card
returns-then-n-card g c =
    let w = world c.args.self.now in
    let lt : c.args.c < length w.cards = search rules in
    let up : (card w c.args.c).update ≡ None = search rules in
    old g.L.Line.fetches g.L.Line.replies c.args.c w lt up c.args.line.now c.in-Some.n c.fetch.new.self c.reply.new.self c.in-Some.ensures c.reply.ensures (search rules)

pub returns-then-n-card-gt1 : goal.returns-then-n-card-gt1
returns-then-n-card-gt1 g c =
    let w = world c.args.self.now in
    let lt : c.args.c < length w.cards = search rules in
    let up : (card w c.args.c).update ≡ None = search rules in
    over g.L.Line.fetches g.L.Line.replies c.args.c w lt up c.args.line.now c.in-Some.n c.fetch.new.self c.in-Some.ensures (search rules)

pub returns : goal.returns
returns g c =
    let w = world c.args.self.now in
    let lt : c.args.c < length w.cards = search rules in
    let up : (card w c.args.c).update ≡ None = search rules in
    new g.L.Line.fetches g.L.Line.replies c.args.c w lt up c.args.line.now c.in-Some.n c.fetch.new.self c.reply-2.new.self (world c.obey.new.self) c.in-Some.ensures c.reply-2.ensures (search rules) c.obey.ensures
