use Rattle.std.proofs.Common.{sym, ap, ◌∙◌}
use Rattle.archive.proofs.Tables.{value_none, value_is}
use Rattle.archive.proofs.entry.Entry.value.Goals as goal

pub returns-then-serial-eq0 : goal.returns-then-serial-eq0
returns-then-serial-eq0 g c = value_none g.C.Contents.read c.args.self.now.pages.bytes.now c.args.self.now.k (sym c.serial.ensures ∙ c.if-serial-eq0.true)

pub returns : goal.returns
returns g c =
    c.reading.ensures ∙ ap g.C.Contents.read c.form.ensures
    ∙ value_is g.C.Contents.read c.args.self.now.pages.bytes.now c.args.self.now.k (λ z. c.if-serial-eq0.false (c.serial.ensures ∙ z))
