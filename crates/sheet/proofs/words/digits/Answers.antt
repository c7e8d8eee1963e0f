use Rattle.std.proofs.Common.{◌+◌, cond, get_or, drop, None, sym, ap, ◌∙◌}
use Rattle.std.proofs.lemmas.List.{at_drop_more, at_drop_all}
use Rattle.sheet.specs.Words.{digits_after, goes_on}
use Rattle.sheet.proofs.words.digits.Goals as goal

pub returns-then-not-is_digit : goal.returns-then-not-is_digit
returns-then-not-is_digit c =
    let w = c.args.word.now in
    let i = c.loop-b.b-index in
    sym (c.loop-b.invariant ∙ at_drop_more (digits_after c.loop-b.n) w i 0 c.loop-b-test.true
    ∙ ap (λ t. cond t (digits_after (goes_on c.loop-b.n (get_or w i 0)) (drop (i + 1) w)) None) (sym c.if-not-is_digit.ensures))

pub loop-b-preserved : goal.loop-b-preserved
loop-b-preserved c =
    let w = c.args.word.now in
    let i = c.loop-b.b-index in
    c.loop-b.invariant ∙ at_drop_more (digits_after c.loop-b.n) w i 0 c.loop-b-test.true
    ∙ ap (λ t. cond t (digits_after (goes_on c.loop-b.n (get_or w i 0)) (drop (i + 1) w)) None) (sym c.if-not-is_digit.ensures)
    ∙ ap (λ n. digits_after n (drop (i + 1) w)) (sym c.goes_on-n.ensures)

pub returns : goal.returns
returns c = sym (c.loop-b.invariant ∙ at_drop_all (digits_after c.loop-b.n) c.args.word.now c.loop-b.b-index c.loop-b-test.false)
