use Rattle.std.proofs.Common.{◌++◌, length, take, ap, ◌∙◌, arith, length-append}
use Rattle.std.specs.List.{flat_map}
use Rattle.std.proofs.lemmas.List.{take_all}
use Rattle.sheet.specs.Values.{value_bytes}
use Rattle.sheet.proofs.Sealing.{eighteen, one_more}
use Rattle.sheet.proofs.seal.bytes_of.Goals as goal

pub loop-value-preserved : goal.loop-value-preserved
loop-value-preserved c =
    let v = c.value-item.result in (
      c.add.ensures ∙ ap (λ t. t ++ value_bytes v) c.loop-value.invariant.0 ∙ ap (λ x. flat_map value_bytes (take c.loop-value.value-index c.args.values.now) ++ value_bytes x) c.value-item.is ∙ one_more c.args.values.now c.loop-value.value-index v c.loop-value-test.true,
      ap length c.add.ensures ∙ omega (arith, length-append c.loop-value.body.items (value_bytes v), c.loop-value.invariant.1, eighteen v),
    )

pub returns : goal.returns
returns c = c.loop-value.invariant.0 ∙ ap (flat_map value_bytes) (take_all c.loop-value.value-index c.args.values.now c.loop-value-test.false)
