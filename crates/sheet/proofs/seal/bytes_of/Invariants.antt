use Rattle.std.proofs.Common.{◌≡◌, ◌*◌, length, take}
use Rattle.std.specs.List.{flat_map}
use Rattle.sheet.specs.Values.{value_bytes}
use Rattle.sheet.proofs.seal.bytes_of.Given as goal

abbrev pub invariant-loop-value : goal.invariant-loop-value
invariant-loop-value l = (l.body.items ≡ flat_map value_bytes (take l.value-index l.values)) × (length l.body.items ≡ 18 * l.value-index)
