-- A half by its two numbers.
use Rattle.std.proofs.Common.{◌+◌, refl}
use Rattle.place.specs.Values.{box_of}
use Rattle.rebuild.proofs.CellLaws.{half_is}
use Rattle.rebuild.proofs.node.Cell.half.Goals as goal

pub returns : goal.returns
returns c = record { value = half_is (box_of c.args.whole) (box_of c.new.result) (c.args.whole.depth + 1) c.args.code c.new.result.code refl c.new.ensures.value refl }
