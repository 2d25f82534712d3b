use Rattle.std.proofs.Common.{◌≡◌, vec_items}
use Rattle.std.specs.Iterator.Adapters.{zip_first, zip_second}
use Rattle.rebuild.specs.Rolls.{readings}
use Rattle.rebuild.proofs.RunLaws.{Goes}
use Rattle.rebuild.proofs.runs.replay.Given as goal

-- The number of the next record, and the bytes that are left, are those of the iterator, and the places stay as many.
abbrev pub invariant-loop-number : goal.invariant-loop-number
invariant-loop-number l =
    (l.roll.places ≡ l.initial.roll.places)
    × Goes l.initial.roll.places l.records (zip_second l.number-iterator).0.now (zip_first l.number-iterator).start (vec_items l.out) (readings l.roll)
