use Rattle.std.proofs.Common.{vec_items}
use Rattle.std.specs.Iterator.Adapters.{zip_first, zip_second}
use Rattle.replay.proofs.RunLaws.{Goes}
use Rattle.map.specs.Maps.{state_of}
use Rattle.replay.proofs.runs.replay.Given as goal

-- The number of the next record, and the bytes that are left, are those of the iterator.
abbrev pub invariant-loop-number : goal.invariant-loop-number
invariant-loop-number l =
    Goes l.initial.map.places l.records (zip_second l.number-iterator).0.now (zip_first l.number-iterator).start (vec_items l.out) (state_of l.map)
