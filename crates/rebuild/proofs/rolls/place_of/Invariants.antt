-- None of the readings passed ranks after the rank.
use Rattle.std.proofs.Common.{◌≡◌, ◌+◌, drop}
use Rattle.std.specs.List.{position_or_len}
use Rattle.rebuild.specs.Rolls.{comes_after}
use Rattle.rebuild.proofs.rolls.place_of.Given as goal

abbrev pub invariant-loop-reading : goal.invariant-loop-reading
invariant-loop-reading l =
    (l.i ≡ l.reading-index) × (l.i + position_or_len (comes_after l.rank) (drop l.reading-index l.readings) ≡ position_or_len (comes_after l.rank) l.readings)
