-- None of the readings passed has the code.
use Rattle.std.proofs.Common.{◌≡◌, map, drop}
use Rattle.tables.specs.Calls.{present}
use Rattle.rebuild.specs.Trees.{reading_of}
use Rattle.rebuild.proofs.rolls.present.Given as goal

abbrev pub invariant-loop-reading : goal.invariant-loop-reading
invariant-loop-reading l = present l.code (map reading_of (drop l.reading-index l.readings)) ≡ present l.code (map reading_of l.readings)
