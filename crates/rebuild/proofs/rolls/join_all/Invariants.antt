-- The readings passed have been joined to, and the others are as they were.
use Rattle.std.proofs.Common.{◌≡◌, map}
use Rattle.tables.specs.Calls.{more}
use Rattle.replay.specs.Weights.{joined}
use Rattle.rebuild.specs.Trees.{reading_of}
use Rattle.rebuild.proofs.JoinLaws.{carry_first}
use Rattle.rebuild.proofs.rolls.join_all.Given as goal

abbrev pub invariant-loop-reading : goal.invariant-loop-reading
invariant-loop-reading l = map reading_of l.readings ≡ carry_first (more joined l.code l.extra) l.reading-index (map reading_of l.initial.readings)
