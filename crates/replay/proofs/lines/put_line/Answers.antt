-- The part of the room that is written on is the text of the line.
use Rattle.std.proofs.Common.{rules}
use Rattle.journal.proofs.PaddedLaws.{held_front}
use Rattle.replay.proofs.lines.put_line.Goals as goal

pub returns : goal.returns
returns c = let front = held_front 96 c.line.ensures.value in search rules
