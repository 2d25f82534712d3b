-- The law is a lemma of its own.
use Rattle.replay.proofs.PrintoutLaws.{one_printout}
use Rattle.replay.proofs.runs.one_printout.Goals as goal

pub returns : goal.returns
returns c = record { value = one_printout }
