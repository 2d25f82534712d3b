-- The bytes are written over the first zeros.
use Rattle.std.proofs.Common.{arith}
use Rattle.journal.proofs.PaddedLaws.{written, held_more}
use Rattle.journal.proofs.writing.Writing.put.Goals as goal

pub invariant_of-self : goal.invariant_of-self
invariant_of-self g c = rw c.copy_from_slice.ensures.after record { held = held_more c.args.more.now c.requires (omega arith) c.args.self.now.held }

pub returns-clause-value : goal.returns-clause-value
returns-clause-value g c = rw c.copy_from_slice.ensures.after (written c.args.more.now c.requires (omega arith) c.args.self.now.held)
