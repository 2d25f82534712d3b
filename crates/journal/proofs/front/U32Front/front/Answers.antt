-- The bytes that were read are those of the number.
use Rattle.std.proofs.Common.{rules}
use Rattle.std.proofs.lemmas.Nat.{be_bytes_4}
use Rattle.journal.specs.Layout.{be32}
use Rattle.journal.proofs.Fronts.{bytes_taken, begins}
use Rattle.journal.proofs.front.U32Front.front.Goals as goal

pub returns-clause-value : goal.returns-clause-value
returns-clause-value c =
    let parts = c.in_ok-first.ensures.cases in
    begins 4 c.args.bytes.now (be32 c.from_be_bytes.result) parts.0 parts.1
    (be_bytes_4 c.in_ok-first.first.now c.from_be_bytes.result (search rules) (rw parts.0 (bytes_taken 4 c.args.bytes.now (λ i. let byte = c.type_inv.bytes i in search rules))) c.from_be_bytes.ensures)
