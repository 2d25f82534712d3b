use Rattle.std.proofs.Common.{arith}
use Rattle.std.proofs.lemmas.Fmt.{length-decimal-le}
use Rattle.journal.proofs.decimal.U8Decimal.wide.Goals as goal

pub returns-clause-short : goal.returns-clause-short
returns-clause-short c = length-decimal-le 3 c.from.result (omega arith) (omega arith) (omega arith)
