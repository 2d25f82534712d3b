use Rattle.std.proofs.Common.{arith}
use Rattle.std.proofs.lemmas.Fmt.{length-decimal-le}
use Rattle.journal.proofs.decimal.U64Decimal.wide.Goals as goal

pub returns-clause-short : goal.returns-clause-short
returns-clause-short c = length-decimal-le 20 c.args.self (omega arith) (omega arith) (omega arith)
