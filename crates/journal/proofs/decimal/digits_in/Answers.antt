-- A number below ten has one digit, and of any other the powers of ten around it tell how many.
use Rattle.std.proofs.Common.{arith, ap, sym, length}
use Rattle.std.proofs.lemmas.Fmt.{decimal_digit}
use Rattle.journal.proofs.Digits.{between_powers}
use Rattle.journal.proofs.decimal.digits_in.Goals as goal

pub returns-then-n-lt10 : goal.returns-then-n-lt10
returns-then-n-lt10 c = record { value = sym (ap length (decimal_digit c.args.n c.if-n-lt10.true)) }

pub returns : goal.returns
returns c = record { value = sym (between_powers c.ilog10.result c.args.n c.ilog10.ensures.power_le c.ilog10.ensures.next_power_gt (omega arith)) }
