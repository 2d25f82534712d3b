use Rattle.std.proofs.Common.{rules}
use lib.Seq.{set_out}
use Rattle.records.proofs.table.write.Goals as goal

pub returns-else-place-entries : goal.returns-else-place-entries
returns-else-place-entries g c = search (rules, set_out)
