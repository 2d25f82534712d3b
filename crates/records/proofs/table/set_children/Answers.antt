use Rattle.std.proofs.Common.{rules, get_or-set_same}
use lib.Seq.{set-set}
use Rattle.records.proofs.table.set_children.Goals as goal

pub returns-then-place-records : goal.returns-then-place-records
returns-then-place-records g = search (rules, set-set, get_or-set_same)
