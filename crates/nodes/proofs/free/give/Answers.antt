use Rattle.std.proofs.Common.{refl, rules}
use Rattle.nodes.proofs.free.give.Goals as goal
use Rattle.records.proofs.FreeLaws.{give_lifts}

pub returns-clause-stands : goal.returns-clause-stands
returns-clause-stands c = give_lifts c.args.records.now _ c.args.free _ c.args.place (search rules) refl
