use Rattle.std.proofs.Common.{rules}
use Rattle.nodes.proofs.free.give_four.Goals as goal
use Rattle.records.proofs.FreeLaws.{give_four_lifts}

pub returns-clause-stands : goal.returns-clause-stands
returns-clause-stands c = give_four_lifts c.args.records.now _ c.args.free _ c.args.n (search rules) (search rules)
