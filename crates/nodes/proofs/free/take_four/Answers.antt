use Rattle.std.proofs.Common.{rules}
use Rattle.nodes.proofs.free.take_four.Goals as goal
use Rattle.records.proofs.FreeLaws.{take_four_lifts}

pub returns-clause-stands : goal.returns-clause-stands
returns-clause-stands c = take_four_lifts c.args.records.now c.args.free _ (search rules)
