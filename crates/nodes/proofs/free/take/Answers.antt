use Rattle.std.proofs.Common.{rules}
use Rattle.nodes.proofs.free.take.Goals as goal
use Rattle.records.proofs.FreeLaws.{take_lifts}

pub returns-in-Some-clause-stands : goal.returns-in-Some-clause-stands
returns-in-Some-clause-stands c = take_lifts c.args.records.now c.args.free _ (search rules)

pub returns-in-None-clause-stands : goal.returns-in-None-clause-stands
returns-in-None-clause-stands c = take_lifts c.args.records.now c.args.free _ (search rules)
