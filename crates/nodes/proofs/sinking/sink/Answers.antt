use Rattle.std.proofs.Common.{rules}
use Rattle.nodes.proofs.sinking.sink.Goals as goal
use Rattle.records.proofs.StrikeLaws.{sink_lifts}

pub returns-then-ne-clause-stands : goal.returns-then-ne-clause-stands
returns-then-ne-clause-stands g c = sink_lifts g.row.K.Denot c.args.records.now _ c.args.s c.args.code _ (search rules) (search rules)

pub returns-clause-stands : goal.returns-clause-stands
returns-clause-stands g c = sink_lifts g.row.K.Denot c.args.records.now _ c.args.s c.args.code _ (search rules) (search rules)
