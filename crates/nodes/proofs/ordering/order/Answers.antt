use Rattle.std.proofs.Common.{rules}
use Rattle.nodes.proofs.ordering.order.Goals as goal
use Rattle.records.proofs.PromiseLaws.{ordered_lifts}

pub returns-then-is_some-clause-stands : goal.returns-then-is_some-clause-stands
returns-then-is_some-clause-stands g c = ordered_lifts g.row.K.Denot c.args.records.now _ c.args.s (search rules)

pub returns-then-ranks_before-clause-stands : goal.returns-then-ranks_before-clause-stands
returns-then-ranks_before-clause-stands g c = ordered_lifts g.row.K.Denot c.args.records.now _ c.args.s (search rules)

pub returns-clause-stands : goal.returns-clause-stands
returns-clause-stands g c = ordered_lifts g.row.K.Denot c.args.records.now _ c.args.s (search rules)
