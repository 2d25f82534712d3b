use Rattle.std.proofs.Common.{rules}
use Rattle.nodes.proofs.promotion.promote_outer.Goals as goal
use Rattle.records.proofs.PromiseLaws.{outer_lifts}

pub returns-clause-stands : goal.returns-clause-stands
returns-clause-stands g c = outer_lifts g.row.K.Denot c.args.records.now _ c.args.s (search rules)
