use Rattle.std.proofs.Common.{rules}
use Rattle.nodes.proofs.promotion.promote_left.Goals as goal
use Rattle.records.proofs.PromiseLaws.{left_lifts}

pub returns-clause-stands : goal.returns-clause-stands
returns-clause-stands g c = left_lifts g.row.K.Denot c.args.records.now _ c.args.x (search rules)
