use Rattle.std.proofs.Common.{rules}
use Rattle.nodes.proofs.rise.settle.Goals as goal
use Rattle.records.proofs.PromiseLaws.{settle_lifts}

pub returns-in_default-clause-stands : goal.returns-in_default-clause-stands
returns-in_default-clause-stands g c = settle_lifts g.row.K.Denot c.args.records.now _ c.args.s _ _ (search rules) (search rules) (search rules)

pub returns-then-ne-clause-stands : goal.returns-then-ne-clause-stands
returns-then-ne-clause-stands g c = settle_lifts g.row.K.Denot c.args.records.now _ c.args.s _ _ (search rules) (search rules) (search rules)

pub returns-in_default-parent-clause-stands : goal.returns-in_default-parent-clause-stands
returns-in_default-parent-clause-stands g c = settle_lifts g.row.K.Denot c.args.records.now _ c.args.s _ _ (search rules) (search rules) (search rules)

pub returns-clause-stands : goal.returns-clause-stands
returns-clause-stands g c = settle_lifts g.row.K.Denot c.args.records.now _ c.args.s _ _ (search rules) (search rules) (search rules)
