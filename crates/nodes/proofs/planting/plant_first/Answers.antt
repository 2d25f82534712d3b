use Rattle.std.proofs.Common.{rules}
use Rattle.nodes.proofs.planting.plant_first.Goals as goal
use Rattle.records.proofs.PromiseLaws.{plant_first_lifts}

pub returns-clause-stands : goal.returns-clause-stands
returns-clause-stands g c = plant_first_lifts g.row.K.Denot c.args.records.now _ c.args.at c.args.rank (search rules)
