use Rattle.std.proofs.Common.{rules}
use Rattle.nodes.proofs.heights.+height.Goals as goal
use Rattle.records.proofs.HeightLaws.{height_lifts}

pub returns-clause-stands : goal.returns-clause-stands
returns-clause-stands g t c = height_lifts g.row.K.Denot _ _ _ _ (search rules)
