use Rattle.map.proofs.Map.levels.Goals as goal
use Rattle.tables.proofs.HeightLaws.{height_empty, height_held}

pub returns-in_default : goal.returns-in_default
returns-in_default g c = record { value = height_empty g.K.Tally.joined g.K.Tally.neutral _ c.in_default.is }

pub returns : goal.returns
returns g c = record { value = height_held g.K.Tally.joined g.K.Tally.neutral _ c.in-Some.root _ c.in-Some.is c.height.ensures.stands }
