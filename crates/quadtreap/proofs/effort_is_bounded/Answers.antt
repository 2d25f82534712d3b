use Rattle.quadtreap.proofs.effort_is_bounded.Goals as goal
use Rattle.quadtreap.proofs.EffortLaws.{effort_is_bounded}

pub returns : goal.returns
returns g c = record { effort = effort_is_bounded }
