use Rattle.quadtreap.proofs.walks_go_by_steps.Goals as goal
use Rattle.quadtreap.proofs.WalkLaws.{totals, same_tests}
use Rattle.quadtreap.proofs.VisitLaws.{step_by_step}

pub returns : goal.returns
returns g c = record { totals = totals; steps = step_by_step; tests = same_tests }
