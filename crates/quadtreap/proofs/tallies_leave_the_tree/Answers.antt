use Rattle.quadtreap.proofs.tallies_leave_the_tree.Goals as goal
use Rattle.quadtreap.proofs.CarryLaws.{carried}

pub returns : goal.returns
returns g c = record { carried = carried }
