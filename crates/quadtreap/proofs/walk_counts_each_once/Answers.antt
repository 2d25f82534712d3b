use Rattle.quadtreap.proofs.walk_counts_each_once.Goals as goal
use Rattle.quadtreap.proofs.WalkLaws.{counts_each_once}

pub returns : goal.returns
returns g c = record { counts_each_once = counts_each_once }
