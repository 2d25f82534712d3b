use Rattle.quadtreap.proofs.same_readings_same_tree.Goals as goal
use Rattle.quadtreap.proofs.SameLaws.{same_readings, same_set}

pub returns : goal.returns
returns g c = record { same_readings = same_readings; same_set = same_set }
