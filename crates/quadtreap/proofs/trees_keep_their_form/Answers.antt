use Rattle.quadtreap.proofs.trees_keep_their_form.Goals as goal
use Rattle.quadtreap.proofs.ValidLaws.{kept}
use Rattle.quadtreap.proofs.PairLaws.{stays_paired}
use Rattle.quadtreap.proofs.FindLaws.{finds}

pub returns : goal.returns
returns g c = record { paired = stays_paired; cells = kept; finds = finds }
