use Rattle.quadtreap.proofs.enter_gives_tree.Goals as goal
use Rattle.quadtreap.proofs.MapLaws.{enter_gives_tree}

pub returns : goal.returns
returns g c = record { value = enter_gives_tree }
