use Rattle.quadtreap.proofs.strike_gives_tree.Goals as goal
use Rattle.quadtreap.proofs.MapLaws.{strike_gives_tree}

pub returns : goal.returns
returns g c = record { value = strike_gives_tree }
