use Rattle.quadtreap.proofs.tree_is_described.Goals as goal
use Rattle.quadtreap.proofs.NodeLaws.{node_count}
use Rattle.quadtreap.proofs.LayoutLaws.{layout_is_insertion}

pub returns : goal.returns
returns g c = record { layout = layout_is_insertion; nodes = node_count }
