use Rattle.nodes.proofs.heights.+height.Given as goal

abbrev pub decreases-height : goal.decreases-height
decreases-height g l = l.left
