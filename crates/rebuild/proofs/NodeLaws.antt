-- How many nodes a tree has, and how high it is.
use Rattle.std.proofs.Common.{◌≡◌, suc, ◌+◌, ◌<◌, max, refl, arith}
use Rattle.std.proofs.Math.Option.{Option as Maybe}
use Rattle.place.specs.Boxes.{Box}
use Rattle.quadtreap.specs.Tree.{Tree, leaf, shrink, split, nodes, height}
use Rattle.replay.specs.Weights.{Weighed}
use Rattle.rebuild.specs.declared.node.Kind.{Kind}
use Rattle.rebuild.specs.declared.node.Kind.TheVariants.{Shrink, Split}
use Rattle.rebuild.specs.Trees.{joined_by}

-- the nodes of either kind of node
pub nodes_joined : (k : Kind) (C : Box) (i : Maybe Box) (a b : Tree Weighed) → nodes (joined_by k C i a b) ≡ suc (nodes a + nodes b)
nodes_joined Shrink C i a b = refl
nodes_joined Split C i a b = refl

-- and its height
pub height_joined : (k : Kind) (C : Box) (i : Maybe Box) (a b : Tree Weighed) → height (joined_by k C i a b) ≡ suc (max (height a) (height b))
height_joined Shrink C i a b = refl
height_joined Split C i a b = refl

-- a tree is less high than it has nodes
pub height_few : (t : Tree Weighed) → height t < nodes t
height_few (leaf C c) = omega arith
height_few (shrink C i a b) = omega (arith, height_few a, height_few b)
height_few (split E i a b) = omega (arith, height_few a, height_few b)

-- each tree has a node
pub nodes_some : (t : Tree Weighed) → 0 < nodes t
nodes_some t = omega (arith, height_few t)
