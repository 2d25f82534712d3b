-- The tree that the boxed nodes are.
--   cell_of, reading_of, content_of, inner_of   the box of a cell, the reading of a live one, the content of a leaf, the inner box of a node
--   joined_by, tree, tree_in                    the tree of a node, and of a root, if there is one
use Rattle.std.specs.Prelude.{Some, None, Option}
use Rattle.std.proofs.Math.Option.{Option as Maybe, none, some}
use Rattle.place.specs.Boxes.{Box}
use Rattle.place.specs.Values.{box_of}
use Rattle.place.specs.declared.place_box.PlaceBox.{PlaceBox}
use Rattle.quadtreap.specs.Tree.{Reading, Content as TreeContent, reading, box, Tree, leaf, shrink, split}
use Rattle.replay.specs.Weights.{Weighed}
use Rattle.rebuild.specs.declared.node.Live.{Live}
use Rattle.rebuild.specs.declared.node.Cell.{Cell}
use Rattle.rebuild.specs.declared.node.Content.{Content}
use Rattle.rebuild.specs.declared.node.Content.TheVariants.{Reading as OfReading, Box as OfBox}
use Rattle.rebuild.specs.declared.node.Kind.{Kind}
use Rattle.rebuild.specs.declared.node.Kind.TheVariants.{Shrink, Split}
use Rattle.rebuild.specs.declared.node.Node.{Node}
use Rattle.rebuild.specs.declared.node.Node.TheVariants.{Leaf, Inner'}

-- The box of the two numbers of a cell.
abbrev pub cell_of : Cell → Box
cell_of c = record { depth = c.depth; code = c.code }

-- The reading with the rank and the tally of a live one.
abbrev pub reading_of : Live → Reading Weighed
reading_of r = record { code = r.rank.code; priority = r.rank.priority; tally = r.tally }

-- The reading or the inner box that a leaf holds.
abbrev pub content_of : Content → TreeContent Weighed
content_of (OfReading r) = reading (reading_of r)
content_of (OfBox b) = box (box_of b)

-- The inner box of a node that has children, if there is one.
abbrev pub inner_of : Option PlaceBox → Maybe Box
inner_of None = none
inner_of (Some b) = some (box_of b)

-- A node of one of the two kinds, with its boxes and its two children.
abbrev pub joined_by : Kind → Box → Maybe Box → Tree Weighed → Tree Weighed → Tree Weighed
joined_by Shrink C i a b = shrink C i a b
joined_by Split C i a b = split C i a b

-- The tree of a node.
abbrev pub tree : Node → Tree Weighed
tree (Leaf cell content) = leaf (cell_of cell) (content_of content)
tree (Inner' kind cell inner p first q second) = joined_by kind (cell_of cell) (inner_of inner) (tree first) (tree second)

-- The tree of a root, if there is one.
abbrev pub tree_in : Option Node → Maybe (Tree Weighed)
tree_in None = none
tree_in (Some n) = some (tree n)
