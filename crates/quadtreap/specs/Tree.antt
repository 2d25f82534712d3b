-- The tree of readings, and insertion.
--   Reading                                a place by its code, with a priority and a tally
--   Content, Tree                          what a leaf holds; leaves, shrink nodes and split nodes
--   point_of, extent, box_in, outer        the box of a reading and of a content, the inner box of a leaf, the outer box of a node
--   lies, outside                          whether a reading lies in a box
--   pair, planted, insert                  insertion of one reading
--   insert_all, build, tree_of             insertion of a list of readings
--   nodes, height, map_nodes, map_height   how many nodes a tree has, and how high it is
use Rattle.std.specs.Prelude.{ℕ, suc, ◌+◌, max, Bool, cond, not, List, [], ◌∷◌}
use Rattle.std.proofs.Math.Option.{Option, none, some}
use Rattle.place.specs.Boxes.{Box, whole, point, holds, smallest, half}

-- A reading is a place, given by its code, with a priority and a tally.
pub record Reading (K : Type 0) : Type 0 where
  pub code : ℕ
  pub priority : ℕ
  pub tally : K

-- A leaf holds a reading, or an inner box.
pub data Content (K : Type 0) : Type 0 where
  reading : Reading K → Content K
  box : Box → Content K

-- A leaf has an outer box and a content, and a shrink or a split node has an outer box, an inner box or none, and two children.
pub data Tree (K : Type 0) : Type 0 where
  leaf : Box → Content K → Tree K
  shrink : Box → Option Box → Tree K → Tree K → Tree K
  split : Box → Option Box → Tree K → Tree K → Tree K

-- The box of a reading's own code.
abbrev pub point_of : {K : Type 0} → Reading K → Box
point_of r = point r.code

-- The box of what a leaf holds.
abbrev pub extent : {K : Type 0} → Content K → Box
extent (reading r) = point_of r
extent (box I) = I

-- The inner box that a leaf holds, if it holds one.
abbrev pub box_in : {K : Type 0} → Content K → Option Box
box_in (reading r) = none
box_in (box I) = some I

-- The outer box of a node.
abbrev pub outer : {K : Type 0} → Tree K → Box
outer (leaf C c) = C
outer (shrink C i a b) = C
outer (split E i a b) = E

-- Whether the reading lies in the box.
abbrev pub lies : {K : Type 0} → Box → Reading K → Bool
lies B r = holds B r.code

-- Whether the reading lies outside the box.
abbrev pub outside : {K : Type 0} → Box → Reading K → Bool
outside B r = not (lies B r)

-- A shrink node on C whose inner child is a split node on E with the children L and R, and whose outer child is O; i is the inner box of both.
abbrev pub pair : {K : Type 0} → Box → Option Box → Box → Tree K → Tree K → Tree K → Tree K
pair C i E L R O = shrink C i (split E i L R) O

-- What a leaf with the outer box C and the content c becomes where p falls into it: left of the split on E the content, right of it p, and the outer child is a leaf with the inner box E.
abbrev pub planted : {K : Type 0} → Box → Content K → Reading K → Box → Tree K
planted C c p E = pair C (box_in c) E (leaf (half E (extent c)) c) (leaf (half E (point_of p)) (reading p)) (leaf C (box E))

-- Insertion of p: it goes down to the leaf that it falls into, and there E is the smallest box of what the leaf holds and p.
abbrev pub insert : {K : Type 0} → Tree K → Reading K → Tree K
insert (leaf C c) p = planted C c p (smallest (extent c) (point_of p))
insert (shrink C i a b) p = cond (lies (outer a) p) (shrink C i (insert a p) b) (shrink C i a (insert b p))
insert (split E i a b) p = cond (lies (outer a) p) (split E i (insert a p) b) (split E i a (insert b p))

-- Insertion of one reading after another.
abbrev pub insert_all : {K : Type 0} → Tree K → List (Reading K) → Tree K
insert_all t [] = t
insert_all t (p ∷ ps) = insert_all (insert t p) ps

-- The tree of a leaf with the outer box C and the content c after the readings in order.
abbrev pub build : {K : Type 0} → Box → Content K → List (Reading K) → Tree K
build C c ps = insert_all (leaf C c) ps

-- The tree of a list of readings, none for no reading: the first is a leaf over the whole square, and the others are inserted in order.
abbrev pub tree_of : {K : Type 0} → List (Reading K) → Option (Tree K)
tree_of [] = none
tree_of (r ∷ rs) = some (build whole (reading r) rs)

-- The number of nodes.
abbrev pub nodes : {K : Type 0} → Tree K → ℕ
nodes (leaf C c) = 1
nodes (shrink C i a b) = suc (nodes a + nodes b)
nodes (split E i a b) = suc (nodes a + nodes b)

-- The height of a leaf is 0, and that of any other node is one more than the greater height of its two children.
abbrev pub height : {K : Type 0} → Tree K → ℕ
height (leaf C c) = 0
height (shrink C i a b) = suc (max (height a) (height b))
height (split E i a b) = suc (max (height a) (height b))

-- The number of nodes of a map, 0 where it has no reading.
abbrev pub map_nodes : {K : Type 0} → Option (Tree K) → ℕ
map_nodes none = 0
map_nodes (some t) = nodes t

-- The height of a map, 0 where it has no reading.
abbrev pub map_height : {K : Type 0} → Option (Tree K) → ℕ
map_height none = 0
map_height (some t) = height t
