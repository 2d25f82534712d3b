-- Pairs of nodes, a shrink node over a split node: their parts, their ranks, and what moves them.
--   first, second, inner_box, split_box, left_of, right_of, is_leaf, is_none   the parts of a node and of a pair
--   exchanged, promote_left, promote_outer                                     left and right exchanged; a child that rises over the pair
--   unranked, node_rank, creation, earlier_than                                the rank of a node, and of the reading that made a pair
--   out_of_order, ordered                                                      left and right in rank order
--   Frame, plug, plug_all                                                      pairs without one of their children, and with it
--   InnerBoxes, Paired, Fitting                                                trees that are made of pairs
use Rattle.std.specs.Prelude.{◌≡◌, Bool, true, false, cond, ◌&&◌, List, [], ◌∷◌}
use Rattle.std.proofs.Math.Option.{Option, none, some}
use Rattle.place.specs.Boxes.{Box}
use Rattle.quadtreap.specs.Tree.{reading, box, Tree, leaf, shrink, split, box_in, outer, pair}
use Rattle.quadtreap.specs.declared.rank.Rank.{Rank}
use Rattle.quadtreap.specs.Rank.{earlier, rank_of}

-- The first child of a node, and a leaf itself.
abbrev pub first : {K : Type 0} → Tree K → Tree K
first (leaf C c) = leaf C c
first (shrink C i a b) = a
first (split E i a b) = a

-- The second child of a node, and a leaf itself.
abbrev pub second : {K : Type 0} → Tree K → Tree K
second (leaf C c) = leaf C c
second (shrink C i a b) = b
second (split E i a b) = b

-- The inner box of a node, if it has one.
abbrev pub inner_box : {K : Type 0} → Tree K → Option Box
inner_box (leaf C c) = box_in c
inner_box (shrink C i a b) = i
inner_box (split E i a b) = i

-- The box of a pair's split node.
abbrev pub split_box : {K : Type 0} → Tree K → Box
split_box x = outer (first x)

-- The left child of a pair.
abbrev pub left_of : {K : Type 0} → Tree K → Tree K
left_of x = first (first x)

-- The right child of a pair.
abbrev pub right_of : {K : Type 0} → Tree K → Tree K
right_of x = second (first x)

-- Whether the node is a leaf.
abbrev pub is_leaf : {K : Type 0} → Tree K → Bool
is_leaf (leaf C c) = true
is_leaf (shrink C i a b) = false
is_leaf (split E i a b) = false

-- Whether there is no inner box.
abbrev pub is_none : Option Box → Bool
is_none none = true
is_none (some I) = false

-- The pair with its left and right child exchanged.
abbrev pub exchanged : {K : Type 0} → Tree K → Tree K
exchanged x = shrink (outer x) (inner_box x) (split (split_box x) (inner_box (first x)) (right_of x) (left_of x)) (second x)

-- The left child rises over the pair: it takes the outer box, and the pair becomes its outer child.
abbrev pub promote_left : {K : Type 0} → Tree K → Tree K
promote_left x =
    let y : Tree _ = left_of x in
    shrink (outer x) (inner_box y) (first y) (pair (outer x) (some (split_box y)) (split_box x) (second y) (right_of x) (second x))

-- The outer child rises over the pair: it takes the inner box, and the pair becomes its left child.
abbrev pub promote_outer : {K : Type 0} → Tree K → Tree K
promote_outer x =
    let y : Tree _ = second x in
    pair (outer y) (inner_box x) (split_box y) (shrink (outer (left_of y)) (inner_box x) (first x) (left_of y)) (right_of y) (second y)

-- The rank that stands for none.
abbrev pub unranked : Rank
unranked = record { priority = 0; code = 0 }

-- The rank that a node carries: none where it has an inner box, and else that of its first reading.
abbrev pub node_rank : {K : Type 0} → Tree K → Rank
node_rank (leaf C (reading r)) = rank_of r
node_rank (leaf C (box I)) = unranked
node_rank (shrink C none a b) = node_rank a
node_rank (shrink C (some I) a b) = unranked
node_rank (split E none a b) = node_rank a
node_rank (split E (some I) a b) = unranked

-- The rank of the reading that made a pair, which is the first one of its right child; a leaf has none.
abbrev pub creation : {K : Type 0} → Tree K → Option Rank
creation (leaf C c) = none
creation (shrink C i a b) = some (node_rank (second a))
creation (split E i a b) = none

-- Whether there is a first rank, and it comes before the second one if there is one.
abbrev pub earlier_than : Option Rank → Option Rank → Bool
earlier_than none b = false
earlier_than (some a) none = true
earlier_than (some a) (some b) = earlier a b

-- Whether a pair has no inner box and its right child ranks before its left one.
abbrev pub out_of_order : {K : Type 0} → Tree K → Bool
out_of_order x = is_none (inner_box x) && earlier (node_rank (right_of x)) (node_rank (left_of x))

-- The pair with its left and right child in rank order, where it has no inner box.
abbrev pub ordered : {K : Type 0} → Tree K → Tree K
ordered x = cond (out_of_order x) (exchanged x) x

-- A pair without its left, right or outer child: its outer box, its inner box, the split node's box and inner box, and the two other children.
pub data Frame (K : Type 0) : Type 0 where
  on_left : Box → Option Box → Box → Option Box → Tree K → Tree K → Frame K
  on_right : Box → Option Box → Box → Option Box → Tree K → Tree K → Frame K
  on_outer : Box → Option Box → Box → Option Box → Tree K → Tree K → Frame K

-- The pair with the child that was missing.
abbrev pub plug : {K : Type 0} → Frame K → Tree K → Tree K
plug (on_left C i E j R O) t = shrink C i (split E j t R) O
plug (on_right C i E j L O) t = shrink C i (split E j L t) O
plug (on_outer C i E j L R) t = shrink C i (split E j L R) t

-- The tree put back into all its frames, which are listed from the lowest to the one at the root.
abbrev pub plug_all : {K : Type 0} → List (Frame K) → Tree K → Tree K
plug_all [] t = t
plug_all (f ∷ fs) t = plug_all fs (plug f t)

-- The inner boxes of a pair and of its children: the split node and the left child have the pair's, the right child has none, and the outer child has the split node's box.
pub record InnerBoxes {K : Type 0} (i j : Option Box) (E : Box) (L R O : Tree K) : Type 0 where
  pub same : j ≡ i
  pub left : inner_box L ≡ i
  pub right : inner_box R ≡ none
  pub out : inner_box O ≡ some E

-- Each shrink node is over a split node and makes a pair with it, and there is no other split node.
abbrev pub Paired : {K : Type 0} → Tree K → Type 0
Paired (leaf C c) = Unit {0}
Paired (split E j a b) = ⊥
Paired (shrink C i (leaf B c) b) = ⊥
Paired (shrink C i (shrink B j a d) b) = ⊥
Paired (shrink C i (split E j L R) O) = InnerBoxes i j E L R O × Paired L × Paired R × Paired O

-- The frame and the tree together are made of pairs.
abbrev pub Fitting : {K : Type 0} → Frame K → Tree K → Type 0
Fitting (on_left C i E j R O) t = InnerBoxes i j E t R O × Paired t × Paired R × Paired O
Fitting (on_right C i E j L O) t = InnerBoxes i j E L t O × Paired L × Paired t × Paired O
Fitting (on_outer C i E j L R) t = InnerBoxes i j E L R t × Paired L × Paired R × Paired t
