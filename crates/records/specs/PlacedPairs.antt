-- Trees of pairs with the places of their nodes, and the steps of the rise with places.
--   PlacedPairs, nodes_of, tree_in, top_place, rank                                       a tree of pairs with places, its nodes, the tree, its root
--   rank_at, RanksStand                                                                   each pair carries the rank of its first reading
--   PairFrame, put_in, put_in_all                                                         a pair without one of its children
--   frame, frames, node_frames                                                            its frame in the tree, and its frames in the table
--   FrameRanksStand, FramesRanksStand                                                     the ranks that frames carry
--   ordered_at, made_before, over_left, over_outer, settled_at, settled_all, risen_over   the rise
--   Reaches                                                                               a code leads to a leaf
--   four, Free, planted_at                                                                a new pair at four places that no node has
use Rattle.std.specs.Prelude.{◌≡◌, ℕ, ◌+◌, ◌<◌, ◌≤◌, Bool, true, false, cond, List, [], ◌∷◌, length, None, Some}
use Rattle.std.proofs.Math.Option.{Option, none, some}
use Rattle.records.specs.declared.record.Record.{Record}
use Rattle.records.specs.declared.places.FourPlaces.{FourPlaces}
use Rattle.place.specs.Boxes.{Box, smallest, half}
use Rattle.quadtreap.specs.Tree.{Reading, Content, reading, box, Tree, leaf, outer, point_of, box_in, extent}
use Rattle.quadtreap.specs.declared.rank.Rank.{Rank}
use Rattle.quadtreap.specs.Rank.{earlier}
use Rattle.quadtreap.specs.Pairs.{unranked, node_rank, Frame, on_left, on_right, on_outer}
use Rattle.quadtreap.specs.Enter.{leads_all}
use Rattle.records.specs.Links.{Link}
use Rattle.records.specs.PlacedNodes.{shrinks, splits, PlacedNodes, leaf_at, node_at, pair_at, unplaced, place_of, one, occurs, carried, NodeFrame, first, second}

-- A leaf, or a pair: the places of its shrink and its split node, its rank, outer box, inner box, the box of the split, and left, right and outer child.
pub data PlacedPairs (K : Type 0) : Type 0 where
  placed_leaf : ℕ → Box → Content K → PlacedPairs K
  placed_pair : ℕ → ℕ → Rank → Box → Option Box → Box → PlacedPairs K → PlacedPairs K → PlacedPairs K → PlacedPairs K

-- The nodes of the tree.
abbrev pub nodes_of : {K : Type 0} → PlacedPairs K → PlacedNodes K
nodes_of (placed_leaf p C c) = leaf_at p C c
nodes_of (placed_pair s w r C i E L R O) = pair_at s w r C i E (nodes_of L) (nodes_of R) (nodes_of O)

-- The tree without places.
abbrev pub tree_in : {K : Type 0} → PlacedPairs K → Tree K
tree_in t = unplaced (nodes_of t)

-- The place of the root.
abbrev pub top_place : {K : Type 0} → PlacedPairs K → ℕ
top_place t = place_of (nodes_of t)

-- The rank that the root carries.
abbrev pub rank : {K : Type 0} → PlacedPairs K → Rank
rank t = carried (nodes_of t)

-- The rank of a pair whose first reading has the rank r: a pair with an inner box has none.
abbrev pub rank_at : Option Box → Rank → Rank
rank_at none r = r
rank_at (some I) r = unranked

-- Each pair carries the rank of its first reading.
abbrev pub RanksStand : {K : Type 0} → PlacedPairs K → Type 0
RanksStand (placed_leaf p C c) = Unit {0}
RanksStand (placed_pair s w r C i E L R O) = (r ≡ rank_at i (node_rank (tree_in L))) × RanksStand L × RanksStand R × RanksStand O

-- A pair without its left, its right or its outer child.
pub data PairFrame (K : Type 0) : Type 0 where
  on_left_at : ℕ → ℕ → Rank → Box → Option Box → Box → PlacedPairs K → PlacedPairs K → PairFrame K
  on_right_at : ℕ → ℕ → Rank → Box → Option Box → Box → PlacedPairs K → PlacedPairs K → PairFrame K
  on_outer_at : ℕ → ℕ → Rank → Box → Option Box → Box → PlacedPairs K → PlacedPairs K → PairFrame K

-- The tree t in a frame.
abbrev pub put_in : {K : Type 0} → PairFrame K → PlacedPairs K → PlacedPairs K
put_in (on_left_at s w r C i E R O) t = placed_pair s w r C i E t R O
put_in (on_right_at s w r C i E L O) t = placed_pair s w r C i E L t O
put_in (on_outer_at s w r C i E L R) t = placed_pair s w r C i E L R t

-- The tree t in its frames, which go from the lowest to the one at the root.
abbrev pub put_in_all : {K : Type 0} → List (PairFrame K) → PlacedPairs K → PlacedPairs K
put_in_all [] t = t
put_in_all (g ∷ gs) t = put_in_all gs (put_in g t)

-- The frame without places.
abbrev pub frame : {K : Type 0} → PairFrame K → Frame K
frame (on_left_at s w r C i E R O) = on_left C i E i (tree_in R) (tree_in O)
frame (on_right_at s w r C i E L O) = on_right C i E i (tree_in L) (tree_in O)
frame (on_outer_at s w r C i E L R) = on_outer C i E i (tree_in L) (tree_in R)

-- The frames without places.
abbrev pub frames : {K : Type 0} → List (PairFrame K) → List (Frame K)
frames [] = []
frames (g ∷ gs) = frame g ∷ frames gs

-- The frames of the nodes: two for a left or a right child, one for an outer child.
abbrev pub node_frames : {K : Type 0} → List (PairFrame K) → List (NodeFrame K)
node_frames [] = []
node_frames (on_left_at s w r C i E R O ∷ gs) = first splits w r E i (nodes_of R) ∷ first shrinks s r C i (nodes_of O) ∷ node_frames gs
node_frames (on_right_at s w r C i E L O ∷ gs) = second splits w r E i (nodes_of L) ∷ first shrinks s r C i (nodes_of O) ∷ node_frames gs
node_frames (on_outer_at s w r C i E L R ∷ gs) = second shrinks s r C i (node_at splits w r E i (nodes_of L) (nodes_of R)) ∷ node_frames gs

-- The children in the frame carry their ranks. Where the pair does not take its rank anew from a changed child, it carries its own.
abbrev pub FrameRanksStand : {K : Type 0} → PairFrame K → Type 0
FrameRanksStand (on_left_at s w r C i E R O) = RanksStand R × RanksStand O
FrameRanksStand (on_right_at s w r C i E L O) = RanksStand L × RanksStand O
FrameRanksStand (on_outer_at s w r C i E L R) = (r ≡ rank_at i (node_rank (tree_in L))) × RanksStand L × RanksStand R

-- The same of all frames.
abbrev pub FramesRanksStand : {K : Type 0} → List (PairFrame K) → Type 0
FramesRanksStand [] = Unit {0}
FramesRanksStand (g ∷ gs) = FrameRanksStand g × FramesRanksStand gs

-- A pair with its left and right child in the order of their ranks, and with its rank.
abbrev pub ordered_at : {K : Type 0} → ℕ → ℕ → Box → Option Box → Box → PlacedPairs K → PlacedPairs K → PlacedPairs K → PlacedPairs K
ordered_at s w C none E L R O = cond (earlier (rank R) (rank L)) (placed_pair s w (rank R) C none E R L O) (placed_pair s w (rank L) C none E L R O)
ordered_at s w C (some I) E L R O = placed_pair s w unranked C (some I) E L R O

-- Whether t is a pair, made earlier than the pair whose right child is R.
abbrev pub made_before : {K : Type 0} → PlacedPairs K → PlacedPairs K → Bool
made_before (placed_leaf p C c) R = false
made_before (placed_pair s w r C i E A D o) R = earlier (rank D) (rank R)

-- The left child t rises over the pair at s.
abbrev pub over_left : {K : Type 0} → ℕ → ℕ → Box → Option Box → Box → PlacedPairs K → PlacedPairs K → PlacedPairs K → PlacedPairs K
over_left s w C i E (placed_leaf p B c) R O = ordered_at s w C i E (placed_leaf p B c) R O
over_left s w C i E (placed_pair y v q B k F A D o) R O = ordered_at y v C k F A D (placed_pair s w unranked C (some F) E o R O)

-- The outer child t rises over the pair at s.
abbrev pub over_outer : {K : Type 0} → ℕ → ℕ → Rank → Box → Option Box → Box → PlacedPairs K → PlacedPairs K → PlacedPairs K → PlacedPairs K
over_outer s w r C i E L R (placed_leaf p B c) = placed_pair s w r C i E L R (placed_leaf p B c)
over_outer s w r C i E L R (placed_pair x v q B k F A D o) = ordered_at x v B i F (placed_pair s w r (outer (tree_in A)) i E L R A) D o

-- One step of the rise: t rises over the pair of its frame if it was made earlier, and the pair on top is ordered.
abbrev pub settled_at : {K : Type 0} → PairFrame K → PlacedPairs K → PlacedPairs K
settled_at (on_left_at s w r C i E R O) t = cond (made_before t R) (over_left s w C i E t R O) (ordered_at s w C i E t R O)
settled_at (on_right_at s w r C i E L O) t = ordered_at s w C i E L t O
settled_at (on_outer_at s w r C i E L R) t = cond (made_before t R) (over_outer s w r C i E L R t) (placed_pair s w r C i E L R t)

-- The place of the pair that t rises over, or none.
abbrev pub risen_over : {K : Type 0} → PairFrame K → PlacedPairs K → Link
risen_over (on_left_at s w r C i E R O) t = cond (made_before t R) (Some s) None
risen_over (on_right_at s w r C i E L O) t = None
risen_over (on_outer_at s w r C i E L R) t = cond (made_before t R) (Some s) None

-- The code k leads from the root of t to the leaf at i.
pub record Reaches {K : Type 0} (t : PlacedPairs K) (k i : ℕ) : Type 0 where
  pub path : List (PairFrame K)
  pub box : Box
  pub content : Content K
  pub whole : put_in_all path (placed_leaf i box content) ≡ t
  pub leads : leads_all (frames path) (leaf box content) k ≡ true

-- The whole rise, through all frames.
abbrev pub settled_all : {K : Type 0} → List (PairFrame K) → PlacedPairs K → PlacedPairs K
settled_all [] t = t
settled_all (g ∷ gs) t = settled_all gs (settled_at g t)

-- How often a place is one of four.
abbrev pub four : ℕ → FourPlaces → ℕ
four i n = one i n.shrink + (one i n.split + (one i n.reading + one i n.outer))

-- Four places of the table that no node of t has.
pub record Free {K : Type 0} (recs : List Record) (t : PlacedPairs K) (n : FourPlaces) : Type 0 where
  pub shrink : n.shrink < length recs
  pub split : n.split < length recs
  pub reading : n.reading < length recs
  pub outer : n.outer < length recs
  pub apart : (i : ℕ) → occurs i (nodes_of t) + four i n ≤ 1
  pub low : (i : ℕ) → 65535 ≤ i → four i n ≡ 0

-- The leaf at i becomes a pair over what it held and the reading p, at the places n.
abbrev pub planted_at : {K : Type 0} → FourPlaces → ℕ → Box → Content K → Reading K → PlacedPairs K
planted_at n i C c p =
    let E : Box = smallest (extent c) (point_of p) in
    ordered_at n.shrink n.split C (box_in c) E (placed_leaf i (half E (extent c)) c) (placed_leaf n.reading (half E (point_of p)) (reading p)) (placed_leaf n.outer C (box E))
