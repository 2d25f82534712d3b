-- The steps of a strike with places.
--   StrikeMove, step_of                                      what a step ends in
--   made_at, is_leaf_at, replaced_at                         what a step asks of a child, and does to it
--   Pair, whole, above_leaves, freed, exchanged_at           a pair that is taken apart
--   to_left, to_right, to_outer, left_over, outer_over       a child to go on with, and a child that rises
--   move_right, move_left, move_toward, move_pair, move_of   one step
--   after_move, moves_in                                     all steps
use Rattle.std.specs.Prelude.{ℕ, zero, suc, Bool, true, false, cond, ◌&&◌, ◌==◌}
use Rattle.std.proofs.Math.Option.{Option, none, some}
use Rattle.records.specs.declared.places.FourPlaces.{FourPlaces}
use Rattle.place.specs.Boxes.{Box, holds}
use Rattle.quadtreap.specs.Tree.{outer}
use Rattle.quadtreap.specs.declared.rank.Rank.{Rank}
use Rattle.quadtreap.specs.Pairs.{unranked, is_none}
use Rattle.quadtreap.specs.Strike.{Step, done, on, least_of}
use Rattle.records.specs.PlacedPairs.{PlacedPairs, placed_leaf, placed_pair, tree_in, top_place, rank, rank_at, PairFrame, on_left_at, on_right_at, on_outer_at, put_in, frame}

-- A step ends in what stays and the places that are free, or in a frame that stays and what to go on with, or in a leaf that has no such code.
pub data StrikeMove (K : Type 0) : Type 0 where
  finished : PlacedPairs K → FourPlaces → StrikeMove K
  onward : PairFrame K → PlacedPairs K → StrikeMove K
  lost : PlacedPairs K → StrikeMove K

-- The step without places.
abbrev pub step_of : {K : Type 0} → StrikeMove K → Step K
step_of (finished t n) = done (tree_in t)
step_of (onward g t) = on (frame g) (tree_in t)
step_of (lost t) = done (tree_in t)

-- The rank of the reading that made a pair. A leaf has none.
abbrev pub made_at : {K : Type 0} → PlacedPairs K → Option Rank
made_at (placed_leaf p C c) = none
made_at (placed_pair s w r C i E L R O) = some (rank R)

-- Whether the tree is a leaf.
abbrev pub is_leaf_at : {K : Type 0} → PlacedPairs K → Bool
is_leaf_at (placed_leaf p C c) = true
is_leaf_at (placed_pair s w r C i E L R O) = false

-- The tree with the outer box B: it takes the place of a pair that had that.
abbrev pub replaced_at : {K : Type 0} → Box → PlacedPairs K → PlacedPairs K
replaced_at B (placed_leaf p C c) = placed_leaf p B c
replaced_at B (placed_pair s w r C i E L R O) = placed_pair s w r B i E L R O

-- A pair that is taken apart: its places, rank, boxes and children.
pub record Pair (K : Type 0) : Type 0 where
  pub shrink : ℕ
  pub split : ℕ
  pub rank : Rank
  pub outer : Box
  pub inner : Option Box
  pub box : Box
  pub left : PlacedPairs K
  pub right : PlacedPairs K
  pub out : PlacedPairs K

-- The pair put together.
abbrev pub whole : {K : Type 0} → Pair K → PlacedPairs K
whole x = placed_pair x.shrink x.split x.rank x.outer x.inner x.box x.left x.right x.out

-- Whether the left, the right and the outer child are leaves.
abbrev pub above_leaves : {K : Type 0} → Pair K → Bool
above_leaves x = is_leaf_at x.left && (is_leaf_at x.right && is_leaf_at x.out)

-- The places of a pair whose child t goes.
abbrev pub freed : {K : Type 0} → Pair K → PlacedPairs K → FourPlaces
freed x t = record { shrink = x.shrink; split = x.split; reading = top_place t; outer = top_place x.out }

-- The left child is to go on with.
abbrev pub to_left : {K : Type 0} → Pair K → StrikeMove K
to_left x = onward (on_left_at x.shrink x.split x.rank x.outer x.inner x.box x.right x.out) x.left

-- The right child is to go on with.
abbrev pub to_right : {K : Type 0} → Pair K → StrikeMove K
to_right x = onward (on_right_at x.shrink x.split x.rank x.outer x.inner x.box x.left x.out) x.right

-- The outer child is to go on with.
abbrev pub to_outer : {K : Type 0} → Pair K → StrikeMove K
to_outer x = onward (on_outer_at x.shrink x.split x.rank x.outer x.inner x.box x.left x.right) x.out

-- The left child t rises over the pair, which is to go on with as the outer child of t.
abbrev pub left_over : {K : Type 0} → Pair K → PlacedPairs K → StrikeMove K
left_over x (placed_leaf p B c) = to_right x
left_over x (placed_pair y v q B j F A D o) =
    onward (on_outer_at y v q x.outer j F A D) (placed_pair x.shrink x.split unranked x.outer (some F) x.box o x.right x.out)

-- The outer child t rises over the pair, which is to go on with as the left child of t, and t takes the rank r.
abbrev pub outer_over : {K : Type 0} → Pair K → PlacedPairs K → Rank → StrikeMove K
outer_over x (placed_leaf p B c) r = to_right x
outer_over x (placed_pair y v q B j F A D o) r =
    onward (on_left_at y v (rank_at x.inner r) B x.inner F D o) (placed_pair x.shrink x.split x.rank (outer (tree_in A)) x.inner x.box x.left x.right A)

-- The pair with left and right exchanged.
abbrev pub exchanged_at : {K : Type 0} → Pair K → Pair K
exchanged_at x =
    record {
      shrink = x.shrink;
      split = x.split;
      rank = rank x.right;
      outer = x.outer;
      inner = x.inner;
      box = x.box;
      left = x.right;
      right = x.left;
      out = x.out;
    }

-- A step where the struck reading is the first of the right child.
abbrev pub move_right : {K : Type 0} → Pair K → StrikeMove K
move_right x =
    let a : Option Rank = made_at x.left in
    let b : Option Rank = made_at x.right in
    let c : Option Rank = made_at x.out in
    cond (above_leaves x) (finished (replaced_at x.outer x.left) (freed x x.right))
    (cond (least_of a b c) (left_over x x.left) (cond (least_of c a b) (outer_over x x.out (rank x.left)) (to_right x)))

-- A step where the struck reading is the first of the left child, and there is no inner box.
abbrev pub move_left : {K : Type 0} → Pair K → StrikeMove K
move_left x =
    let a : Option Rank = made_at x.left in
    let b : Option Rank = made_at x.right in
    let c : Option Rank = made_at x.out in
    cond (above_leaves x) (finished (replaced_at x.outer x.right) (freed x x.left))
    (cond (least_of b a c) (left_over (exchanged_at x) x.right) (cond (least_of c a b) (outer_over x x.out (rank x.right)) (to_right (exchanged_at x))))

-- The child in which the code k lies is to go on with.
abbrev pub move_toward : {K : Type 0} → Pair K → ℕ → StrikeMove K
move_toward x k = cond (holds x.box k) (cond (holds (outer (tree_in x.left)) k) (to_left x) (to_right x)) (to_outer x)

-- One step down from a pair, for the code k.
abbrev pub move_pair : {K : Type 0} → Pair K → ℕ → StrikeMove K
move_pair x k =
    cond (k == (rank x.right).code) (move_right x) (cond (is_none x.inner) (cond (k == (rank x.left).code) (move_left x) (move_toward x k)) (move_toward x k))

-- One step down from any tree, for the code k.
abbrev pub move_of : {K : Type 0} → PlacedPairs K → ℕ → StrikeMove K
move_of (placed_leaf p C c) k = lost (placed_leaf p C c)
move_of (placed_pair s w r C i E L R O) k =
    move_pair (record { shrink = s; split = w; rank = r; outer = C; inner = i; box = E; left = L; right = R; out = O }) k

-- What comes of a step, where g is what is done with the smaller tree.
abbrev pub after_move : {K : Type 0} → (PlacedPairs K → PlacedPairs K) → StrikeMove K → PlacedPairs K
after_move g (finished t n) = t
after_move g (onward a t) = put_in a (g t)
after_move g (lost t) = t

-- At most n steps.
abbrev pub moves_in : {K : Type 0} → ℕ → PlacedPairs K → ℕ → PlacedPairs K
moves_in zero t k = t
moves_in (suc n) t k = after_move (λ u. moves_in n u k) (move_of t k)
