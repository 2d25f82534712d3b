-- Striking in one way down: the pair that the struck reading made sinks until all its children are leaves.
--   Step, to_left, to_right, to_outer             what a step ends in: done, or a child to go on with
--   with_outer_box, above_leaves, least_of        what a step asks and does
--   sink_right, sink_left, descend, strike_step   one step
--   after, strike_in, strike_tree                 all steps
--   holds_code, is_only, map_strike               striking a reading from a map
--   FittingStep, node_rank_after                  what stays of pairs and of ranks
use Rattle.std.specs.Prelude.{◌≡◌, ℕ, zero, suc, Bool, false, cond, ◌&&◌, ◌==◌}
use Rattle.std.proofs.Math.Option.{Option, none, some}
use Rattle.place.specs.Boxes.{Box, holds}
use Rattle.quadtreap.specs.Tree.{Content, reading, box, Tree, leaf, shrink, split, outer, nodes}
use Rattle.quadtreap.specs.declared.rank.Rank.{Rank}
use Rattle.quadtreap.specs.Pairs.{first, second, inner_box, split_box, left_of, right_of, is_leaf, is_none, exchanged, promote_left, promote_outer, node_rank, creation, earlier_than, Frame, on_left, on_right, on_outer, plug, Paired, Fitting}

-- A step ends in the tree as it stays, or in a frame that stays and the smaller tree to go on with.
pub data Step (K : Type 0) : Type 0 where
  done : Tree K → Step K
  on : Frame K → Tree K → Step K

-- The left child of a pair is to go on with.
abbrev pub to_left : {K : Type 0} → Tree K → Step K
to_left x = on (on_left (outer x) (inner_box x) (split_box x) (inner_box (first x)) (right_of x) (second x)) (left_of x)

-- The right child of a pair is to go on with.
abbrev pub to_right : {K : Type 0} → Tree K → Step K
to_right x = on (on_right (outer x) (inner_box x) (split_box x) (inner_box (first x)) (left_of x) (second x)) (right_of x)

-- The outer child of a pair is to go on with.
abbrev pub to_outer : {K : Type 0} → Tree K → Step K
to_outer x = on (on_outer (outer x) (inner_box x) (split_box x) (inner_box (first x)) (left_of x) (right_of x)) (second x)

-- The tree with another outer box.
abbrev pub with_outer_box : {K : Type 0} → Box → Tree K → Tree K
with_outer_box B (leaf C c) = leaf B c
with_outer_box B (shrink C i a b) = shrink B i a b
with_outer_box B (split E i a b) = split B i a b

-- Whether the left, the right and the outer child of a pair are leaves.
abbrev pub above_leaves : {K : Type 0} → Tree K → Bool
above_leaves x = is_leaf (left_of x) && (is_leaf (right_of x) && is_leaf (second x))

-- Whether the first of three ranks comes before the two others.
abbrev pub least_of : Option Rank → Option Rank → Option Rank → Bool
least_of a b c = earlier_than a b && earlier_than a c

-- Where the struck reading is the first of the right child: above leaves the left child takes the place of the pair, else the left or outer child rises if it was made first, and else the right child is to go on with.
abbrev pub sink_right : {K : Type 0} → Tree K → Step K
sink_right x =
    let a : Option Rank = creation (left_of x) in
    let b : Option Rank = creation (right_of x) in
    let c : Option Rank = creation (second x) in
    cond (above_leaves x) (done (with_outer_box (outer x) (left_of x)))
    (cond (least_of a b c) (to_outer (promote_left x)) (cond (least_of c a b) (to_left (promote_outer x)) (to_right x)))

-- Where the struck reading is the first of the left child and there is no inner box: the same with left and right exchanged, save that the pair below a risen outer child stays as it is.
abbrev pub sink_left : {K : Type 0} → Tree K → Step K
sink_left x =
    let a : Option Rank = creation (left_of x) in
    let b : Option Rank = creation (right_of x) in
    let c : Option Rank = creation (second x) in
    cond (above_leaves x) (done (with_outer_box (outer x) (right_of x)))
    (cond (least_of b a c) (to_outer (promote_left (exchanged x))) (cond (least_of c a b) (to_left (promote_outer x)) (to_right (exchanged x))))

-- The child in which the code k lies is to go on with.
abbrev pub descend : {K : Type 0} → Tree K → ℕ → Step K
descend x k = cond (holds (split_box x) k) (cond (holds (outer (left_of x)) k) (to_left x) (to_right x)) (to_outer x)

-- One step for the code k, where a tree that is no pair stays.
abbrev pub strike_step : {K : Type 0} → Tree K → ℕ → Step K
strike_step (leaf C c) k = done (leaf C c)
strike_step (split E i a b) k = done (split E i a b)
strike_step (shrink C i (leaf B c) b) k = done (shrink C i (leaf B c) b)
strike_step (shrink C i (shrink B j a d) b) k = done (shrink C i (shrink B j a d) b)
strike_step (shrink C i (split E j L R) O) k =
    let x : Tree _ = shrink C i (split E j L R) O in
    cond (k == (node_rank R).code) (sink_right x) (cond (is_none i && k == (node_rank L).code) (sink_left x) (descend x k))

-- What comes of a step, where g is done with the smaller tree.
abbrev pub after : {K : Type 0} → (Tree K → Tree K) → Step K → Tree K
after g (done t) = t
after g (on f t) = plug f (g t)

-- The tree after at most n steps.
abbrev pub strike_in : {K : Type 0} → ℕ → Tree K → ℕ → Tree K
strike_in zero t k = t
strike_in (suc n) t k = after (λ u. strike_in n u k) (strike_step t k)

-- Striking the reading with the code k, in at most as many steps as there are nodes.
abbrev pub strike_tree : {K : Type 0} → Tree K → ℕ → Tree K
strike_tree t k = strike_in (nodes t) t k

-- Whether the content is a reading with the code k.
abbrev pub holds_code : {K : Type 0} → ℕ → Content K → Bool
holds_code k (reading r) = k == r.code
holds_code k (box I) = false

-- Whether the tree is one leaf with the code k.
abbrev pub is_only : {K : Type 0} → Tree K → ℕ → Bool
is_only (leaf C c) k = holds_code k c
is_only (shrink C i a b) k = false
is_only (split E i a b) k = false

-- Striking the reading with the code k from a map, where the only reading leaves no tree.
abbrev pub map_strike : {K : Type 0} → Option (Tree K) → ℕ → Option (Tree K)
map_strike none k = none
map_strike (some t) k = cond (is_only t k) none (some (strike_tree t k))

-- What a step ends in is made of pairs and has the inner box i.
abbrev pub FittingStep : {K : Type 0} → Option Box → Step K → Type 0
FittingStep i (done t) = Paired t × (inner_box t ≡ i)
FittingStep i (on f t) = Fitting f t × (inner_box (plug f t) ≡ i)

-- The rank that a node with no inner box carries after the code k is struck: that of the right child if the left child's first reading goes.
abbrev pub node_rank_after : {K : Type 0} → Tree K → ℕ → Rank
node_rank_after (leaf C c) k = node_rank (leaf C c)
node_rank_after (split E i a b) k = node_rank (split E i a b)
node_rank_after (shrink C i a b) k =
    cond (k == (node_rank (second a)).code) (node_rank (first a)) (cond (k == (node_rank (first a)).code) (node_rank (second a)) (node_rank (first a)))
