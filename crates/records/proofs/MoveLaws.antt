-- The steps of a strike with places are those of the tree.
use Rattle.std.proofs.Common.{◌≡◌, ℕ, zero, suc, Bool, true, false, cond, ◌&&◌, eqb, refl, ap, ◌∙◌}
use mathlib.Core.Option.{Option, some}
use Rattle.std.proofs.lemmas.Bool.{false≢true}
use Rattle.place.specs.Boxes.{Box, holds}
use Rattle.quadtreap.specs.Tree.{Tree, outer}
use Rattle.quadtreap.specs.declared.rank.Rank.{Rank}
use Rattle.quadtreap.specs.Pairs.{is_leaf, exchanged, promote_left, promote_outer, node_rank, creation, is_none, plug}
use Rattle.quadtreap.specs.Strike.{Step, done, least_of, with_outer_box, sink_right, sink_left, descend, strike_step, after, strike_in, to_left as tree_left, to_right as tree_right, to_outer as tree_outer, above_leaves as tree_low}
use Rattle.records.specs.PlacedPairs.{PlacedPairs, placed_leaf, placed_pair, tree_in, rank, RanksStand, PairFrame, on_left_at, on_right_at, on_outer_at, put_in, frame}
use Rattle.records.specs.StrikeMoves.{StrikeMove, finished, onward, lost, move_of, step_of, made_at, is_leaf_at, replaced_at, Pair, whole, above_leaves, to_left, to_right, left_over, outer_over, exchanged_at, move_right, move_left, move_toward, move_pair, after_move, moves_in}
use Rattle.records.proofs.PairLaws.{rank_node_rank}

module _ {K : Type 0} where
  choose : (b : Bool) (x y : StrikeMove K) (u v : Step K) → (b ≡ true → step_of x ≡ u) → (b ≡ false → step_of y ≡ v) → step_of (cond b x y) ≡ cond b u v
  choose true x y u v p q = p refl
  choose false x y u v p q = q refl

  made_is : (t : PlacedPairs K) → RanksStand t → made_at t ≡ creation (tree_in t)
  made_is (placed_leaf p C c) h = refl
  made_is (placed_pair s w r C i E L R O) h = ap some (rank_node_rank R h.2)

  leaf_is_leaf : (t : PlacedPairs K) → is_leaf_at t ≡ is_leaf (tree_in t)
  leaf_is_leaf (placed_leaf p C c) = refl
  leaf_is_leaf (placed_pair s w r C i E L R O) = refl

  replace_is : (B : Box) (t : PlacedPairs K) → tree_in (replaced_at B t) ≡ with_outer_box B (tree_in t)
  replace_is B (placed_leaf p C c) = refl
  replace_is B (placed_pair s w r C i E L R O) = refl

  left_is : (s w : ℕ) (r : Rank) (C : Box) (i : Option Box) (E : Box) (L R O : PlacedPairs K) (b c : Option Rank) → least_of (made_at L) b c ≡ true
      → step_of (left_over (record { shrink = s; split = w; rank = r; outer = C; inner = i; box = E; left = L; right = R; out = O }) L) ≡ tree_outer (promote_left (tree_in (placed_pair s w r C i E L R O)))
  left_is s w r C i E (placed_leaf j B d) R O b c e = absurd (false≢true e)
  left_is s w r C i E (placed_pair y v q B k F A D o) R O b c e = refl

  outer_is : (s w : ℕ) (r : Rank) (C : Box) (i : Option Box) (E : Box) (L R O : PlacedPairs K) (a : Rank) (b c : Option Rank) → least_of (made_at O) b c ≡ true
      → step_of (outer_over (record { shrink = s; split = w; rank = r; outer = C; inner = i; box = E; left = L; right = R; out = O }) O a) ≡ tree_left (promote_outer (tree_in (placed_pair s w r C i E L R O)))
  outer_is s w r C i E L R (placed_leaf j B d) a b c e = absurd (false≢true e)
  outer_is s w r C i E L R (placed_pair y v q B k F A D o) a b c e = refl

  module _ (x : Pair K) (h : RanksStand (whole x)) where
    abbrev t : Tree K
    t = tree_in (whole x)

    abbrev L : PlacedPairs K
    L = x.left

    abbrev R : PlacedPairs K
    R = x.right

    abbrev O : PlacedPairs K
    O = x.out

    low_is : above_leaves x ≡ tree_low t
    low_is =
        ap (λ v. v && (is_leaf_at R && is_leaf_at O)) (leaf_is_leaf L) ∙ ap (λ v. is_leaf (tree_in L) && (v && is_leaf_at O)) (leaf_is_leaf R) ∙ ap (λ v. is_leaf (tree_in L) && (is_leaf (tree_in R) && v)) (leaf_is_leaf O)

    least : (a b c : PlacedPairs K) → RanksStand a → RanksStand b → RanksStand c → least_of (made_at a) (made_at b) (made_at c) ≡ least_of (creation (tree_in a)) (creation (tree_in b)) (creation (tree_in c))
    least a b c ha hb hc =
        ap (λ v. least_of v (made_at b) (made_at c)) (made_is a ha) ∙ ap (λ v. least_of (creation (tree_in a)) v (made_at c)) (made_is b hb) ∙ ap (least_of (creation (tree_in a)) (creation (tree_in b))) (made_is c hc)

    abbrev by_right : Bool → Bool → Bool → Step K
    by_right u v w = cond u (done (with_outer_box x.outer (tree_in L))) (cond v (tree_outer (promote_left t)) (cond w (tree_left (promote_outer t)) (tree_right t)))

    right_is : step_of (move_right x) ≡ sink_right t
    right_is =
        choose (above_leaves x) _ _ _ _ (λ _. ap done (replace_is x.outer L))
        (λ _. choose (least_of (made_at L) (made_at R) (made_at O)) _ _ _ _ (left_is x.shrink x.split x.rank x.outer x.inner x.box L R O (made_at R) (made_at O))
        (λ _. choose (least_of (made_at O) (made_at L) (made_at R)) _ _ _ (tree_right t) (outer_is x.shrink x.split x.rank x.outer x.inner x.box L R O (rank L) (made_at L) (made_at R)) (λ _. refl)))
        ∙ ap (λ u. by_right u (least_of (made_at L) (made_at R) (made_at O)) (least_of (made_at O) (made_at L) (made_at R))) low_is
        ∙ ap (λ u. by_right (tree_low t) u (least_of (made_at O) (made_at L) (made_at R))) (least L R O h.1 h.2 h.3)
        ∙ ap (by_right (tree_low t) (least_of (creation (tree_in L)) (creation (tree_in R)) (creation (tree_in O)))) (least O L R h.3 h.1 h.2)

    abbrev by_left : Bool → Bool → Bool → Step K
    by_left u v w = cond u (done (with_outer_box x.outer (tree_in R))) (cond v (tree_outer (promote_left (exchanged t))) (cond w (tree_left (promote_outer t)) (tree_right (exchanged t))))

    sink_left_is : step_of (move_left x) ≡ sink_left t
    sink_left_is =
        choose (above_leaves x) _ _ _ _ (λ _. ap done (replace_is x.outer R))
        (λ _. choose (least_of (made_at R) (made_at L) (made_at O)) _ _ _ _ (left_is x.shrink x.split (rank R) x.outer x.inner x.box R L O (made_at L) (made_at O))
        (λ _. choose (least_of (made_at O) (made_at L) (made_at R)) _ _ _ (tree_right (exchanged t)) (outer_is x.shrink x.split x.rank x.outer x.inner x.box L R O (rank R) (made_at L) (made_at R)) (λ _. refl)))
        ∙ ap (λ u. by_left u (least_of (made_at R) (made_at L) (made_at O)) (least_of (made_at O) (made_at L) (made_at R))) low_is
        ∙ ap (λ u. by_left (tree_low t) u (least_of (made_at O) (made_at L) (made_at R))) (least R L O h.2 h.1 h.3)
        ∙ ap (by_left (tree_low t) (least_of (creation (tree_in R)) (creation (tree_in L)) (creation (tree_in O)))) (least O L R h.3 h.1 h.2)

    toward_is : (k : ℕ) → step_of (move_toward x k) ≡ descend t k
    toward_is k = choose (holds x.box k) _ _ _ _ (λ _. choose (holds (outer (tree_in L)) k) _ _ _ _ (λ _. refl) (λ _. refl)) (λ _. refl)

    joined : (u v : Bool) (y z : Step K) → cond u (cond v y z) z ≡ cond (u && v) y z
    joined true v y z = refl
    joined false v y z = refl

    pub move_is : (k : ℕ) → step_of (move_pair x k) ≡ strike_step t k
    move_is k =
        choose (eqb k (rank R).code) _ _ (sink_right t) (cond (is_none x.inner) (cond (eqb k (rank L).code) (sink_left t) (descend t k)) (descend t k)) (λ _. right_is)
        (λ _. choose (is_none x.inner) _ _ _ _ (λ _. choose (eqb k (rank L).code) _ _ _ _ (λ _. sink_left_is) (λ _. toward_is k)) (λ _. toward_is k))
        ∙ ap (λ v. cond (eqb k (rank R).code) (sink_right t) v) (joined (is_none x.inner) (eqb k (rank L).code) (sink_left t) (descend t k))
        ∙ ap (λ (q : Rank). cond (eqb k q.code) (sink_right t) (cond (is_none x.inner && eqb k (rank L).code) (sink_left t) (descend t k))) (rank_node_rank R h.2)
        ∙ ap (λ (q : Rank). cond (eqb k (node_rank (tree_in R)).code) (sink_right t) (cond (is_none x.inner && eqb k q.code) (sink_left t) (descend t k))) (rank_node_rank L h.1)

  -- what a step goes on with carries its ranks
  abbrev pub RanksOn : StrikeMove K → Type 0
  RanksOn (finished t n) = RanksStand t
  RanksOn (onward g t) = RanksStand t
  RanksOn (lost t) = RanksStand t

  ranks_on_either : (b : Bool) (x y : StrikeMove K) → RanksOn x → RanksOn y → RanksOn (cond b x y)
  ranks_on_either true x y p q = p
  ranks_on_either false x y p q = q

  pub ranks_replaced : (B : Box) (t : PlacedPairs K) → RanksStand t → RanksStand (replaced_at B t)
  ranks_replaced B (placed_leaf p C c) h = tt
  ranks_replaced B (placed_pair s w r C i E L R O) h = h

  ranks_on_left : (x : Pair K) (t : PlacedPairs K) → RanksStand t → RanksStand x.right → RanksStand x.out → RanksOn (left_over x t)
  ranks_on_left x (placed_leaf j B d) h hr ho = hr
  ranks_on_left x (placed_pair y v q B k F A D o) h hr ho = (refl, h.3, hr, ho)

  ranks_on_outer : (x : Pair K) (t : PlacedPairs K) (a : Rank) → RanksStand (whole x) → RanksStand t → RanksOn (outer_over x t a)
  ranks_on_outer x (placed_leaf j B d) a h ht = h.2
  ranks_on_outer x (placed_pair y v q B k F A D o) a h ht = (h.0, h.1, h.2, ht.1)

  pub ranks_move : (x : Pair K) (k : ℕ) → RanksStand (whole x) → RanksOn (move_pair x k)
  ranks_move x k h =
      let child_toward : RanksOn (move_toward x k) = ranks_on_either (holds x.box k) _ _ (ranks_on_either (holds (outer (tree_in x.left)) k) (to_left x) (to_right x) h.1 h.2) h.3 in
      ranks_on_either (eqb k (rank x.right).code) (move_right x) _
      (ranks_on_either (above_leaves x) _ _ (ranks_replaced x.outer x.left h.1)
      (ranks_on_either (least_of (made_at x.left) (made_at x.right) (made_at x.out)) _ _ (ranks_on_left x x.left h.1 h.2 h.3)
      (ranks_on_either (least_of (made_at x.out) (made_at x.left) (made_at x.right)) (outer_over x x.out (rank x.left)) (to_right x) (ranks_on_outer x x.out (rank x.left) h h.3) h.2)))
      (ranks_on_either (is_none x.inner) _ _
      (ranks_on_either (eqb k (rank x.left).code) (move_left x) _
      (ranks_on_either (above_leaves x) _ _ (ranks_replaced x.outer x.right h.2)
      (ranks_on_either (least_of (made_at x.right) (made_at x.left) (made_at x.out)) _ _ (ranks_on_left (exchanged_at x) x.right h.2 h.1 h.3)
      (ranks_on_either (least_of (made_at x.out) (made_at x.left) (made_at x.right)) (outer_over x x.out (rank x.right)) (to_right (exchanged_at x)) (ranks_on_outer x x.out (rank x.right) h h.3) h.1)))
      child_toward)
      child_toward)

  -- the whole strike
  frame_is : (g : PairFrame K) (t : PlacedPairs K) → tree_in (put_in g t) ≡ plug (frame g) (tree_in t)
  frame_is (on_left_at s w r C i E R O) t = refl
  frame_is (on_right_at s w r C i E L O) t = refl
  frame_is (on_outer_at s w r C i E L R) t = refl

  pub move_of_is : (t : PlacedPairs K) (k : ℕ) → RanksStand t → step_of (move_of t k) ≡ strike_step (tree_in t) k
  move_of_is (placed_leaf p C c) k h = refl
  move_of_is (placed_pair s w r C i E L R O) k h = move_is (record { shrink = s; split = w; rank = r; outer = C; inner = i; box = E; left = L; right = R; out = O }) h k

  pub ranks_of : (t : PlacedPairs K) (k : ℕ) → RanksStand t → RanksOn (move_of t k)
  ranks_of (placed_leaf p C c) k h = h
  ranks_of (placed_pair s w r C i E L R O) k h = ranks_move (record { shrink = s; split = w; rank = r; outer = C; inner = i; box = E; left = L; right = R; out = O }) k h

  pub moves_in_is : (n : ℕ) (t : PlacedPairs K) (k : ℕ) → RanksStand t → tree_in (moves_in n t k) ≡ strike_in n (tree_in t) k
  moves_in_is zero t k h = refl
  moves_in_is (suc n) t k h =
      let go : (F : StrikeMove K) → RanksOn F → tree_in (after_move (λ u. moves_in n u k) F) ≡ after (λ u. strike_in n u k) (step_of F) =
      λ F. elim F as (λ F. RanksOn F → tree_in (after_move (λ u. moves_in n u k) F) ≡ after (λ u. strike_in n u k) (step_of F)) [
        | finished u f ↦ λ _. refl
        | onward g u ↦ λ good. frame_is g (moves_in n u k) ∙ ap (plug (frame g)) (moves_in_is n u k good)
        | lost u ↦ λ _. refl
      ] in
      go (move_of t k) (ranks_of t k h) ∙ ap (after (λ u. strike_in n u k)) (move_of_is t k h)
