-- The cases of a step of a strike, and what holds of each.
use Rattle.std.proofs.Common.{◌≡◌, ℕ, ◌+◌, ◌<◌, Bool, true, false, cond, eqb, sym, refl, ap, ◌∙◌, arith}
use Rattle.std.proofs.lemmas.Bool.{false≢true, and_parts}
use Rattle.place.specs.Boxes.{Box, holds}
use Rattle.quadtreap.specs.Tree.{Tree, outer, nodes}
use Rattle.quadtreap.specs.declared.rank.Rank.{Rank}
use Rattle.quadtreap.specs.Pairs.{is_none}
use Rattle.quadtreap.specs.Strike.{least_of, strike_step}
use Rattle.records.specs.PlacedNodes.{one, occurs}
use Rattle.records.specs.PlacedPairs.{PlacedPairs, placed_leaf, placed_pair, nodes_of, tree_in, top_place, rank, RanksStand, frame, put_in, four}
use Rattle.records.specs.StrikeMoves.{StrikeMove, finished, onward, lost, step_of, move_of, made_at, is_leaf_at, replaced_at, Pair, whole, above_leaves, freed, to_left, to_right, to_outer, left_over, outer_over, exchanged_at, move_toward, move_pair}
use Rattle.quadtreap.proofs.StrikeLaws.{strike_fewer}
use Rattle.records.proofs.MoveLaws.{move_of_is}

module _ {K : Type 0} where
  pub choose : (P : StrikeMove K → Type 0) (b : Bool) (x y : StrikeMove K) → (b ≡ true → P x) → (b ≡ false → P y) → P (cond b x y)
  choose P true x y p q = p refl
  choose P false x y p q = q refl

  -- each way that a step can go, with what the tests told
  pub record Cases (P : StrikeMove K → Type 0) (x : Pair K) (k : ℕ) : Type 0 where
    pub last_right : eqb k (rank x.right).code ≡ true → above_leaves x ≡ true → P (finished (replaced_at x.outer x.left) (freed x x.right))
    pub left_rises : eqb k (rank x.right).code ≡ true → least_of (made_at x.left) (made_at x.right) (made_at x.out) ≡ true → P (left_over x x.left)
    pub outer_rises : eqb k (rank x.right).code ≡ true → least_of (made_at x.out) (made_at x.left) (made_at x.right) ≡ true → P (outer_over x x.out (rank x.left))
    pub last_left : eqb k (rank x.right).code ≡ false → is_none x.inner ≡ true → eqb k (rank x.left).code ≡ true → above_leaves x ≡ true → P (finished (replaced_at x.outer x.right) (freed x x.left))
    pub right_rises : eqb k (rank x.right).code ≡ false → is_none x.inner ≡ true → eqb k (rank x.left).code ≡ true → least_of (made_at x.right) (made_at x.left) (made_at x.out) ≡ true → P (left_over (exchanged_at x) x.right)
    pub outer_rises_left : eqb k (rank x.right).code ≡ false → is_none x.inner ≡ true → eqb k (rank x.left).code ≡ true → least_of (made_at x.out) (made_at x.left) (made_at x.right) ≡ true → P (outer_over x x.out (rank x.right))
    pub exchanges_on : eqb k (rank x.right).code ≡ false → is_none x.inner ≡ true → eqb k (rank x.left).code ≡ true → P (to_right (exchanged_at x))
    pub goes_left : eqb k (rank x.right).code ≡ false → (is_none x.inner ≡ true → eqb k (rank x.left).code ≡ false) → P (to_left x)
    pub goes_right : (eqb k (rank x.right).code ≡ false → is_none x.inner ≡ true → eqb k (rank x.left).code ≡ false) → P (to_right x)
    pub goes_outer : eqb k (rank x.right).code ≡ false → (is_none x.inner ≡ true → eqb k (rank x.left).code ≡ false) → P (to_outer x)

  pub by_cases : (P : StrikeMove K → Type 0) (x : Pair K) (k : ℕ) → Cases P x k → P (move_pair x k)
  by_cases P x k c =
      let child_toward : eqb k (rank x.right).code ≡ false → (is_none x.inner ≡ true → eqb k (rank x.left).code ≡ false) → P (move_toward x k) =
      λ er el. choose P (holds x.box k) _ _ (λ _. choose P (holds (outer (tree_in x.left)) k) _ _ (λ _. c.goes_left er el) (λ _. c.goes_right (λ _. el))) (λ _. c.goes_outer er el) in
      choose P (eqb k (rank x.right).code) _ _
      (λ e. choose P (above_leaves x) _ _ (c.last_right e)
      (λ _. choose P (least_of (made_at x.left) (made_at x.right) (made_at x.out)) _ _ (c.left_rises e)
      (λ _. choose P (least_of (made_at x.out) (made_at x.left) (made_at x.right)) _ _ (c.outer_rises e) (λ _. c.goes_right (λ z. absurd (false≢true (sym z ∙ e)))))))
      (λ er. choose P (is_none x.inner) _ _
      (λ ei. choose P (eqb k (rank x.left).code) _ _
      (λ el. choose P (above_leaves x) _ _ (c.last_left er ei el)
      (λ _. choose P (least_of (made_at x.right) (made_at x.left) (made_at x.out)) _ _ (c.right_rises er ei el)
      (λ _. choose P (least_of (made_at x.out) (made_at x.left) (made_at x.right)) _ _ (c.outer_rises_left er ei el) (λ _. c.exchanges_on er ei el))))
      (λ el. child_toward er (λ _. el)))
      (λ ei. child_toward er (λ z. absurd (false≢true (sym ei ∙ z)))))

  -- only a leaf takes the place of a pair
  abbrev pub EndsInLeaf : StrikeMove K → Type 0
  EndsInLeaf (finished t n) = is_leaf_at t ≡ true
  EndsInLeaf (onward g t) = Unit {0}
  EndsInLeaf (lost t) = is_leaf_at t ≡ true

  leaf_replaced : (B : Box) (t : PlacedPairs K) → is_leaf_at t ≡ true → is_leaf_at (replaced_at B t) ≡ true
  leaf_replaced B (placed_leaf p C c) e = refl
  leaf_replaced B (placed_pair s w r C i E L R O) e = e

  ends_in_leaf_left : (x : Pair K) (t : PlacedPairs K) → EndsInLeaf (left_over x t)
  ends_in_leaf_left x (placed_leaf p C c) = tt
  ends_in_leaf_left x (placed_pair s w r C i E L R O) = tt

  ends_in_leaf_outer : (x : Pair K) (t : PlacedPairs K) (a : Rank) → EndsInLeaf (outer_over x t a)
  ends_in_leaf_outer x (placed_leaf p C c) a = tt
  ends_in_leaf_outer x (placed_pair s w r C i E L R O) a = tt

  pub ends_in_leaf : (x : Pair K) (k : ℕ) → EndsInLeaf (move_pair x k)
  ends_in_leaf x k =
      by_cases EndsInLeaf x k record {
        last_right = λ _ e. leaf_replaced x.outer x.left (and_parts _ _ e).0;
        left_rises = λ _ _. ends_in_leaf_left x x.left;
        outer_rises = λ _ _. ends_in_leaf_outer x x.out (rank x.left);
        last_left = λ _ _ _ e. leaf_replaced x.outer x.right (and_parts _ _ (and_parts _ _ e).1).0;
        right_rises = λ _ _ _ _. ends_in_leaf_left (exchanged_at x) x.right;
        outer_rises_left = λ _ _ _ _. ends_in_leaf_outer x x.out (rank x.right);
        exchanges_on = λ _ _ _. tt;
        goes_left = λ _ _. tt;
        goes_right = λ _. tt;
        goes_outer = λ _ _. tt;
      }

  -- the places: those that leave are free
  abbrev pub Placed : PlacedPairs K → StrikeMove K → Type 0
  Placed t (finished u n) = (j : ℕ) → occurs j (nodes_of t) ≡ occurs j (nodes_of u) + four j n
  Placed t (onward g u) = (j : ℕ) → occurs j (nodes_of t) ≡ occurs j (nodes_of (put_in g u))
  Placed t (lost u) = (j : ℕ) → occurs j (nodes_of t) ≡ occurs j (nodes_of u)

  placed_left : (x y : Pair K) (t : PlacedPairs K) → ((j : ℕ) → occurs j (nodes_of (whole x)) ≡ occurs j (nodes_of (whole y))) → y.left ≡ t → Placed (whole x) (left_over y t)
  placed_left x y (placed_leaf p C c) same is = same
  placed_left x y (placed_pair s w r C i E L R O) same is = λ j. let a = same j in let b = ap (λ u. occurs j (nodes_of u)) is in omega arith

  placed_outer : (x : Pair K) (t : PlacedPairs K) (a : Rank) → x.out ≡ t → Placed (whole x) (outer_over x t a)
  placed_outer x (placed_leaf p C c) a is = λ j. refl
  placed_outer x (placed_pair s w r C i E L R O) a is = λ j. let b = ap (λ u. occurs j (nodes_of u)) is in omega arith

  leaf_place_lem : (B : Box) (t : PlacedPairs K) (j : ℕ) → is_leaf_at t ≡ true → (occurs j (nodes_of t) ≡ one j (top_place t)) × (occurs j (nodes_of (replaced_at B t)) ≡ one j (top_place t))
  leaf_place_lem B (placed_leaf p C c) j e = (refl, refl)
  leaf_place_lem B (placed_pair s w r C i E L R O) j e = absurd (false≢true e)

  three : (x : Pair K) → above_leaves x ≡ true → (is_leaf_at x.left ≡ true) × (is_leaf_at x.right ≡ true) × (is_leaf_at x.out ≡ true)
  three x e = let a = and_parts (is_leaf_at x.left) _ e in let b = and_parts (is_leaf_at x.right) _ a.1 in (a.0, b.0, b.1)

  placed_pair_lem : (x : Pair K) (k : ℕ) → Placed (whole x) (move_pair x k)
  placed_pair_lem x k =
      by_cases (Placed (whole x)) x k record {
        last_right = λ _ e j.
            let p = three x e in let a = leaf_place_lem x.outer x.left j p.0 in let b = leaf_place_lem x.outer x.right j p.1 in let c = leaf_place_lem x.outer x.out j p.2 in
            omega (arith, a.0, a.1, b.0, c.0);
        left_rises = λ _ _. placed_left x x x.left (λ j. refl) refl;
        outer_rises = λ _ _. placed_outer x x.out (rank x.left) refl;
        last_left = λ _ _ _ e j.
            let p = three x e in let a = leaf_place_lem x.outer x.left j p.0 in let b = leaf_place_lem x.outer x.right j p.1 in let c = leaf_place_lem x.outer x.out j p.2 in
            omega (arith, a.0, b.0, b.1, c.0);
        right_rises = λ _ _ _ _. placed_left x (exchanged_at x) x.right (λ j. omega arith) refl;
        outer_rises_left = λ _ _ _ _. placed_outer x x.out (rank x.right) refl;
        exchanges_on = λ _ _ _ j. omega arith;
        goes_left = λ _ _ j. refl;
        goes_right = λ _ j. refl;
        goes_outer = λ _ _ j. refl;
      }

  pub placed : (t : PlacedPairs K) (k : ℕ) → Placed t (move_of t k)
  placed (placed_leaf p C c) k = λ j. refl
  placed (placed_pair s w r C i E L R O) k = placed_pair_lem (record { shrink = s; split = w; rank = r; outer = C; inner = i; box = E; left = L; right = R; out = O }) k

  pub ends_in_leaf_of : (t : PlacedPairs K) (k : ℕ) → EndsInLeaf (move_of t k)
  ends_in_leaf_of (placed_leaf p C c) k = refl
  ends_in_leaf_of (placed_pair s w r C i E L R O) k = ends_in_leaf (record { shrink = s; split = w; rank = r; outer = C; inner = i; box = E; left = L; right = R; out = O }) k

  -- the same of the number of nodes
  abbrev pub Numbered : PlacedPairs K → StrikeMove K → Type 0
  Numbered t (finished u n) = nodes (tree_in t) ≡ nodes (tree_in u) + 4
  Numbered t (onward g u) = nodes (tree_in t) ≡ nodes (tree_in (put_in g u))
  Numbered t (lost u) = nodes (tree_in t) ≡ nodes (tree_in u)

  numbered_left : (x y : Pair K) (t : PlacedPairs K) → nodes (tree_in (whole x)) ≡ nodes (tree_in (whole y)) → y.left ≡ t → Numbered (whole x) (left_over y t)
  numbered_left x y (placed_leaf p C c) same is = same
  numbered_left x y (placed_pair s w r C i E L R O) same is = let b = ap (λ u. nodes (tree_in u)) is in omega arith

  numbered_outer : (x : Pair K) (t : PlacedPairs K) (a : Rank) → x.out ≡ t → Numbered (whole x) (outer_over x t a)
  numbered_outer x (placed_leaf p C c) a is = refl
  numbered_outer x (placed_pair s w r C i E L R O) a is = let b = ap (λ u. nodes (tree_in u)) is in omega arith

  leaf_number : (B : Box) (t : PlacedPairs K) → is_leaf_at t ≡ true → (nodes (tree_in t) ≡ 1) × (nodes (tree_in (replaced_at B t)) ≡ 1)
  leaf_number B (placed_leaf p C c) e = (refl, refl)
  leaf_number B (placed_pair s w r C i E L R O) e = absurd (false≢true e)

  numbered_pair : (x : Pair K) (k : ℕ) → Numbered (whole x) (move_pair x k)
  numbered_pair x k =
      by_cases (Numbered (whole x)) x k record {
        last_right = λ _ e.
            let p = three x e in let a = leaf_number x.outer x.left p.0 in let b = leaf_number x.outer x.right p.1 in let c = leaf_number x.outer x.out p.2 in
            omega (arith, a.0, a.1, b.0, c.0);
        left_rises = λ _ _. numbered_left x x x.left refl refl;
        outer_rises = λ _ _. numbered_outer x x.out (rank x.left) refl;
        last_left = λ _ _ _ e.
            let p = three x e in let a = leaf_number x.outer x.left p.0 in let b = leaf_number x.outer x.right p.1 in let c = leaf_number x.outer x.out p.2 in
            omega (arith, a.0, b.0, b.1, c.0);
        right_rises = λ _ _ _ _. numbered_left x (exchanged_at x) x.right (omega arith) refl;
        outer_rises_left = λ _ _ _ _. numbered_outer x x.out (rank x.right) refl;
        exchanges_on = λ _ _ _. omega arith;
        goes_left = λ _ _. refl;
        goes_right = λ _. refl;
        goes_outer = λ _ _. refl;
      }

  pub numbered : (t : PlacedPairs K) (k : ℕ) → Numbered t (move_of t k)
  numbered (placed_leaf p C c) k = refl
  numbered (placed_pair s w r C i E L R O) k = numbered_pair (record { shrink = s; split = w; rank = r; outer = C; inner = i; box = E; left = L; right = R; out = O }) k

  -- what is gone on with has fewer nodes
  abbrev pub Fewer : ℕ → StrikeMove K → Type 0
  Fewer n (finished u m) = Unit {0}
  Fewer n (onward g u) = nodes (tree_in u) < n
  Fewer n (lost u) = Unit {0}

  fewer_step : (t : Tree K) (k : ℕ) (F : StrikeMove K) → step_of F ≡ strike_step t k → Fewer (nodes t) F
  fewer_step t k (finished u m) e = tt
  fewer_step t k (onward g u) e = strike_fewer t (tree_in u) (frame g) k (sym e)
  fewer_step t k (lost u) e = tt

  pub fewer : (t : PlacedPairs K) (k : ℕ) → RanksStand t → Fewer (nodes (tree_in t)) (move_of t k)
  fewer t k h = fewer_step (tree_in t) k (move_of t k) (move_of_is t k h)

  -- only a leaf has no such code
  abbrev pub LostSame : PlacedPairs K → StrikeMove K → Type 0
  LostSame t (finished u n) = Unit {0}
  LostSame t (onward g u) = Unit {0}
  LostSame t (lost u) = u ≡ t

  same_left : (z : PlacedPairs K) (x : Pair K) (t : PlacedPairs K) → LostSame z (left_over x t)
  same_left z x (placed_leaf p C c) = tt
  same_left z x (placed_pair s w r C i E L R O) = tt

  same_outer : (z : PlacedPairs K) (x : Pair K) (t : PlacedPairs K) (a : Rank) → LostSame z (outer_over x t a)
  same_outer z x (placed_leaf p C c) a = tt
  same_outer z x (placed_pair s w r C i E L R O) a = tt

  pub never_lost : (x : Pair K) (k : ℕ) → LostSame (whole x) (move_pair x k)
  never_lost x k =
      by_cases (LostSame (whole x)) x k record {
        last_right = λ _ _. tt;
        left_rises = λ _ _. same_left (whole x) x x.left;
        outer_rises = λ _ _. same_outer (whole x) x x.out (rank x.left);
        last_left = λ _ _ _ _. tt;
        right_rises = λ _ _ _ _. same_left (whole x) (exchanged_at x) x.right;
        outer_rises_left = λ _ _ _ _. same_outer (whole x) x x.out (rank x.right);
        exchanges_on = λ _ _ _. tt;
        goes_left = λ _ _. tt;
        goes_right = λ _. tt;
        goes_outer = λ _ _. tt;
      }
