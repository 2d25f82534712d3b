-- What the functions promise where a tree lies in the table.
--   Holds, LeftRises, OuterRises, Orders   promotions, and the order of a pair
--   Descends                               the way down
--   PlantedFirst, PlantsFirst              the first reading
--   Planted, Plants                        a new reading
--   Rises, Settles                         one step of the rise
--   Moved, MovesDown, Sinks                one step of a strike
--   Frees, Misses, StruckTree, Strikes     the whole strike
use Rattle.std.specs.Prelude.{◌≡◌, ℕ, ◌+◌, ◌<◌, ◌≤◌, ◌⊎◌, List, [], ◌∷◌, length}
use Rattle.std.proofs.Math.Option.{Option, some}
use Rattle.records.specs.declared.record.Record.{Record}
use Rattle.records.specs.declared.places.FourPlaces.{FourPlaces}
use Rattle.records.specs.declared.places.Sinking.{Sinking}
use Rattle.records.specs.declared.places.Sinking.TheVariants.{On, Done, Lost}
use Rattle.place.specs.Boxes.{Box, whole, smallest}
use Rattle.quadtreap.specs.Tree.{Reading, Content, reading, Tree, leaf, tree_of, outer, nodes, point_of, extent}
use Rattle.quadtreap.specs.declared.rank.Rank.{Rank}
use Rattle.quadtreap.specs.Rank.{rank_of}
use Rattle.quadtreap.specs.Pairs.{promote_left, promote_outer, unranked, ordered as ordered_tree, Paired}
use Rattle.quadtreap.specs.Enter.{settle as settle_tree, plant as plant_tree}
use Rattle.quadtreap.specs.Strike.{strike_step, strike_tree}
use Rattle.records.specs.Links.{Link}
use Rattle.records.specs.PlacedNodes.{LiesIn, one, occurs}
use Rattle.records.specs.PlacedPairs.{PlacedPairs, placed_leaf, placed_pair, nodes_of, tree_in, top_place, RanksStand, PairFrame, put_in, put_in_all, frame, FrameRanksStand, ordered_at, settled_at, risen_over, Reaches, Free, four, planted_at}
use Rattle.records.specs.Elsewhere.{Elsewhere, places_of}
use Rattle.records.specs.StrikeMoves.{StrikeMove, finished, onward, lost, step_of, move_of, moves_in}

-- The table held the frames gs around t, and now holds them around u, which is the tree x. Nothing else changed.
pub record Holds {K : Type 0} (entry exit : List Record) (gs : List (PairFrame K)) (t u : PlacedPairs K) (x : Tree K) : Type 0 where
  pub kept : LiesIn exit (nodes_of (put_in_all gs u))
  pub tree : tree_in u ≡ x
  pub same : Elsewhere (places_of (put_in_all gs t)) entry exit

-- The left child of the pair at x rises over it.
abbrev pub LeftRises : Type 0 → List Record → List Record → ℕ → Type 0
LeftRises K entry exit x =
    (gs : List (PairFrame K)) (w y v : ℕ) (r q : Rank) (C E B F : Box) (i k : Option Box) (A D o R O : PlacedPairs K)
    → LiesIn entry (nodes_of (put_in_all gs (placed_pair x w r C i E (placed_pair y v q B k F A D o) R O)))
    → Holds entry exit gs (placed_pair x w r C i E (placed_pair y v q B k F A D o) R O) (placed_pair y v q C k F A D (placed_pair x w unranked C (some F) E o R O)) (promote_left (tree_in (placed_pair x w r C i E (placed_pair y v q B k F A D o) R O)))

-- The outer child of the pair at s rises over it.
abbrev pub OuterRises : Type 0 → List Record → List Record → ℕ → Type 0
OuterRises K entry exit s =
    (gs : List (PairFrame K)) (w x v : ℕ) (r q : Rank) (C E B F : Box) (i k : Option Box) (L R A D o : PlacedPairs K)
    → LiesIn entry (nodes_of (put_in_all gs (placed_pair s w r C i E L R (placed_pair x v q B k F A D o))))
    → Holds entry exit gs (placed_pair s w r C i E L R (placed_pair x v q B k F A D o)) (placed_pair x v q B i F (placed_pair s w r (outer (tree_in A)) i E L R A) D o) (promote_outer (tree_in (placed_pair s w r C i E L R (placed_pair x v q B k F A D o))))

-- The pair at s has its children in the order of their ranks.
abbrev pub Orders : Type 0 → List Record → List Record → ℕ → Type 0
Orders K entry exit s =
    (gs : List (PairFrame K)) (w : ℕ) (r : Rank) (C E : Box) (i : Option Box) (L R O : PlacedPairs K) → RanksStand L → RanksStand R
    → LiesIn entry (nodes_of (put_in_all gs (placed_pair s w r C i E L R O)))
    → Holds entry exit gs (placed_pair s w r C i E L R O) (ordered_at s w C i E L R O) (ordered_tree (tree_in (placed_pair s w r C i E L R O)))

-- The code k leads from the root to the leaf at i.
abbrev pub Descends : Type 0 → List Record → ℕ → ℕ → ℕ → ℕ → Type 0
Descends K recs root k budget i = (t : PlacedPairs K) → LiesIn recs (nodes_of t) → root ≡ top_place t → nodes (tree_in t) ≤ budget → Reaches t k i

-- The leaf at i is the tree of the reading p alone. Nothing else changed.
pub record PlantedFirst {K : Type 0} (entry exit : List Record) (i : ℕ) (p : Reading K) : Type 0 where
  pub kept : LiesIn exit (nodes_of (placed_leaf i whole (reading p)))
  pub tree : some (tree_in (placed_leaf i whole (reading p))) ≡ tree_of (p ∷ [])
  pub right : RanksStand (placed_leaf i whole (reading p))
  pub same : Elsewhere (λ j. one j i) entry exit

-- The first reading, with the rank q, comes to a place of the table.
abbrev pub PlantsFirst : Type 0 → List Record → List Record → ℕ → Rank → Type 0
PlantsFirst K entry exit i q =
    (p : Reading K) → rank_of p ≡ q → i < length entry → i < 65535 → PlantedFirst entry exit i p

-- The leaf at i is a pair, at the places n. Nothing else changed.
pub record Planted {K : Type 0} (entry exit : List Record) (gs : List (PairFrame K)) (n : FourPlaces) (i : ℕ) (C : Box) (c : Content K) (p : Reading K) : Type 0 where
  pub kept : LiesIn exit (nodes_of (put_in_all gs (planted_at n i C c p)))
  pub tree : tree_in (planted_at n i C c p) ≡ plant_tree (leaf C c) p
  pub right : RanksStand (planted_at n i C c p)
  pub top : top_place (planted_at n i C c p) ≡ n.shrink
  pub places : (j : ℕ) → occurs j (nodes_of (planted_at n i C c p)) ≡ one j i + four j n
  pub same : Elsewhere (λ j. four j n + places_of (put_in_all gs (placed_leaf i C c)) j) entry exit

-- A new reading with the rank q comes to the leaf at i.
abbrev pub Plants : Type 0 → List Record → List Record → ℕ → Rank → FourPlaces → Type 0
Plants K entry exit i q n =
    (gs : List (PairFrame K)) (C : Box) (c : Content K) (p : Reading K) → rank_of p ≡ q
    → LiesIn entry (nodes_of (put_in_all gs (placed_leaf i C c))) → Free entry (put_in_all gs (placed_leaf i C c)) n → (smallest (extent c) (point_of p)).depth < 32
    → Planted entry exit gs n i C c p

-- One step of the rise: t is settled in its frame, `top` is in its place, and `low` is the pair that it rose over, or none. Nothing else changed.
pub record Rises {K : Type 0} (entry exit : List Record) (gs : List (PairFrame K)) (g : PairFrame K) (t : PlacedPairs K) (top : ℕ) (low : Link) : Type 0 where
  pub kept : LiesIn exit (nodes_of (put_in_all gs (settled_at g t)))
  pub tree : tree_in (settled_at g t) ≡ settle_tree (frame g) (tree_in t)
  pub right : RanksStand (settled_at g t)
  pub at_top : top ≡ top_place (settled_at g t)
  pub below : low ≡ risen_over g t
  pub places : (j : ℕ) → occurs j (nodes_of (settled_at g t)) ≡ occurs j (nodes_of (put_in g t))
  pub same : Elsewhere (places_of (put_in_all (g ∷ gs) t)) entry exit

-- The tree at s is settled in its frame.
abbrev pub Settles : Type 0 → List Record → List Record → ℕ → ℕ → Link → Type 0
Settles K entry exit s top low =
    (gs : List (PairFrame K)) (g : PairFrame K) (t : PlacedPairs K) → FrameRanksStand g → RanksStand t → s ≡ top_place t → LiesIn entry (nodes_of (put_in_all (g ∷ gs) t)) → Rises entry exit gs g t top low

-- What the table holds after one step of a strike at t, and what is answered.
abbrev pub Moved : {K : Type 0} → List Record → List (PairFrame K) → PlacedPairs K → StrikeMove K → Sinking → Type 0
Moved exit gs t (finished u n) r = LiesIn exit (nodes_of (put_in_all gs u)) × (r ≡ Done (top_place u) n) × ((j : ℕ) → occurs j (nodes_of t) ≡ occurs j (nodes_of u) + four j n)
Moved exit gs t (onward g u) r = LiesIn exit (nodes_of (put_in_all (g ∷ gs) u)) × (r ≡ On (top_place u)) × ((j : ℕ) → occurs j (nodes_of t) ≡ occurs j (nodes_of (put_in g u))) × RanksStand u
Moved exit gs t (lost u) r = LiesIn exit (nodes_of (put_in_all gs u)) × (r ≡ Lost) × (u ≡ t)

-- The step with places is in the table, and is the step of the tree. Nothing else changed.
pub record MovesDown {K : Type 0} (entry exit : List Record) (gs : List (PairFrame K)) (t : PlacedPairs K) (k : ℕ) (r : Sinking) : Type 0 where
  pub written : Moved exit gs t (move_of t k) r
  pub step : step_of (move_of t k) ≡ strike_step (tree_in t) k
  pub same : Elsewhere (places_of (put_in_all gs t)) entry exit

-- One step of a strike of the code k from the tree at s.
abbrev pub Sinks : Type 0 → List Record → List Record → ℕ → ℕ → Sinking → Type 0
Sinks K entry exit s k r =
    (gs : List (PairFrame K)) (t : PlacedPairs K) → s ≡ top_place t → RanksStand t → LiesIn entry (nodes_of (put_in_all gs t)) → MovesDown entry exit gs t k r

-- Four places are free, and there are four nodes less.
pub record Frees {K : Type 0} (t u : PlacedPairs K) (i : ℕ) (r : Sinking) : Type 0 where
  pub freed : FourPlaces
  pub answer : r ≡ Done i freed
  pub places : (j : ℕ) → occurs j (nodes_of t) ≡ occurs j (nodes_of u) + four j freed
  pub nodes : nodes (tree_in t) ≡ nodes (tree_in u) + 4

-- No reading has the code: the same places, and as many nodes.
pub record Misses {K : Type 0} (t u : PlacedPairs K) (r : Sinking) : Type 0 where
  pub answer : r ≡ Lost
  pub places : (j : ℕ) → occurs j (nodes_of t) ≡ occurs j (nodes_of u)
  pub nodes : nodes (tree_in t) ≡ nodes (tree_in u)

-- The whole strike: the tree without the reading, and the leaf at which the strike came to its end. Nothing else changed.
pub record StruckTree {K : Type 0} (entry exit : List Record) (t : PlacedPairs K) (k n : ℕ) (r : Sinking) : Type 0 where
  pub kept : LiesIn exit (nodes_of (moves_in n t k))
  pub tree : tree_in (moves_in n t k) ≡ strike_tree (tree_in t) k
  pub right : Paired (tree_in t) → RanksStand (moves_in n t k)
  pub path : List (PairFrame K)
  pub leaf_place : ℕ
  pub box : Box
  pub content : Content K
  pub found : put_in_all path (placed_leaf leaf_place box content) ≡ moves_in n t k
  pub answer : Frees t (moves_in n t k) leaf_place r ⊎ Misses t (moves_in n t k) r
  pub same : Elsewhere (places_of t) entry exit

-- The reading with the code k is struck from the tree at the root.
abbrev pub Strikes : Type 0 → List Record → List Record → ℕ → ℕ → ℕ → Sinking → Type 0
Strikes K entry exit root k n r = (t : PlacedPairs K) → RanksStand t → LiesIn entry (nodes_of t) → root ≡ top_place t → nodes (tree_in t) ≤ n → StruckTree entry exit t k n r
