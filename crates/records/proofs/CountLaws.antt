-- The places of a tree before and after a step of the rise.
use Rattle.std.proofs.Common.{◌≡◌, ℕ, ◌+◌, Bool, true, false, cond, refl, arith}
use mathlib.Core.Option.{Option, none, some}
use Rattle.records.specs.declared.places.FourPlaces.{FourPlaces}
use Rattle.place.specs.Boxes.{Box, smallest, half}
use Rattle.quadtreap.specs.Tree.{Reading, Content, reading, box, outer, point_of, box_in, extent}
use Rattle.quadtreap.specs.Rank.{earlier}
use Rattle.quadtreap.specs.Pairs.{unranked}
use Rattle.records.specs.PlacedNodes.{one, occurs}
use Rattle.records.specs.PlacedPairs.{PlacedPairs, placed_leaf, placed_pair, nodes_of, tree_in, rank, PairFrame, on_left_at, on_right_at, on_outer_at, put_in, ordered_at, made_before, settled_at, four, planted_at}

module _ {K : Type 0} where
  pub places_ordered : (s w : ℕ) (C : Box) (i : Option Box) (E : Box) (L R O : PlacedPairs K) (j : ℕ) → occurs j (nodes_of (ordered_at s w C i E L R O)) ≡ (one j s + ((one j w + (occurs j (nodes_of L) + occurs j (nodes_of R))) + occurs j (nodes_of O)))
  places_ordered s w C none E L R O j =
      elim (earlier (rank R) (rank L)) as (λ b. occurs j (nodes_of (cond b (placed_pair s w (rank R) C none E R L O) (placed_pair s w (rank L) C none E L R O))) ≡ (one j s + ((one j w + (occurs j (nodes_of L) + occurs j (nodes_of R))) + occurs j (nodes_of O)))) [ true ↦ omega arith | false ↦ omega arith ]
  places_ordered s w C (some I) E L R O j = refl

  either : (b : Bool) (x y z : PlacedPairs K) (j : ℕ) → occurs j (nodes_of x) ≡ occurs j (nodes_of z) → occurs j (nodes_of y) ≡ occurs j (nodes_of z) → occurs j (nodes_of (cond b x y)) ≡ occurs j (nodes_of z)
  either true x y z j p q = p
  either false x y z j p q = q

  pub places_settle : (g : PairFrame K) (t : PlacedPairs K) (j : ℕ) → occurs j (nodes_of (settled_at g t)) ≡ occurs j (nodes_of (put_in g t))
  places_settle (on_left_at s w r C i E R O) (placed_leaf p B c) j = places_ordered s w C i E (placed_leaf p B c) R O j
  places_settle (on_left_at s w r C i E R O) (placed_pair y v q B k F A D o) j =
      either (made_before (placed_pair y v q B k F A D o) R) _ _ (placed_pair s w r C i E (placed_pair y v q B k F A D o) R O) j
      (let e = places_ordered y v C k F A D (placed_pair s w unranked C (some F) E o R O) j in omega arith) (places_ordered s w C i E (placed_pair y v q B k F A D o) R O j)
  places_settle (on_right_at s w r C i E L O) t j = places_ordered s w C i E L t O j
  places_settle (on_outer_at s w r C i E L R) (placed_leaf p B c) j = refl
  places_settle (on_outer_at s w r C i E L R) (placed_pair x v q B k F A D o) j =
      either (made_before (placed_pair x v q B k F A D o) R) _ _ (placed_pair s w r C i E L R (placed_pair x v q B k F A D o)) j
      (let e = places_ordered x v B i F (placed_pair s w r (outer (tree_in A)) i E L R A) D o j in omega arith) refl

  pub places_plant : (n : FourPlaces) (i : ℕ) (C : Box) (c : Content K) (p : Reading K) (j : ℕ) → occurs j (nodes_of (planted_at n i C c p)) ≡ one j i + four j n
  places_plant n i C c p j =
      let E : Box = smallest (extent c) (point_of p) in
      let e = places_ordered n.shrink n.split C (box_in c) E (placed_leaf i (half E (extent c)) c) (placed_leaf n.reading (half E (point_of p)) (reading p)) (placed_leaf n.outer C (box E)) j in
      omega arith
