-- How many nodes a tree has.
use Rattle.std.proofs.Common.{◌≡◌, suc, ◌+◌, ◌*◌, true, false, cond, List, [], ◌∷◌, length, refl, arith}
use Rattle.place.specs.Boxes.{Box, whole}
use Rattle.quadtreap.specs.Tree.{Reading, reading, Tree, leaf, shrink, split, lies, outer, insert, insert_all, build, nodes}
use Rattle.quadtreap.specs.Theorems.{NodeCount}

pub nodes_insert : {K : Type 0} (t : Tree K) (p : Reading K) → nodes (insert t p) ≡ nodes t + 4
nodes_insert (leaf C c) p = refl
nodes_insert (shrink C i a b) p =
    let f = nodes_insert a p in
    let g = nodes_insert b p in
    elim (lies (outer a) p) as (λ v. nodes (cond v (shrink C i (insert a p) b) (shrink C i a (insert b p))) ≡ suc (nodes a + nodes b) + 4) [ true ↦ omega arith | false ↦ omega arith ]
nodes_insert (split C i a b) p =
    let f = nodes_insert a p in
    let g = nodes_insert b p in
    elim (lies (outer a) p) as (λ v. nodes (cond v (split C i (insert a p) b) (split C i a (insert b p))) ≡ suc (nodes a + nodes b) + 4) [ true ↦ omega arith | false ↦ omega arith ]

pub nodes_insert_all : {K : Type 0} (t : Tree K) (ps : List (Reading K)) → nodes (insert_all t ps) ≡ nodes t + 4 * length ps
nodes_insert_all t [] = omega arith
nodes_insert_all t (p ∷ ps) = omega (arith, nodes_insert_all (insert t p) ps, nodes_insert t p)

pub nodes_build : {K : Type 0} (C : Box) (r : Reading K) (rs : List (Reading K)) → nodes (build C (reading r) rs) + 3 ≡ 4 * length (r ∷ rs)
nodes_build C r rs = omega (arith, nodes_insert_all (leaf C (reading r)) rs)

pub node_count : {K : Type 0} → NodeCount K
node_count [] = refl
node_count (r ∷ rs) = omega (arith, nodes_build whole r rs)
