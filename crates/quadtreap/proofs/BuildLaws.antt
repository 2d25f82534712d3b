-- The tree of a cell, by the first two of its contents.
use Rattle.std.proofs.Common.{◌≡◌, true, false, cond, List, [], ◌∷◌, filter, refl, ◌∙◌, inl, inr}
use mathlib.Core.Option.{Option}
use Rattle.place.specs.Boxes.{Box, smallest, half}
use Rattle.quadtreap.specs.Tree.{Reading, Content, reading, box, Tree, leaf, shrink, split, point_of, extent, box_in, outer, lies, outside, pair, insert, insert_all, build}
use Rattle.place.proofs.BoxLaws.{Parts, Lies, halves}

pub outer_insert : {K : Type 0} (t : Tree K) (p : Reading K) → outer (insert t p) ≡ outer t
outer_insert (leaf C c) p = refl
outer_insert (shrink C i a b) p = elim (lies (outer a) p) as (λ v. outer (cond v (shrink C i (insert a p) b) (shrink C i a (insert b p))) ≡ C) [ true ↦ refl | false ↦ refl ]
outer_insert (split E i a b) p = elim (lies (outer a) p) as (λ v. outer (cond v (split E i (insert a p) b) (split E i a (insert b p))) ≡ E) [ true ↦ refl | false ↦ refl ]

pub outer_insert_all : {K : Type 0} (t : Tree K) (ps : List (Reading K)) → outer (insert_all t ps) ≡ outer t
outer_insert_all t [] = refl
outer_insert_all t (p ∷ ps) = outer_insert_all (insert t p) ps ∙ outer_insert t p

-- what comes to a node goes to one of its three children
pub spread : {K : Type 0} (C E H G : Box) (i : Option Box)
    (each : (r : Reading K) → Lies (lies E r) (lies H r) (lies G r))
    (L R O : Tree K) (is : outer L ≡ H) (ps : List (Reading K))
    → insert_all (pair C i E L R O) ps
    ≡ pair C i E (insert_all L (filter (lies H) ps)) (insert_all R (filter (lies G) ps)) (insert_all O (filter (outside E) ps))
spread C E H G i each L R O is [] = refl
spread C E H G i each L R O is (p ∷ ps) =
    rw is (elim (each p) [
      | inl o ↦ simp (o.0, o.1, o.2) (spread C E H G i each L R (insert O p) is ps)
      | inr (inl n) ↦ simp (n.0, n.1, n.2) (spread C E H G i each (insert L p) R O (outer_insert L p ∙ is) ps)
      | inr (inr f) ↦ simp (f.0, f.1, f.2) (spread C E H G i each L (insert R p) O is ps)
    ])

-- the tree of a cell with the content c, whose next reading is p
pub build_cons : {K : Type 0} (C : Box) (c : Content K) (p : Reading K) (ps : List (Reading K)) → Parts (extent c) (point_of p)
    → build C c (p ∷ ps)
    ≡ (let E : Box = smallest (extent c) (point_of p) in
    pair C (box_in c) E
    (build (half E (extent c)) c (filter (lies (half E (extent c))) ps))
    (build (half E (point_of p)) (reading p) (filter (lies (half E (point_of p))) ps))
    (build C (box E) (filter (outside E) ps)))
build_cons C c p ps s =
    let E : Box = smallest (extent c) (point_of p) in
    spread C E (half E (extent c)) (half E (point_of p)) (box_in c) (λ r. halves E.depth (extent c).code p.code s r.code)
    (leaf (half E (extent c)) c) (leaf (half E (point_of p)) (reading p)) (leaf C (box E)) refl ps
