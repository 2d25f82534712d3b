-- The direct description of the tree is the tree of insertion.
use Rattle.std.proofs.Common.{◌≡◌, ℕ, zero, suc, ◌<◌, List, [], ◌∷◌, length, filter, sym, refl, ap, ◌∙◌, arith}
use mathlib.Core.Option.{none, some}
use Rattle.std.specs.List.{AllByRecursion}
use Rattle.std.proofs.lemmas.Bool.{not-true}
use Rattle.std.proofs.ByRecursion.{all_kept_by}
use Rattle.place.specs.Boxes.{Box, whole, smallest, half}
use Rattle.quadtreap.specs.Tree.{Reading, Content, reading, box, Tree, point_of, extent, box_in, lies, outside, pair, build}
use Rattle.quadtreap.specs.Layout.{layout}
use Rattle.quadtreap.specs.Theorems.{LayoutIsInsertion}
use Rattle.place.proofs.BoxLaws.{Parts}
use Rattle.quadtreap.proofs.BuildLaws.{build_cons}
use Rattle.quadtreap.proofs.PromoteLaws.{pair_eq}
use Rattle.quadtreap.proofs.KeepLaws.{length_kept, all_kept_with, outside_parts, Apart, apart_kept}
use Rattle.quadtreap.proofs.ValidLaws.{valid_apart}

-- the layout of a cell, by what its leaf holds
abbrev lay : {K : Type 0} → ℕ → Box → Content K → List (Reading K) → Tree K
lay n C (reading r) ps = layout n C none (r ∷ ps)
lay n C (box I) ps = layout n C (some I) ps

lay_cons : {K : Type 0} (n : ℕ) (C : Box) (c : Content K) (p : Reading K) (ps : List (Reading K))
    → lay (suc n) C c (p ∷ ps)
    ≡ (let E : Box = smallest (extent c) (point_of p) in
    pair C (box_in c) E (lay n (half E (extent c)) c (filter (lies (half E (extent c))) ps))
    (lay n (half E (point_of p)) (reading p) (filter (lies (half E (point_of p))) ps)) (lay n C (box E) (filter (outside E) ps)))
lay_cons n C (reading r) p ps = refl
lay_cons n C (box I) p ps = refl

pub lay_build : {K : Type 0} (n : ℕ) (C : Box) (c : Content K) (ps : List (Reading K)) → length ps < n → AllByRecursion (λ r. Parts (extent c) (point_of r)) ps → Apart ps
    → lay n C c ps ≡ build C c ps
lay_build zero C c ps l a apart = absurd (omega arith)
lay_build (suc n) C (reading r) [] l a apart = refl
lay_build (suc n) C (box I) [] l a apart = refl
lay_build (suc n) C c (p ∷ ps) l a apart =
    let E : Box = smallest (extent c) (point_of p) in
    let H : Box = half E (extent c) in
    let G : Box = half E (point_of p) in
    lay_cons n C c p ps
    ∙ pair_eq
    (lay_build n H c (filter (lies H) ps) (omega (arith, length_kept (lies H) ps)) (all_kept_by (lies H) (λ r. Parts (extent c) (point_of r)) ps a.1) (apart_kept (lies H) ps apart.1))
    (lay_build n G (reading p) (filter (lies G) ps) (omega (arith, length_kept (lies G) ps)) (all_kept_by (lies G) (λ r. Parts (point_of p) (point_of r)) ps apart.0) (apart_kept (lies G) ps apart.1))
    (lay_build n C (box E) (filter (outside E) ps) (omega (arith, length_kept (outside E) ps))
    (all_kept_with (λ r. Parts (extent c) (point_of r)) (λ r. Parts E (point_of r)) (outside E) (λ r u o. outside_parts (extent c) p.code r.code a.0 u (not-true (lies E r) o)) ps a.1)
    (apart_kept (outside E) ps apart.1))
    ∙ sym (build_cons C c p ps a.0)

pub layout_is_insertion : {K : Type 0} → LayoutIsInsertion K
layout_is_insertion r rs v =
    let a = valid_apart (r ∷ rs) v in
    ap some (sym (lay_build (length (r ∷ rs)) whole (reading r) rs (omega arith) a.0 a.1))
