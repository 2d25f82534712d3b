-- What the nodes of a tree hold.
use Rattle.std.proofs.Common.{◌≡◌, ℕ, zero, suc, ◌≤◌, Bool, true, false, cond, List, [], ◌∷◌, ◌++◌, length, filter, sym, refl, ap, ◌∙◌, subst, arith}
use mathlib.Core.Option.{Option, none, some}
use Rattle.std.specs.List.{AllByRecursion}
use Rattle.std.proofs.lemmas.Bool.{not-true, and_parts, and_from}
use Rattle.std.proofs.ByRecursion.{All-append, all_kept_by, kept_by_passes}
use Rattle.place.specs.Boxes.{Box, cut, smallest, half}
use Rattle.quadtreap.specs.Tree.{Reading, Content, reading, box, Tree, leaf, shrink, split, point_of, extent, box_in, outer, lies, outside, insert, insert_all, build}
use Rattle.quadtreap.specs.Cells.{inside, readings, in_cell, Celled, total}
use Rattle.place.proofs.BoxLaws.{Parts, Lies, halves, holds_own}
use Rattle.quadtreap.proofs.BuildLaws.{build_cons}
use Rattle.quadtreap.proofs.KeepLaws.{length_kept, all_kept_with, outside_parts, Apart, apart_kept}

pub all_parts : {X : Type 0} (P : X → Type 0) (xs ys : List X) → AllByRecursion P (xs ++ ys) → AllByRecursion P xs × AllByRecursion P ys
all_parts P [] ys a = (tt, a)
all_parts P (x ∷ xs) ys a = let ih = all_parts P xs ys a.1 in ((a.0, ih.0), ih.1)

-- what holds of a tree's readings and of the one that comes, at a node of either kind
module _ {K : Type 0} (P : Reading K → Type 0) (node : Tree K → Tree K → Tree K) (is : (a b : Tree K) → readings (node a b) ≡ readings a ++ readings b) (a b : Tree K) (p : Reading K) where
  all_into : (v : Bool) → AllByRecursion P (readings a ++ readings b) → (AllByRecursion P (readings a) → AllByRecursion P (readings (insert a p))) → (AllByRecursion P (readings b) → AllByRecursion P (readings (insert b p)))
      → AllByRecursion P (readings (cond v (node (insert a p) b) (node a (insert b p))))
  all_into true all f g =
      let ps = all_parts P (readings a) (readings b) all in subst (AllByRecursion P) (sym (is (insert a p) b)) (All-append P (readings (insert a p)) (readings b) (f ps.0) ps.1)
  all_into false all f g =
      let ps = all_parts P (readings a) (readings b) all in subst (AllByRecursion P) (sym (is a (insert b p))) (All-append P (readings a) (readings (insert b p)) ps.0 (g ps.1))

  pub all_out_of : (v : Bool) → AllByRecursion P (readings (cond v (node (insert a p) b) (node a (insert b p))))
      → (AllByRecursion P (readings (insert a p)) → AllByRecursion P (readings a) × P p) → (AllByRecursion P (readings (insert b p)) → AllByRecursion P (readings b) × P p) → AllByRecursion P (readings a ++ readings b) × P p
  all_out_of true all f g =
      let ps = all_parts P (readings (insert a p)) (readings b) (subst (AllByRecursion P) (is (insert a p) b) all) in
      let q = f ps.0 in (All-append P (readings a) (readings b) q.0 ps.1, q.1)
  all_out_of false all f g =
      let ps = all_parts P (readings a) (readings (insert b p)) (subst (AllByRecursion P) (is a (insert b p)) all) in
      let q = g ps.1 in (All-append P (readings a) (readings b) ps.0 q.0, q.1)

pub all_insert : {K : Type 0} (P : Reading K → Type 0) (t : Tree K) (p : Reading K) → AllByRecursion P (readings t) → P p → AllByRecursion P (readings (insert t p))
all_insert P (leaf C (reading r)) p a h = (a.0, (h, tt))
all_insert P (leaf C (box I)) p a h = (h, tt)
all_insert P (shrink C i a b) p all h =
    all_into P (shrink C i) (λ x y. refl) a b p (lies (outer a) p) all (λ u. all_insert P a p u h) (λ u. all_insert P b p u h)
all_insert P (split E i a b) p all h =
    all_into P (split E i) (λ x y. refl) a b p (lies (outer a) p) all (λ u. all_insert P a p u h) (λ u. all_insert P b p u h)

pub all_insert_all : {K : Type 0} (P : Reading K → Type 0) (t : Tree K) (ps : List (Reading K)) → AllByRecursion P (readings t) → AllByRecursion P ps → AllByRecursion P (readings (insert_all t ps))
all_insert_all P t [] a h = a
all_insert_all P t (p ∷ ps) a h = all_insert_all P (insert t p) ps (all_insert P t p a h.0) h.1

-- a sum over a commutative monoid grows by what comes
module _ {K M : Type 0} (op : M → M → M) (e : M) (f : Reading K → M)
    (assoc : (a b c : M) → op (op a b) c ≡ op a (op b c)) (comm : (a b : M) → op a b ≡ op b a) (unit : (a : M) → op e a ≡ a) where
  total_into : (node : Tree K → Tree K → Tree K) → ((a b : Tree K) → total op e f (node a b) ≡ op (total op e f a) (total op e f b)) → (a b : Tree K) (p : Reading K) (v : Bool)
      → total op e f (insert a p) ≡ op (total op e f a) (f p) → total op e f (insert b p) ≡ op (total op e f b) (f p)
      → total op e f (cond v (node (insert a p) b) (node a (insert b p))) ≡ op (op (total op e f a) (total op e f b)) (f p)
  total_into node is a b p true u w =
      let x : M = total op e f a in
      let y : M = total op e f b in
      is (insert a p) b ∙ ap (λ m. op m y) u ∙ assoc x (f p) y ∙ ap (op x) (comm (f p) y) ∙ sym (assoc x y (f p))
  total_into node is a b p false u w = is a (insert b p) ∙ ap (op (total op e f a)) w ∙ sym (assoc (total op e f a) (total op e f b) (f p))

  pub total_insert : (t : Tree K) (p : Reading K) → total op e f (insert t p) ≡ op (total op e f t) (f p)
  total_insert (leaf C (reading r)) p = comm (op (f r) (f p)) e ∙ unit (op (f r) (f p))
  total_insert (leaf C (box I)) p = comm (op e (f p)) e ∙ unit (op e (f p))
  total_insert (shrink C i a b) p = total_into (shrink C i) (λ x y. refl) a b p (lies (outer a) p) (total_insert a p) (total_insert b p)
  total_insert (split E i a b) p = total_into (split E i) (λ x y. refl) a b p (lies (outer a) p) (total_insert a p) (total_insert b p)

pub in_of : {K : Type 0} (C D : Box) (i : Option Box) (r : Reading K) → in_cell C i r ≡ true → lies D r ≡ true → in_cell D i r ≡ true
in_of C D none r h k = k
in_of C D (some I) r h k = and_from (lies D r) (outside I r) k (and_parts (lies C r) (outside I r) h).1

pub in_first : {K : Type 0} (C : Box) (i : Option Box) (r : Reading K) → in_cell C i r ≡ true → lies C r ≡ true
in_first C none r h = h
in_first C (some I) r h = (and_parts (lies C r) (outside I r) h).0

lies_either : (e h g : Bool) → Lies e h g → (h ≡ true → e ≡ true) × (g ≡ true → e ≡ true)
lies_either e h g a = (λ x. grind (arith, a), λ x. grind (arith, a))

own_inside : {K : Type 0} (k : ℕ) (c : Content K) → AllByRecursion (λ r. in_cell (cut k (extent c).code) (box_in c) r ≡ true) (inside c)
own_inside k (reading r) = (holds_own k r.code, tt)
own_inside k (box I) = tt

pub celled_build : {K : Type 0} (n : ℕ) (C : Box) (c : Content K) (ps : List (Reading K)) → length ps ≤ n → AllByRecursion (λ r. Parts (extent c) (point_of r)) ps → Apart ps
    → AllByRecursion (λ r. in_cell C (box_in c) r ≡ true) ps → AllByRecursion (λ r. in_cell C (box_in c) r ≡ true) (inside c) → Celled (build C c ps)
celled_build n C c [] l a apart h w = w
celled_build zero C c (p ∷ ps) l a apart h w = absurd (omega arith)
celled_build {K} (suc n) C c (p ∷ ps) l a apart h w =
    let E : Box = smallest (extent c) (point_of p) in
    let H : Box = half E (extent c) in
    let G : Box = half E (point_of p) in
    let P : Reading K → Type 0 = λ r. in_cell C (box_in c) r ≡ true in
    let Q : Reading K → Type 0 = λ r. in_cell E (box_in c) r ≡ true in
    let each : (r : Reading K) → (lies H r ≡ true → lies E r ≡ true) × (lies G r ≡ true → lies E r ≡ true) =
    λ r. lies_either (lies E r) (lies H r) (lies G r) (halves E.depth (extent c).code p.code a.0 r.code) in
    let L : Tree K = build H c (filter (lies H) ps) in
    let R : Tree K = build G (reading p) (filter (lies G) ps) in
    let O : Tree K = build C (box E) (filter (outside E) ps) in
    let own : lies G p ≡ true = holds_own (suc E.depth) p.code in
    let in_c : AllByRecursion P ((readings L ++ readings R) ++ readings O) =
    All-append P (readings L ++ readings R) (readings O)
    (All-append P (readings L) (readings R)
    (all_insert_all P (leaf H c) (filter (lies H) ps) w (all_kept_by (lies H) P ps h.1))
    (all_insert_all P (leaf G (reading p)) (filter (lies G) ps) (h.0, tt) (all_kept_by (lies G) P ps h.1)))
    (all_insert_all P (leaf C (box E)) (filter (outside E) ps) tt (all_kept_by (outside E) P ps h.1)) in
    let inE : AllByRecursion Q (readings L ++ readings R) =
    All-append Q (readings L) (readings R)
    (all_insert_all Q (leaf H c) (filter (lies H) ps) (own_inside E.depth c)
    (all_kept_with P Q (lies H) (λ r i y. in_of C E (box_in c) r i ((each r).0 y)) ps h.1))
    (all_insert_all Q (leaf G (reading p)) (filter (lies G) ps) (in_of C E (box_in c) p h.0 ((each p).1 own), tt)
    (all_kept_with P Q (lies G) (λ r i y. in_of C E (box_in c) r i ((each r).1 y)) ps h.1)) in
    let cL : Celled L =
    celled_build n H c (filter (lies H) ps) (omega (arith, length_kept (lies H) ps)) (all_kept_by (lies H) (λ r. Parts (extent c) (point_of r)) ps a.1) (apart_kept (lies H) ps apart.1)
    (all_kept_with P (λ r. in_cell H (box_in c) r ≡ true) (lies H) (λ r i y. in_of C H (box_in c) r i y) ps h.1) (own_inside (suc E.depth) c) in
    let cR : Celled R =
    celled_build n G (reading p) (filter (lies G) ps) (omega (arith, length_kept (lies G) ps)) (all_kept_by (lies G) (λ r. Parts (point_of p) (point_of r)) ps apart.0) (apart_kept (lies G) ps apart.1)
    (kept_by_passes (lies G) ps) (own, tt) in
    let cO : Celled O =
    celled_build n C (box E) (filter (outside E) ps) (omega (arith, length_kept (outside E) ps))
    (all_kept_with (λ r. Parts (extent c) (point_of r)) (λ r. Parts E (point_of r)) (outside E) (λ r u o. outside_parts (extent c) p.code r.code a.0 u (not-true (lies E r) o)) ps a.1)
    (apart_kept (outside E) ps apart.1)
    (all_kept_with P (λ r. in_cell C (some E) r ≡ true) (outside E) (λ r i o. and_from (lies C r) (outside E r) (in_first C (box_in c) r i) o) ps h.1) tt in
    subst Celled (sym (build_cons C c p ps a.0)) (in_c, (inE, cL, cR), cO)
