-- Other tallies leave the tree as it is.
use Rattle.std.proofs.Common.{◌≡◌, true, false, cond, List, [], ◌∷◌, refl, ap, ◌∙◌}
use mathlib.Core.Option.{some}
use Rattle.place.specs.Boxes.{whole}
use Rattle.quadtreap.specs.Tree.{Reading, reading, box, Tree, leaf, shrink, split, outer, lies, insert, insert_all}
use Rattle.quadtreap.specs.Carry.{carry, carry_all, carry_tree}
use Rattle.quadtreap.specs.Laws.{Carried}

module _ {K M : Type 0} (f : Reading K → M) where
  carry_outer : (t : Tree K) → outer (carry_tree f t) ≡ outer t
  carry_outer (leaf C c) = refl
  carry_outer (shrink C i x y) = refl
  carry_outer (split C i x y) = refl

  carry_insert : (t : Tree K) (p : Reading K) → insert (carry_tree f t) (carry f p) ≡ carry_tree f (insert t p)
  carry_insert (leaf C (reading r)) p = refl
  carry_insert (leaf C (box I)) p = refl
  carry_insert (shrink C i x y) p =
      rw (carry_outer x, carry_insert x p, carry_insert y p)
      (elim (lies (outer x) p) as (λ v. cond v (shrink C i (carry_tree f (insert x p)) (carry_tree f y)) (shrink C i (carry_tree f x) (carry_tree f (insert y p))) ≡ carry_tree f (cond v (shrink C i (insert x p) y) (shrink C i x (insert y p)))) [ true ↦ refl | false ↦ refl ])
  carry_insert (split C i x y) p =
      rw (carry_outer x, carry_insert x p, carry_insert y p)
      (elim (lies (outer x) p) as (λ v. cond v (split C i (carry_tree f (insert x p)) (carry_tree f y)) (split C i (carry_tree f x) (carry_tree f (insert y p))) ≡ carry_tree f (cond v (split C i (insert x p) y) (split C i x (insert y p)))) [ true ↦ refl | false ↦ refl ])

  carry_insert_all : (t : Tree K) (ps : List (Reading K)) → insert_all (carry_tree f t) (carry_all f ps) ≡ carry_tree f (insert_all t ps)
  carry_insert_all t [] = refl
  carry_insert_all t (p ∷ ps) = ap (λ u. insert_all u (carry_all f ps)) (carry_insert t p) ∙ carry_insert_all (insert t p) ps

pub carried : {K M : Type 0} → Carried K M
carried f [] = refl
carried f (r ∷ rs) = ap some (carry_insert_all f (leaf whole (reading r)) rs)
