-- Lists of readings and what is kept of them.
use Rattle.std.proofs.Common.{◌≡◌, ℕ, suc, ◌≤◌, Bool, true, false, cond, List, [], ◌∷◌, length, filter, refl, arith}
use Rattle.std.specs.List.{AllByRecursion}
use Rattle.std.proofs.ByRecursion.{all_kept_by}
use Rattle.place.specs.Boxes.{Box, point, holds, smallest}
use Rattle.quadtreap.specs.Tree.{Reading, point_of}
use Rattle.place.proofs.BoxLaws.{Parts}
use Rattle.quadtreap.proofs.PromoteLaws.{again-Parts}
use Rattle.quadtreap.proofs.PutLaws.{inside_out}

pub length_kept : {X : Type 0} (f : X → Bool) (xs : List X) → length (filter f xs) ≤ length xs
length_kept f [] = omega arith
length_kept f (x ∷ xs) =
    let ih = length_kept f xs in
    elim (f x) as (λ v. length (cond v (x ∷ filter f xs) (filter f xs)) ≤ suc (length xs)) [ true ↦ omega arith | false ↦ omega arith ]

pub all_kept_with : {X : Type 0} (P Q : X → Type 0) (f : X → Bool) → ((x : X) → P x → f x ≡ true → Q x) → (xs : List X) → AllByRecursion P xs → AllByRecursion Q (filter f xs)
all_kept_with P Q f each [] a = tt
all_kept_with P Q f each (x ∷ xs) a =
    let ih = all_kept_with P Q f each xs a.1 in
    (elim (f x) as (λ v. f x ≡ v → AllByRecursion Q (cond v (x ∷ filter f xs) (filter f xs))) [ true ↦ λ e. (each x a.0 e, ih) | false ↦ λ e. ih ]) refl

-- what lies outside the smallest box of A and q is parted from that box
pub outside_parts : (A : Box) (q r : ℕ) → Parts A (point q) → Parts A (point r) → holds (smallest A (point q)) r ≡ false → Parts (smallest A (point q)) (point r)
outside_parts A q r t u out = again-Parts A r q u t (inside_out A q r t u out)

-- each parted from all that follow
abbrev pub Apart : {K : Type 0} → List (Reading K) → Type 0
Apart [] = Unit {0}
Apart (q ∷ qs) = AllByRecursion (λ r. Parts (point_of q) (point_of r)) qs × Apart qs

pub apart_kept : {K : Type 0} (f : Reading K → Bool) (qs : List (Reading K)) → Apart qs → Apart (filter f qs)
apart_kept f [] a = tt
apart_kept f (q ∷ qs) a =
    elim (f q) as (λ v. Apart (cond v (q ∷ filter f qs) (filter f qs))) [
      | true ↦ (all_kept_by f (λ r. Parts (point_of q) (point_of r)) qs a.0, apart_kept f qs a.1)
      | false ↦ apart_kept f qs a.1
    ]
