-- The tree of a list of readings as a cell, and what holds of its readings.
use Rattle.std.proofs.Common.{◌≡◌, ℕ, ◌^◌, ◌<◌, true, List, [], ◌∷◌, ◌++◌, length, sym, refl, ◌∙◌, subst, arith}
use Rattle.std.specs.List.{AllByRecursion}
use Rattle.std.proofs.ByRecursion.{All-weaker}
use Rattle.place.specs.Boxes.{prefix, cut, whole, Formed}
use Rattle.quadtreap.specs.Tree.{Reading, reading, box, Tree, leaf, shrink, split, point_of, box_in, outer, lies, insert, insert_all, build}
use Rattle.quadtreap.specs.Rank.{Valid}
use Rattle.quadtreap.specs.Cells.{inside, readings, Celled}
use Rattle.quadtreap.specs.Laws.{Kept}
use Rattle.place.proofs.BoxLaws.{parts_within, prefix_root, Parts, parts, separate_points, true_holds}
use Rattle.quadtreap.proofs.KeepLaws.{Apart}
use Rattle.quadtreap.proofs.CellLaws.{all_out_of, all_insert_all, in_first, celled_build}
use Rattle.quadtreap.proofs.InsideLaws.{Cell, formed_cut, Boxed, boxed_build}

-- readings with codes of their own are parted
pub parted : {K : Type 0} (q : Reading K) (rs : List (Reading K)) → Valid (q ∷ rs) → AllByRecursion (λ r. Parts (point_of q) (point_of r)) rs
parted q [] v = tt
parted q (r ∷ rs) v =
    (parts (point_of q) (point_of r) (separate_points q.code r.code v.0 v.2.0 v.1.0), parted q rs (v.0, v.1.1, v.2.2))

pub valid_apart : {K : Type 0} (rs : List (Reading K)) → Valid rs → Apart rs
valid_apart [] v = tt
valid_apart (r ∷ rs) v = (parted r rs v, valid_apart rs v.2)

pub in_whole : {K : Type 0} (rs : List (Reading K)) → Valid rs → AllByRecursion (λ r. lies whole r ≡ true) rs
in_whole [] v = tt
in_whole (r ∷ rs) v = (true_holds whole r.code (prefix_root r.code v.0 ∙ sym (prefix_root 0 (omega arith))), in_whole rs v.2)

whole_cut : cut 0 0 ≡ whole
unfolding prefix
whole_cut = refl

pub formed_whole : Formed whole
formed_whole = subst Formed whole_cut (formed_cut 0 0 (omega arith) (omega arith))

pub valid_codes : {K : Type 0} (rs : List (Reading K)) → Valid rs → AllByRecursion (λ r. r.code < 2 ^ 32) rs
valid_codes [] v = tt
valid_codes (r ∷ rs) v = (v.0, valid_codes rs v.2)

pub valid_cell : {K : Type 0} (r : Reading K) (rs : List (Reading K)) → Valid (r ∷ rs) → Cell whole (reading r) rs
valid_cell r rs v =
    let a = valid_apart (r ∷ rs) v in
    record {
      formed = formed_whole;
      around = parts_within (point_of r) whole (omega arith) (prefix_root r.code v.0 ∙ sym (prefix_root 0 (omega arith)));
      small = v.0;
      all = a.0;
      apart = a.1;
      here = (in_whole (r ∷ rs) v).1;
      codes = valid_codes rs v.2;
    }

pub valid_celled : {K : Type 0} (r : Reading K) (rs : List (Reading K)) → Valid (r ∷ rs) → Celled (build whole (reading r) rs)
valid_celled r rs v =
    let a = valid_apart (r ∷ rs) v in
    let w = in_whole (r ∷ rs) v in
    celled_build (length rs) whole (reading r) rs (omega arith) a.0 a.1 w.1 (w.0, tt)

pub valid_boxed : {K : Type 0} (r : Reading K) (rs : List (Reading K)) → Valid (r ∷ rs) → Boxed (build whole (reading r) rs)
valid_boxed r rs v = boxed_build (length rs) whole (reading r) rs (omega arith) (valid_cell r rs v)

pub valid_small : {K : Type 0} (r : Reading K) (rs : List (Reading K)) → Valid (r ∷ rs) → AllByRecursion (λ x. x.code < 2 ^ 32) (readings (build whole (reading r) rs))
valid_small {K} r rs v = all_insert_all (λ (x : Reading K). x.code < 2 ^ 32) (leaf whole (reading r)) rs (v.0, tt) (valid_codes rs v.2)

pub kept : {K : Type 0} → Kept K
kept [] t v e = absurd (let z : ◌≡◌ {A = ℕ} 0 1 = cc in omega arith)
kept (r ∷ rs) t v e =
    let is : build whole (reading r) rs ≡ t = cc in
    subst Celled is (valid_celled r rs v)

pub celled_outer : {K : Type 0} (t : Tree K) → Celled t → AllByRecursion (λ r. lies (outer t) r ≡ true) (readings t)
celled_outer (leaf C c) a = All-weaker _ _ (λ r h. in_first C (box_in c) r h) (inside c) a
celled_outer (shrink C i x y) a = All-weaker _ _ (λ r h. in_first C i r h) (readings x ++ readings y) a.0
celled_outer (split C i x y) a = All-weaker _ _ (λ r h. in_first C i r h) (readings x ++ readings y) a.0

pub all_zip : {X : Type 0} (P Q : X → Type 0) (xs : List X) → AllByRecursion P xs → AllByRecursion Q xs → AllByRecursion (λ x. P x × Q x) xs
all_zip P Q [] a b = tt
all_zip P Q (x ∷ xs) a b = ((a.0, b.0), all_zip P Q xs a.1 b.1)

-- what holds of a tree's readings holds of those that came
all_from_insert : {K : Type 0} (P : Reading K → Type 0) (t : Tree K) (p : Reading K) → AllByRecursion P (readings (insert t p)) → AllByRecursion P (readings t) × P p
all_from_insert P (leaf C (reading r)) p a = ((a.0, tt), a.1.0)
all_from_insert P (leaf C (box I)) p a = (tt, a.0)
all_from_insert P (shrink C i x y) p a = all_out_of P (shrink C i) (λ u v. refl) x y p (lies (outer x) p) a (all_from_insert P x p) (all_from_insert P y p)
all_from_insert P (split E i x y) p a = all_out_of P (split E i) (λ u v. refl) x y p (lies (outer x) p) a (all_from_insert P x p) (all_from_insert P y p)

pub all_from_insert_all : {K : Type 0} (P : Reading K → Type 0) (t : Tree K) (ps : List (Reading K)) → AllByRecursion P (readings (insert_all t ps)) → AllByRecursion P (readings t) × AllByRecursion P ps
all_from_insert_all P t [] a = (a, tt)
all_from_insert_all P t (p ∷ ps) a =
    let b = all_from_insert_all P (insert t p) ps a in
    let c = all_from_insert P t p b.0 in (c.0, (c.1, b.1))
