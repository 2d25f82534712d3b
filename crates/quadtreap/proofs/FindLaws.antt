-- The way down a tree finds the reading with a code.
use Rattle.std.proofs.Common.{◌≡◌, ℕ, true, false, cond, eqb, ◌⊎◌, List, [], ◌∷◌, length, sym, refl, ap, ◌∙◌, inl, inr, arith}
use mathlib.Core.Option.{none, some}
use Rattle.std.specs.List.{AllByRecursion}
use Rattle.std.proofs.lemmas.Bool.{cases_Bool, cond-true, cond-false, eqb-true}
use Rattle.std.proofs.ByRecursion.{All-append, All-weaker}
use Rattle.place.specs.Boxes.{whole, holds}
use Rattle.quadtreap.specs.Tree.{Reading, reading, box, Tree, leaf, shrink, split, outer, build}
use Rattle.quadtreap.specs.Cells.{readings, Celled}
use Rattle.quadtreap.specs.Find.{content_at, of_code, lookup}
use Rattle.quadtreap.specs.Laws.{Finds}
use Rattle.quadtreap.proofs.CellLaws.{all_parts, all_insert_all}
use Rattle.quadtreap.proofs.InsideLaws.{Parted, parted_build}
use Rattle.quadtreap.proofs.ValidLaws.{valid_cell, valid_celled, celled_outer, all_zip, all_from_insert_all}

at_own : {K : Type 0} (t : Tree K) → Celled t → Parted t → AllByRecursion (λ r. content_at t r.code ≡ reading r) (readings t)
at_own (leaf C (reading r)) c p = (refl, tt)
at_own (leaf C (box I)) c p = tt
at_own (shrink C i x y) c p =
    All-append _ (readings x) (readings y)
    (All-weaker _ _ (λ r h. rw h.0 h.1) (readings x) (all_zip _ _ (readings x) (celled_outer x c.1) (at_own x c.1 p.1)))
    (All-weaker _ _ (λ r h. rw h.0 h.1) (readings y) (all_zip _ _ (readings y) p.0 (at_own y c.2 p.2)))
at_own (split C i x y) c p =
    All-append _ (readings x) (readings y)
    (All-weaker _ _ (λ r h. rw h.0 h.1) (readings x) (all_zip _ _ (readings x) (celled_outer x c.1) (at_own x c.1 p.1)))
    (All-weaker _ _ (λ r h. rw h.0 h.1) (readings y) (all_zip _ _ (readings y) p.0 (at_own y c.2 p.2)))

at_none : {K : Type 0} (t : Tree K) (k : ℕ) → AllByRecursion (λ r. eqb k r.code ≡ false) (readings t) → of_code k (content_at t k) ≡ none
at_none (leaf C (reading r)) k a = cond-false _ _ _ a.0
at_none (leaf C (box I)) k a = refl
at_none (shrink C i x y) k a =
    let b = all_parts _ (readings x) (readings y) a in
    let u = at_none x k b.0 in
    let w = at_none y k b.1 in
    elim (holds (outer x) k) as (λ v. of_code k (cond v (content_at x k) (content_at y k)) ≡ none) [ true ↦ u | false ↦ w ]
at_none (split C i x y) k a =
    let b = all_parts _ (readings x) (readings y) a in
    let u = at_none x k b.0 in
    let w = at_none y k b.1 in
    elim (holds (outer x) k) as (λ v. of_code k (cond v (content_at x k) (content_at y k)) ≡ none) [ true ↦ u | false ↦ w ]

-- the reading with the code k stands in the list, or none does
looked : {K : Type 0} (P : Reading K → Type 0) (k : ℕ) (rs : List (Reading K)) → AllByRecursion P rs
    → ((r : Reading K) × P r × (eqb k r.code ≡ true) × (lookup k rs ≡ some r)) ⊎ (AllByRecursion (λ r. eqb k r.code ≡ false) rs × (lookup k rs ≡ none))
looked P k [] a = inr (tt, refl)
looked P k (r ∷ rs) a =
    elim (cases_Bool (eqb k r.code)) [
      | inl e ↦ inl (r, a.0, e, rw e)
      | inr e ↦ elim (looked P k rs a.1) [
        | inl h ↦ inl (h.0, h.1, h.2, rw e h.3)
        | inr h ↦ inr ((e, h.0), rw e h.1)
      ]
    ]

pub finds : {K : Type 0} → Finds K
finds k [] v = refl
finds {K} k (r ∷ rs) v =
    let t : Tree K = build whole (reading r) rs in
    let own = all_from_insert_all _ (leaf whole (reading r)) rs (at_own t (valid_celled r rs v) (parted_build (length rs) whole (reading r) rs (omega arith) (valid_cell r rs v))) in
    elim (looked (λ r. content_at t r.code ≡ reading r) k (r ∷ rs) (own.0.0, own.1)) [
      | inl h ↦
          let is : k ≡ h.0.code = eqb-true k h.0.code h.2 in
          ap (λ c. of_code k c) (ap (content_at t) is ∙ h.1) ∙ cond-true _ _ _ h.2 ∙ sym h.3
      | inr h ↦ at_none t k (all_insert_all (λ r. eqb k r.code ≡ false) (leaf whole (reading r)) rs (h.0.0, tt) h.0.1) ∙ sym h.1
    ]
