-- Lists in rank order with the same members are equal, and every list can be brought into rank order.
use Rattle.std.proofs.Common.{◌≡◌, Bool, true, false, cond, List, [], ◌∷◌, filter, sym, refl, ap, ◌∙◌, subst, ap₂, inl, inr}
use Rattle.std.specs.List.{AllByRecursion}
use Rattle.std.proofs.lemmas.Bool.{cases_Bool, both_ways}
use Rattle.std.proofs.ByRecursion.{all_kept_by}
use Rattle.quadtreap.specs.Tree.{Reading, tree_of, map_height}
use Rattle.quadtreap.specs.Rank.{before, Ranked, put, other, Valid, in_rank_order, Among, Alike}
use Rattle.quadtreap.specs.Walk.{map_walk}
use Rattle.quadtreap.specs.Theorems.{SameReadings, SameSet}
use Rattle.quadtreap.specs.Laws.{StaysRanked, SortsByRank}
use Rattle.quadtreap.proofs.RankLaws.{put_front, before_asym, before_total, all_before, ranked_kept}

module _ {K : Type 0} where
  all_among : (P : Reading K → Type 0) (r : Reading K) (xs : List (Reading K)) → AllByRecursion P xs → Among r xs → P r
  all_among P r [] a m = absurd m
  all_among P r (x ∷ xs) a (inl e) = subst P e a.0
  all_among P r (x ∷ xs) a (inr m) = all_among P r xs a.1 m

  not_itself : (r : Reading K) → before r r ≡ true → ⊥
  not_itself r h = both_ways (before r r) (before_asym r r h) h

  -- the first of two lists with the same members
  same_first : (x y : Reading K) (xs ys : List (Reading K)) → AllByRecursion (λ r. before x r ≡ true) xs → AllByRecursion (λ r. before y r ≡ true) ys → Among x (y ∷ ys) → Among y (x ∷ xs) → x ≡ y
  same_first x y xs ys a b (inl e) n = sym e
  same_first x y xs ys a b (inr m) (inl e) = e
  same_first x y xs ys a b (inr m) (inr n) =
      absurd (both_ways (before y x) (before_asym x y (all_among (λ r. before x r ≡ true) y xs a n)) (all_among (λ r. before y r ≡ true) x ys b m))

  -- a later member of one list is a later member of the other
  later : (x y r : Reading K) (xs ys : List (Reading K)) → x ≡ y → AllByRecursion (λ r. before x r ≡ true) xs → Among r xs → Among r (y ∷ ys) → Among r ys
  later x y r xs ys e a m (inl d) = absurd (not_itself r (subst (λ z. before z r ≡ true) (e ∙ d) (all_among (λ r. before x r ≡ true) r xs a m)))
  later x y r xs ys e a m (inr n) = n

  same_list : (xs ys : List (Reading K)) → Ranked xs → Ranked ys → Alike xs ys → xs ≡ ys
  same_list [] [] a b s = refl
  same_list [] (y ∷ ys) a b s = absurd ((s y).1 (inl refl))
  same_list (x ∷ xs) [] a b s = absurd ((s x).0 (inl refl))
  same_list (x ∷ xs) (y ∷ ys) a b s =
      let e : x ≡ y = same_first x y xs ys a.0 b.0 ((s x).0 (inl refl)) ((s y).1 (inl refl)) in
      let rest : Alike xs ys = λ r. (λ m. later x y r xs ys e a.0 m ((s r).0 (inr m)), λ m. later y x r ys xs (sym e) b.0 m ((s r).1 (inr m))) in
      ap₂ (λ z zs. z ∷ zs) e (same_list xs ys a.1 b.1 rest)

pub same_readings : {K : Type 0} → SameReadings K
same_readings xs ys a b s =
    let e = same_list xs ys a b s in (e, ap tree_of e, λ join n q. ap (λ l. map_walk join n q (tree_of l)) e, ap (λ l. map_height (tree_of l)) e)

all_put : {K : Type 0} (P : Reading K → Type 0) (p : Reading K) (rs : List (Reading K)) → P p → AllByRecursion P rs → AllByRecursion P (put p rs)
all_put P p [] h a = (h, tt)
all_put P p (r ∷ rs) h a =
    elim (before p r) as (λ v. AllByRecursion P (cond v (p ∷ r ∷ rs) (r ∷ put p rs))) [ true ↦ (h, a) | false ↦ (a.0, all_put P p rs h a.1) ]

pub ranked_put : {K : Type 0} (p : Reading K) (rs : List (Reading K)) → AllByRecursion (λ r. p.code ≡ r.code → ⊥) rs → Ranked rs → Ranked (put p rs)
ranked_put p [] d a = (tt, tt)
ranked_put p (r ∷ rs) d a =
    elim (cases_Bool (before p r)) [
      | inl h ↦ rw h ((h, all_before p r h rs a.0), a)
      | inr h ↦ rw h (all_put (λ z. before r z ≡ true) p rs (before_total p r d.0 h) a.0, ranked_put p rs d.1 a.1)
    ]

valid_put : {K : Type 0} (p : Reading K) (rs : List (Reading K)) → Valid (p ∷ rs) → Valid (put p rs)
valid_put p [] v = v
valid_put p (r ∷ rs) v =
    elim (before p r) as (λ b. Valid (cond b (p ∷ r ∷ rs) (r ∷ put p rs))) [
      | true ↦ v
      | false ↦ (v.2.0, all_put (λ z. r.code ≡ z.code → ⊥) p rs (λ e. v.1.0 (sym e)) v.2.1, valid_put p rs (v.0, v.1.1, v.2.2))
    ]

valid_kept : {K : Type 0} (f : Reading K → Bool) (rs : List (Reading K)) → Valid rs → Valid (filter f rs)
valid_kept f [] v = tt
valid_kept f (r ∷ rs) v =
    elim (f r) as (λ b. Valid (cond b (r ∷ filter f rs) (filter f rs))) [
      | true ↦ (v.0, all_kept_by f (λ z. r.code ≡ z.code → ⊥) rs v.1, valid_kept f rs v.2)
      | false ↦ valid_kept f rs v.2
    ]

pub stays_ranked : {K : Type 0} → StaysRanked K
stays_ranked =
    (λ p rs v a. (valid_put p rs v, ranked_put p rs v.1 a), λ k rs v a. (valid_kept (other k) rs v, ranked_kept (other k) rs a))

-- a list brought into rank order

among_put : {K : Type 0} (p : Reading K) (rs : List (Reading K)) → Alike (put p rs) (p ∷ rs)
among_put p [] x = (λ m. m, λ m. m)
among_put p (q ∷ qs) x =
    let ih = among_put p qs x in
    elim (before p q) as (λ v. (Among x (cond v (p ∷ q ∷ qs) (q ∷ put p qs)) → Among x (p ∷ q ∷ qs)) × (Among x (p ∷ q ∷ qs) → Among x (cond v (p ∷ q ∷ qs) (q ∷ put p qs)))) [
      | true ↦ (λ m. m, λ m. m)
      | false ↦ (
        λ m. elim m [ inl e ↦ inr (inl e) | inr n ↦ elim (ih.0 n) [ inl e ↦ inl e | inr l ↦ inr (inr l) ] ],
        λ m. elim m [ inl e ↦ inr (ih.1 (inl e)) | inr (inl e) ↦ inl e | inr (inr n) ↦ inr (ih.1 (inr n)) ],
      )
    ]

all_sorted : {K : Type 0} (P : Reading K → Type 0) (rs : List (Reading K)) → AllByRecursion P rs → AllByRecursion P (in_rank_order rs)
all_sorted P [] a = tt
all_sorted P (r ∷ rs) a = all_put P r (in_rank_order rs) a.0 (all_sorted P rs a.1)

alike_after : {K : Type 0} (r : Reading K) (xs ys : List (Reading K)) → Alike xs ys → Alike (r ∷ xs) (r ∷ ys)
alike_after r xs ys s x = (λ m. elim m [ inl e ↦ inl e | inr n ↦ inr ((s x).0 n) ], λ m. elim m [ inl e ↦ inl e | inr n ↦ inr ((s x).1 n) ])

alike_over : {K : Type 0} (xs ys zs : List (Reading K)) → Alike xs ys → Alike ys zs → Alike xs zs
alike_over xs ys zs a b x = (λ m. (b x).0 ((a x).0 m), λ m. (a x).1 ((b x).1 m))

sorted : {K : Type 0} (rs : List (Reading K)) → Valid rs → Valid (in_rank_order rs) × Ranked (in_rank_order rs) × Alike (in_rank_order rs) rs
sorted [] v = (tt, tt, λ x. (λ m. m, λ m. m))
sorted (r ∷ rs) v =
    let ih = sorted rs v.2 in
    let d = all_sorted (λ x. r.code ≡ x.code → ⊥) rs v.1 in (
      valid_put r (in_rank_order rs) (v.0, d, ih.0),
      ranked_put r (in_rank_order rs) d ih.1,
      alike_over (put r (in_rank_order rs)) (r ∷ in_rank_order rs) (r ∷ rs) (among_put r (in_rank_order rs)) (alike_after r (in_rank_order rs) rs ih.2),
    )

sorted_already : {K : Type 0} (rs : List (Reading K)) → Ranked rs → in_rank_order rs ≡ rs
sorted_already [] a = refl
sorted_already (r ∷ rs) a = ap (put r) (sorted_already rs a.1) ∙ put_front r rs a.0

pub sorts_by_rank : {K : Type 0} → SortsByRank K
sorts_by_rank = (sorted, sorted_already)

pub same_set : {K : Type 0} → SameSet K
same_set xs ys v w s =
    let a = sorted xs v in
    let b = sorted ys w in
    ap tree_of (same_list (in_rank_order xs) (in_rank_order ys) a.1 b.1
    (alike_over (in_rank_order xs) xs (in_rank_order ys) a.2 (alike_over xs ys (in_rank_order ys) s (λ x. ((b.2 x).1, (b.2 x).0)))))
