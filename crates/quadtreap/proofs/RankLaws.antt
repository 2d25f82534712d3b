-- Rank order, and where a reading is put in a list and in each part of it.
use Rattle.std.proofs.Common.{◌≡◌, Bool, true, false, cond, List, [], ◌∷◌, filter, sym, refl, ap, ◌∙◌, inl, inr, arith}
use Rattle.std.specs.List.{AllByRecursion}
use Rattle.std.proofs.lemmas.Bool.{cases_Bool}
use Rattle.std.proofs.lemmas.Bool.Decides.{nat_tests}
use Rattle.std.proofs.ByRecursion.{all_kept_by}
use Rattle.quadtreap.specs.Tree.{Reading}
use Rattle.quadtreap.specs.declared.rank.Rank.{Rank}
use Rattle.quadtreap.specs.Rank.{earlier, rank_of, before, Ranked, put}

pub before_is : {K : Type 0} (p q : Reading K) → before p q ≡ earlier (rank_of p) (rank_of q)
unfolding before
before_is p q = refl

pub earlier_asym : (a b : Rank) → earlier a b ≡ true → earlier b a ≡ false
unfolding earlier
earlier_asym a b h = grind (arith, nat_tests)

pub before_trans : {K : Type 0} (p q r : Reading K) → before p q ≡ true → before q r ≡ true → before p r ≡ true
unfolding before earlier
before_trans p q r h k = grind (arith, nat_tests)

pub before_total : {K : Type 0} (p q : Reading K) → (p.code ≡ q.code → ⊥) → before p q ≡ false → before q p ≡ true
unfolding before earlier
before_total p q n h = grind (arith, nat_tests)

pub before_asym : {K : Type 0} (p q : Reading K) → before p q ≡ true → before q p ≡ false
unfolding before
before_asym p q h = earlier_asym (rank_of p) (rank_of q) h

pub all_before : {K : Type 0} (p q : Reading K) → before p q ≡ true → (qs : List (Reading K)) → AllByRecursion (λ r. before q r ≡ true) qs → AllByRecursion (λ r. before p r ≡ true) qs
all_before p q h [] a = tt
all_before p q h (r ∷ rs) a = (before_trans p q r h a.0, all_before p q h rs a.1)

-- before all, it goes in front
pub put_front : {K : Type 0} (p : Reading K) (qs : List (Reading K)) → AllByRecursion (λ r. before p r ≡ true) qs → put p qs ≡ p ∷ qs
put_front p [] a = refl
put_front p (q ∷ qs) a = rw a.0

pub ranked_kept : {K : Type 0} (f : Reading K → Bool) (qs : List (Reading K)) → Ranked qs → Ranked (filter f qs)
ranked_kept f [] a = tt
ranked_kept f (q ∷ qs) a =
    elim (f q) as (λ v. Ranked (cond v (q ∷ filter f qs) (filter f qs))) [
      | true ↦ (all_kept_by f (λ r. before q r ≡ true) qs a.0, ranked_kept f qs a.1)
      | false ↦ ranked_kept f qs a.1
    ]

pub keep_put_no : {K : Type 0} (f : Reading K → Bool) (p : Reading K) → f p ≡ false → (qs : List (Reading K)) → filter f (put p qs) ≡ filter f qs
keep_put_no f p e [] = rw e
keep_put_no f p e (q ∷ qs) =
    let ih = keep_put_no f p e qs in
    elim (before p q) as (λ v. filter f (cond v (p ∷ q ∷ qs) (q ∷ put p qs)) ≡ filter f (q ∷ qs)) [
      | true ↦ rw e
      | false ↦ rw ih
    ]

pub keep_put_yes : {K : Type 0} (f : Reading K → Bool) (p : Reading K) → f p ≡ true → (qs : List (Reading K)) → Ranked qs → filter f (put p qs) ≡ put p (filter f qs)
keep_put_yes f p e [] a = rw e
keep_put_yes f p e (q ∷ qs) a =
    let ih = keep_put_yes f p e qs a.1 in
    elim (cases_Bool (before p q)) [
      | inl h ↦
          let all : AllByRecursion (λ r. before p r ≡ true) (q ∷ qs) = (h, all_before p q h qs a.0) in
          ap (filter f) (put_front p (q ∷ qs) all) ∙ ap (λ v. cond v (p ∷ filter f (q ∷ qs)) (filter f (q ∷ qs))) e
          ∙ sym (put_front p (filter f (q ∷ qs)) (all_kept_by f (λ r. before p r ≡ true) (q ∷ qs) all))
      | inr h ↦ rw h (rw ih (step h))
    ]
  where
    step : before p q ≡ false → cond (f q) (q ∷ put p (filter f qs)) (put p (filter f qs)) ≡ put p (cond (f q) (q ∷ filter f qs) (filter f qs))
    step h = elim (f q) as (λ v. cond v (q ∷ put p (filter f qs)) (put p (filter f qs)) ≡ put p (cond v (q ∷ filter f qs) (filter f qs))) [ true ↦ rw h | false ↦ refl ]
