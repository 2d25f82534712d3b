-- The live readings after any calls are in rank order.
use Rattle.std.proofs.Common.{◌≡◌, ℕ, Bool, true, false, cond, eqb, List, [], ◌∷◌, sym, refl, ap, ◌∙◌, inl, inr}
use mathlib.Core.Option.{some}
use Rattle.std.specs.List.{AllByRecursion}
use Rattle.std.proofs.lemmas.Bool.{cases_Bool, eq-eqb, both_ways}
use Rattle.quadtreap.specs.Tree.{Reading}
use Rattle.quadtreap.specs.Rank.{Ranked, other}
use Rattle.quadtreap.specs.Find.{lookup}
use Rattle.tables.specs.Calls.{Call, enters, repeats, strikes, asks, is_some, present, full, reads, more, next, roll}
use Rattle.quadtreap.proofs.RankLaws.{ranked_kept}
use Rattle.quadtreap.proofs.SameLaws.{ranked_put}
use Rattle.tables.proofs.Carries.{ranked_carry}

module _ {K : Type 0} where
  -- a code that no reading has
  new_code : (k : ℕ) (rs : List (Reading K)) → present k rs ≡ false → AllByRecursion (λ r. k ≡ r.code → ⊥) rs
  new_code k [] gone = tt
  new_code k (r ∷ rs) gone =
      elim (cases_Bool (eqb k r.code)) [
        | inl is ↦ absurd (both_ways (present k (r ∷ rs)) gone (ap (λ b. is_some (cond b (some r) (lookup k rs))) is))
        | inr is ↦ (
          λ same. both_ways (eqb k r.code) is (eq-eqb k r.code same),
          new_code k rs (sym (ap (λ b. is_some (cond b (some r) (lookup k rs))) is) ∙ gone),
        )
      ]

  ranked_cond : (b : Bool) (xs ys : List (Reading K)) → (b ≡ true → Ranked xs) → (b ≡ false → Ranked ys) → Ranked (cond b xs ys)
  ranked_cond true xs ys f g = f refl
  ranked_cond false xs ys f g = g refl

  ranked_next : (join : K → K → K) (N : ℕ) (c : Call K) (rs : List (Reading K)) → Ranked rs → Ranked (next join N c rs)
  ranked_next join N (enters k p v) rs h =
      ranked_cond (present k rs) rs _ (λ e. h) (λ gone. ranked_cond (full N rs) rs _ (λ e. h) (λ e. ranked_put (reads k p v) rs (new_code k rs gone) h))
  ranked_next join N (repeats k v) rs h = ranked_cond (present k rs) _ rs (λ e. ranked_carry (more join k v) rs h) (λ e. h)
  ranked_next join N (strikes k) rs h = ranked_kept (other k) rs h
  ranked_next join N asks rs h = h

  pub ranked_roll : (join : K → K → K) (N : ℕ) (cs : List (Call K)) → Ranked (roll join N cs)
  ranked_roll join N [] = tt
  ranked_roll join N (c ∷ cs) = ranked_next join N c (roll join N cs) (ranked_roll join N cs)
