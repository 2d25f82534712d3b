-- Entering into a map and striking from one.
use Rattle.std.proofs.Common.{◌≡◌, ◌+◌, ◌*◌, true, false, cond, not, eqb, List, [], ◌∷◌, length, sym, refl, ap, ◌∙◌, inl, inr, arith}
use mathlib.Core.Option.{none, some}
use Rattle.std.specs.List.{AllByRecursion}
use Rattle.std.proofs.lemmas.Bool.{cases_Bool, cond-false}
use Rattle.place.specs.Boxes.{whole}
use Rattle.quadtreap.specs.Tree.{Reading, reading, leaf, point_of, build, tree_of, nodes}
use Rattle.quadtreap.specs.Rank.{before, other}
use Rattle.quadtreap.specs.Pairs.{exchanged}
use Rattle.quadtreap.specs.Strike.{is_only, strike_in, strike_tree}
use Rattle.quadtreap.specs.Theorems.{EnterGivesTree, StrikeGivesTree}
use Rattle.quadtreap.specs.Laws.{Settled, Risen, GoesOn, IsDone}
use Rattle.place.proofs.BoxLaws.{Parts, Parts-flip}
use Rattle.quadtreap.proofs.BuildLaws.{build_cons}
use Rattle.quadtreap.proofs.NodeLaws.{nodes_build}
use Rattle.quadtreap.proofs.RankLaws.{put_front, all_before}
use Rattle.quadtreap.proofs.PromoteLaws.{first_two_exchanged, keep_no, keep_yes}
use Rattle.quadtreap.proofs.SettleLaws.{Fits}
use Rattle.quadtreap.proofs.EnterLaws.{enter_build, enter_plug, enter_plug_all}
use Rattle.quadtreap.proofs.StrikeLaws.{struck, strike_build, strike_on, strike_done, strike_fewer, without_rest}
use Rattle.quadtreap.proofs.ValidLaws.{valid_apart}

flips : {K : Type 0} (p : Reading K) (rs : List (Reading K)) → AllByRecursion (λ r. Parts (point_of p) (point_of r)) rs → AllByRecursion (λ r. Parts (point_of r) (point_of p)) rs
flips p [] a = tt
flips p (r ∷ rs) a = (Parts-flip p.code r.code a.0, flips p rs a.1)

pub enter_gives_tree : {K : Type 0} → EnterGivesTree K
enter_gives_tree p [] v rank = refl
enter_gives_tree p (r ∷ rs) v rank =
    let a = valid_apart (p ∷ r ∷ rs) v in
    let f : Fits (reading r) p rs =
    record {
      here = Parts-flip p.code r.code a.0.0;
      all = a.1.0;
      clear = flips p rs a.0.1;
      apart = a.1.1;
      rank = rank.1;
      heads = rank.0;
    } in
    ap some (enter_build (length rs) whole (reading r) p rs (omega arith) f)
    ∙ elim (cases_Bool (before p r)) [
      | inl h ↦ rw h (ap some (ap (λ l. exchanged (build whole (reading r) l)) (put_front p rs (all_before p r h rs rank.0)) ∙ sym (first_two_exchanged whole r p rs f.here)))
      | inr h ↦ rw h
    ]

pub settled : {K : Type 0} → Settled K
settled = enter_plug

pub risen : {K : Type 0} → Risen K
risen fs C c p h = sym (enter_plug_all fs (leaf C c) p h)

pub strike_gives_tree : {K : Type 0} → StrikeGivesTree K
strike_gives_tree k [] v rank = refl
strike_gives_tree k (r ∷ []) v rank =
    elim (eqb k r.code) as (λ b. cond b none (some (leaf whole (reading r))) ≡ tree_of (cond (not b) (r ∷ []) [])) [ true ↦ refl | false ↦ refl ]
strike_gives_tree k (r ∷ q ∷ ps) v rank =
    let t = build whole (reading r) (q ∷ ps) in
    let a = valid_apart (r ∷ q ∷ ps) v in
    let n : nodes t + 3 ≡ 4 * length (r ∷ q ∷ ps) = nodes_build whole r (q ∷ ps) in
    cond-false (is_only t k) none (some (strike_tree t k)) (ap (λ w. is_only w k) (build_cons whole (reading r) q ps a.0.0))
    ∙ elim (cases_Bool (eqb k r.code)) [
      | inl e ↦
          let s = Parts-flip r.code q.code a.0.0 in
          ap some (ap (λ w. strike_in (nodes t) w k) (first_two_exchanged whole q r ps s)
          ∙ (struck (nodes t)).1 whole q r ps k e (omega arith) (record { here = s; all = a.1.0; far = a.0.1; apart = a.1.1; rank = rank.1.1 }))
          ∙ sym (ap tree_of (keep_no (other k) r (q ∷ ps) (ap not e) ∙ without_rest r k e (q ∷ ps) a.0))
      | inr e ↦
          ap some (strike_build (nodes t) whole (reading r) (q ∷ ps) k (omega arith) e rank.1 a.0 a.1)
          ∙ sym (ap tree_of (keep_yes (other k) r (q ∷ ps) (ap not e)))
    ]

pub goes_on : {K : Type 0} → GoesOn K
goes_on t u f k e = (strike_on t u f k e, strike_fewer t u f k e)

pub is_done_lem : {K : Type 0} → IsDone K
is_done_lem = strike_done
