use Rattle.std.proofs.Common.{rules, ℕ, List, ◌∷◌, subst, sym}
use Rattle.std.proofs.lemmas.Fn.{fold_over, slice_gives, fronts}
use Rattle.place.specs.Values.{box_of}
use Rattle.survey.specs.Enclosing.{Encloses}
use Rattle.survey.proofs.EnclosingLaws.{encloses_one, encloses_more}
use Rattle.survey.proofs.enclosing.enclosing.Goals as goal

pub returns : goal.returns
returns c =
    let first = c.in_ok-first.first.now in
    let rest = c.in_ok-first.rest.now in
    let whole : Encloses (first ∷ rest) (box_of c.fold.result) =
    subst (λ (l : List ℕ). Encloses (first ∷ l) (box_of c.fold.result)) c.iter.ensures.rest
    (fold_over fronts (λ y. y.now) _ (λ ys a. Encloses (first ∷ ys) (box_of a)) _
    (λ ys a x b f' j k. (encloses_more (first ∷ ys) x.now (box_of a) (box_of b) j (search rules), search rules))
    _ _ _ _ (slice_gives c.iter.result) (encloses_one first (box_of c.point.result) c.point.ensures.value) c.fold.ensures.ran) in
    record { value = subst (λ (l : List ℕ). Encloses l (box_of c.fold.result)) (sym c.in_ok-first.ensures.cases.0) whole }
