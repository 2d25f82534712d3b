use Rattle.std.proofs.Common.{rules, tests, ◌≡◌, ℕ, zero, suc, ◌+◌, ◌-◌, map, sym, refl, ap, ◌∙◌, le_trans, le_of_eq, arith}
use Rattle.std.specs.List.{sum, sum_by, range_with_len}
use Rattle.std.proofs.lemmas.List.FromFn.{map-range_with_len_more}
use Rattle.std.proofs.lemmas.List.Sums.{sum_by_push}
use Rattle.std.proofs.lemmas.Iterator.{YieldsList-from_range, YieldsList-from_map}
use Rattle.std.proofs.lemmas.Iterator.Adapters.{fits_from_length, at_most_from_yields_List}
use Rattle.std.proofs.lemmas.Iterator.Consumers.{sum_from_yields_List}
use Rattle.crossing.specs.Counting.{sum_below}
use Rattle.crossing.specs.Discs.{added, crossing_sum}
use Rattle.crossing.proofs.CrossingLaws.{disc_crossings}
use Rattle.shape.proofs.disc.Disc.crossing_sum.Goals as goal

pub sum-requires-clause-fits : goal.sum-requires-clause-fits
sum-requires-clause-fits c =
    fits_from_length _ _ 33 _ (at_most_from_yields_List (YieldsList-from_range 0 _ _ c.map.ensures.source refl) (omega arith)) c.map.ensures.closure (omega arith)
    (λ x r q k. search (rules, tests))

-- the sum over the first n depths, as a list and by recursion
over_depths : (n : ℕ) (f : ℕ → ℕ) → sum (map f (range_with_len 0 n)) ≡ sum_below n f
unfolding sum_below
over_depths zero f = refl
over_depths (suc n) f =
    let e : n + 1 ≡ suc n = omega arith in
    ap (λ (k : ℕ). sum_by (λ x. x) (map f (range_with_len 0 k))) (sym e)
    ∙ ap (sum_by (λ x. x)) (map-range_with_len_more f 0 n n (omega arith))
    ∙ sum_by_push (λ x. x) (map f (range_with_len 0 n)) (f n)
    ∙ ap (λ (s : ℕ). s + f n) (over_depths n f)

value : (c : goal.After-sum) → c.sum.result ≡ crossing_sum c.args.self.now.inner_radius c.args.self.now.outer_radius
unfolding crossing_sum
value c =
    let d = c.args.self.now in
    let f = λ (k : ℕ). added d.inner_radius (d.outer_radius - d.inner_radius) k in
    sum_from_yields_List c.map.result c.sum.result c.sum.ensures.ran (YieldsList-from_map _ f (YieldsList-from_range 0 _ _ c.map.ensures.source refl) c.map.ensures.closure (λ x r q k. search (rules, tests)))
    ∙ over_depths 33 f

pub returns-clause-value : goal.returns-clause-value
returns-clause-value c = value c

pub returns-clause-bound : goal.returns-clause-bound
returns-clause-bound c =
    let d = c.args.self.now in
    le_trans (disc_crossings d.centre.motor d.centre.root d.inner_radius d.outer_radius d.nested) (le_of_eq (sym (value c)))
