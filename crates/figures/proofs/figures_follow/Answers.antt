use Rattle.std.proofs.Common.{◌≡◌, ℕ, List, [], ◌∷◌, refl, ap, ◌∙◌, arith}
use Rattle.place.specs.Codes.{code_of, interleave, motor_of, root_of, odd_bits, even_bits}
use Rattle.place.specs.Boxes.{prefix, holds, agree}
use Rattle.tally.specs.Sums.{zero_sum, sum_joined}
use Rattle.tally.specs.declared.sum.Sum.{Sum}
use Rattle.crossing.specs.Counting.{sum_below}
use Rattle.crossing.specs.Discs.{within, crossing_sum}
use Rattle.quadtreap.specs.Tree.{Reading, tree_of}
use Rattle.quadtreap.specs.Rank.{earlier, before, Valid, in_rank_order}
use Rattle.quadtreap.specs.Walk.{Answer, map_walk}
use Rattle.figures.specs.Figures.{disc_walk, P, Q, S}
use Rattle.figures.proofs.DiscTests.{closed, by_squares}
use Rattle.figures.proofs.figures_follow.Goals as goal

-- three readings have codes of 32 bits that differ
valid_late : Valid (in_rank_order (P ∷ Q ∷ S 30 ∷ []))
unfolding code_of interleave before earlier
valid_late = (omega arith, ((λ e. omega arith), ((λ e. omega arith), tt)), (omega arith, ((λ e. omega arith), tt), (omega arith, tt, tt)))

valid_early : Valid (in_rank_order (P ∷ Q ∷ S 5 ∷ []))
unfolding code_of interleave before earlier
valid_early = (omega arith, ((λ e. omega arith), ((λ e. omega arith), tt)), (omega arith, ((λ e. omega arith), tt), (omega arith, tt, tt)))

-- a disc's figure, where its walk by squares computes to it
follows : (rs : List (Reading Sum)) (m n r R t e : ℕ) → Valid (in_rank_order rs)
    → (map_walk sum_joined zero_sum (closed m n r R) (tree_of (in_rank_order rs))).tally.value ≡ t
    → (map_walk sum_joined zero_sum (closed m n r R) (tree_of (in_rank_order rs))).expanded ≡ e
    → ((disc_walk rs m n r R).tally.value ≡ t) × ((disc_walk rs m n r R).expanded ≡ e)
follows rs m n r R t e v et ee = (
  ap (λ (a : Answer Sum). a.tally.value) (by_squares m n r R rs v) ∙ et,
  ap (λ (a : Answer Sum). a.expanded) (by_squares m n r R rs v) ∙ ee,
)

pub returns : goal.returns
unfolding code_of interleave motor_of root_of odd_bits even_bits prefix holds agree sum_below crossing_sum within before earlier
returns c =
    record {
      all = (
        refl,
        (
          refl,
          (
            (refl, refl, refl),
            (
              (refl, refl, refl),
              (
                (refl, refl, refl),
                (
                  refl,
                  (
                    refl,
                    (
                      (refl, refl),
                      (
                        (refl, refl),
                        (
                          (refl, refl),
                          (
                            (refl, refl),
                            (
                              (refl, refl),
                              (
                                follows (P ∷ Q ∷ S 30 ∷ []) 0 0 2 5 3 3 valid_late refl refl,
                                (
                                  follows (P ∷ Q ∷ S 5 ∷ []) 0 0 2 5 3 3 valid_early refl refl,
                                  (
                                    follows (P ∷ Q ∷ S 30 ∷ []) 0 0 0 2 1 4 valid_late refl refl,
                                    (
                                      follows (P ∷ Q ∷ S 30 ∷ []) 0 0 3 3 3 4 valid_late refl refl,
                                      (follows (P ∷ Q ∷ S 30 ∷ []) 0 0 0 100000 7 0 valid_late refl refl, tt),
                                    ),
                                  ),
                                ),
                              ),
                            ),
                          ),
                        ),
                      ),
                    ),
                  ),
                ),
              ),
            ),
          ),
        ),
      );
    }
