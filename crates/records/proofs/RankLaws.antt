-- After a strike each pair carries the rank of its first reading.
use Rattle.std.proofs.Common.{◌≡◌, ℕ, zero, suc, ◌≤◌, Bool, true, false, cond, eqb, sym, refl, ap, ◌∙◌, arith}
use mathlib.Core.Option.{Option, none, some}
use Rattle.std.proofs.lemmas.Bool.{false≢true}
use Rattle.place.specs.Boxes.{Box}
use Rattle.quadtreap.specs.Tree.{outer, nodes}
use Rattle.quadtreap.specs.declared.rank.Rank.{Rank}
use Rattle.quadtreap.specs.Pairs.{inner_box, unranked, node_rank, is_none, InnerBoxes, Paired}
use Rattle.quadtreap.specs.Strike.{least_of, node_rank_after}
use Rattle.records.specs.PlacedPairs.{PlacedPairs, placed_leaf, placed_pair, tree_in, rank, rank_at, RanksStand}
use Rattle.records.specs.StrikeMoves.{StrikeMove, finished, onward, lost, made_at, Pair, whole, left_over, outer_over, exchanged_at, move_pair, move_of, after_move, moves_in}
use Rattle.quadtreap.proofs.StrikeLaws.{strike_steps}
use Rattle.quadtreap.proofs.PairLaws.{relabels}
use Rattle.records.proofs.PairLaws.{node_rank_at, rank_node_rank}
use Rattle.records.proofs.MoveLaws.{ranks_replaced, moves_in_is}
use Rattle.records.proofs.MoveCases.{by_cases, Fewer, fewer}

no_inner_box : (i : Option Box) → is_none i ≡ true → i ≡ none
no_inner_box none e = refl
no_inner_box (some I) e = absurd (false≢true e)

rank_same : (i : Option Box) (a b : Rank) → (i ≡ none → b ≡ a) → rank_at i a ≡ rank_at i b
rank_same none a b h = sym (h refl)
rank_same (some I) a b h = refl

module _ {K : Type 0} where
  -- the rank that a strike leaves
  after_node_rank : (n k : ℕ) (u : PlacedPairs K) → RanksStand u → Paired (tree_in u) → inner_box (tree_in u) ≡ none → nodes (tree_in u) ≤ n → node_rank (tree_in (moves_in n u k)) ≡ node_rank_after (tree_in u) k
  after_node_rank n k u h p g few =
      ap node_rank (moves_in_is n u k h ∙ strike_steps n (nodes (tree_in u)) (tree_in u) k few (omega arith)) ∙ relabels (tree_in u) k p g

  left_node_rank : (k : ℕ) (t : PlacedPairs K) → inner_box (tree_in t) ≡ none → eqb k (node_rank (tree_in t)).code ≡ false → node_rank_after (tree_in t) k ≡ node_rank (tree_in t)
  left_node_rank k (placed_leaf p C c) g e = refl
  left_node_rank k (placed_pair s w r C i E L R O) g e =
      let own : node_rank (tree_in (placed_pair s w r C i E L R O)) ≡ node_rank (tree_in L) = node_rank_at s w r C i E L R O ∙ ap (λ z. rank_at z (node_rank (tree_in L))) g in
      let e' : eqb k (node_rank (tree_in L)).code ≡ false = sym (ap (λ (q : Rank). eqb k q.code) own) ∙ e in
      ap (λ b. cond (eqb k (node_rank (tree_in R)).code) (node_rank (tree_in L)) (cond b (node_rank (tree_in R)) (node_rank (tree_in L)))) e'
      ∙ (elim (eqb k (node_rank (tree_in R)).code) as (λ b. cond b (node_rank (tree_in L)) (node_rank (tree_in L)) ≡ node_rank (tree_in L)) [ true ↦ refl | false ↦ refl ])
      ∙ sym own

  module _ (n k : ℕ) (ih : (u : PlacedPairs K) → RanksStand u → Paired (tree_in u) → nodes (tree_in u) ≤ n → RanksStand (moves_in n u k)) where
    abbrev Ok : StrikeMove K → Type 0
    Ok F = Fewer (suc n) F → RanksStand (after_move (λ u. moves_in n u k) F)

    left_out : (y : Pair K) (t : PlacedPairs K) (b c : Option Rank) → least_of (made_at t) b c ≡ true → RanksStand t → Paired (tree_in t) → RanksStand y.right → Paired (tree_in y.right) → inner_box (tree_in y.right) ≡ none
        → RanksStand y.out → Paired (tree_in y.out) → inner_box (tree_in y.out) ≡ some y.box → Ok (left_over y t)
    left_out y (placed_leaf p B d) b c e ht wt hr wr gr ho wo g few = absurd (false≢true e)
    left_out y (placed_pair a v q B j F A D o) b c e ht wt hr wr gr ho wo g few =
        let u : PlacedPairs K = placed_pair y.shrink y.split unranked y.outer (some F) y.box o y.right y.out in
        let gaps : InnerBoxes (some F) (some F) y.box (tree_in o) (tree_in y.right) (tree_in y.out) = record { same = refl; left = wt.0.out; right = gr; out = g } in
        (ht.0, ht.1, ht.2, ih u (refl, ht.3, hr, ho) (gaps, wt.3, wr, wo) (omega arith))

    outer_out : (x : Pair K) (t : PlacedPairs K) (a : Rank) (b c : Option Rank) → least_of (made_at t) b c ≡ true → RanksStand (whole x) → Paired (tree_in (whole x)) → RanksStand t → Paired (tree_in t) → inner_box (tree_in t) ≡ some x.box
        → (x.inner ≡ none → cond (eqb k (node_rank (tree_in x.right)).code) (node_rank (tree_in x.left)) (cond (eqb k (node_rank (tree_in x.left)).code) (node_rank (tree_in x.right)) (node_rank (tree_in x.left))) ≡ a)
        → Ok (outer_over x t a)
    outer_out x (placed_leaf p B d) a b c e h w ht wt g lab few = absurd (false≢true e)
    outer_out x (placed_pair y v q B j F A D o) a b c e h w ht wt g lab few =
        let u : PlacedPairs K = placed_pair x.shrink x.split x.rank (outer (tree_in A)) x.inner x.box x.left x.right A in
        let gaps : InnerBoxes x.inner x.inner x.box (tree_in x.left) (tree_in x.right) (tree_in A) = record { same = refl; left = w.0.left; right = w.0.right; out = wt.0.left ∙ g } in
        let ru : RanksStand u = (h.0, h.1, h.2, ht.1) in
        let pu : Paired (tree_in u) = (gaps, w.1, w.2, wt.1) in
        (rank_same x.inner a (node_rank (tree_in (moves_in n u k))) (λ z. after_node_rank n k u ru pu z (omega arith) ∙ lab z), ih u ru pu (omega arith), ht.2, ht.3)

    ok_pair : (x : Pair K) → RanksStand (whole x) → Paired (tree_in (whole x)) → Ok (move_pair x k)
    ok_pair x h w =
        let L : PlacedPairs K = x.left in
        let R : PlacedPairs K = x.right in
        let code-r : eqb k (rank R).code ≡ eqb k (node_rank (tree_in R)).code = ap (λ (q : Rank). eqb k q.code) (rank_node_rank R h.2) in
        let code-l : eqb k (rank L).code ≡ eqb k (node_rank (tree_in L)).code = ap (λ (q : Rank). eqb k q.code) (rank_node_rank L h.1) in
        let pick : Bool → Bool → Rank = λ u v. cond u (node_rank (tree_in L)) (cond v (node_rank (tree_in R)) (node_rank (tree_in L))) in
        by_cases Ok x k record {
          last_right = λ e low _. ranks_replaced x.outer L h.1;
          left_rises = λ e least. left_out x L (made_at R) (made_at x.out) least h.1 w.1 h.2 w.2 w.0.right h.3 w.3 w.0.out;
          outer_rises = λ e least.
              outer_out x x.out (rank L) (made_at L) (made_at R) least h w h.3 w.3 w.0.out
              (λ g. ap (λ u. pick u (eqb k (node_rank (tree_in L)).code)) (sym code-r ∙ e) ∙ sym (rank_node_rank L h.1));
          last_left = λ er ei el low _. ranks_replaced x.outer R h.2;
          right_rises = λ er ei el least. left_out (exchanged_at x) R (made_at L) (made_at x.out) least h.2 w.2 h.1 w.1 (w.0.left ∙ no_inner_box x.inner ei) h.3 w.3 w.0.out;
          outer_rises_left = λ er ei el least.
              outer_out x x.out (rank R) (made_at L) (made_at R) least h w h.3 w.3 w.0.out
              (λ g. ap (λ u. pick u (eqb k (node_rank (tree_in L)).code)) (sym code-r ∙ er) ∙ ap (pick false) (sym code-l ∙ el) ∙ sym (rank_node_rank R h.2));
          exchanges_on = λ er ei el few.
              (rank_node_rank R h.2 ∙ sym (ap (λ i. rank_at i (node_rank (tree_in R))) (no_inner_box x.inner ei)), h.2, ih L h.1 w.1 (omega arith), h.3);
          goes_left = λ er el few. (
            h.0 ∙ rank_same x.inner (node_rank (tree_in L)) (node_rank (tree_in (moves_in n L k)))
                (λ g. after_node_rank n k L h.1 w.1 (w.0.left ∙ g) (omega arith) ∙ left_node_rank k L (w.0.left ∙ g) (sym code-l ∙ el (ap is_none g))),
            ih L h.1 w.1 (omega arith),
            h.2,
            h.3,
          );
          goes_right = λ el few. (h.0, h.1, ih R h.2 w.2 (omega arith), h.3);
          goes_outer = λ er el few. (h.0, h.1, h.2, ih x.out h.3 w.3 (omega arith));
        }

  more : (m n : ℕ) (F : StrikeMove K) → m ≤ n → Fewer m F → Fewer n F
  more m n (finished u f) h k = tt
  more m n (onward g u) h k = omega arith
  more m n (lost u) h k = tt

  pub final : (n : ℕ) (t : PlacedPairs K) (k : ℕ) → RanksStand t → Paired (tree_in t) → nodes (tree_in t) ≤ n → RanksStand (moves_in n t k)
  final zero t k h w few = h
  final (suc n) (placed_leaf p C c) k h w few = tt
  final (suc n) (placed_pair s w r C i E L R O) k h p few =
      ok_pair n k (λ u. final n u k) (record { shrink = s; split = w; rank = r; outer = C; inner = i; box = E; left = L; right = R; out = O }) h p
      (more (nodes (tree_in (placed_pair s w r C i E L R O))) (suc n) (move_of (placed_pair s w r C i E L R O) k) few (fewer (placed_pair s w r C i E L R O) k h))
