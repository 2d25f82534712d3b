-- Striking in one way down gives the tree of the other readings.
use Rattle.std.proofs.Common.{◌≡◌, ℕ, zero, suc, ◌<◌, ◌≤◌, Bool, true, false, not, ◌&&◌, eqb, List, [], ◌∷◌, length, filter, sym, refl, ap, ◌∙◌, subst, inl, inr, arith}
use mathlib.Core.Option.{Option, none, some}
use Rattle.std.specs.List.{AllByRecursion}
use Rattle.std.proofs.lemmas.Bool.{not-true, cases_Bool, both_ways, and_from, cond-true, cond-false, cond_both, and_left, and_right, eqb-true, ne_eqb}
use Rattle.std.proofs.ByRecursion.{all_kept_by, All-weaker}
use Rattle.place.specs.Boxes.{prefix, Box, point, holds, smallest, half}
use Rattle.quadtreap.specs.Tree.{Reading, Content, reading, box, Tree, leaf, shrink, split, point_of, extent, box_in, outer, lies, outside, pair, build, nodes}
use Rattle.quadtreap.specs.declared.rank.Rank.{Rank}
use Rattle.quadtreap.specs.Rank.{before, Ranked, other, without, rank_of}
use Rattle.quadtreap.specs.Pairs.{is_leaf, inner_box, split_box, first, second, left_of, right_of, exchanged, promote_left, promote_outer, node_rank, creation, earlier_than, is_none, Frame, on_left, plug}
use Rattle.quadtreap.specs.Strike.{Step, done, on, to_left, to_right, to_outer, above_leaves, least_of, sink_right, sink_left, descend, strike_step, after, strike_in, strike_tree, holds_code}
use Rattle.place.proofs.BoxLaws.{Parts, Parts-flip, halves}
use Rattle.quadtreap.proofs.BuildLaws.{build_cons, outer_insert_all}
use Rattle.quadtreap.proofs.RankLaws.{before_is, before_asym, ranked_kept}
use Rattle.quadtreap.proofs.PromoteLaws.{left_rises, outer_rises, first_two_exchanged, pair_eq, build_at, keep_yes, keep_no, keep_keep, keep_swap, again-Parts, q_tests, p_tests}
use Rattle.quadtreap.proofs.PutLaws.{inside_out, far_same, far_half, far_parts}
use Rattle.quadtreap.proofs.KeepLaws.{length_kept, all_kept_with, outside_parts, Apart, apart_kept}
use Rattle.quadtreap.proofs.EnterLaws.{name_of, node_rank_build, creation_build}

-- which child was made first

abbrev head_rank : {K : Type 0} → List (Reading K) → Option Rank
head_rank [] = none
head_rank (q ∷ qs) = some (rank_of q)

creation_head : {K : Type 0} (C : Box) (c : Content K) (ps : List (Reading K)) → AllByRecursion (λ r. Parts (extent c) (point_of r)) ps → creation (build C c ps) ≡ head_rank ps
creation_head C c [] a = refl
creation_head C c (q ∷ ps) a = creation_build C c q ps a.0

module _ {K : Type 0} (q : Reading K) where
  earlier_than_yes : (ps : List (Reading K)) → AllByRecursion (λ r. before q r ≡ true) ps → earlier_than (some (rank_of q)) (head_rank ps) ≡ true
  earlier_than_yes [] a = refl
  earlier_than_yes (r ∷ ps) a = sym (before_is q r) ∙ a.0

  earlier_than_no : (ps : List (Reading K)) → AllByRecursion (λ r. before q r ≡ true) ps → earlier_than (head_rank ps) (some (rank_of q)) ≡ false
  earlier_than_no [] a = refl
  earlier_than_no (r ∷ ps) a = sym (before_is r q) ∙ before_asym q r a.0

  module _ (xs ys : List (Reading K)) (ax : AllByRecursion (λ r. before q r ≡ true) xs) (ay : AllByRecursion (λ r. before q r ≡ true) ys) where
    least_yes : least_of (some (rank_of q)) (head_rank xs) (head_rank ys) ≡ true
    least_yes = and_from _ _ (earlier_than_yes xs ax) (earlier_than_yes ys ay)

    least_second : least_of (head_rank xs) (some (rank_of q)) (head_rank ys) ≡ false
    least_second = and_left _ (earlier_than (head_rank xs) (head_rank ys)) (earlier_than_no xs ax)

    least_third : least_of (head_rank xs) (head_rank ys) (some (rank_of q)) ≡ false
    least_third = and_right (earlier_than (head_rank xs) (head_rank ys)) _ (earlier_than_no xs ax)

no_leaf : {K : Type 0} (t : Tree K) (r : Rank) → creation t ≡ some r → is_leaf t ≡ false
no_leaf (leaf C c) r e = absurd (let z : ◌≡◌ {A = ℕ} 0 1 = cc in omega arith)
no_leaf (shrink C i a b) r e = refl
no_leaf (split E i a b) r e = refl

module _ {K : Type 0} (x : Tree K) (r : Rank) where
  low_left : creation (left_of x) ≡ some r → above_leaves x ≡ false
  low_left e = and_left (is_leaf (left_of x)) _ (no_leaf (left_of x) r e)

  low_right : creation (right_of x) ≡ some r → above_leaves x ≡ false
  low_right e = and_right (is_leaf (left_of x)) _ (and_left (is_leaf (right_of x)) _ (no_leaf (right_of x) r e))

  low_outer : creation (second x) ≡ some r → above_leaves x ≡ false
  low_outer e = and_right (is_leaf (left_of x)) _ (and_right (is_leaf (right_of x)) _ (no_leaf (second x) r e))

-- what a pair does, by the heads of its children; q is the first of all that come after the struck reading
module _ {K : Type 0} (x : Tree K) (q : Reading K) (xs ys : List (Reading K)) (ax : AllByRecursion (λ r. before q r ≡ true) xs) (ay : AllByRecursion (λ r. before q r ≡ true) ys) where
  right_left : creation (left_of x) ≡ some (rank_of q) → creation (right_of x) ≡ head_rank xs → creation (second x) ≡ head_rank ys → sink_right x ≡ to_outer (promote_left x)
  right_left a b c = cond-false _ _ _ (low_left x (rank_of q) a) ∙ rw (a, b, c) (cond-true _ _ _ (least_yes q xs ys ax ay))

  right_outer : creation (left_of x) ≡ head_rank xs → creation (right_of x) ≡ head_rank ys → creation (second x) ≡ some (rank_of q) → sink_right x ≡ to_left (promote_outer x)
  right_outer a b c =
      cond-false _ _ _ (low_outer x (rank_of q) c) ∙ rw (a, b, c) (cond-false _ _ _ (least_third q xs ys ax ay) ∙ cond-true _ _ _ (least_yes q xs ys ax ay))

  right_right : creation (left_of x) ≡ head_rank xs → creation (right_of x) ≡ some (rank_of q) → creation (second x) ≡ head_rank ys → sink_right x ≡ to_right x
  right_right a b c =
      cond-false _ _ _ (low_right x (rank_of q) b) ∙ rw (a, b, c) (cond-false _ _ _ (least_second q xs ys ax ay) ∙ cond-false _ _ _ (least_third q ys xs ay ax))

  left_right : creation (left_of x) ≡ head_rank xs → creation (right_of x) ≡ some (rank_of q) → creation (second x) ≡ head_rank ys → sink_left x ≡ to_outer (promote_left (exchanged x))
  left_right a b c = cond-false _ _ _ (low_right x (rank_of q) b) ∙ rw (a, b, c) (cond-true _ _ _ (least_yes q xs ys ax ay))

  left_outer : creation (left_of x) ≡ head_rank xs → creation (right_of x) ≡ head_rank ys → creation (second x) ≡ some (rank_of q) → sink_left x ≡ to_left (promote_outer x)
  left_outer a b c =
      cond-false _ _ _ (low_outer x (rank_of q) c) ∙ rw (a, b, c) (cond-false _ _ _ (least_third q ys xs ay ax) ∙ cond-true _ _ _ (least_yes q xs ys ax ay))

  left_left : creation (left_of x) ≡ some (rank_of q) → creation (right_of x) ≡ head_rank xs → creation (second x) ≡ head_rank ys → sink_left x ≡ to_right (exchanged x)
  left_left a b c =
      cond-false _ _ _ (low_left x (rank_of q) a) ∙ rw (a, b, c) (cond-false _ _ _ (least_second q xs ys ax ay) ∙ cond-false _ _ _ (least_second q ys xs ay ax))

-- a cell, the reading p that is to go, and those that come after it
pub record Sits {K : Type 0} (c : Content K) (p : Reading K) (ps : List (Reading K)) : Type 0 where
  pub here : Parts (extent c) (point_of p)
  pub all : AllByRecursion (λ r. Parts (extent c) (point_of r)) ps
  pub far : AllByRecursion (λ r. Parts (point_of p) (point_of r)) ps
  pub apart : Apart ps
  pub rank : Ranked ps

-- p and then q: the pair of p sinks under that of q
module _ {K : Type 0} (C : Box) (c : Content K) (p q : Reading K) (qs : List (Reading K)) (f : Sits c p (q ∷ qs)) where
  abbrev E : Box
  E = smallest (extent c) (point_of p)

  abbrev H : Box
  H = half E (extent c)

  abbrev G : Box
  G = half E (point_of p)

  abbrev E' : Box
  E' = smallest (extent c) (point_of q)

  abbrev H' : Box
  H' = half E' (extent c)

  abbrev G' : Box
  G' = half E' (point_of q)

  abbrev x : Tree K
  x = build C c (p ∷ q ∷ qs)

  sits_out : lies H q ≡ true → Sits (box E') p (filter (outside E') qs)
  sits_out near =
      record {
        here = again-Parts (extent c) p.code q.code f.here f.all.0 near;
        all = all_kept_with (λ r. Parts (extent c) (point_of r)) (λ r. Parts E' (point_of r)) (outside E') (λ r u o. outside_parts (extent c) q.code r.code f.all.0 u (not-true (lies E' r) o)) qs f.all.1;
        far = all_kept_by (outside E') (λ r. Parts (point_of p) (point_of r)) qs f.far.1;
        apart = apart_kept (outside E') qs f.apart.1;
        rank = ranked_kept (outside E') qs f.rank.1;
      }

  sits_left : Sits c p (filter (lies H') qs)
  sits_left =
      record {
        here = f.here;
        all = all_kept_by (lies H') (λ r. Parts (extent c) (point_of r)) qs f.all.1;
        far = all_kept_by (lies H') (λ r. Parts (point_of p) (point_of r)) qs f.far.1;
        apart = apart_kept (lies H') qs f.apart.1;
        rank = ranked_kept (lies H') qs f.rank.1;
      }

  sits_right : Sits (reading q) p (filter (lies G) qs)
  sits_right =
      record {
        here = Parts-flip p.code q.code f.far.0;
        all = all_kept_by (lies G) (λ r. Parts (point_of q) (point_of r)) qs f.apart.0;
        far = all_kept_by (lies G) (λ r. Parts (point_of p) (point_of r)) qs f.far.1;
        apart = apart_kept (lies G) qs f.apart.1;
        rank = ranked_kept (lies G) qs f.rank.1;
      }

  near_shape : lies H q ≡ true → promote_left x ≡ pair C (box_in c) E' (build H' c (filter (lies H') qs)) (build G' (reading q) (filter (lies G') qs)) (build C (box E') (p ∷ filter (outside E') qs))
  near_shape near =
      let t = q_tests C c p q qs f.here f.all.0 near in
      sym (left_rises C c p q qs f.here f.all.0 near)
      ∙ build_cons C c q (p ∷ qs) f.all.0
      ∙ pair_eq (ap (build H' c) (keep_no (lies H') p qs t.0)) (ap (build G' (reading q)) (keep_no (lies G') p qs t.1)) (ap (build C (box E')) (keep_yes (outside E') p qs t.2))

  out_shape : lies E q ≡ false → promote_outer x ≡ pair C (box_in c) E' (build H' c (p ∷ filter (lies H') qs)) (build G' (reading q) (filter (lies G') qs)) (build C (box E') (filter (outside E') qs))
  out_shape out =
      let near : lies H' p ≡ true = inside_out (extent c) p.code q.code f.here f.all.0 out in
      let t = p_tests C c q p qs f.all.0 f.here near in
      sym (outer_rises C c q p qs f.all.0 f.here near)
      ∙ build_cons C c q (p ∷ qs) f.all.0
      ∙ pair_eq (ap (build H' c) (keep_yes (lies H') p qs near)) (ap (build G' (reading q)) (keep_no (lies G') p qs t.0)) (ap (build C (box E')) (keep_no (outside E') p qs t.1))

  abbrev left : Tree K
  left = build H c (filter (lies H) qs)

  abbrev out : Tree K
  out = build C (box E) (filter (outside E) qs)

  module _ (there : lies G q ≡ true) (tests : (lies H q ≡ false) × (outside E q ≡ false)) where
    far_shape : x ≡ pair C (box_in c) E left (build G (reading p) (q ∷ filter (lies G) qs)) out
    far_shape =
        build_cons C c p (q ∷ qs) f.here
        ∙ pair_eq (ap (build H c) (keep_no (lies H) q qs tests.0)) (ap (build G (reading p)) (keep_yes (lies G) q qs there)) (ap (build C (box E)) (keep_no (outside E) q qs tests.1))

    far_rest : build C c (q ∷ qs) ≡ pair C (box_in c) E left (build G (reading q) (filter (lies G) qs)) out
    far_rest =
        build_at C c q qs E H G (far_same (extent c) p.code q.code f.here there f.all.0) refl (far_half (extent c) p.code q.code f.here there) (far_parts (extent c) p.code q.code f.here there)

  -- g is what is done with the smaller tree
  module _ (g : Tree K → Tree K) where
    after_near : lies H q ≡ true → g (build C (box E') (p ∷ filter (outside E') qs)) ≡ build C (box E') (filter (outside E') qs) → after g (to_outer (promote_left x)) ≡ build C c (q ∷ qs)
    after_near near ih = ap (λ w. after g (to_outer w)) (near_shape near) ∙ pair_eq refl refl ih ∙ sym (build_cons C c q qs f.all.0)

    after_out : lies E q ≡ false → g (build H' c (p ∷ filter (lies H') qs)) ≡ build H' c (filter (lies H') qs) → after g (to_left (promote_outer x)) ≡ build C c (q ∷ qs)
    after_out o ih = ap (λ w. after g (to_left w)) (out_shape o) ∙ pair_eq ih refl refl ∙ sym (build_cons C c q qs f.all.0)

    after_out_exchanged : lies E q ≡ false → g (exchanged (build H' c (p ∷ filter (lies H') qs))) ≡ build H' c (filter (lies H') qs) → after g (to_left (promote_outer (exchanged x))) ≡ build C c (q ∷ qs)
    after_out_exchanged o ih =
        ap (λ w. plug (on_left (outer w) (inner_box w) (split_box w) (inner_box (first w)) (right_of w) (second w)) (g (exchanged (left_of w)))) (out_shape o) ∙ pair_eq ih refl refl ∙ sym (build_cons C c q qs f.all.0)

    after_far : lies G q ≡ true → (lies H q ≡ false) × (outside E q ≡ false) → g (exchanged (build G (reading q) (p ∷ filter (lies G) qs))) ≡ build G (reading q) (filter (lies G) qs)
        → after g (to_right x) ≡ build C c (q ∷ qs)
    after_far there tests ih =
        ap (λ w. after g (to_right w)) (far_shape there tests)
        ∙ pair_eq refl (ap g (first_two_exchanged G q p (filter (lies G) qs) sits_right.here) ∙ ih) refl
        ∙ sym (far_rest there tests)

  later : (h : Reading K → Bool) → AllByRecursion (λ r. before q r ≡ true) (filter h qs)
  later h = all_kept_by h (λ r. before q r ≡ true) qs f.rank.0

  left_head : creation (left_of x) ≡ head_rank (filter (lies H) (q ∷ qs))
  left_head = ap (λ t. creation (left_of t)) (build_cons C c p (q ∷ qs) f.here) ∙ creation_head H c (filter (lies H) (q ∷ qs)) (all_kept_by (lies H) (λ r. Parts (extent c) (point_of r)) (q ∷ qs) f.all)

  right_head : creation (right_of x) ≡ head_rank (filter (lies G) (q ∷ qs))
  right_head = ap (λ t. creation (right_of t)) (build_cons C c p (q ∷ qs) f.here) ∙ creation_head G (reading p) (filter (lies G) (q ∷ qs)) (all_kept_by (lies G) (λ r. Parts (point_of p) (point_of r)) (q ∷ qs) f.far)

  outer_head : creation (second x) ≡ head_rank (filter (outside E) (q ∷ qs))
  outer_head =
      ap (λ t. creation (second t)) (build_cons C c p (q ∷ qs) f.here)
      ∙ creation_head C (box E) (filter (outside E) (q ∷ qs))
      (all_kept_with (λ r. Parts (extent c) (point_of r)) (λ r. Parts E (point_of r)) (outside E) (λ r u o. outside_parts (extent c) p.code r.code f.here u (not-true (lies E r) o)) (q ∷ qs) f.all)

  module _ (g : Tree K → Tree K) where
    -- p goes from the right child
    sunk_right_lem : (lies H q ≡ true → g (build C (box E') (p ∷ filter (outside E') qs)) ≡ build C (box E') (filter (outside E') qs))
        → g (build H' c (p ∷ filter (lies H') qs)) ≡ build H' c (filter (lies H') qs)
        → g (exchanged (build G (reading q) (p ∷ filter (lies G) qs))) ≡ build G (reading q) (filter (lies G) qs)
        → after g (sink_right x) ≡ build C c (q ∷ qs)
    sunk_right_lem one two three =
        elim (halves E.depth (extent c).code p.code f.here q.code) [
          | inl o ↦
              ap (after g) (right_outer x q (filter (lies H) qs) (filter (lies G) qs) (later (lies H)) (later (lies G))
              (left_head ∙ ap head_rank (keep_no (lies H) q qs o.1)) (right_head ∙ ap head_rank (keep_no (lies G) q qs o.2)) (outer_head ∙ ap head_rank (keep_yes (outside E) q qs (ap not o.0))))
              ∙ after_out g o.0 two
          | inr (inl o) ↦
              ap (after g) (right_left x q (filter (lies G) qs) (filter (outside E) qs) (later (lies G)) (later (outside E))
              (left_head ∙ ap head_rank (keep_yes (lies H) q qs o.1)) (right_head ∙ ap head_rank (keep_no (lies G) q qs o.2)) (outer_head ∙ ap head_rank (keep_no (outside E) q qs (ap not o.0))))
              ∙ after_near g o.1 (one o.1)
          | inr (inr o) ↦
              ap (after g) (right_right x q (filter (lies H) qs) (filter (outside E) qs) (later (lies H)) (later (outside E))
              (left_head ∙ ap head_rank (keep_no (lies H) q qs o.1)) (right_head ∙ ap head_rank (keep_yes (lies G) q qs o.2)) (outer_head ∙ ap head_rank (keep_no (outside E) q qs (ap not o.0))))
              ∙ after_far g o.2 (o.1, ap not o.0) three
        ]

    -- p goes from the left child: left and right are exchanged
    sunk_left_lem : (lies H q ≡ true → g (build C (box E') (p ∷ filter (outside E') qs)) ≡ build C (box E') (filter (outside E') qs))
        → g (exchanged (build H' c (p ∷ filter (lies H') qs))) ≡ build H' c (filter (lies H') qs)
        → g (exchanged (build G (reading q) (p ∷ filter (lies G) qs))) ≡ build G (reading q) (filter (lies G) qs)
        → after g (sink_left (exchanged x)) ≡ build C c (q ∷ qs)
    sunk_left_lem one two three =
        elim (halves E.depth (extent c).code p.code f.here q.code) [
          | inl o ↦
              ap (after g) (left_outer (exchanged x) q (filter (lies G) qs) (filter (lies H) qs) (later (lies G)) (later (lies H))
              (right_head ∙ ap head_rank (keep_no (lies G) q qs o.2)) (left_head ∙ ap head_rank (keep_no (lies H) q qs o.1)) (outer_head ∙ ap head_rank (keep_yes (outside E) q qs (ap not o.0))))
              ∙ after_out_exchanged g o.0 two
          | inr (inl o) ↦
              ap (after g) (left_right (exchanged x) q (filter (lies G) qs) (filter (outside E) qs) (later (lies G)) (later (outside E))
              (right_head ∙ ap head_rank (keep_no (lies G) q qs o.2)) (left_head ∙ ap head_rank (keep_yes (lies H) q qs o.1)) (outer_head ∙ ap head_rank (keep_no (outside E) q qs (ap not o.0))))
              ∙ ap (λ w. after g (to_outer (promote_left w))) twice
              ∙ after_near g o.1 (one o.1)
          | inr (inr o) ↦
              ap (after g) (left_left (exchanged x) q (filter (lies H) qs) (filter (outside E) qs) (later (lies H)) (later (outside E))
              (right_head ∙ ap head_rank (keep_yes (lies G) q qs o.2)) (left_head ∙ ap head_rank (keep_no (lies H) q qs o.1)) (outer_head ∙ ap head_rank (keep_no (outside E) q qs (ap not o.0))))
              ∙ ap (λ w. after g (to_right w)) twice
              ∙ after_far g o.2 (o.1, ap not o.0) three
        ]
      where
        twice : exchanged (exchanged x) ≡ x
        twice = ap (λ w. exchanged (exchanged w)) (build_cons C c p (q ∷ qs) f.here) ∙ sym (build_cons C c p (q ∷ qs) f.here)

parts_differ : (c d : ℕ) → Parts (point c) (point d) → c ≡ d → ⊥
parts_differ c d s e = s.differ (ap (prefix (suc (smallest (point c) (point d)).depth)) e)

-- what is asked at a pair
module _ {K : Type 0} (C : Box) (c : Content K) (p : Reading K) (ps : List (Reading K)) (k : ℕ) (s : Parts (extent c) (point_of p)) where
  abbrev E₁ : Box
  E₁ = smallest (extent c) (point_of p)

  abbrev H₁ : Box
  H₁ = half E₁ (extent c)

  abbrev G₁ : Box
  G₁ = half E₁ (point_of p)

  abbrev ls : List (Reading K)
  ls = filter (lies H₁) ps

  abbrev rs : List (Reading K)
  rs = filter (lies G₁) ps

  right_asks : eqb k (node_rank (build G₁ (reading p) rs)).code ≡ eqb k p.code
  right_asks = ap (λ (a : Rank). eqb k a.code) (node_rank_build G₁ (reading p) rs)

  left_asks : eqb k (node_rank (build H₁ c ls)).code ≡ eqb k (name_of c).code
  left_asks = ap (λ (a : Rank). eqb k a.code) (node_rank_build H₁ c ls)

  at_right : eqb k p.code ≡ true → strike_step (build C c (p ∷ ps)) k ≡ sink_right (build C c (p ∷ ps))
  at_right e = ap (λ t. strike_step t k) (build_cons C c p ps s) ∙ cond-true _ _ _ (right_asks ∙ e) ∙ ap sink_right (sym (build_cons C c p ps s))

  at_neither : eqb k p.code ≡ false → (is_none (box_in c) && eqb k (name_of c).code) ≡ false → strike_step (build C c (p ∷ ps)) k ≡ descend (build C c (p ∷ ps)) k
  at_neither e n =
      ap (λ t. strike_step t k) (build_cons C c p ps s)
      ∙ cond-false _ _ _ (right_asks ∙ e) ∙ cond-false _ _ _ (ap (λ b. is_none (box_in c) && b) left_asks ∙ n) ∙ ap (λ t. descend t k) (sym (build_cons C c p ps s))

at_left : {K : Type 0} (C : Box) (q p : Reading K) (ps : List (Reading K)) (k : ℕ) → Parts (point_of q) (point_of p) → eqb k p.code ≡ true
    → strike_step (exchanged (build C (reading q) (p ∷ ps))) k ≡ sink_left (exchanged (build C (reading q) (p ∷ ps)))
at_left C q p ps k s e =
    let c = reading q in
    let no' : eqb k q.code ≡ false = ne_eqb k q.code (λ d. parts_differ q.code p.code s (sym d ∙ eqb-true k p.code e)) in
    ap (λ t. strike_step (exchanged t) k) (build_cons C c p ps s)
    ∙ cond-false _ _ _ (left_asks C c p ps k s ∙ no') ∙ cond-true _ _ _ (right_asks C c p ps k s ∙ e) ∙ ap (λ t. sink_left (exchanged t)) (sym (build_cons C c p ps s))

-- within n steps the second or the first reading of a cell goes
abbrev Second : Type 0 → ℕ → Type 0
Second K n =
    (C : Box) (c : Content K) (p : Reading K) (ps : List (Reading K)) (k : ℕ) → eqb k p.code ≡ true → length ps < n → Sits c p ps
    → strike_in n (build C c (p ∷ ps)) k ≡ build C c ps

abbrev First : Type 0 → ℕ → Type 0
First K n =
    (C : Box) (r p : Reading K) (ps : List (Reading K)) (k : ℕ) → eqb k p.code ≡ true → length ps < n → Sits (reading r) p ps
    → strike_in n (exchanged (build C (reading r) (p ∷ ps))) k ≡ build C (reading r) ps

second_more : {K : Type 0} (n : ℕ) → Second K n → First K n → Second K (suc n)
second_more n a b C c p [] k e l f = ap (after (λ u. strike_in n u k)) (at_right C c p [] k f.here e)
second_more n a b C c p (q ∷ qs) k e l f =
    let E : Box = smallest (extent c) (point_of p) in
    let G : Box = half E (point_of p) in
    let E' : Box = smallest (extent c) (point_of q) in
    let H' : Box = half E' (extent c) in
    ap (after (λ u. strike_in n u k)) (at_right C c p (q ∷ qs) k f.here e)
    ∙ sunk_right_lem C c p q qs f (λ u. strike_in n u k)
    (λ near. a C (box E') p (filter (outside E') qs) k e (omega (arith, length_kept (outside E') qs)) (sits_out C c p q qs f near))
    (a H' c p (filter (lies H') qs) k e (omega (arith, length_kept (lies H') qs)) (sits_left C c p q qs f))
    (b G q p (filter (lies G) qs) k e (omega (arith, length_kept (lies G) qs)) (sits_right C c p q qs f))

first_more : {K : Type 0} (n : ℕ) → Second K n → First K n → First K (suc n)
first_more n a b C r p [] k e l f = ap (after (λ u. strike_in n u k)) (at_left C r p [] k f.here e)
first_more n a b C r p (q ∷ qs) k e l f =
    let c = reading r in
    let E : Box = smallest (extent c) (point_of p) in
    let G : Box = half E (point_of p) in
    let E' : Box = smallest (extent c) (point_of q) in
    let H' : Box = half E' (extent c) in
    ap (after (λ u. strike_in n u k)) (at_left C r p (q ∷ qs) k f.here e)
    ∙ sunk_left_lem C c p q qs f (λ u. strike_in n u k)
    (λ near. a C (box E') p (filter (outside E') qs) k e (omega (arith, length_kept (outside E') qs)) (sits_out C c p q qs f near))
    (b H' r p (filter (lies H') qs) k e (omega (arith, length_kept (lies H') qs)) (sits_left C c p q qs f))
    (b G q p (filter (lies G) qs) k e (omega (arith, length_kept (lies G) qs)) (sits_right C c p q qs f))

pub struck : {K : Type 0} (n : ℕ) → Second K n × First K n
struck zero = (λ C c p ps k e l f. absurd (omega arith), λ C r p ps k e l f. absurd (omega arith))
struck (suc n) = let ih = struck n in (second_more n ih.0 ih.1, first_more n ih.0 ih.1)

-- no other reading has the code of the first
keep_other : {K : Type 0} (g : ℕ → Bool) (k : ℕ) → g k ≡ false → (ps : List (Reading K)) → filter (λ r. g r.code) (without k ps) ≡ filter (λ r. g r.code) ps
keep_other {K} g k n ps = keep_keep (λ r. g r.code) (other k) (λ r. g r.code) each ps
  where
    each : (r : Reading K) → (other k r && g r.code) ≡ g r.code
    each r =
        elim (cases_Bool (eqb k r.code)) [
          | inl e ↦ rw e (sym (ap g (sym (eqb-true k r.code e)) ∙ n))
          | inr e ↦ rw e
        ]

without_all : {K : Type 0} (k : ℕ) (ps : List (Reading K)) → AllByRecursion (λ r. eqb k r.code ≡ false) ps → without k ps ≡ ps
without_all k [] a = refl
without_all k (p ∷ ps) a = rw a.0 (ap (λ l. p ∷ l) (without_all k ps a.1))

pub without_rest : {K : Type 0} (q : Reading K) (k : ℕ) → eqb k q.code ≡ true → (ps : List (Reading K)) → AllByRecursion (λ r. Parts (point_of q) (point_of r)) ps → without k ps ≡ ps
without_rest q k e ps a =
    without_all k ps (All-weaker (λ r. Parts (point_of q) (point_of r)) (λ r. eqb k r.code ≡ false)
    (λ r s. ne_eqb k r.code (λ d. parts_differ q.code r.code s (sym (eqb-true k q.code e) ∙ d))) ps a)

not_named : {K : Type 0} (c : Content K) (k : ℕ) → holds_code k c ≡ false → (is_none (box_in c) && eqb k (name_of c).code) ≡ false
not_named (reading r) k h = h
not_named (box I) k h = refl

-- the way down to the struck reading
module _ {K : Type 0} (C : Box) (c : Content K) (q : Reading K) (ps : List (Reading K)) (k : ℕ) (g : Tree K → Tree K) (s : Parts (extent c) (point_of q)) (e : eqb k q.code ≡ false) where
  abbrev E₂ : Box
  E₂ = smallest (extent c) (point_of q)

  abbrev H₂ : Box
  H₂ = half E₂ (extent c)

  abbrev G₂ : Box
  G₂ = half E₂ (point_of q)

  abbrev y : Tree K
  y = build C c (q ∷ ps)

  rest_is : build C c (without k (q ∷ ps))
      ≡ pair C (box_in c) E₂ (build H₂ c (filter (lies H₂) (without k ps))) (build G₂ (reading q) (filter (lies G₂) (without k ps))) (build C (box E₂) (filter (outside E₂) (without k ps)))
  rest_is = ap (build C c) (keep_yes (other k) q ps (ap not e)) ∙ build_cons C c q (without k ps) s

  left_box : outer (build H₂ c (filter (lies H₂) ps)) ≡ H₂
  left_box = outer_insert_all (leaf H₂ c) (filter (lies H₂) ps)

  down_near : holds E₂ k ≡ true → holds H₂ k ≡ true → holds G₂ k ≡ false → g (build H₂ c (filter (lies H₂) ps)) ≡ build H₂ c (without k (filter (lies H₂) ps)) → after g (descend y k) ≡ build C c (without k (q ∷ ps))
  down_near a b d ih =
      ap (λ t. after g (descend t k)) (build_cons C c q ps s)
      ∙ rw (a, left_box, b) (pair_eq ih refl refl)
      ∙ sym (rest_is ∙ pair_eq (ap (build H₂ c) (keep_swap (lies H₂) (other k) ps)) (ap (build G₂ (reading q)) (keep_other (holds G₂) k d ps)) (ap (build C (box E₂)) (keep_other (λ j. not (holds E₂ j)) k (ap not a) ps)))

  down_far : holds E₂ k ≡ true → holds H₂ k ≡ false → g (build G₂ (reading q) (filter (lies G₂) ps)) ≡ build G₂ (reading q) (without k (filter (lies G₂) ps)) → after g (descend y k) ≡ build C c (without k (q ∷ ps))
  down_far a b ih =
      ap (λ t. after g (descend t k)) (build_cons C c q ps s)
      ∙ rw (a, left_box, b) (pair_eq refl ih refl)
      ∙ sym (rest_is ∙ pair_eq (ap (build H₂ c) (keep_other (holds H₂) k b ps)) (ap (build G₂ (reading q)) (keep_swap (lies G₂) (other k) ps)) (ap (build C (box E₂)) (keep_other (λ j. not (holds E₂ j)) k (ap not a) ps)))

  down_out : holds E₂ k ≡ false → holds H₂ k ≡ false → holds G₂ k ≡ false → g (build C (box E₂) (filter (outside E₂) ps)) ≡ build C (box E₂) (without k (filter (outside E₂) ps)) → after g (descend y k) ≡ build C c (without k (q ∷ ps))
  down_out a b d ih =
      ap (λ t. after g (descend t k)) (build_cons C c q ps s)
      ∙ rw a (pair_eq refl refl ih)
      ∙ sym (rest_is ∙ pair_eq (ap (build H₂ c) (keep_other (holds H₂) k b ps)) (ap (build G₂ (reading q)) (keep_other (holds G₂) k d ps)) (ap (build C (box E₂)) (keep_swap (outside E₂) (other k) ps)))

pub strike_build : {K : Type 0} (n : ℕ) (C : Box) (c : Content K) (ps : List (Reading K)) (k : ℕ) → length ps ≤ n → holds_code k c ≡ false
    → Ranked ps → AllByRecursion (λ r. Parts (extent c) (point_of r)) ps → Apart ps → strike_in n (build C c ps) k ≡ build C c (without k ps)
strike_build zero C c [] k l h rank a apart = refl
strike_build (suc n) C c [] k l h rank a apart = refl
strike_build zero C c (q ∷ ps) k l h rank a apart = absurd (omega arith)
strike_build {K} (suc n) C c (q ∷ ps) k l h rank a apart =
    let E : Box = smallest (extent c) (point_of q) in
    let H : Box = half E (extent c) in
    let G : Box = half E (point_of q) in
    let t = a.0 in
    let g : Tree K → Tree K = λ u. strike_in n u k in
    elim (cases_Bool (eqb k q.code)) [
      | inl e ↦
          (struck (suc n)).0 C c q ps k e (omega arith) (record { here = t; all = a.1; far = apart.0; apart = apart.1; rank = rank.1 })
          ∙ sym (ap (build C c) (keep_no (other k) q ps (ap not e) ∙ without_rest q k e ps apart.0))
      | inr e ↦
          ap (after g) (at_neither C c q ps k t e (not_named c k h))
          ∙ elim (halves E.depth (extent c).code q.code t k) [
            | inl o ↦ down_out C c q ps k g t e o.0 o.1 o.2
                (strike_build n C (box E) (filter (outside E) ps) k (omega (arith, length_kept (outside E) ps)) refl
                (ranked_kept (outside E) ps rank.1)
                (all_kept_with (λ r. Parts (extent c) (point_of r)) (λ r. Parts E (point_of r)) (outside E) (λ r u o. outside_parts (extent c) q.code r.code t u (not-true (lies E r) o)) ps a.1)
                (apart_kept (outside E) ps apart.1))
            | inr (inl o) ↦ down_near C c q ps k g t e o.0 o.1 o.2
                (strike_build n H c (filter (lies H) ps) k (omega (arith, length_kept (lies H) ps)) h
                (ranked_kept (lies H) ps rank.1) (all_kept_by (lies H) (λ r. Parts (extent c) (point_of r)) ps a.1) (apart_kept (lies H) ps apart.1))
            | inr (inr o) ↦ down_far C c q ps k g t e o.0 o.1
                (strike_build n G (reading q) (filter (lies G) ps) k (omega (arith, length_kept (lies G) ps)) e
                (ranked_kept (lies G) ps rank.1) (all_kept_by (lies G) (λ r. Parts (point_of q) (point_of r)) ps apart.0) (apart_kept (lies G) ps apart.1))
          ]
    ]

-- Each step goes on with fewer nodes, so that more steps change nothing.

abbrev Fewer : {K : Type 0} → ℕ → Step K → Type 0
Fewer n (done t) = Unit {0}
Fewer n (on f t) = nodes t < n

pub some_nodes : {K : Type 0} (t : Tree K) → 1 ≤ nodes t
some_nodes (leaf C c) = omega arith
some_nodes (shrink C i a b) = omega arith
some_nodes (split E i a b) = omega arith

first_fewer : {K : Type 0} (t : Tree K) → nodes (first t) ≤ nodes t
first_fewer (leaf C c) = omega arith
first_fewer (shrink C i a b) = omega arith
first_fewer (split E i a b) = omega arith

pub least_pair : {K : Type 0} (t : Tree K) (b c : Option Rank) → least_of (creation t) b c ≡ true → (nodes (second t) < nodes t) × (nodes (left_of t) < nodes t)
least_pair (leaf C d) b c h = absurd (both_ways false refl h)
least_pair (shrink C i x y) b c h = (omega arith, omega (arith, first_fewer x))
least_pair (split E i x y) b c h = absurd (both_ways false refl h)

step_fewer : {K : Type 0} (t : Tree K) (k : ℕ) → Fewer (nodes t) (strike_step t k)
step_fewer (leaf C c) k = tt
step_fewer (split E i a b) k = tt
step_fewer (shrink C i (leaf B c) b) k = tt
step_fewer (shrink C i (shrink B j a d) b) k = tt
step_fewer {K} (shrink C i (split E j L R) O) k =
    let x : Tree K = shrink C i (split E j L R) O in
    let P : Step K → Type 0 = Fewer (nodes x) in
    cond_both (eqb k (node_rank R).code) _ _ P
    (λ _. cond_both (above_leaves x) _ _ P (λ _. tt) (λ _.
    cond_both (least_of (creation L) (creation R) (creation O)) _ _ P (λ h. omega (arith, least_pair L (creation R) (creation O) h)) (λ _.
    cond_both (least_of (creation O) (creation L) (creation R)) _ _ P (λ h. omega (arith, least_pair O (creation L) (creation R) h)) (λ _. omega arith))))
    (λ _. cond_both (is_none i && eqb k (node_rank L).code) _ _ P
    (λ _. cond_both (above_leaves x) _ _ P (λ _. tt) (λ _.
    cond_both (least_of (creation R) (creation L) (creation O)) _ _ P (λ h. omega (arith, least_pair R (creation L) (creation O) h)) (λ _.
    cond_both (least_of (creation O) (creation L) (creation R)) _ _ P (λ h. omega (arith, least_pair O (creation L) (creation R) h)) (λ _. omega arith))))
    (λ _. cond_both (holds E k) _ _ P (λ _. cond_both (holds (outer L) k) _ _ P (λ _. omega arith) (λ _. omega arith)) (λ _. omega (arith))))

pub strike_steps : {K : Type 0} (n m : ℕ) (t : Tree K) (k : ℕ) → nodes t ≤ n → nodes t ≤ m → strike_in n t k ≡ strike_in m t k
strike_steps zero m t k a b = absurd (omega (arith, some_nodes t))
strike_steps (suc n) zero t k a b = absurd (omega (arith, some_nodes t))
strike_steps {K} (suc n) (suc m) t k a b = each (λ u c d. strike_steps n m u k c d) (strike_step t k) (step_fewer t k)
  where
    each : ((u : Tree K) → nodes u ≤ n → nodes u ≤ m → strike_in n u k ≡ strike_in m u k) → (s : Step K) → Fewer (nodes t) s → after (λ u. strike_in n u k) s ≡ after (λ u. strike_in m u k) s
    each rec (done u) f = refl
    each rec (on g u) f = ap (plug g) (rec u (omega arith) (omega arith))

-- one step, and then the rest in the frame that it leaves
pub strike_on : {K : Type 0} (t u : Tree K) (f : Frame K) (k : ℕ) → strike_step t k ≡ on f u → strike_tree t k ≡ plug f (strike_tree u k)
strike_on t u f k e =
    let l : nodes u < nodes t = subst (Fewer (nodes t)) e (step_fewer t k) in
    strike_steps (nodes t) (suc (nodes t)) t k (omega arith) (omega arith)
    ∙ ap (after (λ w. strike_in (nodes t) w k)) e
    ∙ ap (plug f) (strike_steps (nodes t) (nodes u) u k (omega arith) (omega arith))

pub strike_done : {K : Type 0} (t u : Tree K) (k : ℕ) → strike_step t k ≡ done u → strike_tree t k ≡ u
strike_done t u k e =
    strike_steps (nodes t) (suc (nodes t)) t k (omega arith) (omega arith) ∙ ap (after (λ w. strike_in (nodes t) w k)) e

pub strike_fewer : {K : Type 0} (t u : Tree K) (f : Frame K) (k : ℕ) → strike_step t k ≡ on f u → nodes u < nodes t
strike_fewer t u f k e = subst (Fewer (nodes t)) e (step_fewer t k)
