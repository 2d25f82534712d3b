-- A reading put at its rank: what becomes of the tree.
use Rattle.std.proofs.Common.{◌≡◌, ℕ, suc, true, false, not, List, ◌∷◌, filter, sym, refl, ap, ◌∙◌, inl, inr, arith}
use Rattle.std.proofs.lemmas.Bool.{cases_lt, eqb-true, eq-eqb, both_ways}
use Rattle.place.specs.Boxes.{prefix, Box, cut, point, holds, smallest, half}
use Rattle.quadtreap.specs.Tree.{Reading, Content, reading, box, point_of, extent, lies, outside, build}
use Rattle.quadtreap.specs.Rank.{before, Ranked, put}
use Rattle.quadtreap.specs.Pairs.{promote_left, promote_outer}
use Rattle.place.proofs.BoxLaws.{Parting, Parts, Lies, halves, prefix_mono, holds_cut, holds_own, cut_eq, parting_only}
use Rattle.quadtreap.proofs.BuildLaws.{build_cons}
use Rattle.quadtreap.proofs.RankLaws.{all_before, put_front, keep_put_no, keep_put_yes}
use Rattle.quadtreap.proofs.PromoteLaws.{with_left, with_right, with_outer, pair_eq, build_at, keep_no, keep_yes, left_rises, outer_rises}

-- Where p lies outside the smallest box of A and q, q lies with A in one half of that of A and p.
pub inside_out : (A : Box) (q p : ℕ) → Parts A (point q) → Parts A (point p) → holds (smallest A (point q)) p ≡ false → holds (half (smallest A (point p)) A) q ≡ true
inside_out A q p s t out =
    let k : ℕ = (smallest A (point q)).depth in
    let k' : ℕ = (smallest A (point p)).depth in
    elim (cases_lt k' k) [
      | inl l ↦ rw (holds_cut (suc k') A.code q) (eq-eqb _ _ (sym (prefix_mono (suc k') k A.code q l s.same)))
      | inr l ↦ absurd (both_ways _ out (rw (holds_cut k A.code p) (eq-eqb _ _ (sym (prefix_mono k k' A.code p l t.same)))))
    ]

-- Where p lies with q in one half of their smallest box with A, that box is also the smallest of A and p.
module _ (A : Box) (q p : ℕ) (s : Parts A (point q)) (far : holds (half (smallest A (point q)) (point q)) p ≡ true) where
  together : prefix (suc (smallest A (point q)).depth) p ≡ prefix (suc (smallest A (point q)).depth) q
  together = eqb-true _ _ (rw (holds_cut (suc (smallest A (point q)).depth) q p) at far)

  pub far_parts : Parting (smallest A (point q)).depth A.code p
  far_parts =
      let k : ℕ = (smallest A (point q)).depth in
      record {
        same = s.same ∙ sym (prefix_mono k (suc k) p q (omega arith) together);
        differ = λ e. s.differ (e ∙ together);
        low = s.low;
      }

  pub far_same : Parts A (point p) → smallest A (point p) ≡ smallest A (point q)
  far_same t =
      let is = parting_only (smallest A (point p)).depth (smallest A (point q)).depth A.code p t far_parts in
      ap (λ (k : ℕ). cut k A.code) is

  pub far_half : half (smallest A (point q)) (point p) ≡ half (smallest A (point q)) (point q)
  far_half = cut_eq (suc (smallest A (point q)).depth) p q together

module _ {K : Type 0} (C : Box) (c : Content K) (q p : Reading K) (ps : List (Reading K)) where
  abbrev E : Box
  E = smallest (extent c) (point_of q)

  abbrev H : Box
  H = half E (extent c)

  abbrev G : Box
  G = half E (point_of q)

  module _ (s : Parts (extent c) (point_of q)) (rank : Ranked ps) where
    abbrev where' : (r : Reading K) → Lies (lies E r) (lies H r) (lies G r)
    where' r = halves E.depth (extent c).code q.code s r.code

    pub child_near : lies H p ≡ true → build C c (q ∷ put p ps) ≡ with_left (build C c (q ∷ ps)) (build H c (put p (filter (lies H) ps)))
    child_near h =
        let f : (lies G p ≡ false) × (outside E p ≡ false) = (grind (arith, where' p), grind (arith, where' p)) in
        build_cons C c q (put p ps) s
        ∙ pair_eq
        (ap (build H c) (keep_put_yes (lies H) p h ps rank))
        (ap (build G (reading q)) (keep_put_no (lies G) p f.0 ps))
        (ap (build C (box E)) (keep_put_no (outside E) p f.1 ps))
        ∙ sym (ap (λ x. with_left x (build H c (put p (filter (lies H) ps)))) (build_cons C c q ps s))

    pub child_far : lies G p ≡ true → build C c (q ∷ put p ps) ≡ with_right (build C c (q ∷ ps)) (build G (reading q) (put p (filter (lies G) ps)))
    child_far h =
        let f : (lies H p ≡ false) × (outside E p ≡ false) = (grind (arith, where' p), grind (arith, where' p)) in
        build_cons C c q (put p ps) s
        ∙ pair_eq
        (ap (build H c) (keep_put_no (lies H) p f.0 ps))
        (ap (build G (reading q)) (keep_put_yes (lies G) p h ps rank))
        (ap (build C (box E)) (keep_put_no (outside E) p f.1 ps))
        ∙ sym (ap (λ x. with_right x (build G (reading q) (put p (filter (lies G) ps)))) (build_cons C c q ps s))

    pub child_out : lies E p ≡ false → build C c (q ∷ put p ps) ≡ with_outer (build C c (q ∷ ps)) (build C (box E) (put p (filter (outside E) ps)))
    child_out h =
        let f : (lies H p ≡ false) × (lies G p ≡ false) = (grind (arith, where' p), grind (arith, where' p)) in
        build_cons C c q (put p ps) s
        ∙ pair_eq
        (ap (build H c) (keep_put_no (lies H) p f.0 ps))
        (ap (build G (reading q)) (keep_put_no (lies G) p f.1 ps))
        (ap (build C (box E)) (keep_put_yes (outside E) p (ap not h) ps rank))
        ∙ sym (ap (λ x. with_outer x (build C (box E) (put p (filter (outside E) ps)))) (build_cons C c q ps s))

    -- p ranks after q: only a child changes
    pub later : before p q ≡ false → build C c (put p (q ∷ ps)) ≡ build C c (q ∷ put p ps)
    later h = rw h

  -- p ranks before q: a child changes and then rises, or stays where it is
  module _ (s : Parts (extent c) (point_of q)) (t : Parts (extent c) (point_of p)) (rank : Ranked (q ∷ ps)) (first : before p q ≡ true) where
    ahead : put p ps ≡ p ∷ ps
    ahead = put_front p ps (all_before p q first ps rank.0)

    pub earlier_near : lies H p ≡ true → build C c (put p (q ∷ ps)) ≡ promote_left (with_left (build C c (q ∷ ps)) (build H c (put p (filter (lies H) ps))))
    earlier_near h =
        rw first (left_rises C c q p ps s t h ∙ ap promote_left (ap (λ l. build C c (q ∷ l)) (sym ahead) ∙ child_near s rank.1 h))

    pub earlier_out : lies E p ≡ false → build C c (put p (q ∷ ps)) ≡ promote_outer (with_outer (build C c (q ∷ ps)) (build C (box E) (put p (filter (outside E) ps))))
    earlier_out h =
        rw first (outer_rises C c p q ps t s (inside_out (extent c) q.code p.code s t h)
        ∙ ap promote_outer (ap (λ l. build C c (q ∷ l)) (sym ahead) ∙ child_out s rank.1 h))

    pub earlier_far : lies G p ≡ true → build C c (put p (q ∷ ps)) ≡ with_right (build C c (q ∷ ps)) (build G (reading p) (q ∷ filter (lies G) ps))
    earlier_far h =
        let own : lies G q ≡ true = holds_own (suc E.depth) q.code in
        let f : (lies H q ≡ false) × (outside E q ≡ false) = (grind (arith, where' s rank.1 q), grind (arith, where' s rank.1 q)) in
        rw first (build_at C c p (q ∷ ps) E H G (far_same (extent c) q.code p.code s h t) refl (far_half (extent c) q.code p.code s h) (far_parts (extent c) q.code p.code s h)
        ∙ pair_eq (ap (build H c) (keep_no (lies H) q ps f.0)) (ap (build G (reading p)) (keep_yes (lies G) q ps own)) (ap (build C (box E)) (keep_no (outside E) q ps f.1))
        ∙ sym (ap (λ x. with_right x (build G (reading p) (q ∷ filter (lies G) ps))) (build_cons C c q ps s)))
