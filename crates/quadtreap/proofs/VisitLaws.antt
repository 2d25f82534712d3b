-- A walk, step by step.
use Rattle.std.proofs.Common.{◌≡◌, ℕ, suc, ◌+◌, true, false, List, ◌∷◌, sym, refl, ap, ◌∙◌, arith}
use Rattle.quadtreap.specs.Tree.{Tree, leaf, shrink, split, outer}
use Rattle.quadtreap.specs.Walk.{Tests, Answer, answer, tally_of, taken, both, walk, Joins, visit, Visits}
use Rattle.quadtreap.specs.Laws.{StepByStep}

answer_eq : {K : Type 0} {s t : K} {m n : ℕ} → s ≡ t → m ≡ n → answer s m ≡ answer t n
answer_eq p q = λ i. record { tally = p i; expanded = q i }

module _ {K : Type 0} (join : K → K → K) (e : K) (q : Tests) (laws : Joins join e) where
  walk_misses : (t : Tree K) → q.misses (outer t) ≡ true → walk join e q t ≡ answer e 0
  walk_misses (leaf C c) h = rw h
  walk_misses (shrink C i a b) h = rw h
  walk_misses (split C i a b) h = rw h

  walk_held : (t : Tree K) → q.misses (outer t) ≡ false → q.held (outer t) ≡ true → walk join e q t ≡ answer (tally_of join e t) 0
  walk_held (leaf C c) h k = rw (h, k)
  walk_held (shrink C i a b) h k = rw (h, k)
  walk_held (split C i a b) h k = rw (h, k)

  neutral_after : (a : K) → join a e ≡ a
  neutral_after a = laws.comm a e ∙ laws.neutral a

  -- the answer of the first tree is known
  visit_one : (x : Answer K) (t : Tree K) (ts : List (Tree K)) (w : Answer K) → walk join e q t ≡ w
      → visit join e q x (t ∷ ts) ≡ visit join e q (answer (join x.tally w.tally) (x.expanded + w.expanded)) ts
  visit_one x t ts w d = ap (λ (w : Answer K). visit join e q (answer (join x.tally w.tally) (x.expanded + w.expanded)) ts) d

  visit_from : {x y : Answer K} (ts : List (Tree K)) → x ≡ y → visit join e q x ts ≡ visit join e q y ts
  visit_from ts d = ap (λ x. visit join e q x ts) d

  visit_both : (x : Answer K) (t a b : Tree K) (ts : List (Tree K)) → walk join e q t ≡ both join (walk join e q a) (walk join e q b)
      → visit join e q x (t ∷ ts) ≡ visit join e q (answer x.tally (suc x.expanded)) (a ∷ b ∷ ts)
  visit_both x t a b ts d =
      visit_one x t ts (both join (walk join e q a) (walk join e q b)) d
      ∙ visit_from ts (answer_eq (sym (laws.assoc x.tally (walk join e q a).tally (walk join e q b).tally)) (omega arith))

  visits : Visits join e q
  visits =
      record {
        start = λ t. answer_eq (laws.neutral (walk join e q t).tally) (omega arith);
        misses = λ x t ts h. visit_one x t ts (answer e 0) (walk_misses t h) ∙ visit_from ts (answer_eq (neutral_after x.tally) (omega arith));
        held = λ x t ts h k. visit_one x t ts (answer (tally_of join e t) 0) (walk_held t h k) ∙ visit_from ts (answer_eq refl (omega arith));
        leaves = λ x C c ts h k. visit_one x (leaf C c) ts (answer (taken e q c) 0) (rw (h, k)) ∙ visit_from ts (answer_eq refl (omega arith));
        shrinks = λ x C i a b ts h k. visit_both x (shrink C i a b) a b ts (rw (h, k));
        splits = λ x C i a b ts h k. visit_both x (split C i a b) a b ts (rw (h, k));
      }

pub step_by_step : {K : Type 0} → StepByStep K
step_by_step join e q laws = visits join e q laws
