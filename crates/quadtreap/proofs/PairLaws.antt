-- Trees stay made of pairs, and what rank a node carries after striking.
use Rattle.std.proofs.Common.{◌≡◌, ℕ, zero, suc, ◌≤◌, true, false, cond, ◌&&◌, eqb, List, [], ◌∷◌, sym, refl, ◌∙◌, subst, inl, inr, arith}
use mathlib.Core.Option.{Option, none, some}
use Rattle.std.proofs.lemmas.Bool.{cases_Bool, both_ways, cond_both, cond-true, cond-false, and_parts}
use Rattle.place.specs.Boxes.{Box, whole, holds}
use Rattle.quadtreap.specs.Tree.{Reading, Content, reading, box, Tree, leaf, shrink, split, box_in, outer, lies, insert, insert_all, build, tree_of, nodes}
use Rattle.quadtreap.specs.declared.rank.Rank.{Rank}
use Rattle.quadtreap.specs.Pairs.{inner_box, is_leaf, first, left_of, right_of, promote_left, promote_outer, node_rank, creation, earlier_than, is_none, out_of_order, ordered, Frame, on_left, on_right, on_outer, plug, Paired, Fitting}
use Rattle.quadtreap.specs.Enter.{settle}
use Rattle.quadtreap.specs.Strike.{Step, above_leaves, least_of, with_outer_box, to_left, to_right, to_outer, sink_right, sink_left, descend, strike_step, after, strike_in, FittingStep, node_rank_after}
use Rattle.quadtreap.specs.Laws.{StaysPaired, Relabels}
use Rattle.quadtreap.proofs.StrikeLaws.{some_nodes, least_pair}

none_is : (i : Option Box) → is_none i ≡ true → i ≡ none
none_is none h = refl
none_is (some I) h = absurd (both_ways false refl h)

inner_box_insert : {K : Type 0} (t : Tree K) (p : Reading K) → inner_box (insert t p) ≡ inner_box t
inner_box_insert (leaf C c) p = refl
inner_box_insert (shrink C i a b) p = elim (lies (outer a) p) as (λ v. inner_box (cond v (shrink C i (insert a p) b) (shrink C i a (insert b p))) ≡ i) [ true ↦ refl | false ↦ refl ]
inner_box_insert (split C i a b) p = elim (lies (outer a) p) as (λ v. inner_box (cond v (split C i (insert a p) b) (split C i a (insert b p))) ≡ i) [ true ↦ refl | false ↦ refl ]

paired_planted : {K : Type 0} (C : Box) (c : Content K) (p : Reading K) → Paired (insert (leaf C c) p)
paired_planted C c p = (record { same = refl; left = refl; right = refl; out = refl }, tt, tt, tt)

paired_insert : {K : Type 0} (t : Tree K) (p : Reading K) → Paired t → Paired (insert t p)
paired_insert (leaf C c) p a = paired_planted C c p
paired_insert (split E j x y) p a = absurd a
paired_insert (shrink C i (leaf B c) y) p a = absurd a
paired_insert (shrink C i (shrink B j x d) y) p a = absurd a
paired_insert {K} (shrink C i (split E j L R) O) p a =
    let g = a.0 in
    cond_both (lies E p) (shrink C i (cond (lies (outer L) p) (split E j (insert L p) R) (split E j L (insert R p))) O) (shrink C i (split E j L R) (insert O p)) Paired
    (λ _. cond_both (lies (outer L) p) (split E j (insert L p) R) (split E j L (insert R p)) (λ (t : Tree K). Paired (shrink C i t O))
    (λ _. (record { same = g.same; left = inner_box_insert L p ∙ g.left; right = g.right; out = g.out }, paired_insert L p a.1, a.2, a.3))
    (λ _. (record { same = g.same; left = g.left; right = inner_box_insert R p ∙ g.right; out = g.out }, a.1, paired_insert R p a.2, a.3)))
    (λ _. (record { same = g.same; left = g.left; right = g.right; out = inner_box_insert O p ∙ g.out }, a.1, a.2, paired_insert O p a.3))

paired_insert_all : {K : Type 0} (t : Tree K) (ps : List (Reading K)) → Paired t → Paired (insert_all t ps) × (inner_box (insert_all t ps) ≡ inner_box t)
paired_insert_all t [] a = (a, refl)
paired_insert_all t (p ∷ ps) a = let b = paired_insert_all (insert t p) ps (paired_insert t p a) in (b.0, b.1 ∙ inner_box_insert t p)

paired_tree : {K : Type 0} (rs : List (Reading K)) (t : Tree K) → tree_of rs ≡ some t → Paired t × (inner_box t ≡ none)
paired_tree [] t e = absurd (let z : ◌≡◌ {A = ℕ} 0 1 = cc in omega arith)
paired_tree (r ∷ rs) t e =
    let is : build whole (reading r) rs ≡ t = cc in subst (λ t. Paired t × (inner_box t ≡ none)) is (paired_insert_all (leaf whole (reading r)) rs tt)

module _ {K : Type 0} (C : Box) (i : Option Box) (E : Box) (j : Option Box) where
  abbrev both : Tree K → Tree K → Tree K → Tree K
  both L R O = shrink C i (split E j L R) O

  paired_exchanged : (L R O : Tree K) → is_none i ≡ true → Paired (both L R O) → Paired (both R L O)
  paired_exchanged L R O h a =
      let n = none_is i h in
      let g = a.0 in (record { same = g.same; left = g.right ∙ sym n; right = g.left ∙ n; out = g.out }, a.2, a.1, a.3)

  paired_ordered : (L R O : Tree K) → Paired (both L R O) → Paired (ordered (both L R O)) × (inner_box (ordered (both L R O)) ≡ i)
  paired_ordered L R O a =
      cond_both (out_of_order (both L R O)) (both R L O) (both L R O) (λ t. Paired t × (inner_box t ≡ i)) (λ h. (paired_exchanged L R O (and_parts (is_none i) _ h).0 a, refl)) (λ _. (a, refl))

-- a left or outer child that is a pair rises
paired_left : {K : Type 0} (C : Box) (i : Option Box) (E : Box) (j : Option Box) (L R O : Tree K) (r : Option Rank) → earlier_than (creation L) r ≡ true → Paired (shrink C i (split E j L R) O)
    → (let t = promote_left (shrink C i (split E j L R) O) in (Paired t × (inner_box t ≡ i)) × (Paired (ordered t) × (inner_box (ordered t) ≡ i)))
paired_left C i E j (leaf B c) R O r s a = absurd (both_ways false refl s)
paired_left C i E j (split B k x y) R O r s a = absurd (both_ways false refl s)
paired_left C i E j (shrink B k (leaf D c) y) R O r s a = absurd a.1
paired_left C i E j (shrink B k (shrink D l x z) y) R O r s a = absurd a.1
paired_left C i E j (shrink B k (split D l x z) y) R O r s a =
    let g = a.0 in
    let h = a.1.0 in
    let b : Paired (promote_left (shrink C i (split E j (shrink B k (split D l x z) y) R) O)) = (
      record { same = h.same; left = h.left; right = h.right; out = refl },
      a.1.1,
      a.1.2,
      (record { same = refl; left = h.out; right = g.right; out = g.out }, a.1.3, a.2, a.3),
    ) in
    let t = paired_ordered C k D l x z (shrink C (some D) (split E (some D) y R) O) b in
    ((b, g.left), (t.0, t.1 ∙ g.left))

paired_outer : {K : Type 0} (C : Box) (i : Option Box) (E : Box) (j : Option Box) (L R O : Tree K) (r : Option Rank) → earlier_than (creation O) r ≡ true → Paired (shrink C i (split E j L R) O)
    → (let t = promote_outer (shrink C i (split E j L R) O) in (Paired t × (inner_box t ≡ i)) × (Paired (ordered t) × (inner_box (ordered t) ≡ i)))
paired_outer C i E j L R (leaf B c) r s a = absurd (both_ways false refl s)
paired_outer C i E j L R (split B k x y) r s a = absurd (both_ways false refl s)
paired_outer C i E j L R (shrink B k (leaf D c) y) r s a = absurd a.3
paired_outer C i E j L R (shrink B k (shrink D l x z) y) r s a = absurd a.3
paired_outer C i E j L R (shrink B k (split D l x z) y) r s a =
    let g = a.0 in
    let h = a.3.0 in
    let b : Paired (promote_outer (shrink C i (split E j L R) (shrink B k (split D l x z) y))) = (
      record { same = refl; left = refl; right = h.right; out = h.out },
      (record { same = g.same; left = g.left; right = g.right; out = h.left ∙ g.out }, a.1, a.2, a.3.1),
      a.3.2,
      a.3.3,
    ) in
    ((b, refl), paired_ordered B i D i (shrink (outer x) i (split E j L R) x) z y b)

paired_plug : {K : Type 0} (f : Frame K) (t : Tree K) → Fitting f t → Paired (plug f t)
paired_plug (on_left C i E j R O) t a = a
paired_plug (on_right C i E j L O) t a = a
paired_plug (on_outer C i E j L R) t a = a

paired_settle : {K : Type 0} (f : Frame K) (t : Tree K) → Fitting f t → Paired (settle f t) × (inner_box (settle f t) ≡ inner_box (plug f t))
paired_settle (on_left C i E j R O) t a =
    cond_both (earlier_than (creation t) (some (node_rank R))) (ordered (promote_left (shrink C i (split E j t R) O))) (ordered (shrink C i (split E j t R) O)) (λ t. Paired t × (inner_box t ≡ i))
    (λ s. (paired_left C i E j t R O (some (node_rank R)) s a).1) (λ _. paired_ordered C i E j t R O a)
paired_settle (on_right C i E j L O) t a = paired_ordered C i E j L t O a
paired_settle (on_outer C i E j L R) t a =
    cond_both (earlier_than (creation t) (some (node_rank R))) (ordered (promote_outer (shrink C i (split E j L R) t))) (shrink C i (split E j L R) t) (λ t. Paired t × (inner_box t ≡ i))
    (λ s. (paired_outer C i E j L R t (some (node_rank R)) s a).1) (λ _. (a, refl))

paired_with_outer_box : {K : Type 0} (B : Box) (t : Tree K) → Paired t → Paired (with_outer_box B t) × (inner_box (with_outer_box B t) ≡ inner_box t)
paired_with_outer_box B (leaf C c) a = (tt, refl)
paired_with_outer_box B (split E j x y) a = absurd a
paired_with_outer_box B (shrink C i (leaf D c) y) a = absurd a
paired_with_outer_box B (shrink C i (shrink D j x d) y) a = absurd a
paired_with_outer_box B (shrink C i (split E j L R) O) a = (a, refl)

-- each child of a pair, to go on with
paired_to : {K : Type 0} (x : Tree K) (i : Option Box) → is_leaf x ≡ false → Paired x → inner_box x ≡ i → FittingStep i (to_left x) × FittingStep i (to_right x) × FittingStep i (to_outer x)
paired_to (leaf C c) n h a g = absurd (both_ways true h refl)
paired_to (split E j x y) n h a g = absurd a
paired_to (shrink C i (leaf D c) y) n h a g = absurd a
paired_to (shrink C i (shrink D j x d) y) n h a g = absurd a
paired_to (shrink C i (split E j L R) O) n h a g = ((a, g), (a, g), (a, g))

paired_step : {K : Type 0} (t : Tree K) (k : ℕ) → Paired t → FittingStep (inner_box t) (strike_step t k)
paired_step (leaf C c) k a = (tt, refl)
paired_step (split E j x y) k a = absurd a
paired_step (shrink C i (leaf D c) y) k a = absurd a
paired_step (shrink C i (shrink D j x d) y) k a = absurd a
paired_step {K} (shrink C i (split E j L R) O) k a =
    let x : Tree K = shrink C i (split E j L R) O in
    let m : Tree K = shrink C i (split E j R L) O in
    let P : Step K → Type 0 = FittingStep i in
    let left = λ (h : least_of (creation L) (creation R) (creation O) ≡ true). (paired_left C i E j L R O (creation R) (and_parts _ _ h).0 a).0 in
    let out = λ (h : least_of (creation O) (creation L) (creation R) ≡ true). (paired_outer C i E j L R O (creation L) (and_parts _ _ h).0 a).0 in
    let keepL = paired_with_outer_box C L a.1 in
    let keepR = paired_with_outer_box C R a.2 in
    cond_both (eqb k (node_rank R).code) (sink_right x) _ P
    (λ _. cond_both (above_leaves x) _ _ P (λ _. (keepL.0, keepL.1 ∙ a.0.left)) (λ _.
    cond_both (least_of (creation L) (creation R) (creation O)) _ _ P (λ h. (paired_to (promote_left x) i refl (left h).0 (left h).1).2) (λ _.
    cond_both (least_of (creation O) (creation L) (creation R)) _ _ P (λ h. (paired_to (promote_outer x) i refl (out h).0 (out h).1).0) (λ _. (paired_to x i refl a refl).1))))
    (λ _. cond_both (is_none i && eqb k (node_rank L).code) (sink_left x) (descend x k) P
    (λ w. let z = (and_parts (is_none i) _ w).0 in
    let b = paired_exchanged C i E j L R O z a in
    let right = λ (h : least_of (creation R) (creation L) (creation O) ≡ true). (paired_left C i E j R L O (creation L) (and_parts _ _ h).0 b).0 in
    cond_both (above_leaves x) _ _ P (λ _. (keepR.0, keepR.1 ∙ a.0.right ∙ sym (none_is i z))) (λ _.
    cond_both (least_of (creation R) (creation L) (creation O)) _ _ P (λ h. (paired_to (promote_left m) i refl (right h).0 (right h).1).2) (λ _.
    cond_both (least_of (creation O) (creation L) (creation R)) _ _ P (λ h. (paired_to (promote_outer x) i refl (out h).0 (out h).1).0) (λ _. (paired_to m i refl b refl).1))))
    (λ _. cond_both (holds E k) _ _ P (λ _. cond_both (holds (outer L) k) _ _ P (λ _. (paired_to x i refl a refl).0) (λ _. (paired_to x i refl a refl).1)) (λ _. (paired_to x i refl a refl).2)))

pub stays_paired : {K : Type 0} → StaysPaired K
stays_paired = (
  paired_tree,
  λ C c p. paired_ordered C (box_in c) _ (box_in c) (leaf _ c) (leaf _ (reading p)) (leaf C (box _)) (paired_planted C c p),
  λ f t a. let s = paired_settle f t a in (paired_plug f t a, s.0, s.1),
  paired_step,
)

-- the rank that striking leaves

node_rank_with_outer_box : {K : Type 0} (B : Box) (t : Tree K) → node_rank (with_outer_box B t) ≡ node_rank t
node_rank_with_outer_box B (leaf C (reading r)) = refl
node_rank_with_outer_box B (leaf C (box I)) = refl
node_rank_with_outer_box B (shrink C none x y) = refl
node_rank_with_outer_box B (shrink C (some I) x y) = refl
node_rank_with_outer_box B (split C none x y) = refl
node_rank_with_outer_box B (split C (some I) x y) = refl

some_none : (I : Box) → ◌≡◌ {A = Option Box} (some I) none → ⊥
some_none I e = let z : ◌≡◌ {A = ℕ} 0 1 = cc in omega arith

-- a node whose left child's first reading stays keeps its rank
node_rank_stays : {K : Type 0} (t : Tree K) (k : ℕ) → Paired t → inner_box t ≡ none → eqb k (node_rank t).code ≡ false → node_rank_after t k ≡ node_rank t
node_rank_stays (leaf C c) k a g e = refl
node_rank_stays (split E j x y) k a g e = absurd a
node_rank_stays (shrink C i (leaf D c) y) k a g e = absurd a
node_rank_stays (shrink C i (shrink D j x d) y) k a g e = absurd a
node_rank_stays (shrink C (some I) (split E j L R) O) k a g e = absurd (some_none I g)
node_rank_stays (shrink C none (split E (some J) L R) O) k a g e = absurd (some_none J a.0.same)
node_rank_stays (shrink C none (split E none L R) O) k a g e =
    elim (eqb k (node_rank R).code) as (λ v. cond v (node_rank L) (cond (eqb k (node_rank L).code) (node_rank R) (node_rank L)) ≡ node_rank L) [ true ↦ refl | false ↦ cond-false _ _ _ e ]

-- a risen left child keeps its rank
node_rank_risen : {K : Type 0} (L : Tree K) (r s : Option Rank) → least_of (creation L) r s ≡ true → Paired L → inner_box L ≡ none → (B : Box) (t : Tree K)
    → node_rank (shrink B (inner_box L) (split (outer (first L)) (inner_box (first L)) (left_of L) (right_of L)) t) ≡ node_rank L
node_rank_risen (leaf C c) r s h a g B t = absurd (both_ways false refl h)
node_rank_risen (split C k x y) r s h a g B t = absurd a
node_rank_risen (shrink C k (leaf D c) y) r s h a g B t = absurd a
node_rank_risen (shrink C k (shrink D l x z) y) r s h a g B t = absurd a
node_rank_risen (shrink C (some I) (split D l x z) y) r s h a g B t = absurd (some_none I g)
node_rank_risen (shrink C none (split D l x z) y) r s h a g B t = refl

node_rank_in : {K : Type 0} (n : ℕ) (t : Tree K) (k : ℕ) → nodes t ≤ n → Paired t → inner_box t ≡ none → node_rank (strike_in n t k) ≡ node_rank_after t k
node_rank_in zero t k l a g = absurd (omega (arith, some_nodes t))
node_rank_in (suc n) (leaf C c) k l a g = refl
node_rank_in (suc n) (split E j x y) k l a g = absurd a
node_rank_in (suc n) (shrink C i (leaf D c) y) k l a g = absurd a
node_rank_in (suc n) (shrink C i (shrink D j x d) y) k l a g = absurd a
node_rank_in (suc n) (shrink C (some I) (split E j L R) O) k l a g = absurd (some_none I g)
node_rank_in (suc n) (shrink C none (split E (some J) L R) O) k l a g = absurd (some_none J a.0.same)
node_rank_in {K} (suc n) (shrink C none (split E none L R) O) k l a g =
    let x : Tree K = shrink C none (split E none L R) O in
    let m : Tree K = shrink C none (split E none R L) O in
    let f : Tree K → Tree K = λ u. strike_in n u k in
    let P : Rank → Step K → Type 0 = λ r s. node_rank (after f s) ≡ r in
    let under : Tree K = left_of (promote_outer x) in
    let paired = λ (h : least_of (creation O) (creation L) (creation R) ≡ true). (paired_outer C none E none L R O (creation L) (and_parts _ _ h).0 a).0.0.1 in
    let sunk = λ (h : least_of (creation O) (creation L) (creation R) ≡ true). node_rank_in n under k (omega (arith, least_pair O (creation L) (creation R) h)) (paired h) refl in
    elim (cases_Bool (eqb k (node_rank R).code)) [
      | inl e ↦ rw e (cond_both (above_leaves x) _ _ (P (node_rank L)) (λ _. node_rank_with_outer_box C L) (λ _.
          cond_both (least_of (creation L) (creation R) (creation O)) _ _ (P (node_rank L)) (λ h. node_rank_risen L (creation R) (creation O) h a.1 a.0.left C _) (λ _.
          cond_both (least_of (creation O) (creation L) (creation R)) _ _ (P (node_rank L)) (λ h. sunk h ∙ cond-true _ _ _ e) (λ _. refl))))
      | inr e ↦ elim (cases_Bool (eqb k (node_rank L).code)) [
        | inl d ↦ rw (e, d) (cond_both (above_leaves x) _ _ (P (node_rank R)) (λ _. node_rank_with_outer_box C R) (λ _.
            cond_both (least_of (creation R) (creation L) (creation O)) _ _ (P (node_rank R)) (λ h. node_rank_risen R (creation L) (creation O) h a.2 a.0.right C _) (λ _.
            cond_both (least_of (creation O) (creation L) (creation R)) _ _ (P (node_rank R)) (λ h. sunk h ∙ cond-false _ _ _ e ∙ cond-true _ _ _ d) (λ _. refl))))
        | inr d ↦ rw (e, d) (cond_both (holds E k) _ _ (P (node_rank L))
            (λ _. cond_both (holds (outer L) k) _ _ (P (node_rank L)) (λ _. node_rank_in n L k (omega arith) a.1 a.0.left ∙ node_rank_stays L k a.1 a.0.left d) (λ _. refl)) (λ _. refl))
      ]
    ]

pub relabels : {K : Type 0} → Relabels K
relabels t k a g = node_rank_in (nodes t) t k (omega arith) a g
