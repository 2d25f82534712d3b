-- A walk counts each reading once, and depends on its tests at boxes and codes of the tree only.
use Rattle.std.proofs.Common.{◌≡◌, ℕ, ◌^◌, ◌<◌, Bool, true, false, cond, List, [], ◌∷◌, ◌++◌, length, sym, refl, ap, ◌∙◌, ap₂, inl, inr, arith}
use Rattle.std.specs.List.{AllByRecursion}
use Rattle.std.proofs.lemmas.Bool.{cases_Bool, both_ways}
use Rattle.std.proofs.ByRecursion.{All-append, All-weaker}
use Rattle.place.specs.Codes.{code_of}
use Rattle.place.specs.Boxes.{Box, whole, holds, Formed}
use Rattle.crossing.specs.Regions.{Places}
use Rattle.quadtreap.specs.Tree.{Reading, reading, box, Tree, leaf, shrink, split, outer, lies, insert, insert_all, build, tree_of}
use Rattle.quadtreap.specs.Rank.{Valid}
use Rattle.quadtreap.specs.Cells.{readings, Celled, total}
use Rattle.quadtreap.specs.Walk.{Tests, Answer, answer, tally_of, met, taken, both, walk, map_walk, Joins, joined, every, map_tally, Agree, asked, is_in}
use Rattle.quadtreap.specs.Theorems.{CountsEachOnce}
use Rattle.quadtreap.specs.Laws.{Totals, SameTests}
use Rattle.place.proofs.SideLaws.{code_of_lem}
use Rattle.quadtreap.proofs.CellLaws.{all_parts, total_insert}
use Rattle.quadtreap.proofs.InsideLaws.{Boxed, Parted, parted_build}
use Rattle.quadtreap.proofs.TestLaws.{Truthful, codes_in, asked_truthful}
use Rattle.quadtreap.proofs.ValidLaws.{valid_cell, valid_celled, valid_boxed, valid_small, valid_codes, celled_outer, all_zip, all_from_insert_all}

-- the codes that a walk takes

abbrev pick : Bool → Bool → Bool → Bool
pick m h below = cond m false (cond h true below)

abbrev picked : {K : Type 0} → Tests → Tree K → ℕ → Bool
picked q (leaf C c) k = pick (q.misses C) (q.held C) (q.has k)
picked q (shrink C i a b) k = pick (q.misses C) (q.held C) (cond (holds (outer a) k) (picked q a k) (picked q b k))
picked q (split C i a b) k = pick (q.misses C) (q.held C) (cond (holds (outer a) k) (picked q a k) (picked q b k))

-- the readings whose codes are in a set
abbrev by_code : {K : Type 0} → (ℕ → Bool) → Reading K → Bool
by_code s r = s r.code

abbrev Fair : Bool → Bool → Bool → Type 0
Fair inner outer s = (inner ≡ true → s ≡ true) × (s ≡ true → outer ≡ true)

module _ (q : Tests) (inner outer' : ℕ → Bool) (tells : Truthful q inner outer') where
  fair_at : (B : Box) (k : ℕ) (w : Bool) → Formed B → k < 2 ^ 32 → holds B k ≡ true → Fair (inner k) (outer' k) w → Fair (inner k) (outer' k) (pick (q.misses B) (q.held B) w)
  fair_at B k w f l h a =
      elim (cases_Bool (q.misses B)) [
        | inl m ↦ rw m (λ i. absurd (both_ways (inner k) (tells.missed B k f l m h) i), λ z. absurd (both_ways false refl z))
        | inr m ↦ elim (cases_Bool (q.held B)) [
          | inl d ↦ rw (m, d) (λ i. refl, λ z. tells.held B k f l d h)
          | inr d ↦ rw (m, d) a
        ]
      ]

  module _ {K : Type 0} where
    abbrev Fairly : Tree K → Reading K → Type 0
    Fairly t r = Fair (inner r.code) (outer' r.code) (picked q t r.code)

    -- a reading of one child
    fair_first : (B : Box) (a b : Tree K) (r : Reading K) → Formed B → r.code < 2 ^ 32 → lies B r ≡ true → lies (outer a) r ≡ true → Fairly a r
        → Fair (inner r.code) (outer' r.code) (pick (q.misses B) (q.held B) (cond (lies (outer a) r) (picked q a r.code) (picked q b r.code)))
    fair_first B a b r f l h o x = fair_at B r.code _ f l h (rw o x)

    fair_second : (B : Box) (a b : Tree K) (r : Reading K) → Formed B → r.code < 2 ^ 32 → lies B r ≡ true → lies (outer a) r ≡ false → Fairly b r
        → Fair (inner r.code) (outer' r.code) (pick (q.misses B) (q.held B) (cond (lies (outer a) r) (picked q a r.code) (picked q b r.code)))
    fair_second B a b r f l h o x = fair_at B r.code _ f l h (rw o x)

    abbrev Small : Reading K → Type 0
    Small r = r.code < 2 ^ 32

    fair_node : (B : Box) (a b : Tree K) → Formed B → AllByRecursion Small (readings a ++ readings b) → AllByRecursion (λ r. lies B r ≡ true) (readings a ++ readings b)
        → AllByRecursion (λ r. lies (outer a) r ≡ true) (readings a) → AllByRecursion (λ r. lies (outer a) r ≡ false) (readings b) → AllByRecursion (Fairly a) (readings a) → AllByRecursion (Fairly b) (readings b)
        → AllByRecursion (λ r. Fair (inner r.code) (outer' r.code) (pick (q.misses B) (q.held B) (cond (lies (outer a) r) (picked q a r.code) (picked q b r.code)))) (readings a ++ readings b)
    fair_node B a b f s l i o x y =
        let ss = all_parts Small (readings a) (readings b) s in
        let ll = all_parts (λ r. lies B r ≡ true) (readings a) (readings b) l in
        All-append _ (readings a) (readings b)
        (All-weaker _ _ (λ r (h : (Small r × (lies B r ≡ true)) × ((lies (outer a) r ≡ true) × Fairly a r)). fair_first B a b r f h.0.0 h.0.1 h.1.0 h.1.1) (readings a)
        (all_zip _ _ (readings a) (all_zip _ _ (readings a) ss.0 ll.0) (all_zip _ _ (readings a) i x)))
        (All-weaker _ _ (λ r (h : (Small r × (lies B r ≡ true)) × ((lies (outer a) r ≡ false) × Fairly b r)). fair_second B a b r f h.0.0 h.0.1 h.1.0 h.1.1) (readings b)
        (all_zip _ _ (readings b) (all_zip _ _ (readings b) ss.1 ll.1) (all_zip _ _ (readings b) o y)))

    fair_tree : (t : Tree K) → Boxed t → Celled t → Parted t → AllByRecursion Small (readings t) → AllByRecursion (Fairly t) (readings t)
    fair_tree (leaf C (reading r)) b c p s =
        (fair_at C r.code (q.has r.code) b s.0 c.0 (λ i. tells.has r.code s.0 ∙ i, λ w. tells.part r.code s.0 (sym (tells.has r.code s.0) ∙ w)), tt)
    fair_tree (leaf C (box I)) b c p s = tt
    fair_tree (shrink C i x y) b c p s =
        let ss = all_parts Small (readings x) (readings y) s in
        fair_node C x y b.0 s (celled_outer (shrink C i x y) c) (celled_outer x c.1) p.0 (fair_tree x b.1 c.1 p.1 ss.0) (fair_tree y b.2 c.2 p.2 ss.1)
    fair_tree (split C i x y) b c p s =
        let ss = all_parts Small (readings x) (readings y) s in
        fair_node C x y b.0 s (celled_outer (split C i x y) c) (celled_outer x c.1) p.0 (fair_tree x b.1 c.1 p.1 ss.0) (fair_tree y b.2 c.2 p.2 ss.1)

-- the tally of a walk, as a sum over the leaves

module _ {K : Type 0} (join : K → K → K) (e : K) (laws : Joins join e) where
  total_same : (f g : Reading K → K) (t : Tree K) → AllByRecursion (λ r. f r ≡ g r) (readings t) → total join e f t ≡ total join e g t
  total_same f g (leaf C (reading r)) a = a.0
  total_same f g (leaf C (box I)) a = refl
  total_same f g (shrink C i x y) a =
      let b = all_parts _ (readings x) (readings y) a in ap₂ join (total_same f g x b.0) (total_same f g y b.1)
  total_same f g (split C i x y) a =
      let b = all_parts _ (readings x) (readings y) a in ap₂ join (total_same f g x b.0) (total_same f g y b.1)

  total_none : (t : Tree K) → total join e (λ r. e) t ≡ e
  total_none (leaf C (reading r)) = refl
  total_none (leaf C (box I)) = refl
  total_none (shrink C i x y) = ap₂ join (total_none x) (total_none y) ∙ laws.neutral e
  total_none (split C i x y) = ap₂ join (total_none x) (total_none y) ∙ laws.neutral e

  -- the tally of a reading in the set s, and else neutral
  abbrev only : (ℕ → Bool) → Reading K → K
  only s r = cond (s r.code) r.tally e

  total_met : (m h : Bool) (below : ℕ → Bool) (x : Answer K) (t : Tree K) → x.tally ≡ total join e (only below) t
      → (cond m (answer e 0) (cond h (answer (tally_of join e t) 0) x)).tally ≡ total join e (only (λ k. pick m h (below k))) t
  total_met true h below x t a = sym (total_none t)
  total_met false true below x t a = refl
  total_met false false below x t a = a

  abbrev either : Tests → Tree K → Tree K → ℕ → Bool
  either q a b k = cond (holds (outer a) k) (picked q a k) (picked q b k)

  only_first : (q : Tests) (a b : Tree K) → AllByRecursion (λ r. lies (outer a) r ≡ true) (readings a) → total join e (only (picked q a)) a ≡ total join e (only (either q a b)) a
  only_first q a b i = total_same _ _ a (All-weaker _ _ (λ r (h : lies (outer a) r ≡ true). sym (rw h)) (readings a) i)

  only_second : (q : Tests) (a b : Tree K) → AllByRecursion (λ r. lies (outer a) r ≡ false) (readings b) → total join e (only (picked q b)) b ≡ total join e (only (either q a b)) b
  only_second q a b o = total_same _ _ b (All-weaker _ _ (λ r (h : lies (outer a) r ≡ false). sym (rw h)) (readings b) o)

  walk_total : (q : Tests) (t : Tree K) → Celled t → Parted t → (walk join e q t).tally ≡ total join e (only (picked q t)) t
  walk_total q (leaf C (reading r)) c p = total_met (q.misses C) (q.held C) q.has (answer (taken e q (reading r)) 0) (leaf C (reading r)) refl
  walk_total q (leaf C (box I)) c p = total_met (q.misses C) (q.held C) q.has (answer e 0) (leaf C (box I)) refl
  walk_total q (shrink C i a b) c p =
      total_met (q.misses C) (q.held C) (either q a b) (both join (walk join e q a) (walk join e q b)) (shrink C i a b)
      (ap₂ join (walk_total q a c.1 p.1 ∙ only_first q a b (celled_outer a c.1)) (walk_total q b c.2 p.2 ∙ only_second q a b p.0))
  walk_total q (split C i a b) c p =
      total_met (q.misses C) (q.held C) (either q a b) (both join (walk join e q a) (walk join e q b)) (split C i a b)
      (ap₂ join (walk_total q a c.1 p.1 ∙ only_first q a b (celled_outer a c.1)) (walk_total q b c.2 p.2 ∙ only_second q a b p.0))

  joined_first : (s : ℕ → Bool) (r : Reading K) (rs : List (Reading K)) → join (only s r) (joined join e (by_code s) rs) ≡ joined join e (by_code s) (r ∷ rs)
  joined_first s r rs =
      elim (s r.code) as (λ v. join (cond v r.tally e) (joined join e (by_code s) rs) ≡ cond v (join r.tally (joined join e (by_code s) rs)) (joined join e (by_code s) rs)) [
        | true ↦ refl
        | false ↦ laws.neutral _
      ]

  total_insert_all : (s : ℕ → Bool) (t : Tree K) (ps : List (Reading K)) → total join e (only s) (insert_all t ps) ≡ join (total join e (only s) t) (joined join e (by_code s) ps)
  total_insert_all s t [] = sym (laws.comm (total join e (only s) t) e ∙ laws.neutral (total join e (only s) t))
  total_insert_all s t (p ∷ ps) =
      total_insert_all s (insert t p) ps
      ∙ ap (λ m. join m (joined join e (by_code s) ps)) (total_insert join e (only s) laws.assoc laws.comm laws.neutral t p)
      ∙ laws.assoc (total join e (only s) t) (only s p) (joined join e (by_code s) ps)
      ∙ ap (join (total join e (only s) t)) (joined_first s p ps)

  joined_append : (xs ys : List (Reading K)) → joined join e every (xs ++ ys) ≡ join (joined join e every xs) (joined join e every ys)
  joined_append [] ys = sym (laws.neutral (joined join e every ys))
  joined_append (x ∷ xs) ys = ap (join x.tally) (joined_append xs ys) ∙ sym (laws.assoc x.tally (joined join e every xs) (joined join e every ys))

  tally_readings : (t : Tree K) → tally_of join e t ≡ joined join e every (readings t)
  tally_readings (leaf C (reading r)) = sym (laws.comm r.tally e ∙ laws.neutral r.tally)
  tally_readings (leaf C (box I)) = refl
  tally_readings (shrink C i x y) = ap₂ join (tally_readings x) (tally_readings y) ∙ sym (joined_append (readings x) (readings y))
  tally_readings (split C i x y) = ap₂ join (tally_readings x) (tally_readings y) ∙ sym (joined_append (readings x) (readings y))

  tally_map : (rs : List (Reading K)) → map_tally join e (tree_of rs) ≡ joined join e every rs
  tally_map [] = refl
  tally_map (r ∷ rs) = total_insert_all (λ k. true) (leaf whole (reading r)) rs

pub totals : {K : Type 0} → Totals K
totals join e laws = (tally_readings join e laws, tally_map join e laws)

-- a walk by truthful tests joins the readings of a set of codes between the two
pub counts_truthful : {K : Type 0} (join : K → K → K) (e : K) → Joins join e → (q : Tests) (inner outer' : ℕ → Bool) → Truthful q inner outer' → (rs : List (Reading K)) → Valid rs
    → (s : ℕ → Bool) × AllByRecursion (λ r. Fair (inner r.code) (outer' r.code) (s r.code)) rs × ((map_walk join e q (tree_of rs)).tally ≡ joined join e (by_code s) rs)
counts_truthful join e laws q inner outer' tells [] v = (λ k. false, tt, refl)
counts_truthful {K} join e laws q inner outer' tells (r ∷ rs) v =
    let t : Tree K = build whole (reading r) rs in
    let f = valid_cell r rs v in
    let celled = valid_celled r rs v in
    let parted = parted_build (length rs) whole (reading r) rs (omega arith) f in
    let fair = all_from_insert_all _ (leaf whole (reading r)) rs (fair_tree q inner outer' tells t (valid_boxed r rs v) celled parted (valid_small r rs v)) in (
      picked q t,
      (fair.0.0, fair.1),
      walk_total join e laws q t celled parted ∙ total_insert_all join e laws (picked q t) (leaf whole (reading r)) rs ∙ joined_first join e laws (picked q t) r rs,
    )

joined_same : {K : Type 0} (join : K → K → K) (e : K) (f g : Reading K → Bool) (rs : List (Reading K)) → AllByRecursion (λ r. f r ≡ g r) rs → joined join e f rs ≡ joined join e g rs
joined_same join e f g [] a = refl
joined_same join e f g (r ∷ rs) a = rw (a.0, joined_same join e f g rs a.1)

pub counts_each_once : {K : Type 0} → CountsEachOnce K
counts_each_once {K} join e laws inner outer' sub rs v =
    let c = counts_truthful join e laws (asked inner outer') (codes_in inner) (codes_in outer') (asked_truthful inner outer' sub) rs v in
    let s : ℕ → Bool = c.0 in
    let S : Places = λ m r. s (code_of m r) in
    let at : AllByRecursion (λ r. is_in S r ≡ s r.code) rs = All-weaker _ _ (λ r l. ap s (code_of_lem r.code l)) rs (valid_codes rs v) in (
      S,
      All-weaker _ _ (λ r (h : (is_in S r ≡ s r.code) × Fair (is_in inner r) (is_in outer' r) (s r.code)). ((λ i. h.0 ∙ h.1.0 i), (λ i. h.1.1 (sym h.0 ∙ i)))) rs
          (all_zip _ _ rs at c.1),
      c.2 ∙ sym (joined_same join e (is_in S) (by_code s) rs at),
    )

-- tests that answer alike have the same walks

module _ {K : Type 0} (join : K → K → K) (e : K) (p q : Tests) (agree : Agree p q) where
  met_same : (C : Box) (own : K) (x y : Answer K) → Formed C → x ≡ y → met e p C own x ≡ met e q C own y
  met_same C own x y f h = rw (agree.misses C f, agree.held C f, h)

  walk_same : (t : Tree K) → Boxed t → AllByRecursion (λ r. r.code < 2 ^ 32) (readings t) → walk join e p t ≡ walk join e q t
  walk_same (leaf C (reading r)) b s = met_same C _ _ _ b (ap (λ v. answer (cond v r.tally e) 0) (agree.has r.code s.0))
  walk_same (leaf C (box I)) b s = met_same C _ _ _ b refl
  walk_same (shrink C i x y) b s =
      let ss = all_parts _ (readings x) (readings y) s in met_same C _ _ _ b.0 (ap₂ (both join) (walk_same x b.1 ss.0) (walk_same y b.2 ss.1))
  walk_same (split C i x y) b s =
      let ss = all_parts _ (readings x) (readings y) s in met_same C _ _ _ b.0 (ap₂ (both join) (walk_same x b.1 ss.0) (walk_same y b.2 ss.1))

pub same_tests : {K : Type 0} → SameTests K
same_tests join e p q agree [] v = refl
same_tests join e p q agree (r ∷ rs) v = walk_same join e p q agree (build whole (reading r) rs) (valid_boxed r rs v) (valid_small r rs v)
