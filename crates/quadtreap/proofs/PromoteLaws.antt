-- Where two readings next to each other are exchanged, a child of the pair rises over it.
use Rattle.std.proofs.Common.{◌≡◌, ℕ, suc, ◌≤◌, Bool, true, false, not, ◌&&◌, List, [], ◌∷◌, filter, sym, refl, ap, ◌∙◌, subst, subst₂, inl, inr, arith}
use mathlib.Core.Option.{Option, some}
use Rattle.std.proofs.lemmas.Bool.{cases_Bool, cases_lt, eqb-true, eq-eqb}
use Rattle.place.specs.Boxes.{prefix, Box, point, holds, smallest, half}
use Rattle.quadtreap.specs.Tree.{Reading, Content, reading, box, Tree, leaf, shrink, split, point_of, extent, box_in, outer, lies, outside, pair, build}
use Rattle.quadtreap.specs.Pairs.{first, second, inner_box, split_box, left_of, right_of, exchanged, promote_left, promote_outer}
use Rattle.place.proofs.BoxLaws.{Parting, Parts, Lies, halves, parting_flip, points_flip, prefix_mono, prefix_cut, holds_cut, holds_own, cut_eq, smallest_is}
use Rattle.quadtreap.proofs.BuildLaws.{build_cons, outer_insert_all}

-- a node with one child changed
abbrev pub with_left : {K : Type 0} → Tree K → Tree K → Tree K
with_left x t = shrink (outer x) (inner_box x) (split (split_box x) (inner_box (first x)) t (right_of x)) (second x)

abbrev pub with_right : {K : Type 0} → Tree K → Tree K → Tree K
with_right x t = shrink (outer x) (inner_box x) (split (split_box x) (inner_box (first x)) (left_of x) t) (second x)

abbrev pub with_outer : {K : Type 0} → Tree K → Tree K → Tree K
with_outer x t = shrink (outer x) (inner_box x) (first x) t

pub keep_keep : {X : Type 0} (f g h : X → Bool) (each : (x : X) → (g x && f x) ≡ h x) (xs : List X) → filter f (filter g xs) ≡ filter h xs
keep_keep f g h each [] = refl
keep_keep f g h each (x ∷ xs) =
    let e = each x in
    let ih = keep_keep f g h each xs in
    elim (cases_Bool (g x)) [
      | inl yes' ↦ rw (yes') (elim (cases_Bool (f x)) [ inl i ↦ grind arith | inr o ↦ grind arith ])
      | inr no' ↦ grind arith
    ]

pub keep_swap : {X : Type 0} (f g : X → Bool) (xs : List X) → filter f (filter g xs) ≡ filter g (filter f xs)
keep_swap f g xs = keep_keep f g (λ x. f x && g x) (λ x. and_comm (g x) (f x)) xs ∙ sym (keep_keep g f (λ x. f x && g x) (λ x. refl) xs)
  where
    and_comm : (a b : Bool) → (a && b) ≡ (b && a)
    and_comm true true = refl
    and_comm true false = refl
    and_comm false true = refl
    and_comm false false = refl

pub keep_yes : {X : Type 0} (f : X → Bool) (x : X) (xs : List X) → f x ≡ true → filter f (x ∷ xs) ≡ x ∷ filter f xs
keep_yes f x xs e = rw e

pub keep_no : {X : Type 0} (f : X → Bool) (x : X) (xs : List X) → f x ≡ false → filter f (x ∷ xs) ≡ filter f xs
keep_no f x xs e = rw e

pub pair_eq : {K : Type 0} {C : Box} {i : Option Box} {E : Box} {L L' R R' O O' : Tree K} → L ≡ L' → R ≡ R' → O ≡ O' → pair C i E L R O ≡ pair C i E L' R' O'
pair_eq a b c = cc

pub tests_near : (e h g : Bool) → Lies e h g → h ≡ true → (g ≡ false) × (not e ≡ false)
tests_near e h g a n = (grind arith, grind arith)

pub tests_far : (e h g e' h' g' : Bool) → Lies e h g → Lies e' h' g' → (e' ≡ true → h ≡ true) → g ≡ true → (h' ≡ false) × (g' ≡ false) × (not e' ≡ true)
tests_far e h g e' h' g' a b n f = (grind arith, grind arith, grind arith)

tests : (e h g e' h' g' : Bool) → Lies e h g → Lies e' h' g' → (e' ≡ true → h ≡ true)
    → ((h && h') ≡ h') × ((h && g') ≡ g') × ((not e' && g) ≡ g) × ((not e' && not e) ≡ not e)
tests e h g e' h' g' a b n = (grind arith, grind arith, grind arith, grind arith)

-- the tree of a cell with its boxes given
pub build_at : {K : Type 0} (C : Box) (c : Content K) (p : Reading K) (ps : List (Reading K)) (E H G : Box)
    → smallest (extent c) (point_of p) ≡ E → half E (extent c) ≡ H → half E (point_of p) ≡ G → Parting E.depth (extent c).code p.code
    → build C c (p ∷ ps)
    ≡ pair C (box_in c) E (build H c (filter (lies H) ps)) (build G (reading p) (filter (lies G) ps)) (build C (box E) (filter (outside E) ps))
build_at {K} C c p ps E H G isE isH isG s =
    subst₂ (λ (H G : Box). build C c (p ∷ ps) ≡ pair C (box_in c) E (build H c (filter (lies H) ps)) (build G (reading p) (filter (lies G) ps)) (build C (box E) (filter (outside E) ps)))
    isH isG (subst Goal isE (build_cons C c p ps) s)
  where
    Goal : Box → Type 0
    Goal E =
        Parting E.depth (extent c).code p.code → build C c (p ∷ ps)
        ≡ pair C (box_in c) E (build (half E (extent c)) c (filter (lies (half E (extent c))) ps)) (build (half E (point_of p)) (reading p) (filter (lies (half E (point_of p))) ps)) (build C (box E) (filter (outside E) ps))

-- c is the content, and q and p are the next readings. p lies with c in one half of the smallest box E of c and q.
module _ (A : Box) (q p : ℕ) (s : Parts A (point q)) (t : Parts A (point p)) (near : holds (half (smallest A (point q)) A) p ≡ true) where
  pub deeper : suc (smallest A (point q)).depth ≤ (smallest A (point p)).depth
  deeper =
      let k : ℕ = (smallest A (point q)).depth in
      let k' : ℕ = (smallest A (point p)).depth in
      let e : prefix (suc k) p ≡ prefix (suc k) A.code = eqb-true _ _ (rw (holds_cut (suc k) A.code p) at near) in
      elim (cases_lt k k') [
        | inl l ↦ l
        | inr l ↦ absurd (t.differ (prefix_mono (suc k') (suc k) A.code p (omega arith) (sym e)))
      ]

  pub nearer : (x : ℕ) → holds (smallest A (point p)) x ≡ true → holds (half (smallest A (point q)) A) x ≡ true
  nearer x h =
      let k : ℕ = (smallest A (point q)).depth in
      let k' : ℕ = (smallest A (point p)).depth in
      rw (holds_cut (suc k) A.code x)
      (eq-eqb _ _ (prefix_mono (suc k) k' x A.code deeper (eqb-true _ _ (rw (holds_cut k' A.code x) at h))))

  -- the smallest box of q and of the smallest box of c and p is E
  pub again_parts : Parting (smallest A (point q)).depth (smallest A (point p)).code q
  again_parts =
      let k : ℕ = (smallest A (point q)).depth in
      let k' : ℕ = (smallest A (point p)).depth in
      let d = deeper in
      record {
        same = prefix_cut k k' A.code (omega arith) ∙ s.same;
        differ = λ e. s.differ (sym (prefix_cut (suc k) k' A.code d) ∙ e);
        low = s.low;
      }

  pub again : smallest (smallest A (point p)) (point q) ≡ smallest A (point q)
  again =
      let k : ℕ = (smallest A (point q)).depth in
      let k' : ℕ = (smallest A (point p)).depth in
      let d = deeper in
      let l = s.low in
      smallest_is (smallest A (point p)) (point q) k again_parts (omega arith)
      ∙ cut_eq k (smallest A (point p)).code A.code (prefix_cut k k' A.code (omega arith))

  pub again_half : half (smallest A (point q)) (smallest A (point p)) ≡ half (smallest A (point q)) A
  again_half =
      let k : ℕ = (smallest A (point q)).depth in
      let k' : ℕ = (smallest A (point p)).depth in
      cut_eq (suc k) (smallest A (point p)).code A.code (prefix_cut (suc k) k' A.code deeper)

  pub again-Parts : Parts (smallest A (point p)) (point q)
  again-Parts = subst (λ (B : Box). Parting B.depth (smallest A (point p)).code q) (sym again) again_parts

-- The five trees that move where a child rises.
module _ {K : Type 0} (C : Box) (c : Content K) (q p : Reading K) (ps : List (Reading K)) where
  abbrev pub E₁ : Box
  E₁ = smallest (extent c) (point_of q)

  abbrev pub E₂ : Box
  E₂ = smallest (extent c) (point_of p)

  abbrev pub H₁ : Box
  H₁ = half E₁ (extent c)

  abbrev pub deep_left : Tree K
  deep_left = build (half E₂ (extent c)) c (filter (lies (half E₂ (extent c))) ps)

  abbrev pub deep_right : Tree K
  deep_right = build (half E₂ (point_of p)) (reading p) (filter (lies (half E₂ (point_of p))) ps)

  abbrev pub between : Tree K
  between = build H₁ (box E₂) (filter (outside E₂) (filter (lies H₁) ps))

  abbrev pub far_right : Tree K
  far_right = build (half E₁ (point_of q)) (reading q) (filter (lies (half E₁ (point_of q))) ps)

  abbrev pub beyond : Tree K
  beyond = build C (box E₁) (filter (outside E₁) ps)

  module _ (s : Parts (extent c) (point_of q)) (t : Parts (extent c) (point_of p)) (near : lies H₁ p ≡ true) where
    abbrev pub one : (r : Reading K) → Lies (lies E₁ r) (lies H₁ r) (lies (half E₁ (point_of q)) r)
    one r = halves E₁.depth (extent c).code q.code s r.code

    abbrev pub two : (r : Reading K) → Lies (lies E₂ r) (lies (half E₂ (extent c)) r) (lies (half E₂ (point_of p)) r)
    two r = halves E₂.depth (extent c).code p.code t r.code

    abbrev pub nest : (r : Reading K) → lies E₂ r ≡ true → lies H₁ r ≡ true
    nest r = nearer (extent c) q.code p.code s t near r.code

    pub all_tests : (r : Reading K)
        → ((lies H₁ r && lies (half E₂ (extent c)) r) ≡ lies (half E₂ (extent c)) r) × ((lies H₁ r && lies (half E₂ (point_of p)) r) ≡ lies (half E₂ (point_of p)) r)
        × ((outside E₂ r && lies (half E₁ (point_of q)) r) ≡ lies (half E₁ (point_of q)) r) × ((outside E₂ r && outside E₁ r) ≡ outside E₁ r)
    all_tests r = tests (lies E₁ r) (lies H₁ r) (lies (half E₁ (point_of q)) r) (lies E₂ r) (lies (half E₂ (extent c)) r) (lies (half E₂ (point_of p)) r) (one r) (two r) (nest r)

    -- the half of E₁ with c and p
    pub deep_left_lem : build H₁ c (filter (lies H₁) (p ∷ ps)) ≡ pair H₁ (box_in c) E₂ deep_left deep_right between
    deep_left_lem =
        ap (build H₁ c) (keep_yes (lies H₁) p ps near)
        ∙ build_cons H₁ c p (filter (lies H₁) ps) t
        ∙ pair_eq
        (ap (build (half E₂ (extent c)) c) (keep_keep (lies (half E₂ (extent c))) (lies H₁) (lies (half E₂ (extent c))) (λ r. (all_tests r).0) ps))
        (ap (build (half E₂ (point_of p)) (reading p)) (keep_keep (lies (half E₂ (point_of p))) (lies H₁) (lies (half E₂ (point_of p))) (λ r. (all_tests r).1) ps))
        refl

    pub q_tests : (lies (half E₂ (extent c)) q ≡ false) × (lies (half E₂ (point_of p)) q ≡ false) × (outside E₂ q ≡ true)
    q_tests =
        tests_far (lies E₁ q) (lies H₁ q) (lies (half E₁ (point_of q)) q) (lies E₂ q) (lies (half E₂ (extent c)) q) (lies (half E₂ (point_of p)) q)
        (one q) (two q) (nest q) (holds_own (suc E₁.depth) q.code)

    -- what lies outside E₂
    pub deep_outer : build C (box E₂) (filter (outside E₂) (q ∷ ps)) ≡ pair C (some E₂) E₁ between far_right beyond
    deep_outer =
        ap (build C (box E₂)) (keep_yes (outside E₂) q ps q_tests.2)
        ∙ build_at C (box E₂) q (filter (outside E₂) ps) E₁ H₁ (half E₁ (point_of q))
        (again (extent c) q.code p.code s t near) (again_half (extent c) q.code p.code s t near) refl (again_parts (extent c) q.code p.code s t near)
        ∙ pair_eq
        (ap (build H₁ (box E₂)) (keep_swap (lies H₁) (outside E₂) ps))
        (ap (build (half E₁ (point_of q)) (reading q)) (keep_keep (lies (half E₁ (point_of q))) (outside E₂) (lies (half E₁ (point_of q))) (λ r. (all_tests r).2) ps))
        (ap (build C (box E₁)) (keep_keep (outside E₁) (outside E₂) (outside E₁) (λ r. (all_tests r).3) ps))

    pub p_tests : (lies (half E₁ (point_of q)) p ≡ false) × (outside E₁ p ≡ false)
    p_tests = tests_near (lies E₁ p) (lies H₁ p) (lies (half E₁ (point_of q)) p) (one p) near

    pub outer_first : build C c (q ∷ p ∷ ps) ≡ pair C (box_in c) E₁ (pair H₁ (box_in c) E₂ deep_left deep_right between) far_right beyond
    outer_first =
        build_cons C c q (p ∷ ps) s
        ∙ pair_eq
        deep_left_lem
        (ap (build (half E₁ (point_of q)) (reading q)) (keep_no (lies (half E₁ (point_of q))) p ps p_tests.0))
        (ap (build C (box E₁)) (keep_no (outside E₁) p ps p_tests.1))

    pub deep_first : build C c (p ∷ q ∷ ps) ≡ pair C (box_in c) E₂ deep_left deep_right (pair C (some E₂) E₁ between far_right beyond)
    deep_first =
        build_cons C c p (q ∷ ps) t
        ∙ pair_eq
        (ap (build (half E₂ (extent c)) c) (keep_no (lies (half E₂ (extent c))) q ps q_tests.0))
        (ap (build (half E₂ (point_of p)) (reading p)) (keep_no (lies (half E₂ (point_of p))) q ps q_tests.1))
        deep_outer

    pub left_rises : build C c (p ∷ q ∷ ps) ≡ promote_left (build C c (q ∷ p ∷ ps))
    left_rises = deep_first ∙ sym (ap promote_left outer_first)

    pub outer_rises : build C c (q ∷ p ∷ ps) ≡ promote_outer (build C c (p ∷ q ∷ ps))
    outer_rises =
        outer_first
        ∙ ap (λ (H : Box). pair C (box_in c) E₁ (pair H (box_in c) E₂ deep_left deep_right between) far_right beyond)
        (sym (outer_insert_all (leaf H₁ (box E₂)) (filter (outside E₂) (filter (lies H₁) ps))))
        ∙ sym (ap promote_outer deep_first)

-- the first two readings of a cell with no inner box are exchanged
pub first_two_exchanged : {K : Type 0} (C : Box) (r p : Reading K) (ps : List (Reading K)) → Parts (point_of r) (point_of p)
    → build C (reading p) (r ∷ ps) ≡ exchanged (build C (reading r) (p ∷ ps))
first_two_exchanged C r p ps s =
    let E : Box = smallest (point_of r) (point_of p) in
    build_at C (reading p) r ps E (half E (point_of p)) (half E (point_of r)) (points_flip r.code p.code s) refl refl (parting_flip E.depth r.code p.code s)
    ∙ sym (ap exchanged (build_cons C (reading r) p ps s))
