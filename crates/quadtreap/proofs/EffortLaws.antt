-- A walk expands at most as many nodes as the height times the number of boxes that cross.
use Rattle.std.proofs.Common.{◌≡◌, ℕ, zero, suc, ◌+◌, ◌-◌, ◌*◌, ◌^◌, ◌<◌, ◌≤◌, Bool, true, false, cond, not, ◌&&◌, eqb, List, [], ◌∷◌, length, filter, sym, refl, ap, ◌∙◌, subst, inl, inr, arith, shr_lt}
use Rattle.std.proofs.lemmas.Bool.{cases_Bool, cases_eq, both_ways, and_parts, and_from, eqb-true, eq-eqb}
use Rattle.place.specs.Boxes.{prefix, Box, whole, within, smallest, half, Formed}
use Rattle.crossing.specs.Counting.{sum_below, one_if, count_below}
use Rattle.crossing.specs.Regions.{box_at, crosses, crossings, Places}
use Rattle.quadtreap.specs.Tree.{Reading, Content, reading, box, Tree, leaf, shrink, split, point_of, extent, box_in, lies, outside, pair, build, tree_of, height, map_height}
use Rattle.quadtreap.specs.Rank.{Valid}
use Rattle.quadtreap.specs.Walk.{Tests, Answer, answer, tally_of, taken, both, walk, map_walk, asked}
use Rattle.quadtreap.specs.Theorems.{EffortIsBounded}
use Rattle.place.proofs.BoxLaws.{within_refl, within_trans}
use Rattle.crossing.proofs.CountLaws.{sum_le, one_or_none}
use Rattle.quadtreap.proofs.InsideLaws.{Cell, cell_left, cell_right, cell_outer, middle_in, left_in, right_in, halves_apart, not_left, not_right, by_cells, Inside, Off, inside_wider, lying_build, refuted, Boxed}
use Rattle.quadtreap.proofs.ValidLaws.{valid_cell, valid_boxed}

-- how often a box is the outer box of an internal node

abbrev same : Box → Box → Bool
same X B = eqb X.depth B.depth && eqb X.code B.code

same_true : (X B : Box) → same X B ≡ true → X ≡ B
same_true X B h =
    let a = and_parts (eqb X.depth B.depth) (eqb X.code B.code) h in
    let d = eqb-true X.depth B.depth a.0 in
    let c = eqb-true X.code B.code a.1 in
    λ i. record { depth = d i; code = c i }

same_own : (X : Box) → same X X ≡ true
same_own X = and_from _ _ (eq-eqb X.depth X.depth refl) (eq-eqb X.code X.code refl)

-- boxes of which one lies in F and the other does not
differ : (X B F : Box) → within X F ≡ true → within B F ≡ false → one_if (same X B) ≡ 0
differ X B F a b =
    elim (cases_Bool (same X B)) [
      | inl h ↦ absurd (both_ways (within B F) b (subst (λ (Y : Box). within Y F ≡ true) (same_true X B h) a))
      | inr h ↦ rw h
    ]

differ' : (X B F : Box) → within X F ≡ false → within B F ≡ true → one_if (same X B) ≡ 0
differ' X B F a b =
    elim (cases_Bool (same X B)) [
      | inl h ↦ absurd (both_ways (within X F) a (subst (λ (Y : Box). within Y F ≡ true) (sym (same_true X B h)) b))
      | inr h ↦ rw h
    ]

abbrev occurs : {K : Type 0} → Tree K → Box → ℕ
occurs (leaf C c) B = 0
occurs (shrink C i a b) B = one_if (same C B) + (occurs a B + occurs b B)
occurs (split C i a b) B = one_if (same C B) + (occurs a B + occurs b B)

none_inside : {K : Type 0} (F B : Box) → within B F ≡ false → (t : Tree K) → Inside F t → occurs t B ≡ 0
none_inside F B h (leaf C c) a = refl
none_inside F B h (shrink C i x y) a = omega (arith, differ C B F a.0 h, none_inside F B h x a.1, none_inside F B h y a.2)
none_inside F B h (split C i x y) a = omega (arith, differ C B F a.0 h, none_inside F B h x a.1, none_inside F B h y a.2)

none_off : {K : Type 0} (F B : Box) → within B F ≡ true → (t : Tree K) → Off F t → occurs t B ≡ 0
none_off F B h (leaf C c) a = refl
none_off F B h (shrink C i x y) a = omega (arith, differ' C B F a.0 h, none_off F B h x a.1, none_off F B h y a.2)
none_off F B h (split C i x y) a = omega (arith, differ' C B F a.0 h, none_off F B h x a.1, none_off F B h y a.2)

-- The nodes with one outer box lie on one path.
module _ {K : Type 0} (C : Box) (c : Content K) (p : Reading K) (ps : List (Reading K)) (f : Cell C c (p ∷ ps)) (B : Box) where
  abbrev E : Box
  E = smallest (extent c) (point_of p)

  abbrev H : Box
  H = half E (extent c)

  abbrev G : Box
  G = half E (point_of p)

  abbrev L : Tree K
  L = build H c (filter (lies H) ps)

  abbrev R : Tree K
  R = build G (reading p) (filter (lies G) ps)

  abbrev O : Tree K
  O = build C (box E) (filter (outside E) ps)

  left_lies : Inside H L
  left_lies = (lying_build (length (filter (lies H) ps)) H c (filter (lies H) ps) (omega arith) (cell_left C c p ps f)).0

  right_lies : Inside G R
  right_lies = (lying_build (length (filter (lies G) ps)) G (reading p) (filter (lies G) ps) (omega arith) (cell_right C c p ps f)).0

  outer_off : Off E O
  outer_off = (lying_build (length (filter (outside E) ps)) C (box E) (filter (outside E) ps) (omega arith) (cell_outer C c p ps f)).1

  one_path : occurs L B ≤ height L → occurs R B ≤ height R → occurs O B ≤ height O → occurs (pair C (box_in c) E L R O) B ≤ height (pair C (box_in c) E L R O)
  one_path l r o =
      let oneC = one_or_none (same C B) in
      let oneE = one_or_none (same E B) in
      elim (cases_Bool (within B E)) [
        | inr e ↦
            let a = differ E B E (within_refl E) e in
            let x = none_inside E B e L (inside_wider H E (left_in C c p ps f) L left_lies) in
            let y = none_inside E B e R (inside_wider G E (right_in C c p ps f) R right_lies) in
            omega arith
        | inl e ↦
            let z = none_off E B e O outer_off in
            elim (cases_Bool (within B H)) [
              | inl h ↦
                  let y = none_inside G B (refuted (within B G) (halves_apart C c p ps f B h)) R right_lies in
                  let a = differ' E B H (refuted (within E H) (not_left C c p ps f)) h in
                  let b = differ' C B H (refuted (within C H) (λ w. not_left C c p ps f (within_trans E C H (middle_in C c p ps f) w))) h in
                  omega arith
              | inr h ↦
                  let x = none_inside H B h L left_lies in
                  elim (cases_Bool (within B G)) [
                    | inl g ↦
                        let a = differ' E B G (refuted (within E G) (not_right C c p ps f)) g in
                        let b = differ' C B G (refuted (within C G) (λ w. not_right C c p ps f (within_trans E C G (middle_in C c p ps f) w))) g in
                        omega arith
                    | inr g ↦ let y = none_inside G B g R right_lies in omega arith
                  ]
            ]
      ]

occurs_build : {K : Type 0} (n : ℕ) (C : Box) (c : Content K) (ps : List (Reading K)) → length ps ≤ n → Cell C c ps → (B : Box) → occurs (build C c ps) B ≤ height (build C c ps)
occurs_build =
    by_cells (λ C c t. (B : Box) → occurs t B ≤ height t) (λ C c f B. omega arith) (λ C c p ps f l r o B. one_path C c p ps f B (l B) (r B) (o B))

-- sums over all boxes

sum_add : (n : ℕ) (f g : ℕ → ℕ) → sum_below n (λ i. f i + g i) ≡ sum_below n f + sum_below n g
unfolding sum_below
sum_add zero f g = refl
sum_add (suc n) f g = let h = sum_add n f g in omega arith

sum_times : (n m : ℕ) (f : ℕ → ℕ) → sum_below n (λ i. m * f i) ≡ m * sum_below n f
unfolding sum_below
sum_times zero m f = omega arith
sum_times (suc n) m f = let h = sum_times n m f in omega arith

sum_at : (n i : ℕ) (f : ℕ → ℕ) → i < n → f i ≤ sum_below n f
unfolding sum_below
sum_at zero i f l = absurd (omega arith)
sum_at (suc n) i f l =
    elim (cases_eq i n) [
      | inl e ↦ let a : f i ≡ f n = ap f e in omega arith
      | inr d ↦ let a = sum_at n i f (omega arith) in omega arith
    ]

-- over the depths up to 32 and the boxes of each
pub grid : (ℕ → ℕ → ℕ) → ℕ
grid f = sum_below 33 (λ k. sum_below (2 ^ k) (f k))

grid_same : (f g : ℕ → ℕ → ℕ) → ((k t : ℕ) → f k t ≤ g k t) → grid f ≤ grid g
unfolding grid
grid_same f g h = sum_le 33 _ _ (λ k _. sum_le (2 ^ k) (f k) (g k) (λ t _. h k t))

grid_add : (f g : ℕ → ℕ → ℕ) → grid f + grid g ≤ grid (λ k t. f k t + g k t)
unfolding grid
grid_add f g =
    let F : ℕ → ℕ = λ k. sum_below (2 ^ k) (f k) in
    let G : ℕ → ℕ = λ k. sum_below (2 ^ k) (g k) in
    let each : (k : ℕ) → F k + G k ≤ sum_below (2 ^ k) (λ t. f k t + g k t) = λ k. omega (arith, sum_add (2 ^ k) (f k) (g k)) in
    omega (arith, sum_add 33 F G, sum_le 33 (λ k. F k + G k) (λ k. sum_below (2 ^ k) (λ t. f k t + g k t)) (λ k _. each k))

grid_times : (m : ℕ) (f : ℕ → ℕ → ℕ) → grid (λ k t. m * f k t) ≤ m * grid f
unfolding grid
grid_times m f =
    let F : ℕ → ℕ = λ k. sum_below (2 ^ k) (f k) in
    let each : (k : ℕ) → sum_below (2 ^ k) (λ t. m * f k t) ≤ m * F k = λ k. omega (arith, sum_times (2 ^ k) m (f k)) in
    omega (arith, sum_times 33 m F, sum_le 33 (λ k. sum_below (2 ^ k) (λ t. m * f k t)) (λ k. m * F k) (λ k _. each k))

grid_at : (k t : ℕ) (f : ℕ → ℕ → ℕ) → k ≤ 32 → t < 2 ^ k → f k t ≤ grid f
unfolding grid
grid_at k t f l h = omega (arith, sum_at (2 ^ k) t (f k) h, sum_at 33 k (λ j. sum_below (2 ^ j) (f j)) (omega arith))

-- the internal nodes whose boxes cross

leaf_le : {K : Type 0} (u v w : K) (m h : Bool) → (cond m (answer u 0) (cond h (answer v 0) (answer w 0))).expanded ≤ 0
leaf_le u v w true h = omega arith
leaf_le u v w false true = omega arith
leaf_le u v w false false = omega arith

-- a box that neither misses nor is held
abbrev expands : Tests → Box → Bool
expands q B = not (q.misses B) && not (q.held B)

abbrev cross : Tests → ℕ → ℕ → ℕ
cross q k t = one_if (expands q (box_at k t))

few : (k c : ℕ) → k ≤ 32 → c < 2 ^ 32 → prefix k c < 2 ^ k
unfolding prefix
few k c l h = shr_lt k (32 - k) (let e : 32 ≡ k + (32 - k) = omega arith in subst (λ (n : ℕ). c < 2 ^ n) e h)

one_box : (q : Tests) (C : Box) → Formed C → one_if (expands q C) ≤ grid (λ k t. cross q k t * one_if (same C (box_at k t)))
one_box q C f =
    let k : ℕ = C.depth in
    let t : ℕ = prefix k C.code in
    let at = grid_at k t (λ k t. cross q k t * one_if (same C (box_at k t))) f.deep (few k C.code f.deep f.small) in
    let here : cross q k t * one_if (same C (box_at k t)) ≡ one_if (expands q C) * 1 =
    ap (λ (B : Box). one_if (expands q B) * one_if (same C B)) f.clear ∙ ap (λ b. one_if (expands q C) * one_if b) (same_own C) in
    omega arith

once : (b : Bool) (o h : ℕ) → o ≤ h → one_if b * o ≤ h * one_if b
once true o h l = omega arith
once false o h l = omega arith

module _ {K : Type 0} (q : Tests) where
  abbrev crossed : Tree K → ℕ
  crossed (leaf C c) = 0
  crossed (shrink C i a b) = one_if (expands q C) + (crossed a + crossed b)
  crossed (split C i a b) = one_if (expands q C) + (crossed a + crossed b)

  met_le : (e own : K) (m h : Bool) (x : Answer K) (n : ℕ) → x.expanded ≤ suc n → (cond m (answer e 0) (cond h (answer own 0) x)).expanded ≤ one_if (not m && not h) + n
  met_le e own true h x n l = omega arith
  met_le e own false true x n l = omega arith
  met_le e own false false x n l = omega arith

  walk_le : (join : K → K → K) (e : K) (t : Tree K) → (walk join e q t).expanded ≤ crossed t
  walk_le join e (leaf C c) = leaf_le e (tally_of join e (leaf C c)) (taken e q c) (q.misses C) (q.held C)
  walk_le join e (shrink C i a b) =
      let x = walk_le join e a in
      let y = walk_le join e b in
      met_le e (tally_of join e (shrink C i a b)) (q.misses C) (q.held C) (both join (walk join e q a) (walk join e q b)) (crossed a + crossed b) (omega arith)
  walk_le join e (split C i a b) =
      let x = walk_le join e a in
      let y = walk_le join e b in
      met_le e (tally_of join e (split C i a b)) (q.misses C) (q.held C) (both join (walk join e q a) (walk join e q b)) (crossed a + crossed b) (omega arith)

  abbrev weighed : Tree K → ℕ
  weighed t = grid (λ k v. cross q k v * occurs t (box_at k v))

  weighed_node : (C : Box) (a b : Tree K) → Formed C → crossed a ≤ weighed a → crossed b ≤ weighed b
      → one_if (expands q C) + (crossed a + crossed b) ≤ grid (λ k v. cross q k v * (one_if (same C (box_at k v)) + (occurs a (box_at k v) + occurs b (box_at k v))))
  weighed_node C a b f x y =
      let one : ℕ → ℕ → ℕ = λ k v. cross q k v * one_if (same C (box_at k v)) in
      let fst : ℕ → ℕ → ℕ = λ k v. cross q k v * occurs a (box_at k v) in
      let snd : ℕ → ℕ → ℕ = λ k v. cross q k v * occurs b (box_at k v) in
      let all : ℕ → ℕ → ℕ = λ k v. cross q k v * (one_if (same C (box_at k v)) + (occurs a (box_at k v) + occurs b (box_at k v))) in
      let spread : (k v : ℕ) → one k v + (fst k v + snd k v) ≤ all k v = λ k v. omega arith in
      omega (arith, one_box q C f, grid_add fst snd, grid_add one (λ k v. fst k v + snd k v), grid_same (λ k v. one k v + (fst k v + snd k v)) all spread)

  crossed_le : (t : Tree K) → Boxed t → crossed t ≤ weighed t
  crossed_le (leaf C c) b = omega arith
  crossed_le (shrink C i x y) b = weighed_node C x y b.0 (crossed_le x b.1) (crossed_le y b.2)
  crossed_le (split C i x y) b = weighed_node C x y b.0 (crossed_le x b.1) (crossed_le y b.2)

  weighed_le : (t : Tree K) (h : ℕ) → ((B : Box) → occurs t B ≤ h) → weighed t ≤ h * grid (cross q)
  weighed_le t h a =
      let each : (k v : ℕ) → cross q k v * occurs t (box_at k v) ≤ h * cross q k v = λ k v. once (expands q (box_at k v)) (occurs t (box_at k v)) h (a (box_at k v)) in
      let one = grid_same (λ k v. cross q k v * occurs t (box_at k v)) (λ k v. h * cross q k v) each in
      let two : grid (λ k v. h * cross q k v) ≤ h * grid (cross q) = grid_times h (cross q) in
      omega arith

  effort_tree : (join : K → K → K) (e : K) (t : Tree K) → Boxed t → ((B : Box) → occurs t B ≤ height t) → (walk join e q t).expanded ≤ height t * grid (cross q)
  effort_tree join e t b a = omega (arith, walk_le join e t, crossed_le t b, weighed_le t (height t) a)

-- a walk by any tests
pub effort_by_tests : {K : Type 0} (join : K → K → K) (e : K) (q : Tests) (rs : List (Reading K)) → Valid rs
    → (map_walk join e q (tree_of rs)).expanded ≤ map_height (tree_of rs) * grid (cross q)
effort_by_tests join e q [] v = omega arith
effort_by_tests {K} join e q (r ∷ rs) v =
    effort_tree q join e (build whole (reading r) rs) (valid_boxed r rs v) (occurs_build (length rs) whole (reading r) rs (omega arith) (valid_cell r rs v))

-- the boxes that a walk of a shape can expand are those that cross it
grid_crossings : (inner outer' : Places) → grid (cross (asked inner outer')) ≡ crossings inner outer'
unfolding grid crossings count_below crosses
grid_crossings inner outer' = refl

pub effort_is_bounded : {K : Type 0} → EffortIsBounded K
effort_is_bounded join e inner outer' rs v =
    subst (λ (n : ℕ). (map_walk join e (asked inner outer') (tree_of rs)).expanded ≤ map_height (tree_of rs) * n) (grid_crossings inner outer')
    (effort_by_tests join e (asked inner outer') rs v)
