-- The number of boxes that cross a disc is at most its crossing sum.
use Rattle.std.proofs.Common.{◌≡◌, ℕ, ◌+◌, ◌-◌, ◌*◌, ◌/◌, ◌^◌, ◌<◌, ◌≤◌, true, false, ◌⊎◌, sym, ◌∙◌, subst, inl, inr, le_of_eq, le_of_suc-le-suc, lt_of_le_of_lt, div-mul-le_self, mul-div_cancel, arith, pow_pos}
use lib.Pow.{shl-shr}
use Rattle.std.proofs.lemmas.Bool.{cases_Bool, leb-true, leb-false, ltb-false, not-true, true≢false, cond_both}
use Rattle.place.specs.Codes.{code_of}
use Rattle.place.specs.Boxes.{prefix, in_box, motor_side, root_side}
use Rattle.place.proofs.BoxLaws.{holds_true}
use Rattle.place.proofs.SideLaws.{box_sides}
use Rattle.crossing.specs.Counting.{count_below}
use Rattle.crossing.specs.Regions.{beyond, crosses, box_at, crossings, Found}
use Rattle.crossing.specs.Discs.{apart, within, coarse, reached, added, crossing_sum}
use Rattle.crossing.specs.Laws.{DiscCrossings}
use Rattle.crossing.proofs.CountLaws.{sum_le, covered_pairs, count_none}
use Rattle.crossing.proofs.SquareLaws.{square_le, root_le, triangle, near, steps, quotient_place}
use Rattle.crossing.proofs.RegionLaws.{crosses_means}

-- the places of a box, by how their codes begin
in_box_at : (k t m r : ℕ) → in_box (box_at k t) m r ≡ true → prefix k (code_of m r) ≡ t
unfolding in_box prefix
in_box_at k t m r h = holds_true (box_at k t) (code_of m r) h ∙ shl-shr t (32 - k)

-- at most radius from the centre along each axis
leg_le : (u v radius : ℕ) → u * u + v * v ≤ radius * radius → u ≤ radius
leg_le u v radius h = root_le u radius (omega arith)

other_leg_le : (u v radius : ℕ) → u * u + v * v ≤ radius * radius → v ≤ radius
other_leg_le u v radius h = root_le v radius (omega arith)

-- the first number with the quotient of m is no larger than m
below : (a m x : ℕ) → m / a ≡ x → m < 2 ^ 16 → x * a < 2 ^ 16
below a m x e h = subst (λ (z : ℕ). z * a < 2 ^ 16) e (lt_of_le_of_lt (div-mul-le_self m a) h)

-- from a place in the inner disc, a step by less than the sides of a box stays in the outer disc
stays : (cm cr radius R a b m r m' r' : ℕ) → radius ≤ R
    → apart m cm * apart m cm + apart r cr * apart r cr ≤ radius * radius
    → apart m' m ≤ a → apart r' r ≤ b
    → a * a + b * b ≤ (R - radius) * (R - radius)
    → apart m' cm * apart m' cm + apart r' cr * apart r' cr ≤ R * R
stays cm cr radius R a b m r m' r' l p hm hr d =
    let e = triangle (apart m cm) (apart r cr) a b radius (R - radius) p d in
    let i : apart m' cm ≤ apart m cm + a = add_up (apart m' cm) (apart m cm) (apart m' m) a (steps cm m m') hm in
    let j : apart r' cr ≤ apart r cr + b = add_up (apart r' cr) (apart r cr) (apart r' r) b (steps cr r r') hr in
    let u = square_le (apart m' cm) (apart m cm + a) i in
    let v = square_le (apart r' cr) (apart r cr + b) j in
    join (apart m' cm * apart m' cm) (apart r' cr * apart r' cr) ((apart m cm + a) * (apart m cm + a)) ((apart r cr + b) * (apart r cr + b))
    (R * R) u v
    (subst (λ (x : ℕ). (apart m cm + a) * (apart m cm + a) + (apart r cr + b) * (apart r cr + b) ≤ x * x)
    (let s : radius + (R - radius) ≡ R = omega arith in s) e)
  where
    add_up : (x y z w : ℕ) → x ≤ y + z → z ≤ w → x ≤ y + w
    add_up x y z w h k = omega arith

    join : (x y z w v : ℕ) → x ≤ z → y ≤ w → z + w ≤ v → x + y ≤ v
    join x y z w v h k l = omega arith

-- only at a coarse depth does a box cross
crosses_coarse : (cm cr radius R k t : ℕ) → radius ≤ R → k ≤ 32
    → crosses (in_box (box_at k t)) (within cm cr radius) (within cm cr R) ≡ true → coarse (R - radius) k ≡ true
unfolding within
crosses_coarse cm cr radius R k t l h e = go (cases_Bool (coarse (R - radius) k))
  where
    f : Found (in_box (box_at k t)) (within cm cr radius) × Found (in_box (box_at k t)) (beyond (within cm cr R))
    f = (crosses_means (in_box (box_at k t)) (within cm cr radius) (within cm cr R)).0 e

    p : Found (in_box (box_at k t)) (within cm cr radius)
    p = f.0

    q : Found (in_box (box_at k t)) (beyond (within cm cr R))
    q = f.1

    same : (q.motor / motor_side k ≡ p.motor / motor_side k) × (q.root / root_side k ≡ p.root / root_side k)
    same = (box_sides k q.motor q.root p.motor p.root h q.motor_lt q.root_lt p.motor_lt p.root_lt).0 (in_box_at k t q.motor q.root q.in_region ∙ sym (in_box_at k t p.motor p.root p.in_region))

    inside : apart p.motor cm * apart p.motor cm + apart p.root cr * apart p.root cr ≤ radius * radius
    inside = leb-true _ _ p.in_set

    outside : R * R < apart q.motor cm * apart q.motor cm + apart q.root cr * apart q.root cr
    outside = leb-false _ _ (not-true (within cm cr R q.motor q.root) q.in_set)

    go : (coarse (R - radius) k ≡ true) ⊎ (coarse (R - radius) k ≡ false) → coarse (R - radius) k ≡ true
    go (inl c) = c
    go (inr c) =
        absurd
        (let d = ltb-false _ _ c in
        let s =
        stays cm cr radius R (motor_side k - 1) (root_side k - 1) p.motor p.root q.motor q.root l inside
        (near (motor_side k) q.motor p.motor (pow_pos (16 - (k + 1) / 2)) same.0)
        (near (root_side k) q.root p.root (pow_pos (16 - k / 2)) same.1)
        d in
        clash (R * R) _ s outside)
      where
        clash : (x y : ℕ) → y ≤ x → x < y → ⊥
        clash x y h k = omega arith

-- a box that crosses is among those that its two quotients give
reached_at : (cm cr radius R k : ℕ) → k ≤ 32
    → count_below (2 ^ k) (λ t. crosses (in_box (box_at k t)) (within cm cr radius) (within cm cr R)) ≤ reached radius k
unfolding within
reached_at cm cr radius R k h =
    covered_pairs (2 * radius / a + 2) (2 * radius / b + 2) (2 ^ k) (λ t. crosses (in_box (box_at k t)) (within cm cr radius) (within cm cr R)) at cover
  where
    a : ℕ
    a = motor_side k

    b : ℕ
    b = root_side k

    at : ℕ → ℕ → ℕ
    at i j = prefix k (code_of (((cm - radius) / a + i) * a) (((cr - radius) / b + j) * b))

    cover : (t : ℕ) → t < 2 ^ k → crosses (in_box (box_at k t)) (within cm cr radius) (within cm cr R) ≡ true
        → (i : ℕ) × ((j : ℕ) × (i < 2 * radius / a + 2) × (j < 2 * radius / b + 2) × (t ≡ at i j))
    cover t l e = (i.0, (j.0, i.1, j.1, sym (in_box_at k t p.motor p.root p.in_region) ∙ same))
      where
        p : Found (in_box (box_at k t)) (within cm cr radius)
        p = ((crosses_means (in_box (box_at k t)) (within cm cr radius) (within cm cr R)).0 e).0

        inside : apart p.motor cm * apart p.motor cm + apart p.root cr * apart p.root cr ≤ radius * radius
        inside = leb-true _ _ p.in_set

        i : (i : ℕ) × (i < 2 * radius / a + 2) × (p.motor / a ≡ (cm - radius) / a + i)
        i = quotient_place a cm radius p.motor (pow_pos (16 - (k + 1) / 2)) (leg_le (apart p.motor cm) (apart p.root cr) radius inside)

        j : (i : ℕ) × (i < 2 * radius / b + 2) × (p.root / b ≡ (cr - radius) / b + i)
        j = quotient_place b cr radius p.root (pow_pos (16 - k / 2)) (other_leg_le (apart p.motor cm) (apart p.root cr) radius inside)

        same : prefix k (code_of p.motor p.root) ≡ at i.0 j.0
        same =
            (box_sides k p.motor p.root (((cm - radius) / a + i.0) * a) (((cr - radius) / b + j.0) * b) h p.motor_lt p.root_lt
            (below a p.motor ((cm - radius) / a + i.0) i.2 p.motor_lt) (below b p.root ((cr - radius) / b + j.0) j.2 p.root_lt)).1 (
              i.2 ∙ sym (mul-div_cancel ((cm - radius) / a + i.0) (pow_pos (16 - (k + 1) / 2))),
              j.2 ∙ sym (mul-div_cancel ((cr - radius) / b + j.0) (pow_pos (16 - k / 2))),
            )

-- how many boxes of one depth cross
depth_bound : (cm cr radius R k : ℕ) → radius ≤ R → k ≤ 32
    → count_below (2 ^ k) (λ t. crosses (in_box (box_at k t)) (within cm cr radius) (within cm cr R)) ≤ added radius (R - radius) k
depth_bound cm cr radius R k l h =
    cond_both (coarse (R - radius) k) (reached radius k) 0 (λ (x : ℕ). count_below (2 ^ k) (λ t. crosses (in_box (box_at k t)) (within cm cr radius) (within cm cr R)) ≤ x)
    (λ _. reached_at cm cr radius R k h)
    (λ c. le_of_eq (count_none (2 ^ k) (λ t. crosses (in_box (box_at k t)) (within cm cr radius) (within cm cr R))
    (λ t _ e. true≢false (sym (crosses_coarse cm cr radius R k t l h e) ∙ c))))

pub disc_crossings : DiscCrossings
unfolding crossings crossing_sum
disc_crossings cm cr radius R l =
    sum_le 33 (λ k. count_below (2 ^ k) (λ t. crosses (in_box (box_at k t)) (within cm cr radius) (within cm cr R))) (λ k. added radius (R - radius) k)
    (λ k h. depth_bound cm cr radius R k l (le_of_suc-le-suc h))
