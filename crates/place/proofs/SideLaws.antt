-- A box is a rectangle: its prefix bounds each count by a side, and a box value's code is its lowest corner.
use Rattle.std.proofs.Common.{◌≡◌, ℕ, zero, suc, ◌+◌, ◌-◌, ◌*◌, ◌/◌, ◌%◌, ◌^◌, ◌<◌, ◌≤◌, true, ◌&&◌, leb, ◌↔◌, Decides, sym, ap, ◌∙◌, subst, mul-le-mul_right, mod-lt, div-lt_iff_lt-mul, div-add-mod', sub-add_cancel, arith, pow_pos, pow-add}
use lib.Arith.{digits_div}
use Rattle.std.proofs.lemmas.Nat.{mod-pow-add}
use Rattle.std.proofs.lemmas.Bool.{and_parts, and_from, leb-true, le-leb}
use Rattle.std.proofs.lemmas.Bool.Decides.{same_from_decides}
use Rattle.place.specs.Codes.{code_of, motor_of, root_of, odd_bits, even_bits, Interleaved}
use Rattle.place.specs.Boxes.{prefix, Box, holds, in_box, motor_side, root_side, between}
use Rattle.place.proofs.CodeLaws.{shared, shares, odd_bit, even_bit, again, odd_lt, even_lt, interleave_lt, odd_interleave, even_interleave, half_up}
use Rattle.place.proofs.BoxLaws.{holds_true, true_holds}

-- the bits of a code
pub interleaved : (m r : ℕ) → Interleaved m r (code_of m r)
unfolding code_of
interleaved m r i h =
    let one : 2 * i + 1 ≡ i + i + 1 = omega arith in
    let none : 2 * i ≡ i + i = omega arith in (
      ap (λ (x : ℕ). code_of m r / 2 ^ x % 2) one ∙ odd_bit 16 i m r h,
      ap (λ (x : ℕ). code_of m r / 2 ^ x % 2) none ∙ even_bit 16 i m r h,
    )

-- a code is the code of its place, and a place that of its code
pub code_of_lem : (c : ℕ) → c < 2 ^ 32 → code_of (motor_of c) (root_of c) ≡ c
unfolding code_of motor_of root_of
code_of_lem c h = again 16 c h

pub motor_of_lem : (m r : ℕ) → m < 2 ^ 16 → motor_of (code_of m r) ≡ m
unfolding code_of motor_of
motor_of_lem m r h = odd_interleave 16 m r h

pub root_of_lem : (m r : ℕ) → r < 2 ^ 16 → root_of (code_of m r) ≡ r
unfolding code_of root_of
root_of_lem m r h = even_interleave 16 m r h

pub motor_lt : (c : ℕ) → motor_of c < 2 ^ 16
unfolding motor_of
motor_lt c = odd_lt 16 c

pub root_lt : (c : ℕ) → root_of c < 2 ^ 16
unfolding root_of
root_lt c = even_lt 16 c

pub code_lt : (m r : ℕ) → code_of m r < 2 ^ 32
unfolding code_of
code_lt m r = interleave_lt 16 m r

-- the sides, by how many bits a box leaves open
motor_side_is : (k : ℕ) → k ≤ 32 → 2 ^ ((32 - k) / 2) ≡ motor_side k
motor_side_is k h = ap (λ (x : ℕ). 2 ^ x) (let e : (32 - k) / 2 ≡ 16 - (k + 1) / 2 = omega arith in e)

root_side_is : (k : ℕ) → k ≤ 32 → 2 ^ (suc (32 - k) / 2) ≡ root_side k
root_side_is k h = ap (λ (x : ℕ). 2 ^ x) (let e : suc (32 - k) / 2 ≡ 16 - k / 2 = omega arith in e)

-- two places are in one box exactly when each count is in the same interval of the box's side
pub box_sides : (k m r m' r' : ℕ) → k ≤ 32 → m < 2 ^ 16 → r < 2 ^ 16 → m' < 2 ^ 16 → r' < 2 ^ 16
    → (prefix k (code_of m r) ≡ prefix k (code_of m' r')) ↔ ((m / motor_side k ≡ m' / motor_side k) × (r / root_side k ≡ r' / root_side k))
unfolding code_of prefix
box_sides k m r m' r' h hm hr hm' hr' = (to, from)
  where
    to : prefix k (code_of m r) ≡ prefix k (code_of m' r') → (m / motor_side k ≡ m' / motor_side k) × (r / root_side k ≡ r' / root_side k)
    to e =
        let i = shared 16 (32 - k) m r m' r' hm hr hm' hr' e in (
          subst (λ (x : ℕ). m / x ≡ m' / x) (motor_side_is k h) i.0,
          subst (λ (x : ℕ). r / x ≡ r' / x) (root_side_is k h) i.1,
        )

    from : (m / motor_side k ≡ m' / motor_side k) × (r / root_side k ≡ r' / root_side k) → prefix k (code_of m r) ≡ prefix k (code_of m' r')
    from i =
        shares 16 (32 - k) m r m' r' hm hr hm' hr'
        (subst (λ (x : ℕ). m / x ≡ m' / x) (sym (motor_side_is k h)) i.0)
        (subst (λ (x : ℕ). r / x ≡ r' / x) (sym (root_side_is k h)) i.1)

-- the numbers with the quotient x are an interval
quotient_iff : (a x m : ℕ) → 0 < a → (m / a ≡ x) ↔ ((x * a ≤ m) × (m < x * a + a))
quotient_iff a x m h = (to, from)
  where
    to : m / a ≡ x → (x * a ≤ m) × (m < x * a + a)
    to e =
        let p : m / a * a ≡ x * a = ap (λ (z : ℕ). z * a) e in
        let q = div-add-mod' m a in
        let l = mod-lt m h in
        inside (m / a * a) (m % a) p q l
      where
        inside : (w i : ℕ) → w ≡ x * a → w + i ≡ m → i < a → (x * a ≤ m) × (m < x * a + a)
        inside w i p q l = omega arith

    from : (x * a ≤ m) × (m < x * a + a) → m / a ≡ x
    from b =
        let i : m - x * a < a = omega arith in
        let e : x * a + (m - x * a) ≡ m = omega arith in
        ap (λ (z : ℕ). z / a) (sym e) ∙ digits_div x i

-- an interval of the side 2 ^ s that begins at a multiple of it stays below 2 ^ 16
interval_fits : (s m : ℕ) → s ≤ 16 → m < 2 ^ 16 → m / 2 ^ s * 2 ^ s + 2 ^ s ≤ 2 ^ 16
interval_fits s m h l =
    let e : 2 ^ (16 - s) * 2 ^ s ≡ 2 ^ 16 = sym (pow-add 2 (16 - s) s) ∙ ap (λ (x : ℕ). 2 ^ x) (sub-add_cancel h) in
    let i : m < 2 ^ (16 - s) * 2 ^ s = subst (λ (x : ℕ). m < x) (sym e) l in
    let q = (div-lt_iff_lt-mul (pow_pos s)).1 i in
    let p = mul-le-mul_right (2 ^ s) q in
    subst (λ (x : ℕ). m / 2 ^ s * 2 ^ s + 2 ^ s ≤ x) e (omega (arith, p))

-- zeros below the depth of a box leave zeros below its sides
low_quarter : (j c : ℕ) → c % 2 ^ suc (suc j) ≡ 0 → (c / 4 % 2 ^ j ≡ 0) × (c % 4 ≡ 0)
low_quarter j c h =
    let e : suc (suc j) ≡ j + 2 = omega arith in
    let z : c % 2 ^ (j + 2) ≡ 0 = subst (λ (x : ℕ). c % 2 ^ x ≡ 0) e h in
    omega (arith, mod-pow-add c j 2)

twice_clear : (x y j : ℕ) → x % 2 ^ j ≡ 0 → y ≡ 0 → (x * 2 + y) % 2 ^ suc j ≡ 0
twice_clear x y j h e =
    let q : suc j ≡ j + 1 = omega arith in
    let d : (x * 2 + y) / 2 ^ 1 ≡ x = omega arith in
    let g : (x * 2 + y) / 2 ^ 1 % 2 ^ j ≡ 0 = ap (λ (z : ℕ). z % 2 ^ j) d ∙ h in
    ap (λ (z : ℕ). (x * 2 + y) % 2 ^ z) q ∙ (let o : (x * 2 + y) % 2 ^ (j + 1) ≡ 0 = omega (arith, mod-pow-add (x * 2 + y) j 1) in o)

odd_clear : (n j c : ℕ) → c % 2 ^ j ≡ 0 → odd_bits n c % 2 ^ (j / 2) ≡ 0
unfolding odd_bits
odd_clear n zero c h = omega arith
odd_clear n (suc zero) c h = omega arith
odd_clear zero (suc (suc j)) c h = omega arith
odd_clear (suc n) (suc (suc j)) c h =
    let q = low_quarter j c h in
    let i = odd_clear n j (c / 4) q.0 in
    let z : c / 2 % 2 ≡ 0 = omega arith in
    subst (λ (x : ℕ). odd_bits (suc n) c % 2 ^ x ≡ 0) (sym (half_up j)) (twice_clear (odd_bits n (c / 4)) (c / 2 % 2) (j / 2) i z)

even_clear : (n j c : ℕ) → c % 2 ^ j ≡ 0 → even_bits n c % 2 ^ (suc j / 2) ≡ 0
unfolding even_bits
even_clear n zero c h = omega arith
even_clear zero (suc j) c h = omega arith
even_clear (suc n) (suc zero) c h = omega arith
even_clear (suc n) (suc (suc j)) c h =
    let q = low_quarter j c h in
    let i = even_clear n j (c / 4) q.0 in
    let z : c % 2 ≡ 0 = omega arith in
    subst (λ (x : ℕ). even_bits (suc n) c % 2 ^ x ≡ 0) (sym (half_up (suc j))) (twice_clear (even_bits n (c / 4)) (c % 2) (suc j / 2) i z)

-- an interval of counts of a side, from a count x that is a multiple of it: which counts are in it, and that it stays below 2 ^ 16
in_side : (a x m : ℕ) → 0 < a → x % a ≡ 0 → (m / a ≡ x / a) ↔ ((x ≤ m) × (m < x + a))
in_side a x m h e =
    let begins : x / a * a ≡ x = omega (arith, div-add-mod' x a) in
    subst (λ (y : ℕ). (m / a ≡ x / a) ↔ ((y ≤ m) × (m < y + a))) begins (quotient_iff a (x / a) m h)

side_fits : (s x : ℕ) → s ≤ 16 → x < 2 ^ 16 → x % 2 ^ s ≡ 0 → x + 2 ^ s ≤ 2 ^ 16
side_fits s x h l e =
    let begins : x / 2 ^ s * 2 ^ s ≡ x = omega (arith, div-add-mod' x (2 ^ s)) in
    subst (λ (y : ℕ). y + 2 ^ s ≤ 2 ^ 16) begins (interval_fits s x h l)

-- a place between four ends
pub between_parts : (lm hm lr hr m r : ℕ) → between lm hm lr hr m r ≡ true → (lm ≤ m) × (m ≤ hm) × (lr ≤ r) × (r ≤ hr)
between_parts lm hm lr hr m r e =
    let p = and_parts (leb lm m && leb m hm) (leb lr r && leb r hr) e in
    let u = and_parts (leb lm m) (leb m hm) p.0 in
    let v = and_parts (leb lr r) (leb r hr) p.1 in
    (leb-true lm m u.0, leb-true m hm u.1, leb-true lr r v.0, leb-true r hr v.1)

pub parts_between : (lm hm lr hr m r : ℕ) → (lm ≤ m) × (m ≤ hm) × (lr ≤ r) × (r ≤ hr) → between lm hm lr hr m r ≡ true
parts_between lm hm lr hr m r b =
    and_from (leb lm m && leb m hm) (leb lr r && leb r hr)
    (and_from (leb lm m) (leb m hm) (le-leb lm m b.0) (le-leb m hm b.1))
    (and_from (leb lr r) (leb r hr) (le-leb lr r b.2) (le-leb r hr b.3))

-- A box value of depth k and code c.
module _ (k c : ℕ) (deep : k ≤ 32) (fits : c < 2 ^ 32) (clear : c % 2 ^ (32 - k) ≡ 0) where
  abbrev m₀ : ℕ
  m₀ = motor_of c

  abbrev r₀ : ℕ
  r₀ = root_of c

  motor_clear : m₀ % motor_side k ≡ 0
  unfolding motor_of
  motor_clear = subst (λ (x : ℕ). m₀ % x ≡ 0) (motor_side_is k deep) (odd_clear 16 (32 - k) c clear)

  root_clear : r₀ % root_side k ≡ 0
  unfolding root_of
  root_clear = subst (λ (x : ℕ). r₀ % x ≡ 0) (root_side_is k deep) (even_clear 16 (32 - k) c clear)

  -- where a side ends
  pub last_motor : m₀ + motor_side k ≤ 2 ^ 16
  last_motor = side_fits (16 - (k + 1) / 2) m₀ (omega arith) (motor_lt c) motor_clear

  pub last_root : r₀ + root_side k ≤ 2 ^ 16
  last_root = side_fits (16 - k / 2) r₀ (omega arith) (root_lt c) root_clear

  abbrev box : Box
  box = record { depth = k; code = c }

  -- the places of the box, by the ends of its sides
  inside : (m r : ℕ) → m < 2 ^ 16 → r < 2 ^ 16
      → (holds box (code_of m r) ≡ true) ↔ ((m₀ ≤ m) × (m < m₀ + motor_side k) × (r₀ ≤ r) × (r < r₀ + root_side k))
  inside m r hm hr = (to, from)
    where
      s : (prefix k (code_of m r) ≡ prefix k (code_of m₀ r₀)) ↔ ((m / motor_side k ≡ m₀ / motor_side k) × (r / root_side k ≡ r₀ / root_side k))
      s = box_sides k m r m₀ r₀ deep hm hr (motor_lt c) (root_lt c)

      qm : (m / motor_side k ≡ m₀ / motor_side k) ↔ ((m₀ ≤ m) × (m < m₀ + motor_side k))
      qm = in_side (motor_side k) m₀ m (pow_pos (16 - (k + 1) / 2)) motor_clear

      qr : (r / root_side k ≡ r₀ / root_side k) ↔ ((r₀ ≤ r) × (r < r₀ + root_side k))
      qr = in_side (root_side k) r₀ r (pow_pos (16 - k / 2)) root_clear

      to : holds box (code_of m r) ≡ true → (m₀ ≤ m) × (m < m₀ + motor_side k) × (r₀ ≤ r) × (r < r₀ + root_side k)
      to e =
          let i = s.0 (holds_true box (code_of m r) e ∙ ap (prefix k) (sym (code_of_lem c fits))) in
          let u = qm.0 i.0 in
          let v = qr.0 i.1 in
          (u.0, u.1, v.0, v.1)

      from : (m₀ ≤ m) × (m < m₀ + motor_side k) × (r₀ ≤ r) × (r < r₀ + root_side k) → holds box (code_of m r) ≡ true
      from b = true_holds box (code_of m r) (s.1 (qm.1 (b.0, b.1), qr.1 (b.2, b.3)) ∙ ap (prefix k) (code_of_lem c fits))

  -- the places of the box as a test of the four ends
  pub box_places : (lm hm lr hr m r : ℕ) → lm ≡ m₀ → hm + 1 ≡ m₀ + motor_side k → lr ≡ r₀ → hr + 1 ≡ r₀ + root_side k → m < 2 ^ 16 → r < 2 ^ 16
      → between lm hm lr hr m r ≡ in_box box m r
  unfolding in_box
  box_places lm hm lr hr m r dm em dr er bm br = same_from_decides _ _ ends (inside m r bm br)
    where
      ends : Decides (between lm hm lr hr m r) ((m₀ ≤ m) × (m < m₀ + motor_side k) × (r₀ ≤ r) × (r < r₀ + root_side k))
      ends = (
        (λ e. let p = between_parts lm hm lr hr m r e in omega arith),
        (λ b. parts_between lm hm lr hr m r (omega arith)),
      )
