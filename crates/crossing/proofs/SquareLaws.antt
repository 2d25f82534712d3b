-- The triangle inequality in squares, and quotients.
use Rattle.std.proofs.Common.{◌≡◌, ℕ, ◌+◌, ◌-◌, ◌*◌, ◌/◌, ◌%◌, ◌<◌, ◌≤◌, ◌⊎◌, ap, ◌∙◌, subst, inl, inr, mod-lt, div-lt_iff_lt-mul, mul-le-mul, div-add-mod', le-div_iff_mul-le, arith}
use native.Mathlib.Nat.{div-add-mod}
use Rattle.std.proofs.lemmas.Bool.{cases_lt}
use Rattle.crossing.specs.Discs.{apart}

twice_le : (x d : ℕ) → 2 * (x * (x + d)) ≤ x * x + (x + d) * (x + d)
twice_le x d = omega arith

-- twice a product is at most the sum of the squares
pub twice_product : (x y : ℕ) → 2 * (x * y) ≤ x * x + y * y
twice_product x y = go (cases_lt x y)
  where
    go : (x < y) ⊎ (y ≤ x) → 2 * (x * y) ≤ x * x + y * y
    go (inl h) =
        let e : x + (y - x) ≡ y = omega arith in
        subst (λ (z : ℕ). 2 * (x * z) ≤ x * x + z * z) e (twice_le x (y - x))
    go (inr h) =
        let e : y + (x - y) ≡ x = omega arith in
        let i = twice_le y (x - y) in
        let j : 2 * (y * x) ≤ y * y + x * x = subst (λ (z : ℕ). 2 * (y * z) ≤ y * y + z * z) e i in
        omega arith

-- squares grow with their roots
pub square_le : (x y : ℕ) → x ≤ y → x * x ≤ y * y
square_le x y h = mul-le-mul h h

pub cauchy : (u v s t : ℕ) → (u * s + v * t) * (u * s + v * t) ≤ (u * u + v * v) * (s * s + t * t)
cauchy u v s t = omega (arith, twice_product (u * t) (v * s))

pub root_le : (x y : ℕ) → x * x ≤ y * y → x ≤ y
root_le x y h = go (cases_lt y x)
  where
    go : (y < x) ⊎ (x ≤ y) → x ≤ y
    go (inl l) = omega (arith, mul-le-mul l l)
    go (inr l) = l

pub triangle : (u v s t ρ σ : ℕ) → u * u + v * v ≤ ρ * ρ → s * s + t * t ≤ σ * σ
    → (u + s) * (u + s) + (v + t) * (v + t) ≤ (ρ + σ) * (ρ + σ)
triangle u v s t ρ σ h k =
    let d = mul-le-mul h k in
    let e : (u * s + v * t) * (u * s + v * t) ≤ (ρ * σ) * (ρ * σ) = omega (arith, cauchy u v s t) in
    let f = root_le (u * s + v * t) (ρ * σ) e in
    omega arith

-- two numbers with one quotient are less than the divisor apart
pub near : (a x y : ℕ) → 0 < a → x / a ≡ y / a → apart x y ≤ a - 1
near a x y h e =
    let p : a * (x / a) ≡ a * (y / a) = ap (λ (z : ℕ). a * z) e in
    let q = div-add-mod x a in
    let s = div-add-mod y a in
    let i = mod-lt x h in
    let j = mod-lt y h in
    close (a * (x / a)) (x % a) (y % a) q (ap (λ (z : ℕ). z + y % a) p ∙ s) i j
  where
    close : (w i j : ℕ) → w + i ≡ x → w + j ≡ y → i < a → j < a → apart x y ≤ a - 1
    close w i j p q r s = omega arith

-- from a centre by way of p to q
pub steps : (c p q : ℕ) → apart q c ≤ apart p c + apart q p
steps c p q = omega arith

-- the quotients of an interval
pub div_mono : (a x y : ℕ) → 0 < a → x ≤ y → x / a ≤ y / a
div_mono a x y h l = (le-div_iff_mul-le h).1 (omega (arith, div-add-mod' x a))

pub div_sum : (a x y : ℕ) → 0 < a → (x + y) / a < x / a + y / a + 2
div_sum a x y h =
    (div-lt_iff_lt-mul h).1
    (let p = div-add-mod' x a in
    let q = div-add-mod' y a in
    let i = mod-lt x h in
    let j = mod-lt y h in
    let g : x + y < (x / a + y / a + 2) * a = omega arith in
    g)

-- the quotient of a number that is at most ρ from c, counted from that of the least such number
pub quotient_place : (a c ρ m : ℕ) → 0 < a → apart m c ≤ ρ → (i : ℕ) × (i < 2 * ρ / a + 2) × (m / a ≡ (c - ρ) / a + i)
quotient_place a c ρ m h l =
    let low : c - ρ ≤ m = omega arith in
    let high : m ≤ (c - ρ) + 2 * ρ = omega arith in
    let p = div_mono a (c - ρ) m h low in
    let q = div_mono a m ((c - ρ) + 2 * ρ) h high in
    let s = div_sum a (c - ρ) (2 * ρ) h in
    (m / a - (c - ρ) / a, omega arith, omega arith)
