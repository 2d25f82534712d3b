use Rattle.std.proofs.Common.{◌≡◌, ℕ, ◌+◌, ◌-◌, ◌*◌, ◌/◌, ◌≤◌, min, cond, ltb, sym, ap, ◌∙◌, ap₂, mul-le-mul, div-le_self, arith, pow_mono}
use Rattle.std.proofs.lemmas.Bool.{cond-true, cond-false, lt-ltb, le-ltb}
use Rattle.place.specs.Boxes.{Box, motor_side, root_side}
use Rattle.crossing.specs.Discs.{added}
use Rattle.shape.proofs.discs.added_at.Goals as goal
use Rattle.shape.proofs.discs.added_at.Goals.{After-root_side-b}

-- the level's box has the depth that was asked for
at_depth : (c : After-root_side-b) → c.new-level.result.depth ≡ c.args.depth
at_depth c = let few = c.requires.depths in ap (λ (B : Box). B.depth) c.new-level.ensures.value ∙ (let e : min c.args.depth 32 ≡ c.args.depth = omega arith in e)

motor_is : (c : After-root_side-b) → c.motor_side-a.result ≡ motor_side c.args.depth
motor_is c = c.motor_side-a.ensures.value ∙ ap motor_side (at_depth c)

root_is : (c : After-root_side-b) → c.root_side-b.result ≡ root_side c.args.depth
root_is c = c.root_side-b.ensures.value ∙ ap root_side (at_depth c)

-- what a depth adds, by the sides of its boxes
abbrev by_sides : ℕ → ℕ → ℕ → ℕ → ℕ
by_sides r d a b = cond (ltb (d * d) ((a - 1) * (a - 1) + (b - 1) * (b - 1))) ((2 * r / a + 2) * (2 * r / b + 2)) 0

by_sides_is : (c : After-root_side-b) → by_sides c.args.radius c.args.gap c.motor_side-a.result c.root_side-b.result ≡ added c.args.radius c.args.gap c.args.depth
by_sides_is c = ap₂ (λ (x y : ℕ). by_sides c.args.radius c.args.gap x y) (motor_is c) (root_is c)

side_le : (k : ℕ) → (motor_side k ≤ 65536) × (root_side k ≤ 65536)
side_le k = (
  pow_mono {j = 16} (let q : 16 - (k + 1) / 2 ≤ 16 = omega arith in q),
  pow_mono {j = 16} (let q : 16 - k / 2 ≤ 16 = omega arith in q),
)

square_le : (a : ℕ) → a ≤ 65536 → (a - 1) * (a - 1) ≤ 65535 * 65535
square_le a h = mul-le-mul (let p : a - 1 ≤ 65535 = omega arith in p) (let p : a - 1 ≤ 65535 = omega arith in p)

pub overflow_add-a : goal.overflow_add-a
overflow_add-a c =
    let s = side_le c.args.depth in
    let p : c.motor_side-a.result ≤ 65536 = omega (arith, motor_is c) in
    let q : c.root_side-b.result ≤ 65536 = omega (arith, root_is c) in
    omega (arith, square_le c.motor_side-a.result p, square_le c.root_side-b.result q)

reached_le : (r a b : ℕ) → r ≤ 100000 → (2 * r / a + 2) * (2 * r / b + 2) ≤ 200002 * 200002
reached_le r a b h =
    mul-le-mul
    (let p : 2 * r / a + 2 ≤ 200002 = omega (arith, div-le_self (2 * r) a) in p)
    (let p : 2 * r / b + 2 ≤ 200002 = omega (arith, div-le_self (2 * r) b) in p)

pub returns-then-gap-a : goal.returns-then-gap-a
returns-then-gap-a c =
    record {
      value =
          sym (cond-true _ _ _ (lt-ltb _ _ c.if-gap-a.true)) ∙ by_sides_is (goal.at.returns-then-gap-a c).After-root_side-b;
      bound = reached_le c.args.radius c.motor_side-a.result c.root_side-b.result c.requires.radii;
    }

pub returns-else-gap-a : goal.returns-else-gap-a
returns-else-gap-a c =
    record {
      value =
          sym (cond-false _ _ _ (le-ltb _ _ c.if-gap-a.false)) ∙ by_sides_is (goal.at.returns-else-gap-a c).After-root_side-b;
      bound = omega arith;
    }
