use Rattle.std.proofs.Common.{◌≡◌, ℕ, suc, ◌+◌, ◌-◌, ◌*◌, ◌/◌, ◌%◌, ◌^◌, ◌<◌, ◌≤◌, sym, refl, ap, ◌∙◌, subst, ap₂, div-one, arith, pow_mono, shr-shr}
use Rattle.place.specs.Codes.{odd_bits, even_bits, motor_of, root_of, code_of}
use Rattle.place.proofs.CodeLaws.{odd_lt, even_lt}
use Rattle.place.proofs.SideLaws.{code_of_lem}
use Rattle.place.proofs.place.Place.of_code.Goals as goal

-- a count of i bits has room for one more
room : (i x : ℕ) → i < 16 → x < 2 ^ i → x * 2 + 1 < 2 ^ 16
room i x h l =
    let p : 2 ^ i ≤ 2 ^ 15 = pow_mono (let q : i ≤ 15 = omega arith in q) in
    omega arith

-- the bits that are left, by two more
quarter_of : (c i : ℕ) → i < 16 → c / 2 ^ (30 - i * 2) / 4 ≡ c / 2 ^ (32 - i * 2)
quarter_of c i h = shr-shr c (30 - i * 2) 2 ∙ ap (λ (x : ℕ). c / 2 ^ x) (let e : 30 - i * 2 + 2 ≡ 32 - i * 2 = omega arith in e)

one_odd : (i c x : ℕ) → i < 16 → x ≡ odd_bits i (c / 2 ^ (32 - i * 2))
    → x * 2 + c / 2 ^ (30 - i * 2) % 4 / 2 ≡ odd_bits (i + 1) (c / 2 ^ (32 - (i + 1) * 2))
unfolding odd_bits
one_odd i c x h e =
    let d : x ≡ odd_bits i (c / 2 ^ (30 - i * 2) / 4) = e ∙ sym (ap (λ (y : ℕ). odd_bits i y) (quarter_of c i h)) in
    let g : x * 2 + c / 2 ^ (30 - i * 2) % 4 / 2 ≡ odd_bits (suc i) (c / 2 ^ (30 - i * 2)) = omega arith in
    g ∙ ap₂ (λ (y z : ℕ). odd_bits y (c / 2 ^ z))
    (let q : suc i ≡ i + 1 = omega arith in q) (let q : 30 - i * 2 ≡ 32 - (i + 1) * 2 = omega arith in q)

one_even : (i c x : ℕ) → i < 16 → x ≡ even_bits i (c / 2 ^ (32 - i * 2))
    → x * 2 + c / 2 ^ (30 - i * 2) % 4 % 2 ≡ even_bits (i + 1) (c / 2 ^ (32 - (i + 1) * 2))
unfolding even_bits
one_even i c x h e =
    let d : x ≡ even_bits i (c / 2 ^ (30 - i * 2) / 4) = e ∙ sym (ap (λ (y : ℕ). even_bits i y) (quarter_of c i h)) in
    let g : x * 2 + c / 2 ^ (30 - i * 2) % 4 % 2 ≡ even_bits (suc i) (c / 2 ^ (30 - i * 2)) = omega arith in
    g ∙ ap₂ (λ (y z : ℕ). even_bits y (c / 2 ^ z))
    (let q : suc i ≡ i + 1 = omega arith in q) (let q : 30 - i * 2 ≡ 32 - (i + 1) * 2 = omega arith in q)

pub loop-i-init : goal.loop-i-init
unfolding odd_bits even_bits
loop-i-init c = (refl, refl)

-- the counts so far have i bits
motor-room : (c : goal.In-loop-i) → c.loop-i.motor * 2 + 1 < 2 ^ 16
motor-room c =
    room c.loop-i.i c.loop-i.motor c.loop-i-test.true
    (subst (λ (x : ℕ). x < 2 ^ c.loop-i.i) (sym c.loop-i.invariant.0) (odd_lt c.loop-i.i (c.args.code / 2 ^ (32 - c.loop-i.i * 2))))

root-room : (c : goal.In-loop-i) → c.loop-i.root * 2 + 1 < 2 ^ 16
root-room c =
    room c.loop-i.i c.loop-i.root c.loop-i-test.true
    (subst (λ (x : ℕ). x < 2 ^ c.loop-i.i) (sym c.loop-i.invariant.1) (even_lt c.loop-i.i (c.args.code / 2 ^ (32 - c.loop-i.i * 2))))

pub overflow_mul-motor : goal.overflow_mul-motor
overflow_mul-motor c = omega (arith, motor-room c)

pub overflow_add-motor : goal.overflow_add-motor
overflow_add-motor c = omega (arith, motor-room c)

pub overflow_mul-root : goal.overflow_mul-root
overflow_mul-root c = omega (arith, root-room c)

pub overflow_add-root : goal.overflow_add-root
overflow_add-root c = omega (arith, root-room c)

pub loop-i-preserved : goal.loop-i-preserved
loop-i-preserved c = (
  one_odd c.loop-i.i c.args.code c.loop-i.motor c.loop-i-test.true c.loop-i.invariant.0,
  one_even c.loop-i.i c.args.code c.loop-i.root c.loop-i-test.true c.loop-i.invariant.1,
)

-- after 16 turns the whole code is taken apart
odd_finished : (i c x : ℕ) → i ≡ 16 → x ≡ odd_bits i (c / 2 ^ (32 - i * 2)) → x ≡ motor_of c
unfolding motor_of
odd_finished i c x e h =
    subst (λ (j : ℕ). x ≡ odd_bits j (c / 2 ^ (32 - j * 2))) e h ∙ ap (λ (y : ℕ). odd_bits 16 y) (div-one c)

even_finished : (i c x : ℕ) → i ≡ 16 → x ≡ even_bits i (c / 2 ^ (32 - i * 2)) → x ≡ root_of c
unfolding root_of
even_finished i c x e h =
    subst (λ (j : ℕ). x ≡ even_bits j (c / 2 ^ (32 - j * 2))) e h ∙ ap (λ (y : ℕ). even_bits 16 y) (div-one c)

pub returns : goal.returns
returns c =
    let e : c.loop-i.i ≡ 16 = omega arith in
    let m = odd_finished c.loop-i.i c.args.code c.loop-i.motor e c.loop-i.invariant.0 in
    let r = even_finished c.loop-i.i c.args.code c.loop-i.root e c.loop-i.invariant.1 in
    record { value = (m, r); code = ap₂ (λ (x y : ℕ). code_of x y) m r ∙ code_of_lem c.args.code (omega arith) }
