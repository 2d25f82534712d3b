use Rattle.std.proofs.Common.{◌≡◌, ℕ, suc, ◌+◌, ◌-◌, ◌*◌, ◌/◌, ◌%◌, ◌^◌, ◌<◌, ◌≤◌, sym, refl, ap, ◌∙◌, subst, ap₂, div-one, arith, shr-shr}
use native.Mathlib.Nat.{pow-le-pow_right}
use Rattle.place.specs.Codes.{interleave, code_of, motor_of, root_of, Interleaved}
use Rattle.place.proofs.CodeLaws.{interleave_lt}
use Rattle.place.proofs.SideLaws.{interleaved, motor_of_lem, root_of_lem}
use Rattle.place.proofs.place.Place.code.Goals as goal

-- there is room for two more bits
room : (i m r c : ℕ) → i < 16 → c ≡ interleave i m r → c * 4 + 3 < 2 ^ 32
room i m r c h e =
    let p : 4 ^ i ≤ 4 ^ 15 = pow-le-pow_right (let q : 0 < 4 = omega arith in q) (let q : i ≤ 15 = omega arith in q) in
    omega (arith, interleave_lt i m r)

-- a count's bits, shifted one less far and then by one
half_of : (m i : ℕ) → i < 16 → m / 2 ^ (15 - i) / 2 ≡ m / 2 ^ (16 - i)
half_of m i h = shr-shr m (15 - i) 1 ∙ ap (λ (x : ℕ). m / 2 ^ x) (let e : 15 - i + 1 ≡ 16 - i = omega arith in e)

two_more : (i m r c : ℕ) → i < 16 → c ≡ interleave i (m / 2 ^ (16 - i)) (r / 2 ^ (16 - i))
    → c * 4 + (m / 2 ^ (15 - i) % 2 * 2 + r / 2 ^ (15 - i) % 2) ≡ interleave (i + 1) (m / 2 ^ (16 - (i + 1))) (r / 2 ^ (16 - (i + 1)))
unfolding interleave
two_more i m r c h e =
    let d : c ≡ interleave i (m / 2 ^ (15 - i) / 2) (r / 2 ^ (15 - i) / 2) =
    e ∙ sym (ap₂ (λ (x y : ℕ). interleave i x y) (half_of m i h) (half_of r i h)) in
    let g : c * 4 + (m / 2 ^ (15 - i) % 2 * 2 + r / 2 ^ (15 - i) % 2) ≡ interleave (suc i) (m / 2 ^ (15 - i)) (r / 2 ^ (15 - i)) = omega arith in
    g ∙ ap₂ (λ (x y : ℕ). interleave x (m / 2 ^ y) (r / 2 ^ y))
    (let q : suc i ≡ i + 1 = omega arith in q) (let q : 15 - i ≡ 16 - (i + 1) = omega arith in q)

pub loop-i-init : goal.loop-i-init
unfolding interleave
loop-i-init c = refl

pub overflow_mul-code : goal.overflow_mul-code
overflow_mul-code c = omega (arith, room c.loop-i.i _ _ c.loop-i.code (omega arith) c.loop-i.invariant)

pub overflow_add-code-in-loop-i : goal.overflow_add-code-in-loop-i
overflow_add-code-in-loop-i c = omega (arith, room c.loop-i.i _ _ c.loop-i.code (omega arith) c.loop-i.invariant)

pub loop-i-preserved : goal.loop-i-preserved
loop-i-preserved c = two_more c.loop-i.i c.args.self.motor c.args.self.root c.loop-i.code (omega arith) c.loop-i.invariant

-- after 16 turns the whole counts are interleaved
finished : (i m r c : ℕ) → i ≡ 16 → c ≡ interleave i (m / 2 ^ (16 - i)) (r / 2 ^ (16 - i)) → c ≡ code_of m r
unfolding code_of
finished i m r c e h =
    subst (λ (j : ℕ). c ≡ interleave j (m / 2 ^ (16 - j)) (r / 2 ^ (16 - j))) e h ∙ ap₂ (λ (x y : ℕ). interleave 16 x y) (div-one m) (div-one r)

pub returns : goal.returns
returns c =
    let e = finished c.loop-i.i c.args.self.motor c.args.self.root c.loop-i.code (omega arith) c.loop-i.invariant in
    let m = c.args.self.motor in
    let r = c.args.self.root in
    record {
      value = e;
      bits = subst (λ (x : ℕ). Interleaved m r x) (sym e) (interleaved m r);
      place = (ap motor_of e ∙ motor_of_lem m r (omega arith), ap root_of e ∙ root_of_lem m r (omega arith));
    }
