use Rattle.std.proofs.Common.{◌≡◌, ℕ, ◌-◌, ◌*◌, ◌/◌, ◌%◌, ◌^◌, ◌<◌, ap, ◌∙◌, arith}
use mathlib.Core.Path.{subst⁻¹}
use native.Mathlib.Nat.{mul-mod_left}
use Rattle.std.proofs.lemmas.Nat.{shl_whole, shr_le}
use Rattle.place.specs.Boxes.{prefix, Box, cut}
use Rattle.place.proofs.BoxLaws.{cut_small}
use Rattle.place.proofs.place_box.PlaceBox.new.Goals as goal

-- shifting right and left again clears the bits below the depth k
cleared : (k c : ℕ) → c < 2 ^ 32 → (c / 2 ^ (32 - k) * 2 ^ (32 - k)) % 2 ^ 64 ≡ (cut k c).code
unfolding prefix
cleared k c h =
    let l : c / 2 ^ (32 - k) < 2 ^ 32 = omega (arith, shr_le c (32 - k)) in
    shl_whole (c / 2 ^ (32 - k)) 32 (32 - k) 64 l (omega arith)

cut_clear : (k c : ℕ) → (cut k c).code % 2 ^ (32 - k) ≡ 0
unfolding prefix
cut_clear k c = mul-mod_left (c / 2 ^ (32 - k)) (2 ^ (32 - k))

abbrev boxed : ℕ → ℕ → Box
boxed d v = record { depth = d; code = v }

pub invariant_of-result : goal.invariant_of-result
invariant_of-result c =
    let k = c.min-depth.result in
    let e = cleared k c.args.code (omega arith) in
    record {
      deep = omega arith;
      clear = subst⁻¹ (λ (x : ℕ). x % 2 ^ (32 - k) ≡ 0) e (cut_clear k c.args.code);
      fits = omega (arith, e, cut_small k c.args.code (omega arith));
    }

pub returns : goal.returns
returns c =
    let k = c.min-depth.result in
    record { value = ap (boxed k) (cleared k c.args.code (omega arith)) ∙ ap (λ (d : ℕ). cut d c.args.code) c.min-depth.ensures }
