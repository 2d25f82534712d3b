use Rattle.std.proofs.Common.{◌≡◌, ℕ, suc, ◌+◌, min, true, sym, ap, ◌∙◌, arith}
use mathlib.Core.Path.{subst⁻¹}
use Rattle.place.specs.Boxes.{Box, cut, half, point, holds, within}
use Rattle.place.specs.Values.{box_of}
use Rattle.place.proofs.BoxLaws.{holds_own, half_within}
use Rattle.place.proofs.place_box.PlaceBox.half.Goals as goal

pub returns-then-holds : goal.returns-then-holds
returns-then-holds c =
    let E = box_of c.args.self in
    let code = c.args.code in
    let one : min (c.args.self.depth + 1) 32 ≡ suc c.args.self.depth = omega arith in
    let is : box_of c.new.result ≡ half E (point code) = c.new.ensures.value ∙ ap (λ (k : ℕ). cut k code) one in
    let h : holds E code ≡ true = sym c.holds.ensures.value ∙ c.if-holds.true in
    record {
      value = (
        c.if-self-lt32.true,
        h,
        is,
        subst⁻¹ (λ (B : Box). holds B code ≡ true) is (holds_own (suc c.args.self.depth) code),
        subst⁻¹ (λ (B : Box). within B E ≡ true) is (half_within E code h),
      );
    }
