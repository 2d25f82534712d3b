use Rattle.std.proofs.Common.{◌≡◌, ℕ, min, sym, ap, ◌∙◌, arith}
use mathlib.Core.Path.{subst⁻¹}
use Rattle.place.specs.Boxes.{Box, cut, point, smallest, Deepest}
use Rattle.place.specs.Values.{box_of}
use Rattle.place.proofs.SmallestLaws.{smallest_shared, smallest_deepest}
use Rattle.place.proofs.place_box.PlaceBox.smallest.Goals as goal

pub returns : goal.returns
returns c =
    let A = box_of c.args.self in
    let code = c.args.code in
    let low : min c.min.result 32 ≡ c.min.result = omega arith in
    let is : box_of c.new.result ≡ smallest A (point code) =
    c.new.ensures.value ∙ ap (λ (k : ℕ). cut k A.code) (low ∙ c.min.ensures)
    ∙ sym (smallest_shared A code c.args.self.deep c.args.self.fits (omega arith)) in
    record {
      value = is;
      deepest = subst⁻¹ (λ (E : Box). Deepest A (point code) E) is (smallest_deepest A (point code) c.args.self.fits (omega arith));
    }
