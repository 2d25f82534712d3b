-- The smallest box of a list of codes.
--   HoldsAll, Encloses   a box that contains all codes of a list, and lies in every box that does
--   Enclosed             the smallest box of a list of codes, or none
use Rattle.std.specs.Prelude.{◌≡◌, ℕ, ◌≤◌, true, List, length, All, Some, None, Option}
use Rattle.place.specs.Boxes.{Box, holds, within}
use Rattle.place.specs.Values.{box_of}
use Rattle.place.specs.declared.place_box.PlaceBox.{PlaceBox}

-- Every code of the list is in the box.
abbrev pub HoldsAll : Box → List ℕ → Type 0
HoldsAll B codes = All (λ c. holds B c ≡ true) codes

-- The box contains every code of the list, and lies in every box that does.
pub record Encloses (codes : List ℕ) (B : Box) : Type 0 where
  pub each : HoldsAll B codes
  pub least : (C : Box) → C.depth ≤ 32 → HoldsAll C codes → within B C ≡ true

-- The smallest box of the codes, or none where there is no code.
abbrev pub Enclosed : List ℕ → Option PlaceBox → Type 0
Enclosed codes (Some b) = Encloses codes (box_of b)
Enclosed codes None = length codes ≡ 0
