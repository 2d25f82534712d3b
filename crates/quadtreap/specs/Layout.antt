-- The direct description of the tree.
--   layout   the tree of a cell, each pair from the first two of its contents
use Rattle.std.specs.Prelude.{ℕ, zero, suc, List, [], ◌∷◌, filter}
use Rattle.std.proofs.Math.Option.{Option, none, some}
use Rattle.place.specs.Boxes.{Box, smallest, half}
use Rattle.quadtreap.specs.Tree.{Reading, reading, box, Tree, leaf, point_of, lies, outside, pair}

-- The tree of the cell with the outer box C, an inner box or none, and its readings in order, at most n deep: E is the smallest box of the first two of its contents, and the other readings go to the half of E, or outside E, where they lie. The cases `leaf C (box C)` arise for no cell with contents and no depth that suffices.
abbrev pub layout : {K : Type 0} → ℕ → Box → Option Box → List (Reading K) → Tree K
layout zero C i ps = leaf C (box C)
layout (suc n) C (some I) [] = leaf C (box I)
layout (suc n) C (some I) (p ∷ ps) =
    let E : Box = smallest I (point_of p) in
    pair C (some I) E
    (layout n (half E I) (some I) (filter (lies (half E I)) ps))
    (layout n (half E (point_of p)) none (p ∷ filter (lies (half E (point_of p))) ps))
    (layout n C (some E) (filter (outside E) ps))
layout (suc n) C none [] = leaf C (box C)
layout (suc n) C none (r ∷ []) = leaf C (reading r)
layout (suc n) C none (r ∷ p ∷ ps) =
    let E : Box = smallest (point_of r) (point_of p) in
    pair C none E
    (layout n (half E (point_of r)) none (r ∷ filter (lies (half E (point_of r))) ps))
    (layout n (half E (point_of p)) none (p ∷ filter (lies (half E (point_of p))) ps))
    (layout n C (some E) (filter (outside E) ps))
