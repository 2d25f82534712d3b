-- What is found on the way down a tree by a code.
--   content_at, of_code, map_find   the content and the reading that a code leads to
--   lookup                          the reading with a code in a list
use Rattle.std.specs.Prelude.{ℕ, cond, List, [], ◌∷◌, ◌==◌}
use Rattle.std.proofs.Math.Option.{Option, none, some}
use Rattle.place.specs.Boxes.{holds}
use Rattle.quadtreap.specs.Tree.{Reading, Content, reading, box, Tree, leaf, shrink, split, outer}

-- What the leaf holds to which the code k leads.
abbrev pub content_at : {K : Type 0} → Tree K → ℕ → Content K
content_at (leaf C c) k = c
content_at (shrink C i a b) k = cond (holds (outer a) k) (content_at a k) (content_at b k)
content_at (split E i a b) k = cond (holds (outer a) k) (content_at a k) (content_at b k)

-- The reading that a leaf holds, if it has the code k.
abbrev pub of_code : {K : Type 0} → ℕ → Content K → Option (Reading K)
of_code k (reading r) = cond (k == r.code) (some r) none
of_code k (box I) = none

-- The reading with the code k to which that code leads in a map.
abbrev pub map_find : {K : Type 0} → Option (Tree K) → ℕ → Option (Reading K)
map_find none k = none
map_find (some t) k = of_code k (content_at t k)

-- The first reading of the list with the code k.
abbrev pub lookup : {K : Type 0} → ℕ → List (Reading K) → Option (Reading K)
lookup k [] = none
lookup k (r ∷ rs) = cond (k == r.code) (some r) (lookup k rs)
