-- The readings under a node, and the cell that they lie in.
--   inside, readings   the reading of a leaf, and the readings under a node
--   in_cell, Celled    whether a reading lies in a cell; a tree whose readings lie in the cells of its nodes
--   total              something joined over the leaves under a node
use Rattle.std.specs.Prelude.{◌≡◌, Bool, true, ◌&&◌, List, [], ◌∷◌, ◌++◌}
use Rattle.std.proofs.Math.Option.{Option, none, some}
use Rattle.std.specs.List.{AllByRecursion}
use Rattle.place.specs.Boxes.{Box}
use Rattle.quadtreap.specs.Tree.{Reading, Content, reading, box, Tree, leaf, shrink, split, lies, outside, box_in}

-- The reading that a leaf holds, if it holds one.
abbrev pub inside : {K : Type 0} → Content K → List (Reading K)
inside (reading r) = r ∷ []
inside (box I) = []

-- The readings under a node.
abbrev pub readings : {K : Type 0} → Tree K → List (Reading K)
readings (leaf C c) = inside c
readings (shrink C i a b) = readings a ++ readings b
readings (split E i a b) = readings a ++ readings b

-- Whether the reading lies in the cell with the outer box C and an inner box or none.
abbrev pub in_cell : {K : Type 0} → Box → Option Box → Reading K → Bool
in_cell C none r = lies C r
in_cell C (some I) r = lies C r && outside I r

-- The readings under each node lie in its cell.
abbrev pub Celled : {K : Type 0} → Tree K → Type 0
Celled (leaf C c) = AllByRecursion (λ r. in_cell C (box_in c) r ≡ true) (inside c)
Celled (shrink C i a b) = AllByRecursion (λ r. in_cell C i r ≡ true) (readings a ++ readings b) × Celled a × Celled b
Celled (split E i a b) = AllByRecursion (λ r. in_cell E i r ≡ true) (readings a ++ readings b) × Celled a × Celled b

-- What f says of the readings under a node, joined by op, where a leaf with an inner box counts as e.
abbrev pub total : {K M : Type 0} → (M → M → M) → M → (Reading K → M) → Tree K → M
total op e f (leaf C (reading r)) = f r
total op e f (leaf C (box I)) = e
total op e f (shrink C i a b) = op (total op e f a) (total op e f b)
total op e f (split E i a b) = op (total op e f a) (total op e f b)
