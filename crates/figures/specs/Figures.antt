-- The worked figures: one list, and what each of its entries states of the definitions.
--   Figure, Follows    a figure, and what it states
--   reading, P, Q, S   readings by their places, priorities and sums
--   figures            the list
use Rattle.std.specs.Prelude.{◌≡◌, ℕ, List, [], ◌∷◌}
use Rattle.place.specs.Codes.{code_of}
use Rattle.place.specs.Boxes.{smallest, point, motor_side, root_side}
use Rattle.tally.specs.Sums.{zero_sum, sum_of, sum_joined}
use Rattle.tally.specs.declared.sum.Sum.{Sum}
use Rattle.crossing.specs.Discs.{within, crossing_sum}
use Rattle.quadtreap.specs.Tree.{Reading, map_nodes, map_height}
use Rattle.quadtreap.specs.Rank.{tree_of_set}
use Rattle.quadtreap.specs.Walk.{Answer, asked, map_walk}

-- A figure, by what it is about and the numbers that it gives.
pub data Figure : Type 0 where
  code : (motor root value : ℕ) → Figure
  smallest_box : (motor root motor' root' depth motors roots : ℕ) → Figure
  disc_sum : (inner outer sum : ℕ) → Figure
  tree : (readings : List (Reading Sum)) (nodes height : ℕ) → Figure
  disc : (readings : List (Reading Sum)) (motor root inner outer tally expanded : ℕ) → Figure

-- The walk of a disc with the centre (m, n) and the radii r and R over the tree of a set of readings, joining sums.
abbrev pub disc_walk : List (Reading Sum) → ℕ → ℕ → ℕ → ℕ → Answer Sum
disc_walk rs m n r R = map_walk sum_joined zero_sum (asked (within m n r) (within m n R)) (tree_of_set rs)

-- What a figure states: the code of a place; the depth and the sides of the smallest box of two places; the crossing sum of a disc; the nodes and the height of the tree of some readings; the tally and the expanded count of a disc.
abbrev pub Follows : Figure → Type 0
Follows (code m r c) = code_of m r ≡ c
Follows (smallest_box m r m' r' k a b) =
    ((smallest (point (code_of m r)) (point (code_of m' r'))).depth ≡ k) × (motor_side k ≡ a) × (root_side k ≡ b)
Follows (disc_sum r R s) = crossing_sum r R ≡ s
Follows (tree rs n h) = (map_nodes (tree_of_set rs) ≡ n) × (map_height (tree_of_set rs) ≡ h)
Follows (disc rs m n r R t e) = ((disc_walk rs m n r R).tally.value ≡ t) × ((disc_walk rs m n r R).expanded ≡ e)

-- The reading at a place with a priority and a sum.
abbrev pub reading : ℕ → ℕ → ℕ → ℕ → Reading Sum
reading m r p v = record { code = code_of m r; priority = p; tally = sum_of v }

-- The reading at (0, 0).
abbrev pub P : Reading Sum
P = reading 0 0 10 1

-- The reading at (3, 0).
abbrev pub Q : Reading Sum
Q = reading 3 0 20 2

-- The reading at (40000, 0), with a priority.
abbrev pub S : ℕ → Reading Sum
S p = reading 40000 0 p 4

-- The figures.
abbrev pub figures : List Figure
figures =
    code 3 0 10
    ∷ code 0 3 5
    ∷ smallest_box 0 0 3 0 28 4 4
    ∷ smallest_box 0 0 40000 0 0 65536 65536
    ∷ smallest_box 0 0 0 1 31 1 2
    ∷ disc_sum 2 5 135
    ∷ disc_sum 0 2 120
    ∷ tree [] 0 0
    ∷ tree (P ∷ Q ∷ []) 5 2
    ∷ tree (P ∷ Q ∷ S 30 ∷ []) 9 3
    ∷ tree (P ∷ Q ∷ S 5 ∷ []) 9 4
    ∷ disc [] 0 0 2 5 0 0
    ∷ disc (P ∷ Q ∷ S 30 ∷ []) 0 0 2 5 3 3
    ∷ disc (P ∷ Q ∷ S 5 ∷ []) 0 0 2 5 3 3
    ∷ disc (P ∷ Q ∷ S 30 ∷ []) 0 0 0 2 1 4
    ∷ disc (P ∷ Q ∷ S 30 ∷ []) 0 0 3 3 3 4
    ∷ disc (P ∷ Q ∷ S 30 ∷ []) 0 0 0 100000 7 0
    ∷ []
