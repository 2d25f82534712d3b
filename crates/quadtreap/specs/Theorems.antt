-- The six theorems of the tree, where K is the kind of tally.
--   LayoutIsInsertion, NodeCount   1. the direct description is the tree of insertion, and its number of nodes
--   EnterGivesTree                 2. entering gives the tree of the readings with the new one
--   StrikeGivesTree                3. striking gives the tree of the readings without the one struck
--   CountsEachOnce                 4. a walk joins a selection of the readings, each once
--   EffortIsBounded                5. how many nodes a walk expands at most
--   SameReadings, SameSet          6. the same readings have the same tree, walks and height
use Rattle.std.specs.Prelude.{◌≡◌, ℕ, ◌-◌, ◌*◌, ◌≤◌, List, ◌∷◌, length}
use Rattle.std.proofs.Math.Option.{none, some}
use Rattle.place.specs.Boxes.{whole}
use Rattle.crossing.specs.Regions.{Places, crossings}
use Rattle.quadtreap.specs.Tree.{Reading, tree_of, map_nodes, map_height}
use Rattle.quadtreap.specs.Rank.{Ranked, Valid, put, tree_of_set, without, Alike}
use Rattle.quadtreap.specs.Layout.{layout}
use Rattle.quadtreap.specs.Enter.{map_enter}
use Rattle.quadtreap.specs.Strike.{map_strike}
use Rattle.quadtreap.specs.Walk.{Tests, asked, Joins, map_walk, Subset, is_in, joined, Selects}

-- Insertion in order gives the tree that is laid out directly.
abbrev pub LayoutIsInsertion : Type 0 → Type 0
LayoutIsInsertion K = (r : Reading K) (rs : List (Reading K)) → Valid (r ∷ rs) → tree_of (r ∷ rs) ≡ some (layout (length (r ∷ rs)) whole none (r ∷ rs))

-- No reading makes no node, and n readings make 4 n - 3 nodes.
abbrev pub NodeCount : Type 0 → Type 0
NodeCount K = (rs : List (Reading K)) → map_nodes (tree_of rs) ≡ 4 * length rs - 3

-- Entering gives the tree of the readings with the new one at its rank.
abbrev pub EnterGivesTree : Type 0 → Type 0
EnterGivesTree K = (p : Reading K) (rs : List (Reading K)) → Valid (p ∷ rs) → Ranked rs → map_enter (tree_of rs) p ≡ tree_of (put p rs)

-- Striking the code k gives the tree of the readings with other codes, and no tree where none is left.
abbrev pub StrikeGivesTree : Type 0 → Type 0
StrikeGivesTree K = (k : ℕ) (rs : List (Reading K)) → Valid rs → Ranked rs → map_strike (tree_of rs) k ≡ tree_of (without k rs)

-- For any commutative kind of tally and any inner set within an outer set, the tally of a walk is the join, each once, over the readings of a set that has all those in the inner set and none outside the outer set.
abbrev pub CountsEachOnce : Type 0 → Type 0
CountsEachOnce K =
    (join : K → K → K) (e : K) → Joins join e → (inner outer : Places) → Subset inner outer → (rs : List (Reading K)) → Valid rs
    → (s : Places) × Selects inner outer s rs × ((map_walk join e (asked inner outer) (tree_of rs)).tally ≡ joined join e (is_in s) rs)

-- A walk expands at most as many nodes as the height of the tree times the number of boxes that cross the shape.
abbrev pub EffortIsBounded : Type 0 → Type 0
EffortIsBounded K =
    (join : K → K → K) (e : K) (inner outer : Places) (rs : List (Reading K)) → Valid rs
    → (map_walk join e (asked inner outer) (tree_of rs)).expanded ≤ map_height (tree_of rs) * crossings inner outer

-- Lists in rank order with the same members are equal, and so are their trees, the answers of each walk, and the heights.
abbrev pub SameReadings : Type 0 → Type 0
SameReadings K =
    (xs ys : List (Reading K)) → Ranked xs → Ranked ys → Alike xs ys
    → (xs ≡ ys) × (tree_of xs ≡ tree_of ys)
    × ((join : K → K → K) (e : K) (q : Tests) → map_walk join e q (tree_of xs) ≡ map_walk join e q (tree_of ys))
    × (map_height (tree_of xs) ≡ map_height (tree_of ys))

-- The tree of a set of readings is the same in whatever order they are listed.
abbrev pub SameSet : Type 0 → Type 0
SameSet K = (xs ys : List (Reading K)) → Valid xs → Valid ys → Alike xs ys → tree_of_set xs ≡ tree_of_set ys
