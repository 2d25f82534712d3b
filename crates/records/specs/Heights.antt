-- The height of the tree under a node of a table.
--   height_in   the height that the records tell
--   Heights     the answer is the height of the tree that lies in the table
use Rattle.std.specs.Prelude.{◌≡◌, ℕ, zero, suc, ◌≤◌, max, cond, List}
use Rattle.records.specs.declared.record.Record.{Record}
use Rattle.quadtreap.specs.Tree.{nodes, height}
use Rattle.records.specs.Kinds.{is_leaf}
use Rattle.records.specs.PlacedNodes.{LiesIn}
use Rattle.records.specs.Writes.{at}
use Rattle.records.specs.PlacedPairs.{PlacedPairs, nodes_of, tree_in, top_place}

-- The height under the node at i, at most n levels deep.
abbrev pub height_in : ℕ → List Record → ℕ → ℕ
height_in zero recs i = 0
height_in (suc n) recs i =
    let a : ℕ = height_in n recs (at recs i).first in
    let b : ℕ = height_in n recs (at recs i).second in
    cond (is_leaf (at recs i).kind) 0 (suc (max a b))

-- Where a tree of at most n nodes lies in the table, r is its height.
abbrev pub Heights : Type 0 → List Record → ℕ → ℕ → ℕ → Type 0
Heights K recs root n r = (t : PlacedPairs K) → LiesIn recs (nodes_of t) → root ≡ top_place t → nodes (tree_in t) ≤ n → r ≡ height (tree_in t)
