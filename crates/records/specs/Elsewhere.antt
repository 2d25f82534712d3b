-- What a write leaves alone.
--   Elsewhere   nothing changed but at some places
--   places_of   the places of the nodes of a tree
use Rattle.std.specs.Prelude.{◌≡◌, ℕ, List, length}
use Rattle.records.specs.declared.record.Record.{Record}
use Rattle.records.specs.PlacedNodes.{occurs}
use Rattle.records.specs.Writes.{at}
use Rattle.records.specs.PlacedPairs.{PlacedPairs, nodes_of}

-- The table is as long as before, and has the same record at every place that is not used.
pub record Elsewhere (used : ℕ → ℕ) (recs recs' : List Record) : Type 0 where
  pub long : length recs' ≡ length recs
  pub reads : (j : ℕ) → used j ≡ 0 → at recs' j ≡ at recs j

-- How often a place is that of a node of the tree.
abbrev pub places_of : {K : Type 0} → PlacedPairs K → ℕ → ℕ
places_of t j = occurs j (nodes_of t)
