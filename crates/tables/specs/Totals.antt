-- The entries of the tally table, and how they are renewed on the way up to the root.
--   Has, Totals                the entry at a place, and every entry of a tree
--   renewed, climbed, mended   entries made anew
--   Tables, tables, raised     both tables after the steps of a rise
use Rattle.std.specs.Prelude.{◌≡◌, ℕ, zero, suc, ◌<◌, cond, List, length, slice_index_or, slice_set, None, Some}
use Rattle.std.specs.Option.{is_none}
use Rattle.records.specs.declared.record.Record.{Record}
use Rattle.quadtreap.specs.Walk.{tally_of}
use Rattle.records.specs.Links.{Link}
use Rattle.records.specs.PlacedNodes.{PlacedNodes, leaf_at, node_at, unplaced}
use Rattle.records.specs.Writes.{at, Rise, settled_in}

-- The table has the tally k at the place i.
pub record Has {K : Type 0} (ts : List K) (i : ℕ) (k : K) : Type 0 where
  pub within : i < length ts
  pub reads : (d : K) → slice_index_or ts i d ≡ k

-- The entry of each node is the join of the tallies under it.
abbrev pub Totals : {K : Type 0} → (K → K → K) → K → List K → PlacedNodes K → Type 0
Totals join e ts (leaf_at p C c) = Has ts p (tally_of join e (unplaced (leaf_at p C c)))
Totals join e ts (node_at k p r C i a b) = Has ts p (tally_of join e (unplaced (node_at k p r C i a b))) × Totals join e ts a × Totals join e ts b

-- The entry at i is renewed from those at x and y.
abbrev pub renewed : {K : Type 0} → (K → K → K) → K → List K → ℕ → ℕ → ℕ → List K
renewed join e ts i x y = slice_set ts i (join (slice_index_or ts x e) (slice_index_or ts y e))

-- The entries from the node at i, if there is one, up to the root are renewed, at most n of them.
abbrev pub climbed : {K : Type 0} → (K → K → K) → K → List Record → ℕ → Link → List K → List K
climbed join e recs zero i ts = ts
climbed join e recs (suc n) None ts = ts
climbed join e recs (suc n) (Some i) ts = climbed join e recs n (at recs i).parent (renewed join e ts i (at recs i).first (at recs i).second)

-- The two entries of the pair at x are renewed, if there is a pair.
abbrev pub mended : {K : Type 0} → (K → K → K) → K → List Record → Link → List K → List K
mended join e recs None ts = ts
mended join e recs (Some x) ts =
    let rx : Record = at recs x in
    let rw : Record = at recs rx.first in
    renewed join e (renewed join e ts rx.first rw.first rw.second) x rx.first rx.second

-- Both tables, and the place of the node at the top.
pub record Tables (K : Type 0) : Type 0 where
  pub records : List Record
  pub tallies : List K
  pub top : ℕ

-- These three.
abbrev pub tables : {K : Type 0} → List Record → List K → ℕ → Tables K
tables recs ts s = record { records = recs; tallies = ts; top = s }

-- The rise from the pair at s: each pair up to the root is settled, n of them at most.
-- The entries of the pair that it rose over are renewed, and then those of the pair in place.
abbrev pub raised : {K : Type 0} → (K → K → K) → K → ℕ → List Record → List K → ℕ → Tables K
raised join e zero recs ts s = tables recs ts s
raised join e (suc n) recs ts s =
    let v : Rise = settled_in recs s in
    cond (is_none (at recs s).parent) (tables recs ts s) (raised join e n v.table (mended join e v.table (Some v.top) (mended join e v.table v.low ts)) v.top)
