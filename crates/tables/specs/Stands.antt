-- What it is for the tables of a map to hold some readings, and what a call promises.
--   State, state                 what a map is made of
--   map_tree, root_of, in_tree   the tree of a map with the places of its nodes
--   LiesTallied, Lies            a tree that lies in both tables
--   Stands                       the map holds the readings of a list
--   refuses, Serves, Keeps       what a call promises after some calls, and after any calls
--   grown_tables                 both tables after a reading is entered
--   started, grown               the map after its first reading, and after one more
use Rattle.std.specs.Prelude.{◌≡◌, ℕ, ◌+◌, ◌<◌, ◌≤◌, min, Bool, true, false, List, ◌∷◌, length, Some, None, Ok, Err, slice_index_or, slice_set}
use Rattle.std.proofs.Math.Option.{Option, none, some}
use Rattle.records.specs.declared.record.Record.{Record}
use Rattle.records.specs.declared.kind.Kind.TheVariants.{Reading as ReadingKind}
use Rattle.records.specs.declared.places.FourPlaces.{FourPlaces}
use Rattle.records.specs.declared.places.FreePlaces.{FreePlaces}
use Rattle.quadtreap.specs.Tree.{Reading, Tree, tree_of, map_nodes}
use Rattle.quadtreap.specs.Rank.{Ranked, Valid}
use Rattle.tables.specs.Calls.{Reply, Call, roll, reply}
use Rattle.records.specs.Links.{Link}
use Rattle.records.specs.PlacedNodes.{occurs, LiesIn}
use Rattle.records.specs.Writes.{planted, first_planted}
use Rattle.records.specs.PlacedPairs.{PlacedPairs, nodes_of, tree_in, top_place, RanksStand}
use Rattle.records.specs.Free.{next as next_free, left_after, four_taken, four_left, free_at, FreeIn}
use Rattle.tables.specs.Totals.{Totals, Tables, mended, raised}

-- What a map is made of: both tables, the number of places, the place of the root if there is one, the number live, and the free places.
pub record State (K : Type 0) : Type 0 where
  pub records : List Record
  pub tallies : List K
  pub places : ℕ
  pub root : Link
  pub live : ℕ
  pub free : FreePlaces

-- The state of these parts.
abbrev pub state : {K : Type 0} → List Record → List K → ℕ → Link → ℕ → FreePlaces → State K
state recs ts N root live free = record { records = recs; tallies = ts; places = N; root = root; live = live; free = free }

-- The tree of a map without the places of its nodes; an empty map has none.
abbrev pub map_tree : {K : Type 0} → Option (PlacedPairs K) → Option (Tree K)
map_tree none = none
map_tree (some t) = some (tree_in t)

-- The place of the root; an empty map has none.
abbrev pub root_of : {K : Type 0} → Option (PlacedPairs K) → Link
root_of none = None
root_of (some t) = Some (top_place t)

-- How often a place is that of a node.
abbrev pub in_tree : {K : Type 0} → ℕ → Option (PlacedPairs K) → ℕ
in_tree i none = 0
in_tree i (some t) = occurs i (nodes_of t)

-- The tree lies in the records, each node with its rank, and the entry of each node is the join of the tallies under it.
pub record LiesTallied {K : Type 0} (join : K → K → K) (e : K) (recs : List Record) (ts : List K) (t : PlacedPairs K) : Type 0 where
  pub kept : LiesIn recs (nodes_of t)
  pub right : RanksStand t
  pub totals : Totals join e ts (nodes_of t)

-- A map without a tree asks nothing of the tables.
abbrev pub Lies : {K : Type 0} → (K → K → K) → K → List Record → List K → Option (PlacedPairs K) → Type 0
Lies join e recs ts none = Unit {0}
Lies join e recs ts (some t) = LiesTallied join e recs ts t

-- The map holds the readings rs, which are in rank order.
pub record Stands {K : Type 0} (join : K → K → K) (e : K) (s : State K) (rs : List (Reading K)) : Type 0 where
  pub size : s.places ≡ min (min (length s.records) (length s.tallies)) 65533
  pub valid : Valid rs
  pub ranked : Ranked rs
  pub count : s.live ≡ length rs
  -- the tree of the readings, each node at a place of its own
  pub placed : Option (PlacedPairs K)
  pub tree : map_tree placed ≡ tree_of rs
  pub lies : Lies join e s.records s.tallies placed
  pub top : s.root ≡ root_of placed
  -- each of the first places is a node's or free, no node is past them, and every place ever used has a node or was given back
  pub spare : List ℕ
  pub free : FreeIn s.places s.records s.free spare
  pub each : (i : ℕ) → i < s.places → in_tree i placed + free_at s.free spare i ≡ 1
  pub past : (i : ℕ) → s.places ≤ i → in_tree i placed ≡ 0
  pub used : map_nodes (tree_of rs) + length spare ≡ s.free.fresh

-- Whether the call was refused.
abbrev pub refuses : Reply → Bool
refuses (Ok n) = false
refuses (Err f) = true

-- A call after the calls cs: the map holds what is live after it, and answers so. Past the first places nothing changes, and a refusal changes nothing.
pub record Serves {K : Type 0} (join : K → K → K) (e : K) (s s' : State K) (c : Call K) (cs : List (Call K)) (r : Reply) : Type 0 where
  pub stands : Stands join e s' (roll join s.places (c ∷ cs))
  pub answer : r ≡ reply s.places c (roll join s.places cs)
  pub places : s'.places ≡ s.places
  pub records_past : (i : ℕ) (d : Record) → s.places ≤ i → slice_index_or s'.records i d ≡ slice_index_or s.records i d
  pub tallies_past : (i : ℕ) (d : K) → s.places ≤ i → slice_index_or s'.tallies i d ≡ slice_index_or s.tallies i d
  pub unchanged : refuses r ≡ true → s' ≡ s

-- Whatever calls came before, the call c leads from the state s to the state s' and answers r as it should.
abbrev pub Keeps : {K : Type 0} → (K → K → K) → K → State K → State K → Call K → Reply → Type 0
Keeps {K} join e s s' c r = (cs : List (Call K)) → Stands join e s (roll join s.places cs) → Serves join e s s' c cs r

-- Both tables after the leaf at i has become a pair at the places n, and each pair up to the root is settled.
abbrev pub grown_tables : {K : Type 0} → (K → K → K) → K → ℕ → List Record → List K → ℕ → ℕ → ℕ → K → FourPlaces → Tables K
grown_tables join e N recs ts i k priority v n =
    let recs1 : List Record = planted recs i (record { priority = priority; code = k }) n in
    raised join e N recs1 (mended join e recs1 (Some n.shrink) (slice_set (slice_set ts n.reading v) n.outer e)) n.shrink

-- The state after the first reading: it is the tree, at the next free place.
abbrev pub started : {K : Type 0} → State K → ℕ → ℕ → K → State K
started s k priority v =
    let i : ℕ = next_free s.free in
    state (first_planted s.records i (record { priority = priority; code = k })) (slice_set s.tallies i v) s.places (Some i) 1 (left_after s.records s.free)

-- The state after one more reading: the leaf at i has become a pair at the next four free places.
abbrev pub grown : {K : Type 0} → (K → K → K) → K → State K → ℕ → ℕ → ℕ → K → State K
grown {K} join e s i k priority v =
    let t : Tables K = grown_tables join e s.places s.records s.tallies i k priority v (four_taken s.records s.free) in
    state t.records t.tallies s.places (Some t.top) (s.live + 1) (four_left s.records s.free)
