-- What a map is after a reading is struck.
--   up_or, root_above   the root, found by the parents
--   struck_state        the map without one of several readings
--   emptied_state       the map without its last reading
use Rattle.std.specs.Prelude.{ℕ, zero, suc, ◌-◌, List, Some, None}
use Rattle.records.specs.declared.record.Record.{Record}
use Rattle.records.specs.declared.places.FourPlaces.{FourPlaces}
use Rattle.records.specs.Links.{Link}
use Rattle.records.specs.Writes.{at}
use Rattle.records.specs.Free.{linked, given_back, four_linked, four_given}
use Rattle.tables.specs.Totals.{climbed}
use Rattle.tables.specs.Stands.{State, state}

-- What f finds from a parent, or i where there is no parent.
abbrev pub up_or : ℕ → (ℕ → ℕ) → Link → ℕ
up_or i f None = i
up_or i f (Some p) = f p

-- The root of the tree that has the node at i, at most n steps up.
abbrev pub root_above : ℕ → List Record → ℕ → ℕ
root_above zero recs i = i
root_above (suc n) recs i = up_or i (root_above n recs) (at recs i).parent

-- The map after the leaf at i has taken the place of a pair: the entries above it are renewed, and the places n are free.
abbrev pub struck_state : {K : Type 0} → (K → K → K) → K → State K → ℕ → FourPlaces → State K
struck_state join e s i n =
    state (four_linked s.records s.free n) (climbed join e s.records s.places (at s.records i).parent s.tallies) s.places
    (Some (root_above s.places s.records i)) (s.live - 1) (four_given s.free n)

-- The map after its last reading, at i, is gone.
abbrev pub emptied_state : {K : Type 0} → State K → ℕ → State K
emptied_state s i = state (linked s.records s.free i) s.tallies s.places None (s.live - 1) (given_back s.free i)
