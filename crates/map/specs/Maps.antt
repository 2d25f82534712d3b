-- The state of a map value, and the tables that it holds.
--   state_of   what a map is made of, with what its two tables hold
--   Lends      the map holds the tables that were lent to it
use Rattle.std.specs.Prelude.{◌≡◌}
use Rattle.map.specs.declared.Map.{Map}
use Rattle.tables.specs.Stands.{State, state}

-- What a map is made of, with what its two references point to.
abbrev pub state_of : {K : Type 0} → Map K → State K
state_of m = state m.records.now m.tallies.now m.places m.root m.live m.free

-- The map still holds the two tables that were lent to it.
abbrev pub Lends : {K : Type 0} → Map K → Map K → Type 0
Lends before after = (after.records.ghost_name ≡ before.records.ghost_name) × (after.tallies.ghost_name ≡ before.tallies.ghost_name)
