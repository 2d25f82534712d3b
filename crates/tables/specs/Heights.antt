-- What the questions for the height and for the number live promise.
--   Heights     the answer is the height of the tree of the live readings
--   LiveCount   the answer is how many readings are live
use Rattle.std.specs.Prelude.{◌≡◌, ℕ, List, length}
use Rattle.quadtreap.specs.Tree.{tree_of, map_height}
use Rattle.tables.specs.Calls.{Call, roll}
use Rattle.tables.specs.Stands.{State, Stands}

-- Whatever calls came before, r is the height of the tree of the live readings, and 0 where there is none.
abbrev pub Heights : {K : Type 0} → (K → K → K) → K → State K → ℕ → Type 0
Heights {K} join e s r = (cs : List (Call K)) → Stands join e s (roll join s.places cs) → r ≡ map_height (tree_of (roll join s.places cs))

-- Whatever calls came before, r is the number of the live readings.
abbrev pub LiveCount : {K : Type 0} → (K → K → K) → K → State K → ℕ → Type 0
LiveCount {K} join e s r = (cs : List (Call K)) → Stands join e s (roll join s.places cs) → r ≡ length (roll join s.places cs)
