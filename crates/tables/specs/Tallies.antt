-- What the question for the tally of a shape promises.
--   Tallies       what the answer is after some calls
--   Answers       the same after any calls
--   SameAnswers   two maps with the same live readings answer the same
--   DiscEffort    how many nodes a disc expands at most
use Rattle.std.specs.Prelude.{◌≡◌, ℕ, ◌*◌, ◌≤◌, List}
use Rattle.crossing.specs.Regions.{Places, crossings}
use Rattle.crossing.specs.Discs.{crossing_sum}
use Rattle.quadtreap.specs.Tree.{tree_of, map_height}
use Rattle.quadtreap.specs.Rank.{Alike}
use Rattle.quadtreap.specs.Walk.{asked, Answer, map_walk, is_in, joined, Selects}
use Rattle.tables.specs.Calls.{Call, roll}
use Rattle.tables.specs.Stands.{State, Stands}

-- The answer r of a tally of the shape with the inner and the outer set, in a map of N places after the calls cs.
pub record Tallies {K : Type 0} (join : K → K → K) (e : K) (inner outer : Places) (N : ℕ) (cs : List (Call K)) (r : Answer K) : Type 0 where
  -- it is what the walk of the tree of the live readings answers
  pub value : r ≡ map_walk join e (asked inner outer) (tree_of (roll join N cs))
  -- its tally joins, each once, the live readings of a set that has all those in the inner set and none outside the outer set
  pub counts_each_once : (s : Places) × Selects inner outer s (roll join N cs) × (r.tally ≡ joined join e (is_in s) (roll join N cs))
  -- it expands no more nodes than the height of the tree times the number of boxes that cross the shape
  pub effort : r.expanded ≤ map_height (tree_of (roll join N cs)) * crossings inner outer
  -- it is the answer after any other calls and with any other number of places that leave the same readings live, and the height is the same too
  pub same_readings : (M : ℕ) (ds : List (Call K)) → Alike (roll join M ds) (roll join N cs)
      → (r ≡ map_walk join e (asked inner outer) (tree_of (roll join M ds))) × (map_height (tree_of (roll join M ds)) ≡ map_height (tree_of (roll join N cs)))

-- Whatever calls came before, r is the answer that they ask for.
abbrev pub Answers : {K : Type 0} → (K → K → K) → K → Places → Places → State K → Answer K → Type 0
Answers {K} join e inner outer s r = (cs : List (Call K)) → Stands join e s (roll join s.places cs) → Tallies join e inner outer s.places cs r

-- Two maps of one kind, whatever calls each had and however many places it has: where the same readings are live in both, alike in place, priority and tally, their answers a and b and their heights g and h are equal.
abbrev pub SameAnswers : {K : Type 0} → (K → K → K) → K → State K → State K → Answer K → Answer K → ℕ → ℕ → Type 0
SameAnswers {K} join e s t a b g h =
    (cs ds : List (Call K)) → Stands join e s (roll join s.places cs) → Stands join e t (roll join t.places ds)
    → Alike (roll join t.places ds) (roll join s.places cs) → (a ≡ b) × (g ≡ h)

-- A disc with the inner radius r and the outer radius R expands at most as many nodes as the height times its crossing sum.
abbrev pub DiscEffort : {K : Type 0} → (K → K → K) → K → State K → ℕ → ℕ → ℕ → Type 0
DiscEffort {K} join e s r R expanded =
    (cs : List (Call K)) → Stands join e s (roll join s.places cs) → expanded ≤ map_height (tree_of (roll join s.places cs)) * crossing_sum r R
