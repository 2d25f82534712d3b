-- The walk over the tables that tallies a shape.
--   numbered                      the tests of a shape for any two numbers as the depth and the code of a box
--   crossed, seen                 how a walk takes a node
--   arrived                       what follows where the walk has come down to a node
--   returned                      where the walk goes from a node that it is done with
--   turned                        one turn of a walk
--   first_position, starts, ran   the turns of a walk from its start
use Rattle.std.specs.Prelude.{ℕ, zero, suc, ◌+◌, min, cond, List, Some, None, ◌==◌, slice_index_or}
use Rattle.records.specs.declared.record.Record.{Record}
use Rattle.tables.specs.declared.walk.Sight.{Sight}
use Rattle.tables.specs.declared.walk.Sight.TheVariants.{Misses, Held, Crosses}
use Rattle.tables.specs.declared.walk.Position.{Position}
use Rattle.tables.specs.declared.walk.Position.TheVariants.{Down, Back, Finished}
use Rattle.tables.specs.declared.walk.Tallied.{Tallied}
use Rattle.tables.specs.declared.walk.Spot.{Spot}
use Rattle.place.specs.Codes.{motor_of, root_of}
use Rattle.place.specs.Boxes.{cut, in_box}
use Rattle.crossing.specs.Regions.{Places, misses, held}
use Rattle.quadtreap.specs.Walk.{Tests}
use Rattle.records.specs.Links.{Link}
use Rattle.records.specs.Kinds.{is_reading, is_box}
use Rattle.records.specs.Writes.{at, box_of}

-- The tests of a shape, where the two numbers of a box are any: a depth above 32 counts as 32, and the bits below the depth as zeros.
abbrev pub numbered : Places → Places → Tests
numbered inner outer =
    record {
      misses = λ B. misses (in_box (cut (min B.depth 32) B.code)) inner;
      held = λ B. held (in_box (cut (min B.depth 32) B.code)) outer;
      has = λ c. inner (motor_of c) (root_of c);
    }

-- How a walk takes a node with the record r whose box crosses the shape: a reading is held if the inner set has its place and is missed if not, an inner box is missed, and any other node crosses.
abbrev pub crossed : Tests → Record → Sight
crossed q r = cond (is_reading r.kind) (cond (q.has r.rank.code) Held Misses) (cond (is_box r.kind) Misses Crosses)

-- How a walk takes a node with the record r: its box is missed, or else held, or else crosses.
abbrev pub seen : Tests → Record → Sight
seen q r = cond (q.misses (box_of r.outer)) Misses (cond (q.held (box_of r.outer)) Held (crossed q r))

-- What follows where the walk has come down to the node at i with the record r and the tally k: it is done with a node that is missed, and with one that is held after it has joined its tally, and it expands one that crosses and goes down to the first child.
abbrev pub arrived : {K : Type 0} → (K → K → K) → ℕ → Record → K → Tallied K → Sight → Spot K
arrived join i r k x Misses = record { position = Back i; found = x }
arrived join i r k x Held = record { position = Back i; found = record { tally = join x.tally k; expanded = x.expanded } }
arrived join i r k x Crosses = record { position = Down r.first; found = record { tally = x.tally; expanded = x.expanded + 1 } }

-- Where the walk goes from the node at i, which it is done with and whose parent is at p: the second child follows the first, the parent follows the second, and where there is no parent the walk is finished.
abbrev pub returned : List Record → Link → ℕ → Position
returned recs None i = Finished
returned recs (Some p) i = cond ((at recs p).first == i) (Down (at recs p).second) (Back p)

-- One turn of a walk that has found x.
abbrev pub turned : {K : Type 0} → (K → K → K) → K → Tests → List Record → List K → Tallied K → Position → Spot K
turned join e q recs ts x (Down i) = arrived join i (at recs i) (slice_index_or ts i e) x (seen q (at recs i))
turned join e q recs ts x (Back i) = record { position = returned recs (at recs i).parent i; found = x }
turned join e q recs ts x Finished = record { position = Finished; found = x }

-- Where a walk starts: it comes down to the root, and is finished at once where there is none.
abbrev pub first_position : Link → Position
first_position None = Finished
first_position (Some root) = Down root

-- A walk starts with nothing tallied.
abbrev pub starts : {K : Type 0} → Link → K → Spot K
starts root e = record { position = first_position root; found = record { tally = e; expanded = 0 } }

-- What a walk has found after n turns.
abbrev pub ran : {K : Type 0} → (K → K → K) → K → Tests → List Record → List K → ℕ → Spot K → Tallied K
ran join e q recs ts zero s = s.found
ran join e q recs ts (suc n) s = ran join e q recs ts n (turned join e q recs ts s.found s.position)
