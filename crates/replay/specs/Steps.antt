-- What a record of a journal asks of the map, and what it is answered.
--   IsQuestion                      a record that asks
--   call_of                         the call on the map that a record makes
--   of_map, found, Found, tallied   an answer of the map as the answer of a record
--   refused_by, served              the answer of a record, reckoned from the live readings
--   Lawful, DiscLaw, Law            what is promised of the tally of a record
--   leaves                          the answers after which the map is as it was
--   Stepped, Steps                  what a step promises after some calls, and after any calls
use Rattle.std.specs.Prelude.{◌≡◌, ℕ, ◌*◌, ◌≤◌, Bool, true, false, if◌then◌else◌, List, Some, None, is_some, Ok, Err, Option, Result}
use Rattle.reading.specs.Readings.{time_fault}
use Rattle.shape.specs.Shapes.{widened}
use Rattle.place.specs.Boxes.{between}
use Rattle.crossing.specs.Regions.{Places}
use Rattle.crossing.specs.Discs.{within, crossing_sum}
use Rattle.quadtreap.specs.Tree.{Reading, tree_of, map_height}
use Rattle.quadtreap.specs.Walk.{asked, Answer, map_walk}
use Rattle.tables.specs.Calls.{Call, asks, enter_at, again_at, strike_at, Reply, reply, roll}
use Rattle.tables.specs.Stands.{State, Stands, Serves}
use Rattle.tables.specs.Heights.{Heights}
use Rattle.tables.specs.Tallies.{Tallies}
use Rattle.journal.specs.declared.entry.Entry.{Entry}
use Rattle.journal.specs.declared.entry.Entry.TheVariants.{Enter, Again, Strike, Disc, Band, Height}
use Rattle.journal.specs.declared.report.Report.{Report}
use Rattle.journal.specs.declared.report.Report.TheVariants.{Ok as Changed, Tally, Height as High, Refused, Stopped}
use Rattle.replay.specs.declared.fault.StepFault.{StepFault}
use Rattle.replay.specs.declared.fault.StepFault.TheVariants.{Reading as OfReading, Shape as OfShape, Map as OfMap}
use Rattle.tally.specs.Spans.{times_in}
use Rattle.shape.specs.Faults.{disc_fault, band_fault}
use Rattle.replay.specs.Weights.{Weighed, joined, neutral, weighed}

-- The record asks, and changes nothing.
abbrev pub IsQuestion : Entry → Type 0
IsQuestion (Enter motor motor_time root root_time priority weight) = ⊥
IsQuestion (Again motor root time weight) = ⊥
IsQuestion (Strike motor root) = ⊥
IsQuestion (Disc motor root inner outer) = Unit {0}
IsQuestion (Band lowest_motor highest_motor lowest_root highest_root margin) = Unit {0}
IsQuestion Height = Unit {0}

-- A record enters a reading whose times are right, joins a tally, strikes a reading, or asks a question. A reading that is not completed counts as a question, which changes nothing.
abbrev pub call_of : Entry → Call Weighed
call_of (Enter motor motor_time root root_time priority weight) =
    if is_some (time_fault motor_time root_time) then asks else enter_at motor root priority (weighed weight root_time)
call_of (Again motor root time weight) = again_at motor root (weighed weight time)
call_of (Strike motor root) = strike_at motor root
call_of (Disc motor root inner outer) = asks
call_of (Band lowest_motor highest_motor lowest_root highest_root margin) = asks
call_of Height = asks

-- The number live, or the fault of the map.
abbrev pub of_map : Reply → Result Report StepFault
of_map (Ok n) = Ok (Changed n)
of_map (Err f) = Err (OfMap f)

-- The sum, the times and the expanded count of a walk, beside the height.
abbrev pub found : Answer Weighed → ℕ → Report
found a h = Tally a.tally.first.value (times_in a.tally.second) a.expanded h

-- The report r of an answer of the map, with the height that the map has.
pub record Found (s : State Weighed) (a : Answer Weighed) (r : Report) : Type 0 where
  pub height : ℕ
  pub tells : Heights joined neutral s height
  pub value : r ≡ found a height

-- What is found by the walk of a shape with an inner and an outer set, where the readings rs are live.
abbrev pub tallied : Places → Places → List (Reading Weighed) → Report
tallied inner outer rs = found (map_walk joined neutral (asked inner outer) (tree_of rs)) (map_height (tree_of rs))

-- The fault, if there is one, and otherwise the answer.
abbrev pub refused_by : {F : Type 0} → (F → StepFault) → Option F → Result Report StepFault → Result Report StepFault
refused_by wrap (Some f) a = Err (wrap f)
refused_by wrap None a = a

-- The answer of a record in a map of N places, where the readings rs are live.
abbrev pub served : ℕ → Entry → List (Reading Weighed) → Result Report StepFault
served N (Enter motor motor_time root root_time priority weight) rs =
    refused_by OfReading (time_fault motor_time root_time) (of_map (reply N (enter_at motor root priority (weighed weight root_time)) rs))
served N (Again motor root time weight) rs = of_map (reply N (again_at motor root (weighed weight time)) rs)
served N (Strike motor root) rs = of_map (reply N (strike_at motor root) rs)
served N (Disc motor root inner outer) rs = refused_by OfShape (disc_fault inner outer) (Ok (tallied (within motor root inner) (within motor root outer) rs))
served N (Band lm hm lr hr margin) rs = refused_by OfShape (band_fault lm hm lr hr) (Ok (tallied (between lm hm lr hr) (widened lm hm lr hr margin) rs))
served N Height rs = Ok (High (map_height (tree_of rs)))

-- The tally of a shape after the calls cs, in a map of N places, is that of the map's law.
abbrev pub Lawful : ℕ → Places → Places → List (Call Weighed) → Type 0
Lawful N inner outer cs = Tallies joined neutral inner outer N cs (map_walk joined neutral (asked inner outer) (tree_of (roll joined N cs)))

-- The tally of a disc is that of the map's law, and expands at most as many nodes as the height times the disc's crossing sum.
pub record DiscLaw (N motor root inner outer : ℕ) (cs : List (Call Weighed)) : Type 0 where
  pub tally : Lawful N (within motor root inner) (within motor root outer) cs
  pub effort : (map_walk joined neutral (asked (within motor root inner) (within motor root outer)) (tree_of (roll joined N cs))).expanded
      ≤ map_height (tree_of (roll joined N cs)) * crossing_sum inner outer

-- What is promised of the answer of a record after the calls cs: a disc and a band that are not refused are tallied by the map's law.
abbrev pub Law : ℕ → Entry → List (Call Weighed) → Type 0
Law N (Enter motor motor_time root root_time priority weight) cs = Unit {0}
Law N (Again motor root time weight) cs = Unit {0}
Law N (Strike motor root) cs = Unit {0}
Law N (Disc motor root inner outer) cs = disc_fault inner outer ≡ None → DiscLaw N motor root inner outer cs
Law N (Band lm hm lr hr margin) cs = band_fault lm hm lr hr ≡ None → Lawful N (between lm hm lr hr) (widened lm hm lr hr margin) cs
Law N Height cs = Unit {0}

-- Whether the map is as it was: so after every answer but the number live.
abbrev pub leaves : Result Report StepFault → Bool
leaves (Ok (Changed n)) = false
leaves (Ok (Tally sum times expanded height)) = true
leaves (Ok (High height)) = true
leaves (Ok (Refused number)) = true
leaves (Ok (Stopped number)) = true
leaves (Err f) = true

-- A record after the calls cs: the map serves its call by the map's law, and the answer is that of the rules.
pub record Stepped (s s' : State Weighed) (e : Entry) (cs : List (Call Weighed)) (a : Result Report StepFault) : Type 0 where
  pub answer : a ≡ served s.places e (roll joined s.places cs)
  pub law : Law s.places e cs
  pub serves : Serves joined neutral s s' (call_of e) cs (reply s.places (call_of e) (roll joined s.places cs))
  pub unchanged : leaves a ≡ true → s' ≡ s

-- Whatever calls came before, the record e leads from the state s to the state s' and answers a as it should.
abbrev pub Steps : State Weighed → State Weighed → Entry → Result Report StepFault → Type 0
Steps s s' e a = (cs : List (Call Weighed)) → Stands joined neutral s (roll joined s.places cs) → Stepped s s' e cs a
