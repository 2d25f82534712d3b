-- What a record of a journal is answered, and leaves live.
--   Served   a record served after any calls
use Rattle.std.specs.Prelude.{◌≡◌, ℕ, List, Result}
use Rattle.quadtreap.specs.Tree.{Reading}
use Rattle.tables.specs.Calls.{next}
use Rattle.journal.specs.declared.entry.Entry.{Entry}
use Rattle.journal.specs.declared.report.Report.{Report}
use Rattle.replay.specs.declared.fault.StepFault.{StepFault}
use Rattle.replay.specs.Weights.{Weighed, joined}
use Rattle.replay.specs.Steps.{call_of, served}

-- The record e on a map of N places where the readings rs are live is answered a by the rules, and the readings rs' are live after it.
pub record Served (N : ℕ) (e : Entry) (rs rs' : List (Reading Weighed)) (a : Result Report StepFault) : Type 0 where
  pub answer : a ≡ served N e rs
  pub live : rs' ≡ next joined N (call_of e) rs
