-- The line that is printed of the answer of a record.
--   numbered    the answer with the number of its record beside the fault
--   line_text   the bytes of the line
use Rattle.std.specs.Prelude.{ℕ, List, Ok, Err, Result}
use Rattle.journal.specs.Lines.{printed}
use Rattle.journal.specs.declared.report.Report.{Report}
use Rattle.replay.specs.declared.fault.StepFault.{StepFault}
use Rattle.replay.specs.declared.fault.JournalFault.{JournalFault}
use Rattle.replay.specs.Faults.{fault_report}

-- The fault of a step becomes that of the journal by the number of its record.
abbrev pub numbered : ℕ → Result Report StepFault → Result Report JournalFault
numbered n (Ok report) = Ok report
numbered n (Err fault) = Err (record { «record» = n; fault = fault })

-- The line of the record n tells its report, and the line of a fault tells the fault of the record that it names.
abbrev pub line_text : ℕ → Result Report JournalFault → List ℕ
line_text n (Ok report) = printed n report
line_text n (Err fault) = printed fault.«record» (fault_report fault.fault)
