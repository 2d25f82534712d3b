-- The numbers of all faults of a journal, and what is printed of them.
--   step_number    the number of the fault of a step
--   fault_report   what the line of its record says
use Rattle.std.specs.Prelude.{ℕ}
use Rattle.journal.specs.Faults.{fault_number as format_number}
use Rattle.journal.specs.declared.report.Report.{Report}
use Rattle.journal.specs.declared.report.Report.TheVariants.{Refused, Stopped}
use Rattle.reading.specs.Faults.{number as reading_number}
use Rattle.shape.specs.Faults.{fault_number as shape_number}
use Rattle.tables.specs.Calls.{fault_number as map_number}
use Rattle.replay.specs.declared.fault.StepFault.{StepFault}
use Rattle.replay.specs.declared.fault.StepFault.TheVariants.{Format, Reading, Shape, Map}

-- The number of a fault is that of the fault that it holds: 1 and 2 of a reading, 3 to 6 of a shape, 7 to 9 of the map, 10 to 14 of the bytes.
abbrev pub step_number : StepFault → ℕ
step_number (Format f) = format_number f
step_number (Reading f) = reading_number f
step_number (Shape f) = shape_number f
step_number (Map f) = map_number f

-- A fault of the bytes stops the run, and any other refuses the record.
abbrev pub fault_report : StepFault → Report
fault_report (Format f) = Stopped (format_number f)
fault_report (Reading f) = Refused (reading_number f)
fault_report (Shape f) = Refused (shape_number f)
fault_report (Map f) = Refused (map_number f)
