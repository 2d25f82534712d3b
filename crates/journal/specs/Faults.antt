-- The number under which each fault of a journal's bytes is reported.
--   fault_number   the number of a fault
use Rattle.std.specs.Prelude.{ℕ}
use Rattle.journal.specs.declared.fault.FormatFault.{FormatFault}
use Rattle.journal.specs.declared.fault.FormatFault.TheVariants.{TooLong, WrongMark, WrongVersion, UnknownLetter, CutShort}

-- The faults of the heading are 10 to 12, and those of a record are 13 and 14.
abbrev pub fault_number : FormatFault → ℕ
fault_number TooLong = 10
fault_number WrongMark = 11
fault_number WrongVersion = 12
fault_number UnknownLetter = 13
fault_number CutShort = 14
