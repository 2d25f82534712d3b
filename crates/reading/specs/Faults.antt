-- The number under which each fault of a reading is reported.
--   number   the number of a fault
use Rattle.std.specs.Prelude.{ℕ}
use Rattle.reading.specs.declared.fault.ReadingFault.{ReadingFault}
use Rattle.reading.specs.declared.fault.ReadingFault.TheVariants.{Early, Late}

-- A root before its motor is reported as 1, and one too long after it as 2.
abbrev pub number : ReadingFault → ℕ
number Early = 1
number Late = 2
