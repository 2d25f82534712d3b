-- What is printed where a text writes no journal.
--   fault_text   the words for a fault
use Rattle.std.specs.Prelude.{ℕ, List, ◌++◌, codes, decimal}
use Rattle.pamtext.specs.declared.fault.TextFault.{TextFault}
use Rattle.pamtext.specs.declared.fault.TextFault.TheVariants.{Line, NoMemory}

-- The number of the line is printed in decimal.
abbrev pub fault_text : TextFault → List ℕ
fault_text (Line n) = codes "line " ++ (decimal n ++ codes ": not a record")
fault_text NoMemory = codes "too little memory"
