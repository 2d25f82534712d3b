-- What comes next of the bytes of records.
--   Gives   a record or a fault, and the bytes that are then left
use Rattle.std.specs.Prelude.{◌≡◌, ℕ, List, [], Some, None, Ok, Err, Option, Result, ◌≢◌}
use Rattle.journal.specs.Records.{Reads, Explains}
use Rattle.journal.specs.declared.entry.Entry.{Entry}
use Rattle.journal.specs.declared.fault.FormatFault.{FormatFault}

-- Of no bytes nothing comes. Of others comes the record that they begin with, and the bytes after it are left; or the fault that explains why they begin with none, and nothing is left.
abbrev pub Gives : List ℕ → Option (Result Entry FormatFault) → List ℕ → Type 0
Gives bs None left = (bs ≡ []) × (left ≡ [])
Gives bs (Some (Ok e)) left = Reads bs e left
Gives bs (Some (Err f)) left = (bs ≢ []) × Explains bs f × (left ≡ [])
