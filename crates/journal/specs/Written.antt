-- What an array with a count of its bytes says.
--   text   the bytes that are counted
use Rattle.std.specs.Prelude.{ℕ, List, take}
use Rattle.journal.specs.declared.padded.Padded.{Padded}

-- The first bytes, as many as are counted: what was written, where zeros follow it.
abbrev pub text : {n : ℕ} → Padded n → List ℕ
text p = take p.len p.bytes
