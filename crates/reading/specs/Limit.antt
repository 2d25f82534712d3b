-- How long after the motor the root may be read.
--   longest   the longest delay
use Rattle.std.specs.Prelude.{ℕ}

-- The longest delay between the two halves of a reading, in milliseconds.
abbrev pub longest : ℕ
longest = 20
