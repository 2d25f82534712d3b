-- What a line of text gives, and what becomes of it.
--   Spells, Sampled   four words read as a sample
--   Surveyed          a sample completed, with its place, code, lag and delay, or refused
use Rattle.std.specs.Prelude.{◌≡◌, ℕ, ◌+◌, ◌^◌, ◌<◌, List, pos, ◌-ℤ◌, Some, None, Ok, Err, Option, Result}
use Rattle.std.specs.Str.Parse.{IsNumeral, digits_value, without_leading_plus}
use Rattle.place.specs.Codes.{code_of}
use Rattle.reading.specs.Readings.{InTime, Explains}
use Rattle.reading.specs.declared.fault.ReadingFault.{ReadingFault}
use Rattle.survey.specs.declared.sample.Sample.{Sample}
use Rattle.survey.specs.declared.sample.Accepted.{Accepted}

-- The word spells, in decimal, a number of k bits.
abbrev pub Spells : ℕ → List ℕ → Type 0
Spells k word = IsNumeral 10 (without_leading_plus word) × (digits_value 10 (without_leading_plus word) < 2 ^ k)

-- Four words make a sample of the four numbers that they spell, or none where one spells no number that fits.
abbrev pub Sampled : List ℕ → List ℕ → List ℕ → List ℕ → Option Sample → Type 0
Sampled a b c d (Some s) =
    (s.motor ≡ digits_value 10 (without_leading_plus a)) × (s.motor_time ≡ digits_value 10 (without_leading_plus b))
    × (s.root ≡ digits_value 10 (without_leading_plus c)) × (s.root_time ≡ digits_value 10 (without_leading_plus d))
    × Spells 16 a × Spells 32 b × Spells 16 c × Spells 32 d
Sampled a b c d None = Spells 16 a → Spells 32 b → Spells 16 c → Spells 32 d → ⊥

-- A sample in time is accepted with its place, code, lag and delay; any other is refused with the fault that explains it.
abbrev pub Surveyed : Sample → Result Accepted ReadingFault → Type 0
Surveyed s (Ok a) =
    InTime s.motor_time s.root_time
    × (a.place.motor ≡ s.motor) × (a.place.root ≡ s.root) × (a.code ≡ code_of s.motor s.root)
    × (a.lag ≡ pos s.root -ℤ pos s.motor) × (s.motor_time + a.delay ≡ s.root_time)
Surveyed s (Err f) = Explains f s.motor_time s.root_time
