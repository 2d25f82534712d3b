-- A number in decimal.
--   Number   the number that a word is in decimal, or none
use Rattle.std.specs.Prelude.{◌≡◌, ℕ, ◌≤◌, List, Some, None, decimal, Option, ◌≢◌}

-- The answer is the number that the word is in decimal, or none where no number up to the largest is written so.
abbrev pub Number : ℕ → List ℕ → Option ℕ → Type 0
Number largest word (Some n) = (n ≤ largest) × (word ≡ decimal n)
Number largest word None = (n : ℕ) → n ≤ largest → word ≢ decimal n
