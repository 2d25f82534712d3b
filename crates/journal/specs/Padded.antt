-- Bytes in an array of fixed size, with zeros after them.
--   Holds   an array that holds given bytes and then zeros
use Rattle.std.specs.Prelude.{◌≡◌, ℕ, ◌-◌, ◌≤◌, List, ◌++◌, length, replicate}

-- Of an array of n bytes, the first are t, `len` is how many these are, and zeros fill the array after them.
pub record Holds (n : ℕ) (bytes : List ℕ) (len : ℕ) (t : List ℕ) : Type 0 where
  pub fits : length t ≤ n
  pub count : len ≡ length t
  pub text : bytes ≡ t ++ replicate (n - length t) 0
