-- How sums are made and joined.
--   remainder_fits     a remainder fits
--   sum_of, zero_sum   the sum of a number, and of nothing
--   sum_joined         two sums joined
use Rattle.std.specs.Prelude.{ℕ, ◌+◌, ◌%◌, ◌^◌, ◌<◌}
use Rattle.std.proofs.Common.{arith}
use Rattle.tally.specs.declared.sum.Sum.{Sum}

-- A remainder modulo 2 ^ 64 fits 64 bits.
pub remainder_fits : (n : ℕ) → n % 2 ^ 64 < 2 ^ 64
remainder_fits n = omega arith

-- The sum of a number, which counts modulo 2 ^ 64.
abbrev pub sum_of : ℕ → Sum
sum_of n = record { value = n % 2 ^ 64; fits = remainder_fits n }

-- The sum of nothing is that of 0.
abbrev pub zero_sum : Sum
zero_sum = sum_of 0

-- Two sums are joined by addition modulo 2 ^ 64.
abbrev pub sum_joined : Sum → Sum → Sum
sum_joined x y = sum_of (x.value + y.value)
