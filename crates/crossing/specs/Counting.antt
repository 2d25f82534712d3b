-- Sums, counts and searches over the numbers below a bound. The checker unfolds none of them unless a proof asks, so that nothing ever computes them.
--   sum_below, count_below, any_below   a sum, a count and a search below a bound
--   one_if                              1 for yes and 0 for no
use Rattle.std.specs.Prelude.{ℕ, zero, suc, ◌+◌, Bool, true, false, ◌||◌}

-- f 0 + f 1 + .. + f (n - 1).
unfoldable pub sum_below : ℕ → (ℕ → ℕ) → ℕ
sum_below zero f = 0
sum_below (suc n) f = sum_below n f + f n

-- 1 for yes and 0 for no.
abbrev pub one_if : Bool → ℕ
one_if true = 1
one_if false = 0

-- How many numbers below n pass the test p.
unfoldable pub count_below : ℕ → (ℕ → Bool) → ℕ
count_below n p = sum_below n (λ i. one_if (p i))

-- Whether some number below n passes the test p.
unfoldable pub any_below : ℕ → (ℕ → Bool) → Bool
any_below zero p = false
any_below (suc n) p = any_below n p || p n
