-- How many digits a number has.
use Rattle.std.proofs.Common.{◌≡◌, ℕ, zero, suc, ◌+◌, ◌*◌, ◌/◌, ◌^◌, ◌<◌, ◌≤◌, length, decimal, ap, ◌∙◌, arith, length-append}
use native.Mathlib.Nat.{pow-suc}
use Rattle.std.proofs.lemmas.Fmt.{length-decimal-le, decimal_step, decimal_nonempty}

above_zero : (k : ℕ) → 0 < 10 ^ k
above_zero zero = omega arith
above_zero (suc k) = omega (arith, pow-suc 10 k, above_zero k)

-- A number from a power of ten on has more digits than the power says.
from_power : (k n : ℕ) → 10 ^ k ≤ n → n < 2 ^ 64 → k < length (decimal n)
from_power zero n h small = decimal_nonempty n small
from_power (suc k) n h small =
    let tens : 10 ^ k * 10 ≤ n = omega (arith, pow-suc 10 k) in
    let some : 0 < 10 ^ k = above_zero k in
    let long : length (decimal n) ≡ length (decimal (n / 10)) + 1 = ap length (decimal_step n (omega arith) small) ∙ length-append (decimal (n / 10)) _ in
    let fewer : k < length (decimal (n / 10)) = from_power k (n / 10) (omega arith) (omega arith) in
    omega arith

-- A number from one power of ten to below the next has one digit more than the power says.
pub between_powers : (k n : ℕ) → 10 ^ k ≤ n → n < 10 * 10 ^ k → n < 2 ^ 64 → length (decimal n) ≡ k + 1
between_powers k n low high small =
    let next : n < 10 ^ suc k = omega (arith, pow-suc 10 k, high) in
    omega (arith, from_power k n low small, length-decimal-le (suc k) n (omega arith) next small)
