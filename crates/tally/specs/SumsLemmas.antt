-- Sums are equal where their numbers are, and so obey the laws of addition.
use Rattle.std.specs.Prelude.{◌≡◌, ℕ, ◌^◌, ◌<◌}
use Rattle.std.proofs.Common.{ap, subst, arith}
use Rattle.std.proofs.Math.Bridge.{le_prop}
use Rattle.tally.specs.declared.sum.Sum.{Sum}
use Rattle.tally.specs.Sums.{zero_sum, sum_joined}

-- The sum with a given number.
abbrev sum : (v : ℕ) → v < 2 ^ 64 → Sum
sum v h = record { value = v; fits = h }

-- Sums with the same number are equal, since the fact beside the number has one proof at most.
pub same_sum : (x y : Sum) → x.value ≡ y.value → x ≡ y
same_sum x y e = subst (λ w. (k : w < 2 ^ 64) → x ≡ sum w k) e (λ k. ap (sum x.value) (le_prop x.fits k)) y.fits

-- Sums may be joined in any grouping.
pub join_associative : (x y z : Sum) → sum_joined (sum_joined x y) z ≡ sum_joined x (sum_joined y z)
join_associative x y z = same_sum (sum_joined (sum_joined x y) z) (sum_joined x (sum_joined y z)) (omega arith)

-- Sums may be joined in either order.
pub join_commutative : (x y : Sum) → sum_joined x y ≡ sum_joined y x
join_commutative x y = same_sum (sum_joined x y) (sum_joined y x) (omega arith)

-- The sum of nothing changes no sum.
pub zero_joined : (x : Sum) → sum_joined zero_sum x ≡ x
zero_joined x = same_sum (sum_joined zero_sum x) x (let h = x.fits in omega arith)
