-- Discs of places, and the crossing sum of a disc.
--   apart, within            distances, and the places at most so far from a centre
--   gap_to, reach_to         how far the nearest and the farthest count of an interval are
--   coarse, reached, added   which depths count, and for how much
--   crossing_sum             the bound on how many boxes cross a disc
use Rattle.std.specs.Prelude.{ℕ, ◌+◌, ◌-◌, ◌*◌, ◌/◌, max, Bool, cond, nat_le, nat_lt}
use Rattle.place.specs.Boxes.{motor_side, root_side}
use Rattle.crossing.specs.Counting.{sum_below}
use Rattle.crossing.specs.Regions.{Places}

-- How far apart two counts are.
abbrev pub apart : ℕ → ℕ → ℕ
apart x y = (x - y) + (y - x)

-- The places whose squared distance from the centre (cm, cr) is at most the square of the radius.
unfoldable pub within : ℕ → ℕ → ℕ → Places
within cm cr radius m r = nat_le (apart m cm * apart m cm + apart r cr * apart r cr) (radius * radius)

-- How far the count c is from the nearest count from lo to hi.
abbrev pub gap_to : ℕ → ℕ → ℕ → ℕ
gap_to c lo hi = (lo - c) + (c - hi)

-- How far the count c is from the farthest count from lo to hi.
abbrev pub reach_to : ℕ → ℕ → ℕ → ℕ
reach_to c lo hi = max (c - lo) (hi - c)

-- Whether the diagonal of the boxes of depth k, from place to place, is longer than the gap between the radii.
abbrev pub coarse : ℕ → ℕ → Bool
coarse gap k = nat_lt (gap * gap) ((motor_side k - 1) * (motor_side k - 1) + (root_side k - 1) * (root_side k - 1))

-- How many boxes of depth k at most meet a disc of a radius.
abbrev pub reached : ℕ → ℕ → ℕ
reached radius k = (2 * radius / motor_side k + 2) * (2 * radius / root_side k + 2)

-- What depth k adds to the crossing sum: what is reached there, where that depth is coarse.
abbrev pub added : ℕ → ℕ → ℕ → ℕ
added radius gap k = cond (coarse gap k) (reached radius k) 0

-- The crossing sum of a disc with the inner radius r and the outer radius R, over all depths.
unfoldable pub crossing_sum : ℕ → ℕ → ℕ
crossing_sum r R = sum_below 33 (λ k. added r (R - r) k)
