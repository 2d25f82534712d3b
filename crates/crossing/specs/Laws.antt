-- What the tests of a region say, and the bound on the boxes that cross a disc: one definition for each law that a function of this crate states.
use Rattle.std.specs.Prelude.{◌≡◌, ℕ, ◌+◌, ◌*◌, ◌^◌, ◌<◌, ◌≤◌, true, ◌↔◌, nat_le, nat_lt}
use Rattle.place.specs.Boxes.{between}
use Rattle.crossing.specs.Regions.{Places, beyond, misses, held, crosses, crossings, Found}
use Rattle.crossing.specs.Discs.{within, gap_to, reach_to, crossing_sum}

-- A region misses exactly when it has no place in the inner set.
abbrev pub MissesMeans : Type 0
MissesMeans = (region inner : Places) → (misses region inner ≡ true) ↔ (Found region inner → ⊥)

-- A region is held exactly when each of its places is in the outer set.
abbrev pub HeldMeans : Type 0
HeldMeans =
    (region outer : Places)
    → (held region outer ≡ true) ↔ ((m r : ℕ) → m < 2 ^ 16 → r < 2 ^ 16 → region m r ≡ true → outer m r ≡ true)

-- A region crosses exactly when it has a place in the inner set and a place outside the outer set.
abbrev pub CrossesMeans : Type 0
CrossesMeans = (region inner outer : Places) → (crosses region inner outer ≡ true) ↔ (Found region inner × Found region (beyond outer))

-- A rectangle misses a disc exactly when its nearest place is farther than the radius, by squares.
abbrev pub DiscMisses : Type 0
DiscMisses =
    (cm cr radius lm hm lr hr : ℕ) → lm ≤ hm → lr ≤ hr → hm < 2 ^ 16 → hr < 2 ^ 16
    → misses (between lm hm lr hr) (within cm cr radius)
    ≡ nat_lt (radius * radius) (gap_to cm lm hm * gap_to cm lm hm + gap_to cr lr hr * gap_to cr lr hr)

-- A rectangle is held by a disc exactly when its farthest place is no farther than the radius, by squares.
abbrev pub DiscHolds : Type 0
DiscHolds =
    (cm cr radius lm hm lr hr : ℕ) → lm ≤ hm → lr ≤ hr → hm < 2 ^ 16 → hr < 2 ^ 16
    → held (between lm hm lr hr) (within cm cr radius)
    ≡ nat_le (reach_to cm lm hm * reach_to cm lm hm + reach_to cr lr hr * reach_to cr lr hr) (radius * radius)

-- At most the crossing sum of boxes cross a disc.
abbrev pub DiscCrossings : Type 0
DiscCrossings = (cm cr r R : ℕ) → r ≤ R → crossings (within cm cr r) (within cm cr R) ≤ crossing_sum r R
