-- What the code's values mean: a box value is a box, an interval value is a set of counts, and a rectangle value is a set of places.
--   box_of             the box that a box value is
--   Halved             the answer of a box asked for the half with a code
--   in_interval        the counts of an interval value
--   overlap, inside    two intervals with a count in common, and one interval within another
--   Widened            an interval widened by a margin
--   Spanned            the answer where an interval is asked for by its two ends
--   in_rectangle       the places of a rectangle value
--   Made               the answer where a rectangle is asked for by its four ends
--   Covers             a rectangle whose places are exactly those of a box
use Rattle.std.specs.Prelude.{◌≡◌, ℕ, ◌+◌, ◌-◌, ◌^◌, ◌<◌, ◌≤◌, min, Bool, true, ◌&&◌, nat_le, Some, None, Option, ◌≢◌}
use Rattle.place.specs.Boxes.{Box, holds, in_box, within, half, point, motor_side, root_side, between}
use Rattle.place.specs.declared.place_box.PlaceBox.{PlaceBox}
use Rattle.place.specs.declared.interval.Interval.{Interval}
use Rattle.place.specs.declared.rectangle.Rectangle.{Rectangle}

-- The box that a box value is.
abbrev pub box_of : PlaceBox → Box
box_of b = record { depth = b.depth; code = b.code }

-- The half of b with the code c, or none where b is one code or does not hold c.
abbrev pub Halved : PlaceBox → ℕ → Option PlaceBox → Type 0
Halved b c (Some h) =
    (b.depth < 32) × (holds (box_of b) c ≡ true) × (box_of h ≡ half (box_of b) (point c))
    × (holds (box_of h) c ≡ true) × (within (box_of h) (box_of b) ≡ true)
Halved b c None = b.depth < 32 → holds (box_of b) c ≢ true

-- Whether the count c is in the interval.
abbrev pub in_interval : Interval → ℕ → Bool
in_interval i c = nat_le i.lowest c && nat_le c i.highest

-- Whether two intervals have a count in common: neither begins above the other's highest.
abbrev pub overlap : Interval → Interval → Bool
overlap i j = nat_le i.lowest j.highest && nat_le j.lowest i.highest

-- Whether every count of the first interval is in the second.
abbrev pub inside : Interval → Interval → Bool
inside i j = nat_le j.lowest i.lowest && nat_le i.highest j.highest

-- The interval w is i, widened by a margin on each side, stopping at 0 and 65535.
abbrev pub Widened : Interval → ℕ → Interval → Type 0
Widened i margin w = (w.lowest ≡ i.lowest - margin) × (w.highest ≡ min (i.highest + margin) 65535)

-- The interval with the two ends, or none where the lowest is above the highest.
abbrev pub Spanned : ℕ → ℕ → Option Interval → Type 0
Spanned lo hi (Some i) = (i.lowest ≡ lo) × (i.highest ≡ hi)
Spanned lo hi None = hi < lo

-- The places of a rectangle value.
abbrev pub in_rectangle : Rectangle → ℕ → ℕ → Bool
in_rectangle t = between t.motors.lowest t.motors.highest t.roots.lowest t.roots.highest

-- The rectangle with the four ends, or none where a lowest end is above its highest.
abbrev pub Made : ℕ → ℕ → ℕ → ℕ → Option Rectangle → Type 0
Made lm hm lr hr (Some t) =
    (t.motors.lowest ≡ lm) × (t.motors.highest ≡ hm) × (t.roots.lowest ≡ lr) × (t.roots.highest ≡ hr)
Made lm hm lr hr None = lm ≤ hm → lr ≤ hr → ⊥

-- The rectangle t has exactly the places of the box B, and B's sides.
pub record Covers (B : Box) (t : Rectangle) : Type 0 where
  pub places : (m r : ℕ) → m < 2 ^ 16 → r < 2 ^ 16 → in_rectangle t m r ≡ in_box B m r
  pub motors : t.motors.highest + 1 ≡ t.motors.lowest + motor_side B.depth
  pub roots : t.roots.highest + 1 ≡ t.roots.lowest + root_side B.depth
