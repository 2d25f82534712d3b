-- The two sets of places that a disc and a band mean, and how they are made.
--   disc_inner, disc_outer, DiscMade   a disc
--   band_inner, band_outer, BandMade   a band
--   widened                            a rectangle widened by a margin
use Rattle.std.specs.Prelude.{◌≡◌, ℕ, ◌+◌, ◌-◌, min, Ok, Err, Result}
use Rattle.place.specs.Boxes.{between}
use Rattle.place.specs.Values.{in_rectangle}
use Rattle.place.specs.declared.place.Place.{Place}
use Rattle.crossing.specs.Regions.{Places}
use Rattle.crossing.specs.Discs.{within}
use Rattle.shape.specs.declared.disc.Disc.{Disc}
use Rattle.shape.specs.declared.band.Band.{Band}
use Rattle.shape.specs.declared.fault.ShapeFault.{ShapeFault}
use Rattle.shape.specs.Faults.{DiscRefused, BandRefused}

-- The inner set of a disc: the places at most its inner radius from the centre.
abbrev pub disc_inner : Disc → Places
disc_inner d = within d.centre.motor d.centre.root d.inner_radius

-- The outer set of a disc: the places at most its outer radius from the centre.
abbrev pub disc_outer : Disc → Places
disc_outer d = within d.centre.motor d.centre.root d.outer_radius

-- The disc with the centre and the radii that were given, or why there is none.
abbrev pub DiscMade : Place → ℕ → ℕ → Result Disc ShapeFault → Type 0
DiscMade centre r R (Ok d) = (d.centre ≡ centre) × (d.inner_radius ≡ r) × (d.outer_radius ≡ R)
DiscMade centre r R (Err f) = DiscRefused r R f

-- The inner set of a band: its rectangle.
abbrev pub band_inner : Band → Places
band_inner b = in_rectangle b.rectangle

-- The rectangle with the given ends, widened by a margin on each side, stopping at 0 and 65535.
abbrev pub widened : ℕ → ℕ → ℕ → ℕ → ℕ → Places
widened lm hm lr hr margin = between (lm - margin) (min (hm + margin) 65535) (lr - margin) (min (hr + margin) 65535)

-- The outer set of a band: its rectangle widened by the margin on each side, stopping at 0 and 65535.
abbrev pub band_outer : Band → Places
band_outer b =
    widened b.rectangle.motors.lowest b.rectangle.motors.highest b.rectangle.roots.lowest b.rectangle.roots.highest b.margin

-- The band with the ends and the margin that were given, or why there is none.
abbrev pub BandMade : ℕ → ℕ → ℕ → ℕ → ℕ → Result Band ShapeFault → Type 0
BandMade lm hm lr hr margin (Ok b) =
    (b.rectangle.motors.lowest ≡ lm) × (b.rectangle.motors.highest ≡ hm) × (b.rectangle.roots.lowest ≡ lr)
    × (b.rectangle.roots.highest ≡ hr) × (b.margin ≡ margin)
BandMade lm hm lr hr margin (Err f) = BandRefused lm hm lr hr f
