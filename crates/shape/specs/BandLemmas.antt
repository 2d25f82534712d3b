-- The inner set of a band is part of its outer set.
use Rattle.std.specs.Prelude.{◌≡◌, ℕ, ◌^◌, ◌<◌, true}
use Rattle.std.proofs.Common.{rules}
use Rattle.shape.specs.declared.band.Band.{Band}
use Rattle.shape.specs.Shapes.{band_inner, band_outer}

-- A place of the rectangle is a place of the widened rectangle.
pub inner_in_outer : (s : Band) (m r : ℕ) → m < 2 ^ 16 → r < 2 ^ 16 → band_inner s m r ≡ true → band_outer s m r ≡ true
inner_in_outer s m r motors roots h = search rules
