-- Why a shape is refused.
--   fault_number               the number of each refusal
--   disc_fault, band_fault     the fault of the numbers of a disc and of a band
--   DiscRefused, BandRefused   when each refusal is answered
use Rattle.std.specs.Prelude.{◌≡◌, ℕ, nat_lt, if◌then◌else◌, Some, None, Option}
use Rattle.shape.specs.declared.fault.ShapeFault.{ShapeFault}
use Rattle.shape.specs.declared.fault.ShapeFault.TheVariants.{OuterRadiusTooLarge, InnerRadiusAboveOuter, MotorEndsReversed, RootEndsReversed}

-- The number of each refusal.
abbrev pub fault_number : ShapeFault → ℕ
fault_number OuterRadiusTooLarge = 3
fault_number InnerRadiusAboveOuter = 4
fault_number MotorEndsReversed = 5
fault_number RootEndsReversed = 6

-- The fault of the radii of a disc, if there is one: the outer radius R is too large, or else the inner radius r is above it.
abbrev pub disc_fault : ℕ → ℕ → Option ShapeFault
disc_fault r R = if nat_lt 100000 R then Some OuterRadiusTooLarge else if nat_lt R r then Some InnerRadiusAboveOuter else None

-- The fault of the ends of a band, if there is one: its lowest motor count is above its highest, or else its lowest root count.
abbrev pub band_fault : ℕ → ℕ → ℕ → ℕ → Option ShapeFault
band_fault lm hm lr hr = if nat_lt hm lm then Some MotorEndsReversed else if nat_lt hr lr then Some RootEndsReversed else None

-- A disc with the inner radius r and the outer radius R is refused by the fault of its radii.
abbrev pub DiscRefused : ℕ → ℕ → ShapeFault → Type 0
DiscRefused r R f = disc_fault r R ≡ Some f

-- A band with the given ends is refused by the fault of its ends.
abbrev pub BandRefused : ℕ → ℕ → ℕ → ℕ → ShapeFault → Type 0
BandRefused lm hm lr hr f = band_fault lm hm lr hr ≡ Some f
