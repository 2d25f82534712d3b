use Rattle.std.proofs.Common.{◌≡◌, ◌-◌, ◌/◌, ◌^◌}
use Rattle.place.specs.Codes.{interleave}
use Rattle.place.proofs.place.Place.code.Given as goal

-- the code of the bits so far
abbrev pub invariant-loop-i : goal.invariant-loop-i
invariant-loop-i l = l.code ≡ interleave l.i (l.motor / 2 ^ (16 - l.i)) (l.root / 2 ^ (16 - l.i))
