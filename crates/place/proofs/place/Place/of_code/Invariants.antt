use Rattle.std.proofs.Common.{◌≡◌, ◌-◌, ◌*◌, ◌/◌, ◌^◌}
use Rattle.place.specs.Codes.{odd_bits, even_bits}
use Rattle.place.proofs.place.Place.of_code.Given as goal

-- the counts of the bits so far
abbrev pub invariant-loop-i : goal.invariant-loop-i
invariant-loop-i l = (l.motor ≡ odd_bits l.i (l.code / 2 ^ (32 - l.i * 2))) × (l.root ≡ even_bits l.i (l.code / 2 ^ (32 - l.i * 2)))
