-- The tests of a disc, and that its inner set is part of its outer set.
use Rattle.std.specs.Prelude.{◌≡◌, ℕ, ◌+◌, ◌*◌, ◌≤◌, true, leb, nat_le}
use Rattle.std.proofs.Common.{ap₂, mul-le-mul, le_trans}
use Rattle.std.proofs.lemmas.Bool.{leb-true, le-leb}
use Rattle.crossing.specs.Discs.{within, apart, gap_to}

-- a larger radius has all the places of a smaller one
pub within_more : (cm cr r R m n : ℕ) → r ≤ R → within cm cr r m n ≡ true → within cm cr R m n ≡ true
unfolding within
within_more cm cr r R m n h e =
    le-leb (apart m cm * apart m cm + apart n cr * apart n cr) (R * R)
    (le_trans (leb-true (apart m cm * apart m cm + apart n cr * apart n cr) (r * r) e) (mul-le-mul h h))

-- the distances of a place, as those of an interval of one count
pub within_by : (cm cr r m n s q : ℕ) → s ≡ gap_to cm m m * gap_to cm m m + gap_to cr n n * gap_to cr n n → q ≡ r * r → nat_le s q ≡ within cm cr r m n
unfolding within
within_by cm cr r m n s q es eq = ap₂ leb es eq
