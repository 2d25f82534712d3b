-- What is printed of what was found.
--   accepted_text   the words for an accepted sample
--   box_text        the words for a box
use Rattle.std.specs.Prelude.{ℕ, List, ◌++◌, codes, decimal}
use Rattle.std.specs.Fmt.{signed_decimal}
use Rattle.survey.specs.declared.sample.Accepted.{Accepted}
use Rattle.survey.specs.declared.lines.PrintedBox.{PrintedBox}

-- An accepted sample is printed with its place, code, lag and delay, in decimal.
abbrev pub accepted_text : Accepted → List ℕ
accepted_text a =
    (codes "place " ++ (decimal a.place.motor ++ (codes " " ++ decimal a.place.root)))
    ++ (codes " code " ++ (decimal a.code ++ (codes " lag " ++ (signed_decimal a.lag ++ (codes " delay " ++ decimal a.delay)))))

-- A box is printed with its depth and the ends of its motor and root counts, in decimal.
abbrev pub box_text : PrintedBox → List ℕ
box_text b =
    (codes "box depth " ++ (decimal b.depth ++ (codes " motor " ++ (decimal b.places.motors.lowest ++ (codes " to " ++ decimal b.places.motors.highest)))))
    ++ (codes " root " ++ (decimal b.places.roots.lowest ++ (codes " to " ++ decimal b.places.roots.highest)))
