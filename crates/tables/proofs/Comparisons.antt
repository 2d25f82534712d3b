-- The effort of a disc.
use Rattle.std.proofs.Common.{ℕ, ◌≤◌, le_trans, mul-le-mul_left}
use Rattle.crossing.specs.Discs.{within}
use Rattle.quadtreap.specs.Walk.{Answer}
use Rattle.tables.specs.Stands.{State}
use Rattle.tables.specs.Tallies.{Answers, DiscEffort}
use Rattle.crossing.proofs.CrossingLaws.{disc_crossings}

pub disc_effort : {K : Type 0} (join : K → K → K) (e : K) (cm cr r R : ℕ) (s : State K) (a : Answer K) → r ≤ R
    → Answers join e (within cm cr r) (within cm cr R) s a → DiscEffort join e s r R a.expanded
disc_effort join e cm cr r R s a h f cs st = le_trans (f cs st).effort (mul-le-mul_left _ (disc_crossings cm cr r R h))
