use Rattle.crossing.proofs.DiscLaws.{disc_misses, disc_holds}
use Rattle.crossing.proofs.disc_tests_are_exact.Goals as goal

pub returns : goal.returns
returns c = record { misses = disc_misses; held = disc_holds }
