use Rattle.crossing.proofs.RegionLaws.{misses_means, held_means, crosses_means}
use Rattle.crossing.proofs.tests_mean.Goals as goal

pub returns : goal.returns
returns c = record { misses = misses_means; held = held_means; crosses = crosses_means }
