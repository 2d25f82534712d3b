use Rattle.crossing.proofs.CrossingLaws.{disc_crossings}
use Rattle.crossing.proofs.disc_crossings_are_bounded.Goals as goal

pub returns : goal.returns
returns c = record { bound = disc_crossings }
