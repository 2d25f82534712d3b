use Rattle.quadtreap.proofs.moves_go_by_steps.Goals as goal
use Rattle.quadtreap.proofs.MapLaws.{settled, risen, goes_on, is_done_lem}
use Rattle.quadtreap.proofs.PairLaws.{relabels}

pub returns : goal.returns
returns g c = record { settled = settled; risen = risen; onward = goes_on; finished = is_done_lem; relabels = relabels }
