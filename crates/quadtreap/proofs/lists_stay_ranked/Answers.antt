use Rattle.quadtreap.proofs.lists_stay_ranked.Goals as goal
use Rattle.quadtreap.proofs.SameLaws.{stays_ranked, sorts_by_rank}

pub returns : goal.returns
returns g c = record { stays = stays_ranked; sorts = sorts_by_rank }
