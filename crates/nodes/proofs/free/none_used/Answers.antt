use Rattle.nodes.proofs.free.none_used.Goals as goal
use Rattle.records.proofs.FreeLaws.{opens}

pub returns : goal.returns
returns c = record { stands = opens }
