use Rattle.map.proofs.Map.open.Goals as goal
use Rattle.tables.proofs.Opens.{opens}

pub returns-clause-stands : goal.returns-clause-stands
returns-clause-stands g c =
    opens g.K.Tally.joined g.K.Tally.neutral c.args.records.now c.args.tallies.now c.common-places.result c.none_used.result c.common-places.ensures c.none_used.ensures.stands
