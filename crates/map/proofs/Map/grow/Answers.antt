use Rattle.map.proofs.Map.grow.Goals as goal
use Rattle.map.specs.Maps.{state_of}
use Rattle.tables.proofs.EnterCalls.{grown_by, grown_run}

pub returns-clause-run : goal.returns-clause-run
returns-clause-run g c =
    let s = state_of c.args.self.now in
    grown_by g.K.Tally.joined g.K.Tally.neutral s c.args.i c.args.rank.code c.args.rank.priority c.args.extra _ _ _ c.four_free.result
    (grown_run g.K.Tally.joined g.K.Tally.neutral s.places c.args.i c.args.rank.code c.args.rank.priority c.args.extra c.neutral_value.result
    s.records c.plant.new.records s.tallies c.write.new.entries c.write-2.new.entries c.four_free.result.0 _
    c.plant.ensures.table c.write.ensures.table c.neutral_value.ensures.value c.write-2.ensures.table c.mend_and_rise-top.ensures.run)
    c.four_free.ensures.value
