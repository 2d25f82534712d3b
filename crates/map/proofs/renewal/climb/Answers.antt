use Rattle.std.proofs.Common.{◌-◌, sym, refl, ap, ◌∙◌}
use Rattle.map.proofs.renewal.climb.Goals as goal
use Rattle.tables.specs.Totals.{climbed}
use Rattle.tables.proofs.Climbs.{stops, turns}

pub returns-in_default-clause-run : goal.returns-in_default-clause-run
returns-in_default-clause-run g c =
    sym (
    ap (λ m. climbed g.K.Tally.joined g.K.Tally.neutral c.args.records.now (c.args.places - c.loop.counter) m c.loop.tallies) c.in_default.is
    ∙ stops g.K.Tally.joined g.K.Tally.neutral c.args.records.now (c.args.places - c.loop.counter) c.loop.tallies
    )
    ∙ c.loop.invariant

pub loop-preserved : goal.loop-preserved
loop-preserved g c =
    turns g.K.Tally.joined g.K.Tally.neutral c.args.records.now c.args.places c.loop.counter c.in-Some.i _ _ c.loop.tallies c.renew.new.tallies c.read-r.result c.loop-test.true c.in-Some.is c.read-r.ensures.value c.renew.ensures refl ∙ c.loop.invariant
