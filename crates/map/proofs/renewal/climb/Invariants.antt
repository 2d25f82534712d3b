use Rattle.std.proofs.Common.{◌≡◌, ◌-◌}
use Rattle.map.proofs.renewal.climb.Given as goal
use Rattle.tables.specs.Totals.{climbed}

-- what is left of the run is the run from the start
abbrev pub invariant-loop : goal.invariant-loop
invariant-loop g l =
    climbed g.K.Tally.joined g.K.Tally.neutral l.initial.records (l.places - l.counter) l.at l.tallies
    ≡ climbed g.K.Tally.joined g.K.Tally.neutral l.initial.records l.places l.fn.from l.initial.tallies
