use Rattle.std.proofs.Common.{◌≡◌, ◌-◌}
use Rattle.map.proofs.renewal.rise.Given as goal
use Rattle.tables.specs.Totals.{raised}

-- what is left of the run is the run from the start
abbrev pub invariant-loop : goal.invariant-loop
invariant-loop g l =
    raised g.K.Tally.joined g.K.Tally.neutral (l.places - l.counter) l.records l.tallies l.s
    ≡ raised g.K.Tally.joined g.K.Tally.neutral l.places l.initial.records l.initial.tallies l.from
