use Rattle.std.proofs.Common.{◌≡◌, ◌*◌, ◌-◌, ◌≤◌}
use Rattle.map.proofs.Map.walk.Given as goal
use Rattle.tables.specs.Walks.{numbered, starts, ran}

-- what is left of the run finds what the run from the start finds, and no turn expands more than one node
abbrev pub invariant-loop : goal.invariant-loop
invariant-loop g l =
    (ran g.K.Tally.joined g.K.Tally.neutral (numbered (g.S.Shape.inner l.shape) (g.S.Shape.outer l.shape)) l.self.records.now l.self.tallies.now (l.self.places * 2 - l.counter) l.spot
    ≡ ran g.K.Tally.joined g.K.Tally.neutral (numbered (g.S.Shape.inner l.shape) (g.S.Shape.outer l.shape)) l.self.records.now l.self.tallies.now (l.self.places * 2) (starts l.self.root g.K.Tally.neutral))
    × (l.spot.found.expanded ≤ l.counter)
