use Rattle.std.proofs.Common.{◌≡◌, ◌-◌}
use Rattle.nodes.proofs.striking.strike.Given as goal
use Rattle.records.specs.Writes.{struck_in}

-- what is left of the run is the run from the start
abbrev pub invariant-loop : goal.invariant-loop
invariant-loop g l = struck_in (l.budget - l.counter) l.records l.s l.code ≡ struck_in l.budget l.initial.records l.root l.code
