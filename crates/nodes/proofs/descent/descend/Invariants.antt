use Rattle.std.proofs.Common.{◌≡◌, ◌-◌}
use Rattle.nodes.proofs.descent.descend.Given as goal
use Rattle.records.specs.Writes.{descended}

-- what is left of the run is the run from the start
abbrev pub invariant-loop : goal.invariant-loop
invariant-loop g l = descended (l.budget - l.counter) l.records l.i l.code ≡ descended l.budget l.records l.root l.code
