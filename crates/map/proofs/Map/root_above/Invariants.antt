use Rattle.std.proofs.Common.{◌≡◌, ◌-◌}
use Rattle.map.proofs.Map.root_above.Given as goal
use Rattle.tables.specs.Removal.{root_above}

-- what is left of the way up ends where the whole way ends
abbrev pub invariant-loop : goal.invariant-loop
invariant-loop g l = root_above (l.self.places - l.counter) l.self.records.now l.i ≡ root_above l.self.places l.self.records.now l.from
