use Rattle.std.proofs.Common.{◌-◌, sym, ap, ◌∙◌}
use Rattle.records.specs.declared.record.Record.{Record}
use Rattle.map.proofs.Map.root_above.Goals as goal
use Rattle.tables.proofs.RootLaws.{stops, turns}

pub returns-in_default : goal.returns-in_default
returns-in_default g c =
    sym (stops c.args.self.now.records.now (c.args.self.now.places - c.loop.counter) c.loop.i (ap (λ (v : Record). v.parent) (sym c.node.ensures) ∙ c.in_default.is)) ∙ c.loop.invariant

pub loop-preserved : goal.loop-preserved
loop-preserved g c =
    turns c.args.self.now.records.now c.args.self.now.places c.loop.counter c.loop.i c.in-Some.up c.node.result c.loop-test.true c.node.ensures c.in-Some.is ∙ c.loop.invariant
