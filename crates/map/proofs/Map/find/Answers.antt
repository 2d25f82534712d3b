use Rattle.std.proofs.Common.{sym, ◌∙◌}
use Rattle.map.proofs.Map.find.Goals as goal
use Rattle.tables.proofs.Finds.{lacks_empty, lacks_other, leaf_of}

pub returns-in_err-root : goal.returns-in_err-root
returns-in_err-root g c = record { value = rw c.from_residual.ensures (lacks_empty g.K.Tally.joined g.K.Tally.neutral _ c.args.code c.in_err-root.was) }

pub returns-then-is_reading : goal.returns-then-is_reading
returns-then-is_reading g c = record {
  value = leaf_of _ c.args.code c.in_ok-root.root c.descend-leaf.result c.node-r.result c.in_ok-root.was c.descend-leaf.ensures c.node-r.ensures (sym c.is_reading.ensures.value ∙ c.if-is_reading.true);
}

pub returns : goal.returns
returns g c = record {
  value = lacks_other g.K.Tally.joined g.K.Tally.neutral _ c.args.code c.in_ok-root.root c.descend-leaf.result c.node-r.result c.in_ok-root.was c.descend-leaf.ensures c.node-r.ensures (sym c.is_reading.ensures.value ∙ c.if-is_reading.false);
}
