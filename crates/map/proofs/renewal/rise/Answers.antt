use Rattle.std.proofs.Common.{not, sym, ap, ◌∙◌}
use Rattle.std.specs.Option.{is_none}
use Rattle.records.specs.declared.record.Record.{Record}
use Rattle.map.proofs.renewal.rise.Goals as goal
use Rattle.tables.proofs.Raises.{stops, turns}

pub returns-then-is_none : goal.returns-then-is_none
returns-then-is_none g c = record {
  run =
      sym (stops g.K.Tally.joined g.K.Tally.neutral _ c.loop.records c.loop.tallies c.loop.s (ap (λ (v : Record). is_none v.parent) (sym c.read.ensures.value) ∙ ap not (c.is_none.ensures ∙ ap not c.if-is_none.true)))
      ∙ c.loop.invariant;
}

pub loop-preserved : goal.loop-preserved
loop-preserved g c =
    turns g.K.Tally.joined g.K.Tally.neutral c.args.places c.loop.counter c.loop.records c.settle-v.new.records c.loop.tallies c.mend.new.tallies c.mend-in-loop.new.tallies
    c.loop.s c.settle-v.result.top c.settle-v.result.low c.read.result c.loop-test.true c.read.ensures.value (ap not (c.is_none.ensures ∙ ap not c.if-is_none.false)) c.settle-v.ensures.table c.settle-v.ensures.top c.settle-v.ensures.low
    c.mend.ensures.run c.mend-in-loop.ensures.run
    ∙ c.loop.invariant
