use Rattle.std.proofs.Common.{List, Some, refl, ap, ◌∙◌}
use Rattle.records.specs.declared.record.Record.{Record}
use Rattle.map.proofs.Map.finish_strike.Goals as goal
use Rattle.records.specs.Free.{four_linked}
use Rattle.tables.specs.Totals.{climbed}
use Rattle.tables.proofs.Agains.{same_state}

pub returns-clause-run : goal.returns-clause-run
returns-clause-run g c =
    same_state _ _ _ _ _ _ _ _ _ _ _ _
    (c.give_four-after.ensures.table ∙ ap (λ (l : List Record). four_linked l c.args.self.now.free c.args.n) c.climb.ensures.same)
    (c.climb.ensures.run ∙ ap (λ (v : Record). climbed g.K.Tally.joined g.K.Tally.neutral c.args.self.now.records.now c.args.self.now.places v.parent c.args.self.now.tallies.now) c.node-r.ensures)
    refl (ap Some c.root_above-top.ensures) c.saturating_sub-self.ensures c.give_four-after.ensures.value
