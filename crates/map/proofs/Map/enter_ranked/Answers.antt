use Rattle.std.proofs.Common.{Ok, sym, ap, ◌∙◌, arith}
use mathlib.Core.Path.{subst⁻¹}
use Rattle.map.proofs.Map.enter_ranked.Goals as goal
use Rattle.map.specs.Maps.{state_of}
use Rattle.tables.specs.Calls.{enters}
use Rattle.tables.specs.Stands.{State, Keeps}
use Rattle.tables.proofs.EnterCalls.{keeps_full_empty, keeps_first, keeps_taken, keeps_full, keeps_entered}

pub returns-then-is_full-clause-keeps : goal.returns-then-is_full-clause-keeps
returns-then-is_full-clause-keeps g c =
    keeps_full_empty g.K.Tally.joined g.K.Tally.neutral c.args.rank.code c.args.rank.priority c.args.extra _ c.in_default.is (sym c.is_full.ensures.value ∙ c.if-is_full.true)

pub returns-in_default-clause-keeps : goal.returns-in_default-clause-keeps
returns-in_default-clause-keeps g c =
    subst⁻¹ (λ (u : State g.row.K.Denot). Keeps g.K.Tally.joined g.K.Tally.neutral (state_of c.args.self.now) u (enters c.args.rank.code c.args.rank.priority c.args.extra) (Ok 1))
    c.start.ensures.run
    (keeps_first g.K.Tally.joined g.K.Tally.neutral c.args.rank.code c.args.rank.priority c.args.extra (state_of c.args.self.now) c.in_default.is
    (sym c.is_full.ensures.value ∙ c.if-is_full.false) (omega arith))

pub returns-then-is_reading-clause-keeps : goal.returns-then-is_reading-clause-keeps
returns-then-is_reading-clause-keeps g c =
    keeps_taken g.K.Tally.joined g.K.Tally.neutral c.args.rank.code c.args.rank.priority c.args.extra _ c.descend-leaf.result c.node-record.result c.in-Some.root c.in-Some.is
    c.descend-leaf.ensures c.node-record.ensures (sym c.is_reading.ensures.value ∙ c.if-is_reading.true)

pub returns-then-is_full-2-clause-keeps : goal.returns-then-is_full-2-clause-keeps
returns-then-is_full-2-clause-keeps g c =
    keeps_full g.K.Tally.joined g.K.Tally.neutral c.args.rank.code c.args.rank.priority c.args.extra _ c.descend-leaf.result c.node-record.result c.in-Some.root c.in-Some.is
    c.descend-leaf.ensures c.node-record.ensures (sym c.is_reading.ensures.value ∙ c.if-is_reading.false) (sym c.is_full-2.ensures.value ∙ c.if-is_full-2.true)

pub grow-requires : goal.grow-requires
grow-requires g c = c.is_full-2.ensures.room c.if-is_full-2.false

pub returns-clause-keeps : goal.returns-clause-keeps
returns-clause-keeps g c =
    keeps_entered g.K.Tally.joined g.K.Tally.neutral c.args.rank.code c.args.rank.priority c.args.extra _ c.descend-leaf.result c.node-record.result c.in-Some.root c.in-Some.is
    c.descend-leaf.ensures c.node-record.ensures (sym c.is_reading.ensures.value ∙ c.if-is_reading.false) (sym c.is_full-2.ensures.value ∙ c.if-is_full-2.false) (omega arith)
    _ (ap (λ (s : State g.row.K.Denot). s.live) c.grow.ensures.run) _ c.grow.ensures.run
