use Rattle.std.proofs.Common.{◌≡◌, ℕ, ◌+◌, ◌-◌, sym, ap, ◌∙◌, arith}
use Rattle.nodes.proofs.striking.strike.Goals as goal
use Rattle.records.specs.Writes.{Sink, struck_in}
use Rattle.records.proofs.SinkSteps.{run_ends, run_done, run_lost, run_on}
use Rattle.records.proofs.StrikeLaws.{strike_lifts}

pub loop-init : goal.loop-init
loop-init g c = let all : c.args.budget - 0 ≡ c.args.budget = omega arith in ap (λ (n : ℕ). struck_in n c.args.records.now c.args.root c.args.code) all

pub returns-in-Done : goal.returns-in-Done
returns-in-Done g c =
    let e = run_done (c.args.budget - c.loop.counter) c.loop.records c.loop.s c.args.code c.sink.new.records c.in-Done.leaf c.in-Done.places (omega arith) c.in-Done.ensures.table c.in-Done.ensures.ends
    ∙ c.loop.invariant in
    let at_table = ap (λ (v : Sink). v.table) e in
    let at-end = ap (λ (v : Sink). v.ends) e in
    record { table = at_table; ends = at-end; stands = strike_lifts g.row.K.Denot c.args.records.now _ c.args.root c.args.code c.args.budget _ at_table at-end }

pub returns-in-Lost : goal.returns-in-Lost
returns-in-Lost g c =
    let e = run_lost (c.args.budget - c.loop.counter) c.loop.records c.loop.s c.args.code c.sink.new.records (omega arith) c.in-Lost.ensures.table c.in-Lost.ensures.ends
    ∙ c.loop.invariant in
    let at_table = ap (λ (v : Sink). v.table) e in
    let at-end = ap (λ (v : Sink). v.ends) e in
    record { table = at_table; ends = at-end; stands = strike_lifts g.row.K.Denot c.args.records.now _ c.args.root c.args.code c.args.budget _ at_table at-end }

pub loop-preserved : goal.loop-preserved
loop-preserved g c =
    run_on (c.args.budget - c.loop.counter) (c.args.budget - (c.loop.counter + 1)) c.loop.records c.loop.s c.args.code c.sink.new.records c.in-On.next (omega arith) c.in-On.ensures.table c.in-On.ensures.ends
    ∙ c.loop.invariant

pub returns : goal.returns
returns g c =
    let e = sym (run_ends (c.args.budget - c.loop.counter) c.loop.records c.loop.s c.args.code (omega arith)) ∙ c.loop.invariant in
    let at_table = ap (λ (v : Sink). v.table) e in
    let at-end = ap (λ (v : Sink). v.ends) e in
    record { table = at_table; ends = at-end; stands = strike_lifts g.row.K.Denot c.args.records.now _ c.args.root c.args.code c.args.budget _ at_table at-end }
