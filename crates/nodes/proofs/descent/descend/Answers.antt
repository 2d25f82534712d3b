use Rattle.std.proofs.Common.{◌≡◌, ℕ, ◌-◌, sym, ap, ◌∙◌, subst, arith}
use Rattle.records.specs.declared.record.Record.{Record}
use Rattle.nodes.proofs.descent.descend.Goals as goal
use Rattle.nodes.proofs.descent.descend.Goals.{then-holds, else-holds}
use Rattle.records.specs.Kinds.{is_leaf}
use Rattle.records.specs.Writes.{descended}
use Rattle.records.proofs.DescendSteps.{stops, turns_first, turns_second}
use Rattle.records.proofs.PromiseLaws.{descend_lifts}

pub loop-init : goal.loop-init
loop-init g c = let all : c.args.budget - 0 ≡ c.args.budget = omega arith in ap (λ (n : ℕ). descended n c.args.records.now c.args.root c.args.code) all

pub returns-then-is_leaf : goal.returns-then-is_leaf
returns-then-is_leaf g c =
    let is : c.loop.i ≡ descended c.args.budget c.args.records.now c.args.root c.args.code =
    sym (stops (c.args.budget - c.loop.counter) c.args.records.now c.loop.i c.args.code (ap (λ (r : Record). is_leaf r.kind) (sym c.read-r.ensures.value) ∙ sym c.is_leaf.ensures.value ∙ c.if-is_leaf.true))
    ∙ c.loop.invariant in
    record { value = is; stands = descend_lifts g.row.K.Denot c.args.records.now c.args.root c.args.code c.args.budget c.loop.i is }

pub returns : goal.returns
returns g c =
    let none : c.args.budget - c.loop.counter ≡ 0 = omega arith in
    let is : c.loop.i ≡ descended c.args.budget c.args.records.now c.args.root c.args.code =
    subst (λ (n : ℕ). descended n c.args.records.now c.loop.i c.args.code ≡ descended c.args.budget c.args.records.now c.args.root c.args.code) none c.loop.invariant in
    record { value = is; stands = descend_lifts g.row.K.Denot c.args.records.now c.args.root c.args.code c.args.budget c.loop.i is }

pub loop-preserved : goal.loop-preserved
loop-preserved g c =
    let high = sym c.is_leaf.ensures.value ∙ c.if-is_leaf.false in
    elim c.if-holds.branch [
      | then-holds w ↦ turns_first _ _ _ _ _ _ c.read-r.ensures.value high c.read.ensures.value c.holds.ensures.value _ _ _ (omega arith) w.if-holds.true w.i-is ∙ c.loop.invariant
      | else-holds w ↦ turns_second _ _ _ _ _ _ c.read-r.ensures.value high c.read.ensures.value c.holds.ensures.value _ _ _ (omega arith) w.if-holds.false w.i-is ∙ c.loop.invariant
    ]
