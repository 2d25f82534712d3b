-- The readings with other codes stay.
use Rattle.std.proofs.Common.{sym, rules}
use Rattle.quadtreap.specs.Rank.{other}
use Rattle.rebuild.specs.declared.node.Live.{Live}
use Rattle.rebuild.specs.Trees.{reading_of}
use Rattle.std.proofs.lemmas.Fn.{filter_same}
use Rattle.rebuild.proofs.RollLaws.{taken_off, not_there}
use Rattle.rebuild.proofs.roll.Roll.take.Goals as goal

pub returns-then-not-present-clause-called : goal.returns-then-not-present-clause-called
returns-then-not-present-clause-called c =
    let gone = rw c.deref.ensures.value at c.if-not-present.ensures.value in
    not_there _ c.args.code c.args.self.now.live.items (sym gone)

pub returns-clause-called : goal.returns-clause-called
returns-clause-called c =
    let there = rw c.deref.ensures.value at c.if-not-present.ensures.value in
    let kept = filter_same _ (λ (r : Live). other c.args.code (reading_of r)) _ (λ x b f' k. search rules) _ _ c.retain.ensures.filtered in
    taken_off _ _ c.args.code c.args.self.now.live.items _ (sym there) kept c.number_live.ensures.value
