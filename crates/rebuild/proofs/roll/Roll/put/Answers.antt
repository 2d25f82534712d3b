-- The reading stands at its rank.
use Rattle.std.proofs.Common.{sym}
use Rattle.rebuild.proofs.RollLaws.{entered}
use Rattle.rebuild.proofs.roll.Roll.put.Goals as goal

pub returns-clause-called : goal.returns-clause-called
returns-clause-called c =
    let at = rw c.deref-2.ensures.value at c.place_of-i.ensures.value in
    let gone = rw c.deref.ensures.value at c.if-present.ensures.value in
    entered c.args.self.now.places _ c.place_of-i.result c.args.new c.args.self.now.live.items _ (sym gone) (sym c.if-is_full.ensures.value) at
    c.in_ok-insert.ensures.items c.number_live.ensures.value
