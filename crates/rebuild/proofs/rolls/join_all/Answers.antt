-- The readings are carried one after another.
use Rattle.std.proofs.Common.{◌≡◌, map, length, sym, ◌∙◌, arith}
use Rattle.std.proofs.lemmas.List.{length-map}
use Rattle.tables.specs.Calls.{more}
use Rattle.replay.specs.Weights.{joined}
use Rattle.rebuild.specs.Trees.{reading_of}
use Rattle.rebuild.proofs.JoinLaws.{carry_none, carry_last, carry_next}
use Rattle.rebuild.proofs.rolls.join_all.Goals as goal

pub loop-reading-init : goal.loop-reading-init
loop-reading-init c = sym (carry_none _ (map reading_of c.args.readings.now))

pub loop-reading-preserved : goal.loop-reading-preserved
loop-reading-preserved c =
    carry_next (more joined c.args.code c.args.extra) c.loop-reading.reading-index c.loop-reading.readings (map reading_of c.args.readings.now) c.reading-item.result _
    c.loop-reading.invariant (omega (arith, c.loop-reading-test.true, length-map c.args.readings.now reading_of)) c.joined_to.ensures.value

pub returns : goal.returns
returns c =
    let all : c.loop-reading.reading-index ≡ length (map reading_of c.args.readings.now) =
    omega (arith, c.loop-reading-test.false, c.loop-reading.auto.reading-index-end, length-map c.args.readings.now reading_of) in
    record { value = c.loop-reading.invariant ∙ carry_last (more joined c.args.code c.args.extra) c.loop-reading.reading-index (map reading_of c.args.readings.now) all }
