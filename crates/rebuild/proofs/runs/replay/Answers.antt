-- Each turn goes on by what was read, and where nothing comes the run ends.
use Rattle.std.proofs.Common.{refl, arith, inl, inr, ◌∙◌}
use Rattle.rebuild.proofs.RunLaws.{goes_first, goes_on, goes_to_end, goes_no_further}
use Rattle.rebuild.proofs.runs.replay.Goals as goal

pub loop-number-init : goal.loop-number-init
loop-number-init c =
    rw (c.into_iter-number-iterator.ensures.into_iter_gives, c.zip-number-items.ensures.first, c.zip-number-items.ensures.second, c.new-out.ensures.items)
    (refl, goes_first _ _ _ c.requires.empty)

pub loop-number-preserved : goal.loop-number-preserved
loop-number-preserved c =
    let came = c.in-Some.ensures.steps in
    let written = rw (c.numbered.ensures.value, came.0.0) at c.in_ok-put_line.ensures.items in
    let serves = rw c.loop-number.invariant.0 at c.in_ok-answer.ensures.served in
    rw (came.0.1, came.0.0)
    (c.serve.ensures.places ∙ c.loop-number.invariant.0, goes_on _ _ _ _ _ _ _ _ _ c.in-Some.read c.in_ok-answer.answer c.loop-number.invariant.1 came.1 serves written)

pub returns : goal.returns
returns c = record {
  prints = elim c.in-None.ensures.steps [
    | inl numbers ↦ goes_no_further _ _ _ _ _ _ c.loop-number.invariant.1 (omega (arith, c.requires.short, numbers.1))
    | inr bytes ↦ goes_to_end _ _ _ _ _ _ c.loop-number.invariant.1 bytes.1.0
  ];
}
