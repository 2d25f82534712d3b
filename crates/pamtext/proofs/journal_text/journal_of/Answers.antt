-- Each turn adds the line that comes, and after the last turn no line is left.
use Rattle.std.proofs.Common.{vec_items, lit<, inl, inr, arith, rules}
use Rattle.std.proofs.lemmas.Iterator.Splits.{YieldsList-from_str_split}
use Rattle.std.proofs.lemmas.Result.{err_from_is_err_and}
use Rattle.std.specs.Iterator.Adapters.{zip_second}
use Rattle.pamtext.proofs.JournalLaws.{begins, comes_on, comes_to_stop, comes_to_end, few}
use Rattle.pamtext.specs.Lines.{lines_of}
use Rattle.pamtext.proofs.journal_text.journal_of.Goals as goal

pub loop-number-init : goal.loop-number-init
loop-number-init c = record {
  number = 0;
  left = lines_of c.args.text.now;
  so = begins c.args.text.now (vec_items c.extend_from_slice.new.self) (search rules);
  follows = search rules;
  comes =
      let lines = YieldsList-from_str_split 10 c.args.text.now (lit< tt) c.split.ensures.text c.split.ensures.has_more c.split.ensures.pattern in
      rw (c.into_iter-number-iterator.ensures.into_iter_gives, c.zip-number-items.ensures.second) lines.runs;
}

pub loop-number-preserved : goal.loop-number-preserved
loop-number-preserved c =
    let came = c.in-Some.ensures.steps in
    rw (came.0.1, came.0.0) (comes_on c.loop-number.invariant (zip_second c.next.new.self) c.in-Some.line came.1 c.in_ok-add_line.ensures.value)

pub returns-in_err-add_line : goal.returns-in_err-add_line
returns-in_err-add_line c = record {
  value =
      let p = err_from_is_err_and c.from_residual-in_err-add_line.result c.from_residual-in_err-add_line.ensures.1 in
      let came = c.in-Some.ensures.steps in
      rw (p.1, p.2) (comes_to_stop c.loop-number.invariant (zip_second c.next.new.self) c.in-Some.line came.1
      c.in_err-add_line.field-0.0 (rw came.0.0 at c.in_err-add_line.ensures.value));
}

pub returns : goal.returns
returns c = record {
  value = elim c.in-None.ensures.steps [
    | inl numbers ↦ absurd (omega (arith, few c.loop-number.invariant, numbers.1))
    | inr lines ↦ comes_to_end c.loop-number.invariant lines.0 lines.1
  ];
}
