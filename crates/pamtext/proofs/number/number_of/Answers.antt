-- A word that is refused is no decimal up to the largest, and one from which a number is read is its decimal.
use Rattle.std.proofs.Common.{◌≡◌, ◌^◌, ◌<◌, length, get_or, ap, ◌∙◌, arith, rules}
use borrow.Author.Tests.{both_ways, tests}
use Rattle.std.specs.Result.{result_ok}
use Rattle.std.proofs.lemmas.Fmt.{parse-decimal, decimal_nonempty}
use Rattle.std.proofs.lemmas.Str.Pattern.{starts_char}
use Rattle.pamtext.proofs.NumberLaws.{only_digits, no_leading_zero, is_decimal, read_of, kept}
use Rattle.pamtext.proofs.number.number_of.Goals as goal
use Rattle.pamtext.proofs.number.number_of.Goals.{else-word-gt1-via-then-word-gt1+else-starts_with-2, else-word-gt1-via-else-word-gt1}

pub returns-then-starts_with : goal.returns-then-starts_with
returns-then-starts_with c = record {
  value = λ n h e.
      let small : n < 2 ^ 64 = omega arith in
      let plus = (starts_char 43 c.args.word.now c.starts_with.result c.starts_with.ensures.cases (omega arith) (omega arith)).0 c.if-starts_with.true in
      only_digits n 43 small (omega arith) 0 (decimal_nonempty n small) (rw e at plus);
}

pub returns-then-starts_with-2 : goal.returns-then-starts_with-2
returns-then-starts_with-2 c = record {
  value = λ n h e.
      let zero = (starts_char 48 c.args.word.now c.starts_with-then-word-gt1.result c.starts_with-then-word-gt1.ensures.cases (omega arith) (omega arith)).0 c.if-starts_with-2.true in
      let long = c.if-word-gt1.true in
      no_leading_zero n (omega arith) (rw e at long) (rw e at zero);
}

-- A word of more than one byte does not begin with a zero.
no_zero : (c : goal.After-filter) → 1 < length c.args.word.now → get_or c.args.word.now 0 0 ≡ 48 → ⊥
no_zero c long zero =
    elim c.else-word-gt1.branch [
      | else-word-gt1-via-then-word-gt1+else-starts_with-2 w ↦
          both_ways w.starts_with-then-word-gt1.result w.if-starts_with-2.false
          ((starts_char 48 c.args.word.now w.starts_with-then-word-gt1.result w.starts_with-then-word-gt1.ensures.cases (omega arith) (omega arith)).1 zero)
      | else-word-gt1-via-else-word-gt1 w ↦ omega arith
    ]

-- The word does not begin with a sign.
no_plus : (c : goal.After-filter) → get_or c.args.word.now 0 0 ≡ 43 → ⊥
no_plus c plus =
    both_ways c.starts_with.result c.if-starts_with.false
    ((starts_char 43 c.args.word.now c.starts_with.result c.starts_with.ensures.cases (omega arith) (omega arith)).1 plus)

pub returns : goal.returns
returns c = record {
  value =
      kept c.args.largest c.args.word.now c.ok.result c.filter.result
      (λ n b k. search (rules, tests))
      c.filter.ensures
      (λ n h e. c.ok.ensures.value ∙ ap result_ok (parse-decimal 32 n c.args.word.now c.parse.result (omega arith) (omega arith) e c.parse.ensures.value.0))
      (λ n e. is_decimal c.args.word.now n c.parse.result c.parse.ensures.value.0 (read_of c.parse.result n (e ∙ c.ok.ensures.value)) (no_plus c) (no_zero c));
}
