-- Each turn reads one field more, and a text that is refused spells no fields.
use Rattle.std.proofs.Common.{lit<, rules}
use Rattle.std.proofs.lemmas.List.{length-replicate}
use Rattle.std.proofs.lemmas.Iterator.Splits.{YieldsList-from_str_split}
use Rattle.pamtext.proofs.FieldLaws.{read_none, no_word, no_number, reads_more, reads_all, too_many}
use Rattle.pamtext.proofs.fields.numbers_of.Goals as goal

pub loop-i-init : goal.loop-i-init
loop-i-init g c =
    let words = YieldsList-from_str_split 44 c.args.text.now (lit< tt) c.split-words.ensures.text c.split-words.ensures.has_more c.split-words.ensures.pattern in
    (read_none _ (search rules) (λ i. search rules) words.runs, length-replicate g.row.N 0)

pub returns-in_err-next : goal.returns-in_err-next
returns-in_err-next g c = record {
  value = rw c.from_residual.ensures (no_word c.loop-i.invariant.0 c.next.new.self (search rules) c.in_err-next.ensures.steps);
}

pub returns-in_err-numbers : goal.returns-in_err-numbers
returns-in_err-numbers g c = record {
  value = rw c.from_residual-in_err-numbers.ensures (no_number c.loop-i.invariant.0 c.next.new.self c.in_ok-next.field-0 c.in_ok-next.ensures.steps (search rules) c.in_err-numbers.ensures.value);
}

pub loop-i-preserved : goal.loop-i-preserved
loop-i-preserved g c = (
  reads_more c.loop-i.invariant.0 c.next.new.self c.in_ok-next.field-0 c.in_ok-next.ensures.steps (search rules)
      c.in_ok-numbers.field-0 (search rules) c.in_ok-numbers.ensures.value.0 c.in_ok-numbers.ensures.value.1,
  search rules,
)

pub returns-in-None : goal.returns-in-None
returns-in-None g c = record { value = reads_all c.loop-i.invariant.0 c.next-2.new.self (search rules) (search rules) c.in-None.ensures.steps }

pub returns-in-Some : goal.returns-in-Some
returns-in-Some g c = record { value = too_many c.loop-i.invariant.0 c.next-2.new.self c.in-Some.field-0 c.in-Some.ensures.steps (search rules) }
