-- A line is passed over, or its record is spelled after the bytes so far.
use Rattle.std.proofs.Common.{◌≡◌, Some, vec_items, ◌∙◌, rules}
use Rattle.journal.proofs.PaddedLaws.{held_front}
use Rattle.pamtext.proofs.JournalLaws.{adds_nothing, adds_record}
use Rattle.pamtext.proofs.journal_text.add_line.Goals as goal

pub returns-then-passed_over : goal.returns-then-passed_over
returns-then-passed_over c = record {
  value = adds_nothing (vec_items c.args.bytes.now) c.args.line.now c.trimmed_line-text.result.now c.trimmed_line-text.ensures.value c.if-passed_over.ensures.value;
}

pub returns : goal.returns
returns c =
    let is : c.entry_of.result ≡ Some c.in_ok-entry.entry = search rules in
    record {
      value = adds_record (vec_items c.args.bytes.now) c.args.line.now c.trimmed_line-text.result.now (vec_items c.extend_from_slice.new.self) c.as_bytes.result.now c.in_ok-entry.entry
          c.trimmed_line-text.ensures.value (rw is at c.entry_of.ensures.value) (c.as_bytes.ensures.value ∙ held_front 21 c.encode.ensures.value) c.in_ok-extend_from_slice.ensures.items;
    }
