-- The fields of a reading are written one after another.
use Rattle.journal.proofs.PaddedLaws.{then_more, then_last}
use Rattle.journal.proofs.encoding.put_fields.Goals as goal

pub returns-in-Enter : goal.returns-in-Enter
returns-in-Enter c = record {
  value =
      rw c.in-Enter.is
      (then_more _ _ c.put.ensures.value c.to_be_bytes.ensures
      (then_more _ _ c.put-in-Enter.ensures.value c.to_be_bytes-in-Enter.ensures
      (then_more _ _ c.put-in-Enter-2.ensures.value c.to_be_bytes-in-Enter-2.ensures
      (then_more _ _ c.put-in-Enter-3.ensures.value c.to_be_bytes-in-Enter-3.ensures
      (then_more _ _ c.put-in-Enter-4.ensures.value c.to_be_bytes-in-Enter-4.ensures
      (then_last _ c.put-in-Enter-5.ensures.value c.to_be_bytes-in-Enter-5.ensures))))));
}
