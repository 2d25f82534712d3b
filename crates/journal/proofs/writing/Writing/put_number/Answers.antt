-- The digits are written over the first zeros.
use Rattle.std.proofs.Common.{◌+◌, arith, decimal, refl, ap, ◌∙◌, ◌++◌}
use Rattle.journal.specs.Written.{text}
use Rattle.journal.proofs.PaddedLaws.{written, held_more, written_over}
use Rattle.journal.proofs.writing.Writing.put_number.Goals as goal

pub invariant_of-self : goal.invariant_of-self
invariant_of-self g c =
    let old = c.args.self.now.padded in
    let more = decimal c.wide-wide.result in
    let same = written_over old.len c.write_digits.result (old.len + c.digits_in.result) old.bytes c.write_digits.new.buf more (omega arith) (omega arith) c.write_digits.ensures.written c.write_digits.ensures.before in
    rw (c.digits_in.ensures.value, same) record { held = held_more more (omega arith) refl c.args.self.now.held }

pub returns-clause-value : goal.returns-clause-value
returns-clause-value g c =
    let old = c.args.self.now.padded in
    let more = decimal c.wide-wide.result in
    let same = written_over old.len c.write_digits.result (old.len + c.digits_in.result) old.bytes c.write_digits.new.buf more (omega arith) (omega arith) c.write_digits.ensures.written c.write_digits.ensures.before in
    rw (c.digits_in.ensures.value, same) (written more (omega arith) refl c.args.self.now.held ∙ ap (λ x. text old ++ x) c.wide-wide.ensures.same)
