-- A text says one record only.
use Rattle.pamtext.proofs.SameTexts.{one_reading}
use Rattle.pamtext.proofs.record.one_reading.Goals as goal

pub returns : goal.returns
returns c = record { value = one_reading }
