-- A text writes one journal only.
use Rattle.pamtext.proofs.SameJournals.{one_journal}
use Rattle.pamtext.proofs.journal_text.one_journal.Goals as goal

pub returns : goal.returns
returns c = record { value = one_journal }
