-- The lines that came were added, and those that are left come.
use Rattle.std.proofs.Common.{◌≡◌, vec_items}
use Rattle.std.specs.Iterator.Adapters.{zip_first, zip_second}
use Rattle.std.specs.Str.Iter.{split_steps}
use Rattle.std.specs.Str.Pattern.{FindsChar}
use Rattle.pamtext.proofs.JournalLaws.{Coming}
use Rattle.pamtext.proofs.journal_text.journal_of.Given as goal

abbrev pub invariant-loop-number : goal.invariant-loop-number
invariant-loop-number l =
    Coming (split_steps FindsChar (λ a b. b ≡ a)) (zip_second l.number-iterator) l.text (vec_items l.bytes) (zip_first l.number-iterator).start
