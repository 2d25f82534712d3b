-- After i turns, i fields were read.
use Rattle.std.proofs.Common.{◌≡◌, length}
use Rattle.std.specs.Str.Iter.{split_steps}
use Rattle.std.specs.Str.Pattern.{FindsChar}
use Rattle.pamtext.proofs.FieldLaws.{Read}
use Rattle.pamtext.proofs.fields.numbers_of.Given as goal

abbrev pub invariant-loop-i : goal.invariant-loop-i
invariant-loop-i g l = Read (split_steps FindsChar (λ a b. b ≡ a)) l.words l.most-items l.text l.i l.numbers × (length l.numbers ≡ g.row.N)
