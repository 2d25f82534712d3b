-- The text of a record.
--   numbers       the numbers of a record, in the order of its fields
--   after_blank   a blank and numbers
--   text_of       the text of a record
--   HasFields     a text that is the fields of a record with a given letter
--   Makes         the record that the text of its fields makes, or none
--   Says          a text that is the text of a record whose numbers fit
--   Reads         the record that a text says, or none
--   OneReading    a text has one answer only
use Rattle.std.specs.Prelude.{◌≡◌, ℕ, List, [], ◌∷◌, Some, None, Option}
use Rattle.journal.specs.Layout.{letter, Fits}
use Rattle.journal.specs.declared.entry.Entry.{Entry}
use Rattle.journal.specs.declared.entry.Entry.TheVariants.{Enter, Again, Strike, Disc, Band, Height}
use Rattle.pamtext.specs.Fields.{separated}

-- The numbers of a record stand in the order of its fields.
abbrev pub numbers : Entry → List ℕ
numbers (Enter motor motor_time root root_time priority weight) = motor ∷ motor_time ∷ root ∷ root_time ∷ priority ∷ weight ∷ []
numbers (Again motor root time weight) = motor ∷ root ∷ time ∷ weight ∷ []
numbers (Strike motor root) = motor ∷ root ∷ []
numbers (Disc motor root inner outer) = motor ∷ root ∷ inner ∷ outer ∷ []
numbers (Band lowest_motor highest_motor lowest_root highest_root margin) =
    lowest_motor ∷ highest_motor ∷ lowest_root ∷ highest_root ∷ margin ∷ []
numbers Height = []

-- Where there are numbers, a blank stands before them.
abbrev pub after_blank : List ℕ → List ℕ
after_blank [] = []
after_blank (n ∷ ns) = 32 ∷ separated (n ∷ ns)

-- The text of a record is its letter, and then a blank and its numbers if it has any.
abbrev pub text_of : Entry → List ℕ
text_of e = letter e ∷ after_blank (numbers e)

-- The record e has the letter c, its numbers fit, and the text bs is these numbers.
pub record HasFields (c : ℕ) (bs : List ℕ) (e : Entry) : Type 0 where
  pub kind : letter e ≡ c
  pub text : bs ≡ separated (numbers e)
  pub fits : Fits e

-- The answer is the record of the letter c that has the text as its fields, or none where there is no such record.
abbrev pub Makes : ℕ → List ℕ → Option Entry → Type 0
Makes c text (Some e) = HasFields c text e
Makes c text None = (e : Entry) → HasFields c text e → ⊥

-- The text bs is that of the record e, and each number of e fits its width.
pub record Says (bs : List ℕ) (e : Entry) : Type 0 where
  pub text : bs ≡ text_of e
  pub fits : Fits e

-- The answer is the record that the text says, or none where it says no record.
abbrev pub Reads : List ℕ → Option Entry → Type 0
Reads text (Some e) = Says text e
Reads text None = (e : Entry) → Says text e → ⊥

-- Any two answers for the same text are equal.
abbrev pub OneReading : Type 0
OneReading = (text : List ℕ) (r s : Option Entry) → Reads text r → Reads text s → r ≡ s
