-- What is answered where a record is to be read from bytes.
--   ReadsFields   a record, by the bytes after its letter
--   Reads         a record, by all of its bytes
--   Unknown       bytes that begin with no letter of a record
--   Cut           bytes that end within a record
--   Explains      the fault of bytes that begin with no record
--   Decodes       the record that bytes begin with and the bytes after it, or a fault
--   OneDecoding   bytes have one answer only
--   DecodesBack   what spells a record is read as that record
use Rattle.std.specs.Prelude.{◌≡◌, ℕ, ◌<◌, ◌⊎◌, List, [], ◌∷◌, ◌++◌, length, Ok, Err, Result, ◌≢◌}
use Rattle.journal.specs.declared.entry.Entry.{Entry}
use Rattle.journal.specs.declared.fault.FormatFault.{FormatFault}
use Rattle.journal.specs.declared.fault.FormatFault.TheVariants.{TooLong, WrongMark, WrongVersion, UnknownLetter, CutShort}
use Rattle.journal.specs.Layout.{letter, fields, size, spelled, Fits}

-- The record e of the letter c has the fields that the bytes begin with, and `left` are the bytes after them.
pub record ReadsFields (c : ℕ) (bs : List ℕ) (e : Entry) (left : List ℕ) : Type 0 where
  pub kind : letter e ≡ c
  pub bytes : bs ≡ fields e ++ left
  pub fits : Fits e

-- The bytes spell the record e, each of its numbers fits, and `left` are the bytes after it.
pub record Reads (bs : List ℕ) (e : Entry) (left : List ℕ) : Type 0 where
  pub bytes : bs ≡ spelled e ++ left
  pub fits : Fits e

-- There is a first byte, and no record begins with it.
pub record Unknown (bs : List ℕ) : Type 0 where
  pub first : ℕ
  pub left : List ℕ
  pub begins : bs ≡ first ∷ left
  pub unknown : (e : Entry) → letter e ≢ first

-- Some record begins with the first byte, and fewer bytes follow than its fields have.
pub record Cut (bs : List ℕ) : Type 0 where
  pub first : ℕ
  pub left : List ℕ
  pub begins : bs ≡ first ∷ left
  pub some : Entry
  pub kind : letter some ≡ first
  pub short : length left < size some

-- A fault explains why the bytes begin with no record. The faults of the heading never do.
abbrev pub Explains : List ℕ → FormatFault → Type 0
Explains bs UnknownLetter = Unknown bs
Explains bs CutShort = (bs ≡ []) ⊎ Cut bs
Explains bs TooLong = ⊥
Explains bs WrongMark = ⊥
Explains bs WrongVersion = ⊥

-- The answer is the record that the bytes begin with and the bytes after it, or a fault that explains why there is none.
abbrev pub Decodes : List ℕ → Result (Entry × List ℕ) FormatFault → Type 0
Decodes bs (Ok x) = Reads bs x.0 x.1
Decodes bs (Err f) = Explains bs f

-- Any two answers for the same bytes are equal.
abbrev pub OneDecoding : Type 0
OneDecoding = (bs : List ℕ) (r s : Result (Entry × List ℕ) FormatFault) → Decodes bs r → Decodes bs s → r ≡ s

-- The only answer for the bytes of a record and bytes after it is that record and those bytes.
abbrev pub DecodesBack : Type 0
DecodesBack =
    (e : Entry) (left : List ℕ) (r : Result (Entry × List ℕ) FormatFault) → Fits e → Decodes (spelled e ++ left) r → r ≡ Ok (e, left)
