-- The journal that a text writes.
--   journal_of   the bytes of a journal with given records
--   Adds         bytes after one line more
--   Refuses      the answer for a line that is not added
--   Written      the bytes of a journal that a text writes
--   Stops        the number of the first line that is neither passed over nor the text of a record
--   Writes       the bytes of the journal, or why there is none
--   OneJournal   a text has one answer only, if there is memory for it
use Rattle.std.specs.Prelude.{◌≡◌, ℕ, ◌+◌, ◌⊎◌, List, [], ◌∷◌, ◌++◌, length, Ok, Err, Result}
use Rattle.std.specs.List.{flat_map}
use Rattle.journal.specs.Heading.{mark, version}
use Rattle.journal.specs.Layout.{spelled}
use Rattle.journal.specs.declared.entry.Entry.{Entry}
use Rattle.pamtext.specs.declared.fault.TextFault.{TextFault}
use Rattle.pamtext.specs.declared.fault.TextFault.TheVariants.{Line, NoMemory}
use Rattle.pamtext.specs.Lines.{lines_of, Unreadable, Tells}

-- A journal is its mark, its version and then its records.
abbrev pub journal_of : List Entry → List ℕ
journal_of es = mark ++ (version ++ flat_map spelled es)

-- The bytes are those before and then those of what the line says.
pub record Adds (before line after : List ℕ) : Type 0 where
  pub records : List Entry
  pub told : Tells (line ∷ []) records
  pub bytes : after ≡ before ++ flat_map spelled records

-- The line of that number is unreadable, or there was no memory for its bytes.
abbrev pub Refuses : List ℕ → ℕ → TextFault → Type 0
Refuses line number (Line n) = (n ≡ number) × Unreadable line
Refuses line number NoMemory = Unit {0}

-- The lines of the text say some records, and the bytes are the journal of these.
pub record Written (text bs : List ℕ) : Type 0 where
  pub records : List Entry
  pub told : Tells (lines_of text) records
  pub bytes : bs ≡ journal_of records

-- Of the lines of the text, counted from 1, the one with the number n is unreadable, and each before it is passed over or says a record.
pub record Stops (text : List ℕ) (n : ℕ) : Type 0 where
  pub before : List (List ℕ)
  pub line : List ℕ
  pub after : List (List ℕ)
  pub records : List Entry
  pub lines : lines_of text ≡ before ++ (line ∷ after)
  pub number : n ≡ length before + 1
  pub told : Tells before records
  pub unreadable : Unreadable line

-- The answer is the journal that the text writes, or the line that stops it, or that there was no memory.
abbrev pub Writes : List ℕ → Result (List ℕ) TextFault → Type 0
Writes text (Ok bs) = Written text bs
Writes text (Err (Line n)) = Stops text n
Writes text (Err NoMemory) = Unit {0}

-- Any two answers for the same text are equal, unless one of them is that there was no memory.
abbrev pub OneJournal : Type 0
OneJournal =
    (text : List ℕ) (r s : Result (List ℕ) TextFault) → Writes text r → Writes text s
    → (r ≡ s) ⊎ ((r ≡ Err NoMemory) ⊎ (s ≡ Err NoMemory))
