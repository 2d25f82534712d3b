-- The lines of a text, and what each of them says.
--   lines_of      the lines of a text
--   after_white   a text without the white space that it begins with
--   trimmed       a line without the white space at both ends
--   passed        whether a trimmed line is empty or a remark
--   Unreadable    a line that is neither passed over nor the text of a record
--   Tells         the records that lines say, in order
use Rattle.std.specs.Prelude.{◌≡◌, ℕ, Bool, true, false, cond, List, [], ◌∷◌, reverse, ◌==◌}
use Rattle.std.specs.Char.{is_ascii_whitespace}
use Rattle.std.specs.List.{slice_split}
use Rattle.journal.specs.declared.entry.Entry.{Entry}
use Rattle.pamtext.specs.Texts.{Says}

-- The byte 10 ends a line, and what follows the last one is a line too.
abbrev pub lines_of : List ℕ → List (List ℕ)
lines_of = slice_split (λ b. b == 10)

-- The text without the white space that it begins with.
unfoldable pub after_white : List ℕ → List ℕ
after_white [] = []
after_white (b ∷ bs) = cond (is_ascii_whitespace b) (after_white bs) (b ∷ bs)

-- The text without the white space at both ends.
abbrev pub trimmed : List ℕ → List ℕ
trimmed bs = reverse (after_white (reverse (after_white bs)))

-- A trimmed line is passed over if it is empty or begins with the byte of `#`.
abbrev pub passed : List ℕ → Bool
passed [] = true
passed (b ∷ bs) = b == 35

-- The line is not passed over, and says no record.
pub record Unreadable (line : List ℕ) : Type 0 where
  pub kept : passed (trimmed line) ≡ false
  pub none : (e : Entry) → Says (trimmed line) e → ⊥

-- Each line is passed over or says a record, and the records that are said are these, in order.
pub data Tells : List (List ℕ) → List Entry → Type 0 where
  nothing : Tells [] []
  passes : {line : List ℕ} {lines : List (List ℕ)} {es : List Entry} → passed (trimmed line) ≡ true → Tells lines es → Tells (line ∷ lines) es
  says : {line : List ℕ} {lines : List (List ℕ)} {e : Entry} {es : List Entry} → Says (trimmed line) e → Tells lines es → Tells (line ∷ lines) (e ∷ es)
