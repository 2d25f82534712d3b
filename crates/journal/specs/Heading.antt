-- How a journal begins.
--   longest        how many bytes a journal may have
--   mark           the three letters that it begins with
--   version        the two bytes after them
--   Lacks          bytes that do not begin with given ones
--   Headed         bytes with the right heading
--   Unmarked       bytes without the mark
--   OtherVersion   bytes with the mark and without the version
--   Heads          the bytes after mark and version, or a fault
--   OneHeading     bytes have one answer only
use Rattle.std.specs.Prelude.{◌≡◌, ℕ, ◌<◌, ◌≤◌, List, ◌++◌, length, Ok, Err, codes, Result, ◌≢◌}
use Rattle.journal.specs.declared.fault.FormatFault.{FormatFault}
use Rattle.journal.specs.declared.fault.FormatFault.TheVariants.{TooLong, WrongMark, WrongVersion, UnknownLetter, CutShort}
use Rattle.journal.specs.Layout.{be16}

-- How many bytes a journal may have.
abbrev pub longest : ℕ
longest = 32768

-- The letters that a journal begins with.
abbrev pub mark : List ℕ
mark = codes "PAM"

-- The bytes of the version, which is 1.
abbrev pub version : List ℕ
version = be16 1

-- The bytes do not begin with the given ones, be it that they differ or that they end before.
abbrev pub Lacks : List ℕ → List ℕ → Type 0
Lacks bs front = (left : List ℕ) → bs ≢ front ++ left

-- There are not too many bytes, and they begin with mark and version.
pub record Headed (bs left : List ℕ) : Type 0 where
  pub short : length bs ≤ longest
  pub bytes : bs ≡ mark ++ (version ++ left)

-- There are not too many bytes, and they do not begin with the mark.
pub record Unmarked (bs : List ℕ) : Type 0 where
  pub short : length bs ≤ longest
  pub lacks : Lacks bs mark

-- There are not too many bytes, they begin with the mark, and the version does not follow.
pub record OtherVersion (bs : List ℕ) : Type 0 where
  pub short : length bs ≤ longest
  pub left : List ℕ
  pub bytes : bs ≡ mark ++ left
  pub lacks : Lacks left version

-- The answer is the bytes after mark and version, or the first of three faults that applies.
abbrev pub Heads : List ℕ → Result (List ℕ) FormatFault → Type 0
Heads bs (Ok left) = Headed bs left
Heads bs (Err TooLong) = longest < length bs
Heads bs (Err WrongMark) = Unmarked bs
Heads bs (Err WrongVersion) = OtherVersion bs
Heads bs (Err UnknownLetter) = ⊥
Heads bs (Err CutShort) = ⊥

-- Any two answers for the same bytes are equal.
abbrev pub OneHeading : Type 0
OneHeading = (bs : List ℕ) (r s : Result (List ℕ) FormatFault) → Heads bs r → Heads bs s → r ≡ s
