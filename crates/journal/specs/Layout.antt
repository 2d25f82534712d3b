-- How the bytes of a journal spell its records.
--   be16, be32   a number as two or four bytes, the most significant first
--   letter       the letter that a record begins with
--   fields       the bytes of a record after its letter
--   size         how many bytes these are
--   spelled      all bytes of a record
--   Fits         a record each of whose numbers fits its width
use Rattle.std.specs.Prelude.{ℕ, ◌/◌, ◌%◌, ◌^◌, ◌<◌, List, [], ◌∷◌, ◌++◌}
use Rattle.journal.specs.declared.entry.Entry.{Entry}
use Rattle.journal.specs.declared.entry.Entry.TheVariants.{Enter, Again, Strike, Disc, Band, Height}

-- The two bytes of a number of 16 bits.
abbrev pub be16 : ℕ → List ℕ
be16 n = (n / 256 % 256) ∷ (n % 256) ∷ []

-- The four bytes of a number of 32 bits.
abbrev pub be32 : ℕ → List ℕ
be32 n = (n / 16777216 % 256) ∷ (n / 65536 % 256) ∷ (n / 256 % 256) ∷ (n % 256) ∷ []

-- The letters are A, G, S, D, B and H.
abbrev pub letter : Entry → ℕ
letter (Enter motor motor_time root root_time priority weight) = 65
letter (Again motor root time weight) = 71
letter (Strike motor root) = 83
letter (Disc motor root inner outer) = 68
letter (Band lowest_motor highest_motor lowest_root highest_root margin) = 66
letter Height = 72

-- The fields stand in this order. Counts, the ends of a band and its margin have two bytes, and the others four.
abbrev pub fields : Entry → List ℕ
fields (Enter motor motor_time root root_time priority weight) =
    be16 motor ++ (be32 motor_time ++ (be16 root ++ (be32 root_time ++ (be32 priority ++ be32 weight))))
fields (Again motor root time weight) = be16 motor ++ (be16 root ++ (be32 time ++ be32 weight))
fields (Strike motor root) = be16 motor ++ be16 root
fields (Disc motor root inner outer) = be16 motor ++ (be16 root ++ (be32 inner ++ be32 outer))
fields (Band lowest_motor highest_motor lowest_root highest_root margin) =
    be16 lowest_motor ++ (be16 highest_motor ++ (be16 lowest_root ++ (be16 highest_root ++ be16 margin)))
fields Height = []

-- The letter alone says how many bytes follow.
abbrev pub size : Entry → ℕ
size (Enter motor motor_time root root_time priority weight) = 20
size (Again motor root time weight) = 12
size (Strike motor root) = 4
size (Disc motor root inner outer) = 12
size (Band lowest_motor highest_motor lowest_root highest_root margin) = 10
size Height = 0

-- A record is its letter and then its fields.
abbrev pub spelled : Entry → List ℕ
spelled e = letter e ∷ fields e

-- Each number is below the least one that its bytes cannot spell.
abbrev pub Fits : Entry → Type 0
Fits (Enter motor motor_time root root_time priority weight) =
    (motor < 2 ^ 16) × (motor_time < 2 ^ 32) × (root < 2 ^ 16) × (root_time < 2 ^ 32) × (priority < 2 ^ 32) × (weight < 2 ^ 32)
Fits (Again motor root time weight) = (motor < 2 ^ 16) × (root < 2 ^ 16) × (time < 2 ^ 32) × (weight < 2 ^ 32)
Fits (Strike motor root) = (motor < 2 ^ 16) × (root < 2 ^ 16)
Fits (Disc motor root inner outer) = (motor < 2 ^ 16) × (root < 2 ^ 16) × (inner < 2 ^ 32) × (outer < 2 ^ 32)
Fits (Band lowest_motor highest_motor lowest_root highest_root margin) =
    (lowest_motor < 2 ^ 16) × (highest_motor < 2 ^ 16) × (lowest_root < 2 ^ 16) × (highest_root < 2 ^ 16) × (margin < 2 ^ 16)
Fits Height = Unit {0}
