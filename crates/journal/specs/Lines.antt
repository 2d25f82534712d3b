-- The lines that are printed, byte by byte. Numbers are decimal, without leading zeros.
--   blank, line_end   the byte between two fields, and the byte that ends a line
--   times_text        the first and the last time of a tally, or two dashes where it has none
--   told              what a line says after its number
--   printed           a whole line
use Rattle.std.specs.Prelude.{ℕ, List, [], ◌∷◌, ◌++◌, Some, None, codes, decimal, Option}
use Rattle.journal.specs.declared.report.Report.{Report}
use Rattle.journal.specs.declared.report.Report.TheVariants.{Ok, Tally, Height, Refused, Stopped}

-- One blank stands between two fields.
abbrev pub blank : List ℕ
blank = codes " "

-- A line ends with the byte 10.
abbrev pub line_end : List ℕ
line_end = 10 ∷ []

-- The first and the last time, or a dash for each where there is none.
abbrev pub times_text : Option (ℕ × ℕ) → List ℕ
times_text (Some t) = decimal t.0 ++ (blank ++ decimal t.1)
times_text None = codes "- -"

-- The word of a report and its numbers.
abbrev pub told : Report → List ℕ
told (Ok live) = codes "ok " ++ decimal live
told (Tally sum times expanded height) =
    codes "tally " ++ (decimal sum ++ (blank ++ (times_text times ++ (blank ++ (decimal expanded ++ (blank ++ decimal height))))))
told (Height height) = codes "height " ++ decimal height
told (Refused number) = codes "refused " ++ decimal number
told (Stopped number) = codes "stopped " ++ decimal number

-- A line is the number of its record, what is told of it, and the end.
abbrev pub printed : ℕ → Report → List ℕ
printed n report = decimal n ++ (blank ++ (told report ++ line_end))
