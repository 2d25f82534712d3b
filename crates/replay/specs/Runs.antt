-- A whole run: the printout of a journal.
--   places_used         how many places the map of a run has
--   spelled_all         the bytes of some records, one after another
--   printout            the lines of some records, one after another
--   AllFit, AllLawful   records whose numbers fit, and what is promised of their answers
--   Ending, Ends        how a run ends after its records
--   Follows, Prints     the printout of the bytes after the heading, and by the heading
--   Replays             the printout of a journal
--   OnePrintout         a journal has one printout only
use Rattle.std.specs.Prelude.{◌≡◌, ℕ, suc, ◌+◌, min, List, [], ◌∷◌, ◌++◌, length, Ok, Err, Result, ◌≢◌}
use Rattle.tables.specs.Calls.{Call, roll}
use Rattle.journal.specs.Faults.{fault_number}
use Rattle.journal.specs.Heading.{Heads}
use Rattle.journal.specs.Layout.{spelled, Fits}
use Rattle.journal.specs.Lines.{printed}
use Rattle.journal.specs.Records.{Explains}
use Rattle.journal.specs.declared.entry.Entry.{Entry}
use Rattle.journal.specs.declared.fault.FormatFault.{FormatFault}
use Rattle.journal.specs.declared.report.Report.TheVariants.{Stopped}
use Rattle.replay.specs.Weights.{Weighed, joined}
use Rattle.replay.specs.Lines.{numbered, line_text}
use Rattle.replay.specs.Steps.{call_of, served, Law}

-- A map over tables of n places uses all of them, and 65533 at most.
abbrev pub places_used : ℕ → ℕ
places_used n = min n 65533

-- The bytes of the records, one after another.
abbrev pub spelled_all : List Entry → List ℕ
spelled_all [] = []
spelled_all (e ∷ es) = spelled e ++ spelled_all es

-- The numbers of each record fit.
abbrev pub AllFit : List Entry → Type 0
AllFit [] = Unit {0}
AllFit (e ∷ es) = Fits e × AllFit es

-- The lines of the records, of which the first has the number n and comes after the calls cs, in a map of N places. Each record is answered by the readings that are live after the calls of the records before it.
abbrev pub printout : ℕ → ℕ → List (Call Weighed) → List Entry → List ℕ
printout N n cs [] = []
printout N n cs (e ∷ es) = line_text n (numbered n (served N e (roll joined N cs))) ++ printout N (suc n) (call_of e ∷ cs) es

-- Each record is answered as the map's law promises.
abbrev pub AllLawful : ℕ → List (Call Weighed) → List Entry → Type 0
AllLawful N cs [] = Unit {0}
AllLawful N cs (e ∷ es) = Law N e cs × AllLawful N (call_of e ∷ cs) es

-- How a run ends: there are no more bytes, or a fault explains why those that are left begin with no record.
pub data Ending : Type 0 where
  complete : Ending
  stopped : FormatFault → Ending

-- The run ends so before the bytes that are left, and last is the line that it then prints; n is the number that the next record would have.
abbrev pub Ends : ℕ → List ℕ → Ending → List ℕ → Type 0
Ends n left complete last = (left ≡ []) × (last ≡ [])
Ends n left (stopped f) last = (left ≢ []) × Explains left f × (last ≡ printed n (Stopped (fault_number f)))

-- The printout of bytes after the calls cs, in a map of N places, where the next record has the number n: the bytes are those of some records and what is left of them, and the lines are those of the records, in their order, and of the ending.
pub record Follows (N n : ℕ) (cs : List (Call Weighed)) (bs out : List ℕ) : Type 0 where
  pub records : List Entry
  pub fit : AllFit records
  pub left : List ℕ
  pub bytes : bs ≡ spelled_all records ++ left
  pub ending : Ending
  pub last : List ℕ
  pub ends : Ends (n + length records) left ending last
  pub lines : out ≡ printout N n cs records ++ last
  pub lawful : AllLawful N cs records

-- The printout of a journal by its heading: that of the records, from 1 on and in a map without readings, or the one line of the heading's fault, with the number 0.
abbrev pub Prints : ℕ → Result (List ℕ) FormatFault → List ℕ → Type 0
Prints N (Ok left) out = Follows N 1 [] left out
Prints N (Err f) out = out ≡ printed 0 (Stopped (fault_number f))

-- The printout of a journal in a map of N places, for every sequence of bytes.
pub record Replays (N : ℕ) (bs out : List ℕ) : Type 0 where
  pub heading : Result (List ℕ) FormatFault
  pub heads : Heads bs heading
  pub prints : Prints N heading out

-- Any two printouts of the same bytes in maps of as many places are equal.
abbrev pub OnePrintout : Type 0
OnePrintout = (N : ℕ) (bs out out' : List ℕ) → Replays N bs out → Replays N bs out' → out ≡ out'
