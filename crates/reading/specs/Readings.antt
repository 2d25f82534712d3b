-- What a half reading becomes when the root is read.
--   numbers_of, numbers_with    the plain numbers of a reading
--   time_fault                  the fault of two times
--   InTime, Explains            two times that are in time, and the fault of two that are not
--   Made, Refused, Completes    a half reading completed, or refused
--   CompletesOrGivesUp          a half reading completed, or given up
--   OneAnswer                   completing has one answer only
use Rattle.std.specs.Prelude.{◌≡◌, ℕ, ◌+◌, nat_lt, if◌then◌else◌, Some, None, Ok, Err, Option, Result}
use Rattle.reading.specs.Limit.{longest}
use Rattle.reading.specs.declared.counts.Counts.{Counts}
use Rattle.reading.specs.declared.fault.ReadingFault.{ReadingFault}
use Rattle.reading.specs.declared.fault.ReadingFault.TheVariants.{Early, Late}
use Rattle.reading.specs.declared.whole.WholeReading.{WholeReading}
use Rattle.reading.specs.declared.whole.half.HalfReading.{HalfReading}

-- The four plain numbers of a whole reading.
abbrev pub numbers_of : WholeReading → Counts
numbers_of w = record { motor = w.motor; root = w.root; motor_time = w.motor_time; root_time = w.root_time }

-- The four plain numbers of a half reading together with a root's count and time.
abbrev pub numbers_with : HalfReading → ℕ → ℕ → Counts
numbers_with h root time = record { motor = h.motor; root = root; motor_time = h.time; root_time = time }

-- The fault of two times, if there is one: the root's time precedes the motor's, or else it follows it by more than the longest delay.
abbrev pub time_fault : ℕ → ℕ → Option ReadingFault
time_fault motor_time root_time = if nat_lt root_time motor_time then Some Early else if nat_lt (motor_time + longest) root_time then Some Late else None

-- Two times are in time where they have no fault.
abbrev pub InTime : ℕ → ℕ → Type 0
InTime motor_time root_time = time_fault motor_time root_time ≡ None

-- A fault explains a refusal where it is the fault of the two times.
abbrev pub Explains : ReadingFault → ℕ → ℕ → Type 0
Explains fault motor_time root_time = time_fault motor_time root_time ≡ Some fault

-- A whole reading is made where the times agree, and holds exactly the numbers that were read.
pub record Made (h : HalfReading) (root time : ℕ) (w : WholeReading) : Type 0 where
  pub timely : InTime h.time time
  pub numbers : numbers_of w ≡ numbers_with h root time

-- A refused half reading comes back as it was, with the fault that explains why.
pub record Refused (h : HalfReading) (time : ℕ) (back : HalfReading) (fault : ReadingFault) : Type 0 where
  pub same : back ≡ h
  pub reason : Explains fault h.time time

-- Completing a half reading makes the whole one or refuses it.
abbrev pub Completes : HalfReading → ℕ → ℕ → Result WholeReading (HalfReading × ReadingFault) → Type 0
Completes h root time (Ok w) = Made h root time w
Completes h root time (Err e) = Refused h time e.0 e.1

-- Completing a half reading or giving it up makes the whole one, or answers the fault that explains why.
abbrev pub CompletesOrGivesUp : HalfReading → ℕ → ℕ → Result WholeReading ReadingFault → Type 0
CompletesOrGivesUp h root time (Ok w) = Made h root time w
CompletesOrGivesUp h root time (Err f) = Explains f h.time time

-- Any two answers that complete the same half reading with the same root are equal.
abbrev pub OneAnswer : Type 0
OneAnswer =
    (h : HalfReading) (root time : ℕ) (r s : Result WholeReading (HalfReading × ReadingFault))
    → Completes h root time r
    → Completes h root time s
    → r ≡ s
