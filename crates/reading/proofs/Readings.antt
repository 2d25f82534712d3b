-- The two times and the numbers that were read leave a single answer.
use Rattle.std.proofs.Common.{◌≡◌, ◌+◌, ◌≤◌, Ok, Err, sym, ap, ◌∙◌, subst}
use native.Mathlib.Bridge.{le_prop}
use Rattle.reading.specs.Limit.{longest}
use Rattle.reading.specs.declared.counts.Counts.{Counts}
use Rattle.reading.specs.declared.whole.WholeReading.{WholeReading}
use Rattle.reading.specs.Readings.{numbers_of, OneAnswer}

-- The whole reading with given numbers.
abbrev whole : (c : Counts) → c.motor_time ≤ c.root_time → c.root_time ≤ c.motor_time + longest → WholeReading
whole c p q = record { motor = c.motor; root = c.root; motor_time = c.motor_time; root_time = c.root_time; in_order = p; in_time = q }

-- Whole readings with the same numbers are equal, since the facts beside the numbers have one proof at most.
pub same_whole : (v w : WholeReading) → numbers_of v ≡ numbers_of w → v ≡ w
same_whole v w e =
    subst
    (λ (c : Counts). (p : c.motor_time ≤ c.root_time) (q : c.root_time ≤ c.motor_time + longest) → v ≡ whole c p q)
    e
    (λ p q. ap (λ k. whole (numbers_of v) k v.in_time) (le_prop v.in_order p) ∙ ap (whole (numbers_of v) p) (le_prop v.in_time q))
    w.in_order
    w.in_time

-- Two answers to the same question are equal.
pub one_answer : OneAnswer
one_answer h root time (Ok v) (Ok w) p q = ap Ok (same_whole v w (p.numbers ∙ sym q.numbers))
one_answer h root time (Ok v) (Err e) p q = cc (p.timely, q.reason)
one_answer h root time (Err d) (Ok w) p q = cc (p.reason, q.timely)
one_answer h root time (Err (b, f)) (Err (c, g)) p q = cc (p.same, p.reason, q.same, q.reason)
