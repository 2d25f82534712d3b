-- The codes of the live readings have 32 bits and all differ, whatever records came.
use Rattle.std.proofs.Common.{◌≡◌, ℕ, ◌^◌, ◌<◌, Bool, true, false, cond, List, refl}
use Rattle.std.specs.Prelude.{if◌then◌else◌, is_some}
use Rattle.std.proofs.Math.Option.{Option, none, some}
use Rattle.place.proofs.SideLaws.{code_lt}
use Rattle.quadtreap.specs.Tree.{Reading}
use Rattle.quadtreap.specs.Rank.{Ranked, Valid}
use Rattle.quadtreap.specs.Find.{lookup}
use Rattle.quadtreap.proofs.SameLaws.{stays_ranked}
use Rattle.tables.specs.Calls.{Call, enters, repeats, strikes, asks, enter_at, is_some as there_is, present, full, reads, more, next}
use Rattle.tables.proofs.Carries.{valid_carry}
use Rattle.tables.proofs.Lows.{valid_more}
use Rattle.reading.specs.Readings.{time_fault}
use Rattle.journal.specs.declared.entry.Entry.{Entry}
use Rattle.journal.specs.declared.entry.Entry.TheVariants.{Enter, Again, Strike, Disc, Band, Height}
use Rattle.replay.specs.Weights.{Weighed, joined, weighed}
use Rattle.replay.specs.Steps.{call_of}

-- the code that a call enters has 32 bits
abbrev Small : Call Weighed → Type 0
Small (enters k p v) = k < 2 ^ 32
Small (repeats k v) = Unit {0}
Small (strikes k) = Unit {0}
Small asks = Unit {0}

-- where there is not some there is none
none_is : {X : Type 0} (o : Option X) → there_is o ≡ false → o ≡ none
none_is none h = refl
none_is (some x) h = absurd (mathlib.Core.Bool.true≢false h)

-- one of two lists, by a test
valid_cond : (b : Bool) (xs ys : List (Reading Weighed)) → (b ≡ true → Valid xs) → (b ≡ false → Valid ys) → Valid (cond b xs ys)
valid_cond true xs ys f g = f refl
valid_cond false xs ys f g = g refl

-- after one more call
valid_next : (N : ℕ) (c : Call Weighed) (rs : List (Reading Weighed)) → Small c → Valid rs → Ranked rs → Valid (next joined N c rs)
valid_next N (enters k p v) rs small valid ranked =
    valid_cond (present k rs) rs _ (λ _. valid) (λ gone. valid_cond (full N rs) rs _ (λ _. valid) (λ _.
    (stays_ranked.0 (reads k p v) rs (valid_more k p v rs small valid (none_is (lookup k rs) gone)) ranked).0))
valid_next N (repeats k v) rs small valid ranked = valid_cond (present k rs) _ rs (λ _. valid_carry (more joined k v) rs valid) (λ _. valid)
valid_next N (strikes k) rs small valid ranked = (stays_ranked.1 k rs valid ranked).0
valid_next N asks rs small valid ranked = valid

-- one of two calls, by a test
small_if : (b : Bool) (c d : Call Weighed) → Small c → Small d → Small (if b then c else d)
small_if true c d f g = f
small_if false c d f g = g

-- each record's call
small_call : (e : Entry) → Small (call_of e)
small_call (Enter motor motor_time root root_time priority weight) = small_if (is_some (time_fault motor_time root_time)) asks (enter_at motor root priority (weighed weight root_time)) tt (code_lt motor root)
small_call (Again motor root time weight) = tt
small_call (Strike motor root) = tt
small_call (Disc motor root inner outer) = tt
small_call (Band lm hm lr hr margin) = tt
small_call Height = tt

-- after one more record
pub valid_record : (N : ℕ) (e : Entry) (rs : List (Reading Weighed)) → Valid rs → Ranked rs → Valid (next joined N (call_of e) rs)
valid_record N e rs valid ranked = valid_next N (call_of e) rs (small_call e) valid ranked
