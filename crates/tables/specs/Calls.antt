-- The calls that a map takes, and the roll: the readings that are live after them, reckoned from the calls alone.
--   Call, enter_at, again_at, strike_at   a call, by the code or by the place of a reading
--   present, full                         when a place is taken, and when the places are full
--   next, roll                            the live readings after one more call, and after all calls
--   Reply, reply                          what a call answers
--   fault_number                          the number of each refusal
use Rattle.std.specs.Prelude.{ℕ, suc, ◌+◌, ◌/◌, Bool, true, false, cond, List, [], ◌∷◌, length, Ok, Err, Result, ◌==◌, nat_le}
use Rattle.std.proofs.Math.Option.{Option, none, some}
use Rattle.tables.specs.declared.fault.MapFault.{MapFault}
use Rattle.tables.specs.declared.fault.MapFault.TheVariants.{Taken, Full, Absent}
use Rattle.place.specs.Codes.{code_of}
use Rattle.quadtreap.specs.Tree.{Reading}
use Rattle.quadtreap.specs.Rank.{put, without}
use Rattle.quadtreap.specs.Find.{lookup}
use Rattle.quadtreap.specs.Carry.{carry_all}

-- What a call that changes the map answers: the number live, or why it is refused.
abbrev pub Reply : Type 0
Reply = Result ℕ MapFault

-- A call: it enters a code with a priority and a tally, joins a tally to that of a code, strikes a code, or asks a question.
pub data Call (K : Type 0) : Type 0 where
  enters : ℕ → ℕ → K → Call K
  repeats : ℕ → K → Call K
  strikes : ℕ → Call K
  asks : Call K

-- The call that enters the place with the motor count m and the root count r.
abbrev pub enter_at : {K : Type 0} → ℕ → ℕ → ℕ → K → Call K
enter_at m r p v = enters (code_of m r) p v

-- The call that joins a tally to that of the reading at the place.
abbrev pub again_at : {K : Type 0} → ℕ → ℕ → K → Call K
again_at m r v = repeats (code_of m r) v

-- The call that strikes the reading at the place.
abbrev pub strike_at : {K : Type 0} → ℕ → ℕ → Call K
strike_at m r = strikes (code_of m r)

-- Whether there is a value.
abbrev pub is_some : {X : Type 0} → Option X → Bool
is_some none = false
is_some (some x) = true

-- Whether a live reading has the code k.
abbrev pub present : {K : Type 0} → ℕ → List (Reading K) → Bool
present k rs = is_some (lookup k rs)

-- Whether N places are full: n readings make 4 n - 3 nodes, so they have room for (N + 3) / 4 readings, rounded down.
abbrev pub full : {K : Type 0} → ℕ → List (Reading K) → Bool
full N rs = nat_le ((N + 3) / 4) (length rs)

-- The reading with a code, a priority and a tally.
abbrev pub reads : {K : Type 0} → ℕ → ℕ → K → Reading K
reads k p v = record { code = k; priority = p; tally = v }

-- The tally of a reading, joined with v if it has the code k.
abbrev pub more : {K : Type 0} → (K → K → K) → ℕ → K → Reading K → K
more join k v r = cond (k == r.code) (join r.tally v) r.tally

-- The live readings, in rank order, after one more call: an accepted enter puts a reading on the roll, again joins a tally, a strike takes the reading off, and a question and a refused call leave it as it is.
abbrev pub next : {K : Type 0} → (K → K → K) → ℕ → Call K → List (Reading K) → List (Reading K)
next join N (enters k p v) rs = cond (present k rs) rs (cond (full N rs) rs (put (reads k p v) rs))
next join N (repeats k v) rs = cond (present k rs) (carry_all (more join k v) rs) rs
next join N (strikes k) rs = without k rs
next join N asks rs = rs

-- The roll: the live readings after all the calls, of which the latest is the first of the list, in a map of N places.
abbrev pub roll : {K : Type 0} → (K → K → K) → ℕ → List (Call K) → List (Reading K)
roll join N [] = []
roll join N (c ∷ cs) = next join N c (roll join N cs)

-- What a call answers, where the readings rs are live.
abbrev pub reply : {K : Type 0} → ℕ → Call K → List (Reading K) → Reply
reply N (enters k p v) rs = cond (present k rs) (Err Taken) (cond (full N rs) (Err Full) (Ok (suc (length rs))))
reply N (repeats k v) rs = cond (present k rs) (Ok (length rs)) (Err Absent)
reply N (strikes k) rs = cond (present k rs) (Ok (length (without k rs))) (Err Absent)
reply N asks rs = Ok (length rs)

-- The number of each refusal.
abbrev pub fault_number : MapFault → ℕ
fault_number Taken = 7
fault_number Full = 8
fault_number Absent = 9
