-- A run goes on record by record.
use Rattle.std.proofs.Common.{◌≡◌, ℕ, ◌+◌, ◌<◌, ◌≤◌, ◌⊎◌, List, [], ◌∷◌, ◌++◌, length, MatchResult, Some, Ok, Err, Result, inl, inr, sym, ap, ◌∙◌, subst, append_assoc, add-one, arith}
use Rattle.std.proofs.lemmas.List.{append-nil}
use Rattle.quadtreap.specs.Tree.{Reading}
use Rattle.quadtreap.specs.Rank.{Ranked, Valid}
use Rattle.tables.specs.Calls.{Call, roll, next}
use Rattle.tables.proofs.Rolls.{ranked_roll}
use Rattle.journal.specs.Faults.{fault_number}
use Rattle.journal.specs.Lines.{printed}
use Rattle.journal.specs.Records.{Reads, Explains}
use Rattle.journal.specs.declared.entry.Entry.{Entry}
use Rattle.journal.specs.declared.fault.FormatFault.{FormatFault}
use Rattle.journal.specs.declared.report.Report.{Report}
use Rattle.journal.specs.declared.report.Report.TheVariants.{Stopped}
use Rattle.replay.specs.declared.fault.StepFault.{StepFault}
use Rattle.replay.specs.declared.fault.StepFault.TheVariants.{Format}
use Rattle.replay.specs.Entries.{Gives}
use Rattle.replay.specs.Weights.{Weighed, joined}
use Rattle.replay.specs.Lines.{numbered, line_text}
use Rattle.replay.specs.Steps.{call_of, served}
use Rattle.replay.specs.Runs.{Follows}
use Rattle.replay.proofs.RunLaws.{follows_none, follows_stopped, follows_record, shorter}
use Rattle.rebuild.specs.Steps.{Served}
use Rattle.rebuild.proofs.ShapeLaws.{law_holds}
use Rattle.rebuild.proofs.ValidLaws.{valid_record}

-- Where a run is: the readings are those live after some calls, and whatever printout follows there follows the printout so far.
pub record Going (N : ℕ) (bs left : List ℕ) (n : ℕ) (out : List ℕ) (rs : List (Reading Weighed)) : Type 0 where
  pub calls : List (Call Weighed)
  pub are : rs ≡ roll joined N calls
  pub valid : Valid rs
  pub few : n + length left ≤ 1 + length bs
  pub follows : (o : List ℕ) → Follows N n calls left o → Follows N 1 [] bs (out ++ o)

-- A run goes on by the record that the bytes begin with and the line of its answer.
going_on : (N : ℕ) (bs left rest out out' : List ℕ) (n : ℕ) (rs rs' : List (Reading Weighed)) (e : Entry) (a : Result Report StepFault)
    → Going N bs left n out rs → Reads left e rest → (Valid rs → Served N e rs rs' a) → out' ≡ out ++ line_text n (numbered n a)
    → Going N bs rest (n + 1) out' rs'
going_on N bs left rest out out' n rs rs' e a g reads serves written =
    let done : Served N e rs rs' a = serves g.valid in
    let line : List ℕ = line_text n (numbered n (served N e (roll joined N g.calls))) in
    let answer : a ≡ served N e (roll joined N g.calls) = done.answer ∙ ap (served N e) g.are in
    let ranked : Ranked rs = subst Ranked (sym g.are) (ranked_roll joined N g.calls) in
    let out-is : out' ≡ out ++ line = written ∙ ap (λ x. out ++ line_text n (numbered n x)) answer in
    record {
      calls = call_of e ∷ g.calls;
      are = done.live ∙ ap (next joined N (call_of e)) g.are;
      valid = subst Valid (sym done.live) (valid_record N e rs g.valid ranked);
      few = omega (arith, g.few, shorter left rest e reads);
      follows = λ o h.
          subst (Follows N 1 [] bs) (sym (append_assoc out line o) ∙ ap (λ x. x ++ o) (sym out-is))
          (g.follows (line ++ o) (follows_record N n g.calls left rest o e reads (law_holds N e g.calls (subst Valid g.are g.valid)) (rw add-one at h)));
    }

-- A run ends where no bytes are left.
going_done : (N : ℕ) (bs out : List ℕ) (n : ℕ) (rs : List (Reading Weighed)) (left : List ℕ) → Going N bs left n out rs → length left ≤ 0 → Follows N 1 [] bs out
going_done N bs out n rs [] g h = subst (Follows N 1 [] bs) (append-nil out) (g.follows [] (follows_none N n g.calls))
going_done N bs out n rs (x ∷ xs) g h = absurd (omega (arith, h))

-- A run ends where a fault explains why the bytes begin with no record, with the line of the fault.
going_stopped : (N : ℕ) (bs left out out' : List ℕ) (n : ℕ) (rs : List (Reading Weighed)) (f : FormatFault) (a : Result Report StepFault)
    → Going N bs left n out rs → (left ≡ [] → ⊥) → Explains left f → a ≡ Err (Format f) → out' ≡ out ++ line_text n (numbered n a)
    → Follows N 1 [] bs out'
going_stopped N bs left out out' n rs f a g some why fault written =
    subst (Follows N 1 [] bs) (sym (written ∙ ap (λ x. out ++ line_text n (numbered n x)) fault))
    (g.follows (printed n (Stopped (fault_number f))) (follows_stopped N n g.calls left f some why))

-- A run goes on, or its last line is written and no bytes are left.
abbrev pub Goes : ℕ → List ℕ → List ℕ → ℕ → List ℕ → List (Reading Weighed) → Type 0
Goes N bs left n out rs = Going N bs left n out rs ⊎ ((left ≡ []) × Follows N 1 [] bs out)

-- A run begins with its first record, on a map without readings.
pub goes_first : (N : ℕ) (bs : List ℕ) (rs : List (Reading Weighed)) → rs ≡ [] → Goes N bs bs 1 [] rs
goes_first N bs rs none = inl (record { calls = []; are = none; valid = subst Valid (sym none) tt; few = omega arith; follows = λ o h. h })

-- The line of what was read is written.
pub goes_on : (N : ℕ) (bs left rest out out' : List ℕ) (n : ℕ) (rs rs' : List (Reading Weighed)) (read : Result Entry FormatFault) (a : Result Report StepFault)
    → Goes N bs left n out rs → Gives left (Some read) rest
    → MatchResult read (λ e. Valid rs → Served N e rs rs' a) (λ f. a ≡ Err (Format f)) → out' ≡ out ++ line_text n (numbered n a)
    → Goes N bs rest (n + 1) out' rs'
goes_on N bs left rest out out' n rs rs' (Ok e) a (inl g) reads serves written = inl (going_on N bs left rest out out' n rs rs' e a g reads serves written)
goes_on N bs left rest out out' n rs rs' (Err f) a (inl g) gives is written = inr (gives.2, going_stopped N bs left out out' n rs f a g gives.0 gives.1 is written)
goes_on N bs left rest out out' n rs rs' (Ok e) a (inr done) reads serves written = absurd (omega (arith, shorter left rest e reads, ap length done.0))
goes_on N bs left rest out out' n rs rs' (Err f) a (inr done) gives is written = absurd (gives.0 done.0)

-- A run ends where no bytes are left.
pub goes_to_end : (N : ℕ) (bs left out : List ℕ) (n : ℕ) (rs : List (Reading Weighed)) → Goes N bs left n out rs → left ≡ [] → Follows N 1 [] bs out
goes_to_end N bs left out n rs (inl g) none = going_done N bs out n rs left g (omega (arith, ap length none))
goes_to_end N bs left out n rs (inr done) none = done.1

-- No run counts more records than there are bytes.
pub goes_no_further : (N : ℕ) (bs left out : List ℕ) (n : ℕ) (rs : List (Reading Weighed)) → Goes N bs left n out rs → 1 + length bs < n → Follows N 1 [] bs out
goes_no_further N bs left out n rs (inl g) far = absurd (omega (arith, g.few))
goes_no_further N bs left out n rs (inr done) far = done.1
