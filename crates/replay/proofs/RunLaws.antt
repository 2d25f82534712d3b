-- A run goes on record by record.
use Rattle.std.proofs.Common.{◌≡◌, ℕ, suc, ◌+◌, ◌<◌, ◌≤◌, ◌⊎◌, List, [], ◌∷◌, ◌++◌, length, IfOk, MatchResult, Some, Ok, Err, Result, inl, inr, sym, refl, ap, ◌∙◌, subst, append_assoc, add-one, arith, length-append}
use Rattle.std.proofs.lemmas.List.{append-nil}
use Rattle.tables.specs.Calls.{Call, roll}
use Rattle.tables.specs.Stands.{State, Stands}
use Rattle.journal.specs.Faults.{fault_number}
use Rattle.journal.specs.Heading.{Heads}
use Rattle.journal.specs.Layout.{spelled, fields}
use Rattle.journal.specs.Lines.{printed}
use Rattle.journal.specs.Records.{Reads, Explains}
use Rattle.journal.specs.declared.entry.Entry.{Entry}
use Rattle.journal.specs.declared.fault.FormatFault.{FormatFault}
use Rattle.journal.specs.declared.report.Report.{Report}
use Rattle.journal.specs.declared.report.Report.TheVariants.{Stopped}
use Rattle.replay.specs.declared.fault.JournalFault.{JournalFault}
use Rattle.replay.specs.declared.fault.StepFault.{StepFault}
use Rattle.replay.specs.declared.fault.StepFault.TheVariants.{Format}
use Rattle.replay.specs.Entries.{Gives}
use Rattle.replay.specs.Weights.{Weighed, joined, neutral}
use Rattle.replay.specs.Lines.{numbered, line_text}
use Rattle.replay.specs.Steps.{call_of, served, Law, Stepped, Steps}
use Rattle.replay.specs.Runs.{spelled_all, printout, complete, stopped, Ends, Follows, Replays}

-- Where no bytes are left the printout is empty.
pub follows_none : (N n : ℕ) (cs : List (Call Weighed)) → Follows N n cs [] []
follows_none N n cs = record {
  records = [];
  fit = tt;
  left = [];
  bytes = refl;
  ending = complete;
  last = [];
  ends = (refl, refl);
  lines = refl;
  lawful = tt;
}

-- Bytes that begin with no record have the line of the fault that explains why.
pub follows_stopped : (N n : ℕ) (cs : List (Call Weighed)) (bs : List ℕ) (f : FormatFault) → (bs ≡ [] → ⊥) → Explains bs f
    → Follows N n cs bs (printed n (Stopped (fault_number f)))
follows_stopped N n cs bs f some why = record {
  records = [];
  fit = tt;
  left = bs;
  bytes = refl;
  ending = stopped f;
  last = printed n (Stopped (fault_number f));
  ends = (some, why, ap (λ m. printed m (Stopped (fault_number f))) (omega arith));
  lines = refl;
  lawful = tt;
}

-- A record that the bytes begin with has its line before those of the others.
pub follows_record : (N n : ℕ) (cs : List (Call Weighed)) (bs left out : List ℕ) (e : Entry) → Reads bs e left → Law N e cs
    → Follows N (suc n) (call_of e ∷ cs) left out
    → Follows N n cs bs (line_text n (numbered n (served N e (roll joined N cs))) ++ out)
follows_record N n cs bs left out e reads law rest = let line = line_text n (numbered n (served N e (roll joined N cs))) in record {
  records = e ∷ rest.records;
  fit = (reads.fits, rest.fit);
  left = rest.left;
  bytes = reads.bytes ∙ ap (λ x. spelled e ++ x) rest.bytes ∙ sym (append_assoc (spelled e) (spelled_all rest.records) rest.left);
  ending = rest.ending;
  last = rest.last;
  ends = subst (λ m. Ends m rest.left rest.ending rest.last) (omega arith) rest.ends;
  lines = ap (λ x. line ++ x) rest.lines ∙ sym (append_assoc line (printout N (suc n) (call_of e ∷ cs) rest.records) rest.last);
  lawful = (law, rest.lawful);
}

-- A record takes at least one byte.
pub shorter : (left rest : List ℕ) (e : Entry) → Reads left e rest → suc (length rest) ≤ length left
shorter left rest e reads =
    let e1 : length left ≡ length (spelled e ++ rest) = ap length reads.bytes in omega (arith, e1, length-append (fields e) rest)

-- Where a run is: the readings live after some calls stand in the map, and whatever printout follows there follows the printout so far.
pub record Going (N : ℕ) (bs left : List ℕ) (n : ℕ) (out : List ℕ) (s : State Weighed) : Type 0 where
  pub calls : List (Call Weighed)
  pub stands : Stands joined neutral s (roll joined N calls)
  pub size : s.places ≡ N
  pub few : n + length left ≤ 1 + length bs
  pub follows : (o : List ℕ) → Follows N n calls left o → Follows N 1 [] bs (out ++ o)

-- A run begins with its first record, on a map without readings.
pub going_first : (N : ℕ) (bs : List ℕ) (s : State Weighed) → s.places ≡ N → Stands joined neutral s [] → Going N bs bs 1 [] s
going_first N bs s size stands = record { calls = []; stands = stands; size = size; few = omega arith; follows = λ o h. h }

-- A run goes on by the record that the bytes begin with and the line of its answer.
pub going_on : (N : ℕ) (bs left rest out out' : List ℕ) (n : ℕ) (s s' : State Weighed) (e : Entry) (a : Result Report StepFault)
    → Going N bs left n out s → Reads left e rest → Steps s s' e a → out' ≡ out ++ line_text n (numbered n a)
    → Going N bs rest (n + 1) out' s'
going_on N bs left rest out out' n s s' e a g reads steps written =
    let done : Stepped s s' e g.calls a =
    steps g.calls (subst (λ M. Stands joined neutral s (roll joined M g.calls)) (sym g.size) g.stands) in
    let line : List ℕ = line_text n (numbered n (served N e (roll joined N g.calls))) in
    let answer : a ≡ served N e (roll joined N g.calls) =
    done.answer ∙ ap (λ M. served M e (roll joined M g.calls)) g.size in
    let law : Law N e g.calls = subst (λ M. Law M e g.calls) g.size done.law in
    let out-is : out' ≡ out ++ line = written ∙ ap (λ x. out ++ line_text n (numbered n x)) answer in
    record {
      calls = call_of e ∷ g.calls;
      stands = subst (λ M. Stands joined neutral s' (roll joined M (call_of e ∷ g.calls))) g.size done.serves.stands;
      size = done.serves.places ∙ g.size;
      few = omega (arith, g.few, shorter left rest e reads);
      follows = λ o h.
          subst (Follows N 1 [] bs) (sym (append_assoc out line o) ∙ ap (λ x. x ++ o) (sym out-is))
          (g.follows (line ++ o) (follows_record N n g.calls left rest o e reads law (rw add-one at h)));
    }

-- A run ends where no bytes are left.
pub going_done : (N : ℕ) (bs out : List ℕ) (n : ℕ) (s : State Weighed) (left : List ℕ) → Going N bs left n out s → length left ≤ 0 → Follows N 1 [] bs out
going_done N bs out n s [] g h = subst (Follows N 1 [] bs) (append-nil out) (g.follows [] (follows_none N n g.calls))
going_done N bs out n s (x ∷ xs) g h = absurd (omega (arith, h))

-- A run ends where a fault explains why the bytes begin with no record, with the line r of the fault.
pub going_stopped : (N : ℕ) (bs left out out' : List ℕ) (n : ℕ) (s : State Weighed) (f : FormatFault) (r : Result Report JournalFault)
    → Going N bs left n out s → 0 < length left → Explains left f → r ≡ numbered n (Err (Format f)) → out' ≡ out ++ line_text n r
    → Follows N 1 [] bs out'
going_stopped N bs left out out' n s f r g some why fault written =
    subst (Follows N 1 [] bs) (sym (written ∙ ap (λ x. out ++ line_text n x) fault))
    (g.follows (printed n (Stopped (fault_number f))) (follows_stopped N n g.calls left f (λ e. omega (arith, some, ap length e)) why))

-- Bytes that are not none are some.
some_left : (bs : List ℕ) → (bs ≡ [] → ⊥) → 0 < length bs
some_left [] none = absurd (none refl)
some_left (b ∷ bs) none = omega arith

-- A run goes on, or its last line is written and no bytes are left.
abbrev pub Goes : ℕ → List ℕ → List ℕ → ℕ → List ℕ → State Weighed → Type 0
Goes N bs left n out s = Going N bs left n out s ⊎ ((left ≡ []) × Follows N 1 [] bs out)

-- The line of what was read is written.
pub goes_on : (N : ℕ) (bs left rest out out' : List ℕ) (n : ℕ) (s s' : State Weighed) (read : Result Entry FormatFault) (a : Result Report StepFault)
    → Goes N bs left n out s → Gives left (Some read) rest
    → MatchResult read (λ e. Steps s s' e a) (λ f. a ≡ Err (Format f)) → out' ≡ out ++ line_text n (numbered n a)
    → Goes N bs rest (n + 1) out' s'
goes_on N bs left rest out out' n s s' (Ok e) a (inl g) reads steps written = inl (going_on N bs left rest out out' n s s' e a g reads steps written)
goes_on N bs left rest out out' n s s' (Err f) a (inl g) gives is written =
    inr (gives.2, going_stopped N bs left out out' n s f (numbered n a) g (some_left left gives.0) gives.1 (ap (numbered n) is) written)
goes_on N bs left rest out out' n s s' (Ok e) a (inr done) reads steps written = absurd (omega (arith, shorter left rest e reads, ap length done.0))
goes_on N bs left rest out out' n s s' (Err f) a (inr done) gives is written = absurd (gives.0 done.0)

-- A run ends where no bytes are left.
pub goes_to_end : (N : ℕ) (bs left out : List ℕ) (n : ℕ) (s : State Weighed) → Goes N bs left n out s → left ≡ [] → Follows N 1 [] bs out
goes_to_end N bs left out n s (inl g) none = going_done N bs out n s left g (omega (arith, ap length none))
goes_to_end N bs left out n s (inr done) none = done.1

-- No run counts more records than there are bytes.
pub goes_no_further : (N : ℕ) (bs left out : List ℕ) (n : ℕ) (s : State Weighed) → Goes N bs left n out s → 1 + length bs < n → Follows N 1 [] bs out
goes_no_further N bs left out n s (inl g) far = absurd (omega (arith, g.few))
goes_no_further N bs left out n s (inr done) far = done.1

-- A heading that is refused has one line, with the number 0.
pub replays_refused : (N : ℕ) (bs out out' : List ℕ) (f : FormatFault) (r : Result Report JournalFault)
    → Heads bs (Err f) → r ≡ numbered 0 (Err (Format f)) → out ≡ [] → out' ≡ out ++ line_text 0 r → Replays N bs out'
replays_refused N bs out out' f r heads fault none written =
    record { heading = Err f; heads = heads; prints = written ∙ ap (λ x. x ++ line_text 0 r) none ∙ ap (line_text 0) fault }

-- The printout of the records after a heading, in a map of M places, is that of the journal.
pub replays_made : {X Y : Type 0} (items : X → List ℕ) (M N : ℕ) (bs left : List ℕ) (r : Result X Y) → M ≡ N → Heads bs (Ok left)
    → IfOk r (λ x. Follows M 1 [] left (items x)) → IfOk r (λ x. Replays N bs (items x))
replays_made items M N bs left (Ok x) e heads follows = record { heading = Ok left; heads = heads; prints = subst (λ m. Follows m 1 [] left (items x)) e follows }
replays_made items M N bs left (Err y) e heads none = tt
