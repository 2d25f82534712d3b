-- A journal has one printout only.
use Rattle.std.proofs.Common.{◌≡◌, ℕ, suc, ◌+◌, List, [], ◌∷◌, ◌++◌, length, Ok, Err, Result, sym, ap, ◌∙◌, subst, append_assoc, arith, rules}
use Rattle.tables.specs.Calls.{Call, roll}
use Rattle.journal.specs.Faults.{fault_number}
use Rattle.journal.specs.Heading.{OneHeading}
use Rattle.journal.specs.Layout.{spelled, Fits}
use Rattle.journal.specs.Lines.{printed}
use Rattle.journal.specs.Records.{Reads, OneDecoding}
use Rattle.journal.specs.declared.entry.Entry.{Entry}
use Rattle.journal.specs.declared.fault.FormatFault.{FormatFault}
use Rattle.journal.specs.declared.report.Report.TheVariants.{Stopped}
use Rattle.replay.specs.Weights.{Weighed, joined}
use Rattle.replay.specs.Lines.{numbered, line_text}
use Rattle.replay.specs.Steps.{call_of, served}
use Rattle.replay.specs.Runs.{spelled_all, AllFit, printout, Ending, complete, stopped, Ends, Prints, OnePrintout}

-- Bytes have one decoding, by the contract of the decoder.
one_decoding : OneDecoding
one_decoding = search rules

-- Bytes have one heading, by the contract of the heading.
one_heading : OneHeading
one_heading = search rules

-- Bytes that spell records begin with the first of them.
first_reads : (e : Entry) (es : List Entry) (left : List ℕ) → Fits e → Reads (spelled_all (e ∷ es) ++ left) e (spelled_all es ++ left)
first_reads e es left fits = record { bytes = append_assoc (spelled e) (spelled_all es) left; fits = fits }

-- Two endings before the same bytes print the same line.
one_ending : (n : ℕ) (left : List ℕ) (k l : Ending) (last last' : List ℕ) → Ends n left k last → Ends n left l last' → last ≡ last'
one_ending n left complete complete last last' p q = p.1 ∙ sym q.1
one_ending n left complete (stopped g) last last' p q = absurd (q.0 p.0)
one_ending n left (stopped f) complete last last' p q = absurd (p.0 q.0)
one_ending n left (stopped f) (stopped g) last last' p q =
    let same : f ≡ g = (let e = one_decoding left (Err f) (Err g) p.1 q.1 in cc) in
    p.2 ∙ ap (λ x. printed n (Stopped (fault_number x))) same ∙ sym q.2

-- No run ends before bytes that begin with a record.
never_ends : (n : ℕ) (left rest : List ℕ) (k : Ending) (last : List ℕ) (e : Entry) → Ends n left k last → Reads left e rest → ⊥
never_ends n left rest complete last e p r = omega (arith, ap length (sym p.0 ∙ r.bytes))
never_ends n left rest (stopped f) last e p r =
    let z : ◌≡◌ {A = ℕ} 0 1 = (let clash = one_decoding left (Err f) (Ok (e, rest)) p.1 r in cc) in omega arith

-- The same bytes, as records and what is left of them in two ways, have the same lines.
one_printout_of : (N n : ℕ) (cs : List (Call Weighed)) (es ds : List Entry) (left left' : List ℕ) (k l : Ending) (last last' : List ℕ)
    → AllFit es → AllFit ds → spelled_all es ++ left ≡ spelled_all ds ++ left'
    → Ends (n + length es) left k last → Ends (n + length ds) left' l last'
    → printout N n cs es ++ last ≡ printout N n cs ds ++ last'
one_printout_of N n cs [] [] left left' k l last last' f g same p q =
    one_ending (n + 0) left k l last last' p (subst (λ x. Ends (n + 0) x l last') (sym same) q)
one_printout_of N n cs [] (d ∷ ds) left left' k l last last' f g same p q =
    absurd (never_ends (n + 0) left (spelled_all ds ++ left') k last d p (subst (λ x. Reads x d (spelled_all ds ++ left')) (sym same) (first_reads d ds left' g.0)))
one_printout_of N n cs (e ∷ es) [] left left' k l last last' f g same p q =
    absurd (never_ends (n + 0) left' (spelled_all es ++ left) l last' e q (subst (λ x. Reads x e (spelled_all es ++ left)) same (first_reads e es left f.0)))
one_printout_of N n cs (e ∷ es) (d ∷ ds) left left' k l last last' f g same p q =
    let rest : List ℕ = spelled_all es ++ left in
    let rest' : List ℕ = spelled_all ds ++ left' in
    let read : Reads (spelled_all (d ∷ ds) ++ left') e rest = subst (λ x. Reads x e rest) same (first_reads e es left f.0) in
    let both : ◌≡◌ {A = Result (Entry × List ℕ) FormatFault} (Ok (e, rest)) (Ok (d, rest')) =
    one_decoding (spelled_all (d ∷ ds) ++ left') (Ok (e, rest)) (Ok (d, rest')) read (first_reads d ds left' g.0) in
    let pairs : ◌≡◌ {A = Entry × List ℕ} (e, rest) (d, rest') = cc in
    let entries : e ≡ d = ap (λ (x : Entry × List ℕ). x.0) pairs in
    let rests : rest ≡ rest' = ap (λ (x : Entry × List ℕ). x.1) pairs in
    let line : Entry → List ℕ = λ x. line_text n (numbered n (served N x (roll joined N cs))) in
    let more : printout N (suc n) (call_of e ∷ cs) es ++ last ≡ printout N (suc n) (call_of e ∷ cs) ds ++ last' =
    one_printout_of N (suc n) (call_of e ∷ cs) es ds left left' k l last last' f.1 g.1 rests
    (subst (λ m. Ends m left k last) (omega arith) p) (subst (λ m. Ends m left' l last') (omega arith) q) in
    append_assoc (line e) (printout N (suc n) (call_of e ∷ cs) es) last ∙ ap (λ x. line e ++ x) more
    ∙ sym (append_assoc (line e) (printout N (suc n) (call_of e ∷ cs) ds) last')
    ∙ ap (λ x. (line x ++ printout N (suc n) (call_of x ∷ cs) ds) ++ last') entries

-- Two printouts by one heading are equal.
same_heading : (N : ℕ) (h : Result (List ℕ) FormatFault) (out out' : List ℕ) → Prints N h out → Prints N h out' → out ≡ out'
same_heading N (Ok left) out out' p q =
    p.lines
    ∙ one_printout_of N 1 [] p.records q.records p.left q.left p.ending q.ending p.last q.last p.fit q.fit
    (sym p.bytes ∙ q.bytes) p.ends q.ends
    ∙ sym q.lines
same_heading N (Err f) out out' p q = p ∙ sym q

-- Any two printouts of the same bytes are equal.
pub one_printout : OnePrintout
one_printout N bs out out' r s =
    same_heading N r.heading out out' r.prints
    (subst (λ h. Prints N h out') (one_heading bs s.heading r.heading s.heads r.heads) s.prints)
