-- A text writes one journal only.
use Rattle.std.proofs.Common.{◌≡◌, ℕ, suc, ◌+◌, true, false, List, [], ◌∷◌, ◌++◌, length, Ok, Err, sym, refl, ap, ◌∙◌, inl, inr, true≢false}
use Rattle.journal.specs.declared.entry.Entry.{Entry}
use Rattle.journal.specs.declared.entry.Entry.TheVariants.{Enter, Again, Strike, Disc, Band, Height}
use Rattle.pamtext.specs.declared.fault.TextFault.TheVariants.{Line, NoMemory}
use Rattle.pamtext.specs.Texts.{text_of, Says}
use Rattle.pamtext.specs.Lines.{trimmed, passed, Unreadable, Tells}
use Rattle.pamtext.specs.Lines.Tells.{nothing, passes, says}
use Rattle.pamtext.specs.Journals.{journal_of, OneJournal}
use Rattle.pamtext.proofs.SameTexts.{same_record}

-- The text of a record is not passed over.
kept : (e : Entry) → passed (text_of e) ≡ false
kept (Enter motor motor_time root root_time priority weight) = refl
kept (Again motor root time weight) = refl
kept (Strike motor root) = refl
kept (Disc motor root inner outer) = refl
kept (Band lowest_motor highest_motor lowest_root highest_root margin) = refl
kept Height = refl

-- A line that says a record is not passed over.
either : {bs : List ℕ} (e : Entry) → Says bs e → passed bs ≡ true → ⊥
either e s over = true≢false (sym over ∙ ap passed s.text ∙ kept e)

-- Lines say one list of records only.
same_told : {lines : List (List ℕ)} {es fs : List Entry} → Tells lines es → Tells lines fs → es ≡ fs
same_told nothing nothing = refl
same_told (passes p s) (passes q t) = same_told s t
same_told (passes p s) (says {e = f} q t) = absurd (either f q p)
same_told (says {e = e} p s) (passes q t) = absurd (either e p q)
same_told (says {line = line} {e = e} p s) (says {e = f} q t) =
    let first = same_record (trimmed line) e f p q in
    let others = same_told s t in
    cc

-- No line of those that say records is unreadable.
readable : {line : List ℕ} {lines : List (List ℕ)} {es : List Entry} → Tells (line ∷ lines) es → Unreadable line → ⊥
readable (passes p s) u = true≢false (sym p ∙ u.kept)
readable (says {e = e} p s) u = u.none e p

-- The records of the lines after the first.
others : {line : List ℕ} {lines : List (List ℕ)} {es : List Entry} → Tells (line ∷ lines) es → (fs : List Entry) × Tells lines fs
others (passes {es = es} p s) = (es, s)
others (says {es = es} p s) = (es, s)

-- Lines among which one is unreadable say no records.
all_readable : (before after : List (List ℕ)) {line : List ℕ} {es : List Entry} → Tells (before ++ (line ∷ after)) es → Unreadable line → ⊥
all_readable [] after t u = readable t u
all_readable (b ∷ before) after t u = all_readable before after (others t).1 u

-- The first unreadable line stands at one place only.
same_place : (before again after more : List (List ℕ)) {line next : List ℕ} {es fs : List Entry} → before ++ (line ∷ after) ≡ again ++ (next ∷ more)
    → Tells before es → Tells again fs → Unreadable line → Unreadable next → length before ≡ length again
same_place [] [] after more e s t u v = refl
same_place [] (a ∷ again) after more {line = line} e s t u v = let is : line ≡ a = cc in absurd (readable t (rw is at u))
same_place (b ∷ before) [] after more {next = next} e s t u v = let is : next ≡ b = cc in absurd (readable s (rw is at v))
same_place (b ∷ before) (a ∷ again) after more {line = line} {next = next} e s t u v =
    let rest : before ++ (line ∷ after) ≡ again ++ (next ∷ more) = cc in
    ap suc (same_place before again after more rest (others s).1 (others t).1 u v)

pub one_journal : OneJournal
one_journal text (Ok a) (Ok b) p q = inl (ap (λ x. Ok x) (p.bytes ∙ ap journal_of (same_told p.told q.told) ∙ sym q.bytes))
one_journal text (Ok a) (Err (Line n)) p q = absurd (all_readable q.before q.after (rw q.lines at p.told) q.unreadable)
one_journal text (Err (Line n)) (Ok b) p q = absurd (all_readable p.before p.after (rw p.lines at q.told) p.unreadable)
one_journal text (Err (Line n)) (Err (Line m)) p q =
    let place = same_place p.before q.before p.after q.after (sym p.lines ∙ q.lines) p.told q.told p.unreadable q.unreadable in
    inl (ap (λ x. Err (Line x)) (p.number ∙ ap (λ x. x + 1) place ∙ sym q.number))
one_journal text (Ok a) (Err NoMemory) p q = inr (inr refl)
one_journal text (Err (Line n)) (Err NoMemory) p q = inr (inr refl)
one_journal text (Err NoMemory) s p q = inr (inl refl)
