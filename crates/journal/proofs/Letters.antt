-- A record, once its letter is known.
use Rattle.std.proofs.Common.{◌≡◌, ℕ, ◌<◌, List, ◌∷◌, ◌++◌, length, Some, None, Ok, Err, Option, Result, MatchOption, MatchResult, sym, ap, ◌∙◌, inr}
use Rattle.std.specs.Option.{ok_or}
use Rattle.journal.specs.declared.entry.Entry.{Entry}
use Rattle.journal.specs.declared.fault.FormatFault.{FormatFault}
use Rattle.journal.specs.declared.fault.FormatFault.TheVariants.{CutShort}
use Rattle.journal.specs.Layout.{letter, fields, size}
use Rattle.journal.specs.Records.{ReadsFields, Reads, Cut, Decodes}

-- The letter and the bytes of the fields are all bytes of the record.
pub reads : {bs fs left : List ℕ} {c : ℕ} {e : Entry} → bs ≡ c ∷ fs → ReadsFields c fs e left → Reads bs e left
reads {bs} {fs} {left} {c} {e} b f = record {
  bytes = b ∙ ap (λ x. c ∷ x) f.bytes ∙ ap (λ x. x ∷ (fields e ++ left)) (sym f.kind);
  fits = f.fits;
}

-- Bytes begin with the record of a letter, or are cut. Here `some` is any record of that letter.
pub by_letter : {X : Type 0} (now : X → List ℕ) {bs fs : List ℕ} {c : ℕ} (some : Entry) (o : Option (Entry × X))
    → bs ≡ c ∷ fs → letter some ≡ c → MatchOption o (length fs < size some) (λ x. ReadsFields c fs x.0 (now x.1))
    → MatchOption o (Cut bs) (λ x. Reads bs x.0 (now x.1))
by_letter now some (Some x) b k f = reads b f
by_letter now {bs} {fs} {c} some None b k f = record { first = c; left = fs; begins = b; some = some; kind = k; short = f }

-- Bytes that are cut are cut short.
pub or_cut : {X : Type 0} (now : X → List ℕ) (bs : List ℕ) (o : Option (Entry × X)) (r : Result (Entry × X) FormatFault)
    → MatchOption o (Cut bs) (λ x. Reads bs x.0 (now x.1)) → r ≡ ok_or o CutShort
    → MatchResult r (λ x. Decodes bs (Ok (x.0, now x.1))) (λ f. Decodes bs (Err f))
or_cut now bs (Some x) r h e = rw e h
or_cut now bs None r h e = rw e (inr h)
