-- A journal grows by one line after another.
use Rattle.std.proofs.Common.{◌≡◌, ℕ, ◌+◌, ◌≤◌, ◌==◌, true, List, [], ◌∷◌, ◌++◌, length, Err, sym, refl, ap, ◌∙◌, append_assoc, append-nil, length-append, arith, Some, None, Option, Bor}
use Rattle.std.specs.Iterator.{AlwaysYields}
use Rattle.std.specs.List.{flat_map}
use Rattle.std.proofs.lemmas.List.{length_push}
use Rattle.std.proofs.lemmas.List.Splits.{length-slice_split}
use Rattle.std.proofs.lemmas.List.Sums.{count_by-le-length}
use Rattle.journal.specs.Heading.{mark, version}
use Rattle.journal.specs.Layout.{spelled}
use Rattle.journal.specs.declared.entry.Entry.{Entry}
use Rattle.pamtext.specs.declared.fault.TextFault.{TextFault}
use Rattle.pamtext.specs.declared.fault.TextFault.TheVariants.{Line, NoMemory}
use Rattle.pamtext.specs.Texts.{Says}
use Rattle.pamtext.specs.Lines.{lines_of, trimmed, passed, Tells}
use Rattle.pamtext.specs.Lines.Tells.{nothing, passes, says}
use Rattle.pamtext.proofs.Yielding.{next_of, none_of}
use Rattle.pamtext.specs.Journals.{journal_of, Adds, Refuses, Written, Writes}

-- A line that is passed over adds nothing.
pub adds_nothing : (bs line text : List ℕ) → text ≡ trimmed line → true ≡ passed text → Adds bs line bs
adds_nothing bs line text is over =
    record { records = []; told = passes (ap passed (sym is) ∙ sym over) nothing; bytes = sym (append-nil bs) }

-- A line that says a record adds the bytes of that record.
pub adds_record : (bs line text after written : List ℕ) (e : Entry)
    → text ≡ trimmed line → Says text e → written ≡ spelled e → after ≡ bs ++ written → Adds bs line after
adds_record bs line text after written e is s spells add =
    record { records = e ∷ []; told = says (rw is at s) nothing; bytes = add ∙ ap (λ x. bs ++ x) (spells ∙ sym (append-nil (spelled e))) }

-- The records of some lines and of more are those of all.
tells_both : {lines more : List (List ℕ)} {es fs : List Entry} → Tells lines es → Tells more fs → Tells (lines ++ more) (es ++ fs)
tells_both nothing t = t
tells_both (passes over s) t = passes over (tells_both s t)
tells_both (says e s) t = says e (tells_both s t)

-- The bytes of some records and of more are those of all.
joined_both : {X : Type 0} (f : X → List ℕ) (xs ys : List X) → flat_map f (xs ++ ys) ≡ flat_map f xs ++ flat_map f ys
joined_both f [] ys = refl
joined_both f (x ∷ xs) ys = ap (λ z. f x ++ z) (joined_both f xs ys) ∙ sym (append_assoc (f x) (flat_map f xs) (flat_map f ys))

-- The lines before those that are left say some records, and the bytes are the journal of these.
pub record SoFar (text bs : List ℕ) (number : ℕ) (left : List (List ℕ)) : Type 0 where
  pub before : List (List ℕ)
  pub records : List Entry
  pub lines : lines_of text ≡ before ++ left
  pub told : Tells before records
  pub bytes : bs ≡ journal_of records
  pub count : number ≡ length before

-- At the start all lines are left.
pub begins : (text bs : List ℕ) → bs ≡ journal_of [] → SoFar text bs 0 (lines_of text)
begins text bs is = record { before = []; records = []; lines = refl; told = nothing; bytes = is; count = refl }

module _ {text bs : List ℕ} {number : ℕ} {line : List ℕ} {left : List (List ℕ)} (so : SoFar text bs number (line ∷ left)) where
  -- One line more was added.
  pub goes_on : {after : List ℕ} → Adds bs line after → SoFar text after (number + 1) left
  goes_on add =
      record {
        before = so.before ++ (line ∷ []);
        records = so.records ++ add.records;
        lines = so.lines ∙ sym (append_assoc so.before (line ∷ []) left);
        told = tells_both so.told add.told;
        bytes =
            add.bytes ∙ ap (λ x. x ++ flat_map spelled add.records) so.bytes
            ∙ ap (λ x. mark ++ (version ++ x)) (sym (joined_both spelled so.records add.records));
        count = ap (λ n. n + 1) so.count ∙ sym (length_push so.before line);
      }

  -- The next line is refused.
  pub stops : (fault : TextFault) → Refuses line (number + 1) fault → Writes text (Err fault)
  stops (Line n) r =
      record {
        before = so.before;
        line = line;
        after = left;
        records = so.records;
        lines = so.lines;
        number = r.0 ∙ ap (λ n. n + 1) so.count;
        told = so.told;
        unreadable = r.1;
      }
  stops NoMemory r = tt

-- No line is left.
pub ends : {text bs : List ℕ} {number : ℕ} → SoFar text bs number [] → Written text bs
ends so =
    record { records = so.records; told = rw (so.lines, append-nil so.before) so.told; bytes = so.bytes }

-- The lines that are left are those that an iterator gives, and the next of them has the number after those before.
pub record Coming {S : Type 0} (steps : S → Option (Bor (List ℕ)) → S → Type 0) (s : S) (text bs : List ℕ) (next : ℕ) : Type 0 where
  pub number : ℕ
  pub left : List (List ℕ)
  pub so : SoFar text bs number left
  pub follows : next ≡ number + 1
  pub comes : AlwaysYields steps (λ x. x.now) s left

module _ {S : Type 0} {steps : S → Option (Bor (List ℕ)) → S → Type 0} {s : S} {text bs : List ℕ} {next : ℕ} (g : Coming steps s text bs next) (t : S) where
  module _ (line : Bor (List ℕ)) (step : steps s (Some line) t) where
    first : (ys : List (List ℕ)) × (g.left ≡ line.now ∷ ys) × AlwaysYields steps (λ x. x.now) t ys
    first = next_of steps (λ x. x.now) s t line g.left g.comes step

    so_first : SoFar text bs g.number (line.now ∷ first.0)
    so_first = rw first.1 at g.so

    -- The line that comes was added.
    pub comes_on : {after : List ℕ} → Adds bs line.now after → Coming steps t text after (next + 1)
    comes_on add = record { number = g.number + 1; left = first.0; so = goes_on so_first add; follows = ap (λ n. n + 1) g.follows; comes = first.2 }

    -- The line that comes is refused.
    pub comes_to_stop : (fault : TextFault) → Refuses line.now next fault → Writes text (Err fault)
    comes_to_stop fault refuses = stops so_first fault (rw g.follows at refuses)

  -- No line comes.
  pub comes_to_end : steps s None t → Written text bs
  comes_to_end step = let none = none_of steps (λ x. x.now) s t g.left g.comes step in ends (rw none at g.so)

-- The next line has no number beyond those that a text of its length may have.
pub few : {S : Type 0} {steps : S → Option (Bor (List ℕ)) → S → Type 0} {s : S} {text bs : List ℕ} {next : ℕ} → Coming steps s text bs next → next ≤ length text + 2
few {text = text} g =
    let all = length-slice_split (λ b. b == 10) text in
    let cuts = count_by-le-length (λ b. b == 10) text in
    omega (arith, g.follows, g.so.count, ap length g.so.lines, length-append g.so.before g.left, all, cuts)
