-- Each letter leads to the record of its fields.
use Rattle.std.proofs.Common.{◌≡◌, ◌∷◌, refl, MatchOption, rules}
use Rattle.journal.specs.declared.entry.Entry.TheVariants.{Enter, Again, Strike, Disc, Band}
use Rattle.journal.specs.Records.{Reads, Cut}
use Rattle.journal.proofs.Letters.{reads, by_letter, or_cut}
use Rattle.journal.proofs.decoding.decode.Goals as goal
use Rattle.journal.proofs.decoding.decode.Goals.{in-65, in-71, in-83, in-68, in-66, in-72}

pub returns : goal.returns
returns c =
    let letter : c.args.bytes.now ≡ c.in_ok-letter.letter.now ∷ c.in_ok-letter.fields.now = search rules in
    let read : MatchOption c.match-letter.read (Cut c.args.bytes.now) (λ x. Reads c.args.bytes.now x.0 x.1.now) =
    elim c.match-letter.branch [
      | in-65 w ↦ rw w.read-is (by_letter (λ x. x.now) (Enter 0 0 0 0 0 0) w.enter-read.result (rw w.in-65.is at letter) refl w.enter-read.ensures.value)
      | in-71 w ↦ rw w.read-is (by_letter (λ x. x.now) (Again 0 0 0 0) w.again-read.result (rw w.in-71.is at letter) refl w.again-read.ensures.value)
      | in-83 w ↦ rw w.read-is (by_letter (λ x. x.now) (Strike 0 0) w.strike-read.result (rw w.in-83.is at letter) refl w.strike-read.ensures.value)
      | in-68 w ↦ rw w.read-is (by_letter (λ x. x.now) (Disc 0 0 0 0) w.disc-read.result (rw w.in-68.is at letter) refl w.disc-read.ensures.value)
      | in-66 w ↦ rw w.read-is (by_letter (λ x. x.now) (Band 0 0 0 0 0) w.band-read.result (rw w.in-66.is at letter) refl w.band-read.ensures.value)
      | in-72 w ↦ rw w.read-is (reads (rw w.in-72.is at letter) (record { kind = refl; bytes = refl; fits = tt }))
    ] in
    record { value = or_cut (λ x. x.now) c.args.bytes.now c.match-letter.read c.ok_or-2.result read c.ok_or-2.ensures.value }
