-- What the law of the map promises of every record, where the live readings are of codes that all differ.
use Rattle.std.proofs.Common.{◌≡◌, ℕ, ◌≤◌, List, refl, sym, le_trans, mul-le-mul_left, rules}
use Rattle.std.specs.Prelude.{None}
use Rattle.place.specs.Boxes.{between}
use Rattle.crossing.specs.Regions.{Places}
use Rattle.crossing.specs.Discs.{within}
use Rattle.crossing.proofs.CrossingLaws.{disc_crossings}
use Rattle.shape.specs.Shapes.{widened}
use Rattle.shape.specs.Faults.{disc_fault}
use Rattle.shape.specs.DiscTests.{within_more}
use Rattle.quadtreap.specs.Rank.{Valid}
use Rattle.quadtreap.specs.Walk.{Joins, Subset}
use Rattle.quadtreap.proofs.WalkLaws.{counts_each_once}
use Rattle.quadtreap.proofs.EffortLaws.{effort_is_bounded}
use Rattle.quadtreap.proofs.SameLaws.{same_readings}
use Rattle.tables.specs.Calls.{Call, roll}
use Rattle.tables.proofs.Rolls.{ranked_roll}
use Rattle.tally.specs.declared.span.Span.TheVariants.{Empty}
use Rattle.tally.specs.Sums.{zero_sum, sum_joined}
use Rattle.tally.specs.Spans.{span_joined}
use Rattle.tally.specs.SumsLemmas as sums
use Rattle.tally.specs.SpansLemmas as spans
use Rattle.tally.specs.PairsLemmas.{pair_commutative, pair_associative, pair_neutral_left}
use Rattle.journal.specs.declared.entry.Entry.{Entry}
use Rattle.journal.specs.declared.entry.Entry.TheVariants.{Enter, Again, Strike, Disc, Band, Height}
use Rattle.replay.specs.Weights.{Weighed, joined, neutral}
use Rattle.replay.specs.Steps.{Lawful, Law}

-- the tally of a journal may be joined in any order
joins : Joins joined neutral
joins = record {
  assoc = pair_associative zero_sum sum_joined Empty span_joined sums.join_associative spans.join_associative;
  comm = pair_commutative zero_sum sum_joined Empty span_joined sums.join_commutative spans.join_commutative;
  neutral = pair_neutral_left zero_sum sum_joined Empty span_joined sums.zero_joined spans.empty_joined;
}

-- the walk of a shape is that of the map's law
lawful : (N : ℕ) (inner outer : Places) (cs : List (Call Weighed)) → Subset inner outer → Valid (roll joined N cs) → Lawful N inner outer cs
lawful N inner outer cs sub valid = record {
  value = refl;
  counts_each_once = counts_each_once joined neutral joins inner outer sub (roll joined N cs) valid;
  effort = effort_is_bounded joined neutral inner outer (roll joined N cs) valid;
  same_readings = λ M ds alike.
      let same = same_readings (roll joined M ds) (roll joined N cs) (ranked_roll joined M ds) (ranked_roll joined N cs) alike in
      (sym (same.2 joined neutral _), same.3);
}

-- the radii of a disc without a fault
radii_nested : (r R : ℕ) → disc_fault r R ≡ None → r ≤ R
radii_nested r R fine = search (rules, fine)

-- the rectangle of a band lies in the widened one
band_nested : (lm hm lr hr margin : ℕ) → Subset (between lm hm lr hr) (widened lm hm lr hr margin)
band_nested lm hm lr hr margin m r motors roots h = search rules

-- what is promised of every record
pub law_holds : (N : ℕ) (e : Entry) (cs : List (Call Weighed)) → Valid (roll joined N cs) → Law N e cs
law_holds N (Enter motor motor_time root root_time priority weight) cs valid = tt
law_holds N (Again motor root time weight) cs valid = tt
law_holds N (Strike motor root) cs valid = tt
law_holds N (Disc motor root inner outer) cs valid = λ fine.
    let nested = radii_nested inner outer fine in
    let t = lawful N (within motor root inner) (within motor root outer) cs (λ m r _ _ h. within_more motor root inner outer m r nested h) valid in
    record { tally = t; effort = le_trans t.effort (mul-le-mul_left _ (disc_crossings motor root inner outer nested)) }
law_holds N (Band lm hm lr hr margin) cs valid = λ fine. lawful N (between lm hm lr hr) (widened lm hm lr hr margin) cs (band_nested lm hm lr hr margin) valid
law_holds N Height cs valid = tt
