-- The tally of a shape is what the tree of the live readings answers.
use Rattle.std.proofs.Common.{◌≡◌, ℕ, ◌*◌, ◌≤◌, List, sym, refl, ap, ◌∙◌, subst, inl, inr, arith}
use Rattle.std.specs.Prelude.{None, Some}
use Rattle.tables.specs.declared.walk.Tallied.{Tallied}
use Rattle.crossing.specs.Regions.{Places, crossings}
use Rattle.quadtreap.specs.Tree.{Reading, tree_of, nodes, map_height}
use Rattle.quadtreap.specs.Walk.{Tests, asked, Joins, Answer, answer, map_walk, Subset}
use Rattle.records.specs.PlacedPairs.{PlacedPairs, nodes_of, tree_in}
use Rattle.tables.specs.Calls.{roll}
use Rattle.tables.specs.Stands.{State, Stands, LiesTallied, map_tree}
use Rattle.tables.specs.Walks.{numbered, starts, ran}
use Rattle.tables.specs.Tallies.{Answers}
use Rattle.quadtreap.proofs.WalkLaws.{same_tests, counts_each_once}
use Rattle.quadtreap.proofs.EffortLaws.{effort_is_bounded}
use Rattle.quadtreap.proofs.SameLaws.{same_readings}
use Rattle.tables.proofs.Finds.{none_or_some, none_of, held, held_tree, held_lain, held_top, held_few}
use Rattle.tables.proofs.Rolls.{ranked_roll}
use Rattle.tables.proofs.Sights.{numbered_agree}
use Rattle.tables.proofs.Runs.{stops}
use Rattle.tables.proofs.Turns.{Laid, whole_walk}

-- what a walk has found
abbrev pub found : {K : Type 0} → Tallied K → Answer K
found s = answer s.tally s.expanded

module _ {K : Type 0} (join : K → K → K) (e : K) (laws : Joins join e) (s : State K) where
  abbrev run : Tests → Tallied K
  run q = ran join e q s.records s.tallies (s.places * 2) (starts s.root e)

  module _ (rs : List (Reading K)) (st : Stands join e s rs) (q : Tests) where
    found_empty : s.root ≡ None → found (run q) ≡ map_walk join e q (tree_of rs)
    found_empty is =
        rw (is, stops join e q s.records s.tallies (s.places * 2) (starts None e) refl) (ap (map_walk join e q) (sym (ap map_tree (none_of 0 st.placed (sym st.top ∙ is))) ∙ st.tree))

    found_held : (root : ℕ) → s.root ≡ Some root → found (run q) ≡ map_walk join e q (tree_of rs)
    found_held root far =
        let t : PlacedPairs K = held 0 join e s rs st root far in
        let lain : LiesTallied join e s.records s.tallies t = held_lain 0 join e s rs st root far in
        let laid : Laid join e q laws s.records s.tallies None (nodes_of t) = record { laid = lain.kept.laid; totals = lain.totals; once = lain.kept.once } in
        let few : 2 * nodes (tree_in t) ≤ s.places * 2 = (let f = held_few 0 join e s rs st root far in omega arith) in
        rw (far, held_top 0 join e s rs st root far, whole_walk join e q laws s.records s.tallies (nodes_of t) (s.places * 2) laid few)
        (ap (map_walk join e q) (sym (held_tree 0 join e s rs st root far)))

    pub found_walk : found (run q) ≡ map_walk join e q (tree_of rs)
    found_walk = elim (none_or_some s.root) [ inl is ↦ found_empty is | inr far ↦ found_held far.0 far.1 ]

  module _ (inner outer : Places) (sub : Subset inner outer) where
    pub answers : (x : Tallied K) → x ≡ run (numbered inner outer) → Answers join e inner outer s (found x)
    answers x is cs st =
        let rs : List (Reading K) = roll join s.places cs in
        let value : found x ≡ map_walk join e (asked inner outer) (tree_of rs) =
        ap found is ∙ found_walk rs st (numbered inner outer) ∙ same_tests join e (numbered inner outer) (asked inner outer) (numbered_agree inner outer) rs st.valid in
        let w = counts_each_once join e laws inner outer sub rs st.valid in
        record {
          value = value;
          counts_each_once = (w.0, w.1, ap (λ (a : Answer K). a.tally) value ∙ w.2);
          effort = subst (λ (n : ℕ). n ≤ map_height (tree_of rs) * crossings inner outer) (sym (ap (λ (a : Answer K). a.expanded) value)) (effort_is_bounded join e inner outer rs st.valid);
          same_readings = λ M ds alike.
              let same = same_readings (roll join M ds) rs (ranked_roll join M ds) st.ranked alike in
              (value ∙ sym (same.2 join e (asked inner outer)), same.3);
        }
