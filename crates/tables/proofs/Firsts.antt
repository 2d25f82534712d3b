-- The first reading of a map.
use Rattle.std.proofs.Common.{◌≡◌, ℕ, ◌^◌, ◌<◌, min, List, [], ◌∷◌, length, sym, refl, ap, ◌∙◌, arith, length-set}
use Rattle.std.specs.Prelude.{None}
use mathlib.Core.Option.{none, some}
use Rattle.records.specs.declared.record.Record.{Record}
use Rattle.place.specs.Boxes.{whole}
use Rattle.quadtreap.specs.Tree.{Reading, reading, tree_of, map_nodes}
use Rattle.quadtreap.specs.Rank.{put}
use Rattle.records.specs.Writes.{first_planted}
use Rattle.records.specs.PlacedPairs.{placed_leaf}
use Rattle.records.specs.Promises.{PlantedFirst}
use Rattle.records.specs.Free.{next as next_free, left_after, TakesOne}
use Rattle.tables.specs.Calls.{reads, is_some}
use Rattle.tables.specs.Stands.{State, Stands, map_tree, in_tree, started}
use Rattle.records.proofs.PromiseLaws.{is_planted_first}
use Rattle.records.proofs.FreeLaws.{takes}
use Rattle.tables.proofs.Climbs.{bears_same}
use Rattle.tables.proofs.Finds.{none_of}
use Rattle.tables.proofs.PlaceLaws.{free_on, free_past, place_once}

empty_list : {K : Type 0} (rs : List (Reading K)) → tree_of rs ≡ none → rs ≡ []
empty_list [] h = refl
empty_list (r ∷ rs) h = absurd (mathlib.Core.Bool.true≢false (ap is_some h))

module _ {K : Type 0} (join : K → K → K) (e : K) (k priority : ℕ) (v : K) (s : State K) (rs : List (Reading K)) (st : Stands join e s rs) (empty : s.root ≡ None) (small : k < 2 ^ 32) (room : 0 < s.places) where
  abbrev p : Reading K
  p = reads k priority v

  no_nest : st.placed ≡ none
  no_nest = none_of k st.placed (sym st.top ∙ empty)

  pub no_readings : rs ≡ []
  no_readings = empty_list rs (sym st.tree ∙ ap map_tree no_nest)

  no_nodes : map_nodes (tree_of rs) ≡ 0
  no_nodes = ap (λ l. map_nodes (tree_of l)) no_readings

  no_place : (j : ℕ) → in_tree j st.placed ≡ 0
  no_place j = ap (in_tree j) no_nest

  abbrev i : ℕ
  i = next_free s.free

  taken : TakesOne s.places s.records s.free st.spare i (left_after s.records s.free)
  taken = takes s.places s.records s.free st.spare st.free (let a = no_nodes in let b = st.used in omega arith)

  inside : (i < length s.records) × (i < length s.tallies)
  inside = let q = st.size in let z = taken.below in (omega arith, omega arith)

  abbrev recs1 : List Record
  recs1 = first_planted s.records i (record { priority = priority; code = k })

  planted : PlantedFirst s.records recs1 i p
  planted = is_planted_first K s.records i (record { priority = priority; code = k }) p refl inside.0 (let q = st.size in let b = taken.below in omega arith)

  pub stands_first : Stands join e (started s k priority v) (put p [])
  stands_first = record {
    size = st.size ∙ ap (λ m. min (min m (length s.tallies)) 65533) (sym planted.same.long) ∙ ap (λ m. min (min (length recs1) m) 65533) (sym (length-set s.tallies i v));
    valid = (small, tt, tt);
    ranked = (tt, tt);
    count = refl;
    placed = some (placed_leaf i whole (reading p));
    tree = refl;
    lies = record { kept = planted.kept; right = tt; totals = bears_same join e s.tallies i v inside.1 };
    top = refl;
    spare = taken.left;
    free = free_on _ s.places s.records recs1 planted.same _ taken.left (λ j. let a = place_once join e s rs st j in let b = taken.places j in omega arith) taken.free;
    each = λ j l. let a = st.each j l in let b = taken.places j in let c = no_place j in omega arith;
    past = λ j l. let a = free_past _ _ _ _ st.free j l in let b = free_past _ _ _ _ taken.free j l in let c = taken.places j in omega arith;
    used = let a = no_nodes in let b = st.used in let c = taken.count in omega arith;
  }

  -- the place that it takes is one of the first
  pub first_below : i < s.places
  first_below = taken.below
