-- A reading that comes to a map that has one: what the map holds then.
use Rattle.std.proofs.Common.{◌≡◌, ℕ, suc, ◌+◌, ◌*◌, ◌/◌, ◌^◌, ◌<◌, ◌≤◌, min, true, false, cond, List, [], ◌∷◌, length, get_or, sym, refl, ap, ◌∙◌, subst, arith}
use Rattle.std.specs.Prelude.{Some}
use mathlib.Core.Option.{Option, none, some}
use Rattle.records.specs.declared.record.Record.{Record}
use Rattle.records.specs.declared.places.FourPlaces.{FourPlaces}
use Rattle.quadtreap.specs.Tree.{Reading, tree_of, nodes, map_nodes}
use Rattle.quadtreap.specs.Rank.{before, put}
use Rattle.quadtreap.specs.Enter.{map_enter}
use Rattle.quadtreap.specs.Find.{lookup, of_code, content_at, map_find}
use Rattle.records.specs.PlacedNodes.{blank, leaf_at, unplaced, one, occurs, LiesIn, NodeFrame, plug}
use Rattle.records.specs.Writes.{planted}
use Rattle.records.specs.PlacedPairs.{PlacedPairs, placed_leaf, nodes_of, tree_in, PairFrame, on_left_at, on_right_at, on_outer_at, put_in_all, node_frames, settled_all, planted_at, Reaches, Free, four}
use Rattle.records.specs.Promises.{Descends}
use Rattle.tables.specs.Calls.{reads}
use Rattle.tables.specs.Totals.{Totals, mended, Tables, raised}
use Rattle.records.specs.Free.{four_taken, four_left, TakesFour}
use Rattle.tables.specs.Stands.{State, state, Stands, LiesTallied, in_tree}
use Rattle.records.specs.Elsewhere.{Elsewhere}
use Rattle.quadtreap.proofs.NodeLaws.{node_count}
use Rattle.quadtreap.proofs.MapLaws.{enter_gives_tree}
use Rattle.quadtreap.proofs.SameLaws.{stays_ranked}
use Rattle.quadtreap.proofs.FindLaws.{finds}
use Rattle.records.proofs.FrameLaws.{occurs_around, occurs_plug, LiesAmong}
use Rattle.records.proofs.PairLaws.{lies_among, nodes_frames}
use Rattle.records.proofs.PlantLaws.{place_plant}
use Rattle.records.proofs.CountLaws.{places_plant}
use Rattle.records.proofs.EnterLaws.{enters, enters_ranks}
use Rattle.records.proofs.ElsewhereLaws.{onward as records-onward}
use Rattle.records.proofs.FreeLaws.{takes_four}
use Rattle.tables.proofs.Defaults.{any_default}
use Rattle.tables.proofs.Climbs.{beside, way_short}
use Rattle.tables.proofs.Finds.{held, held_is, held_tree, held_lain, held_top, held_few, content_at_lem}
use Rattle.tables.proofs.PlaceLaws.{free_on, free_past, place_once}
use Rattle.tables.proofs.Mends.{Beyond, onward}
use Rattle.tables.proofs.Raises.{Raised, raises}
use Rattle.tables.proofs.Lows.{valid_more, parts_low}
use Rattle.tables.proofs.Sows.{Sows, sows, sown}

length_put : {K : Type 0} (p : Reading K) (rs : List (Reading K)) → length (put p rs) ≡ suc (length rs)
length_put p [] = refl
length_put p (q ∷ qs) = elim (before p q) as (λ b. length (cond b (p ∷ q ∷ qs) (q ∷ put p qs)) ≡ suc (suc (length qs))) [ true ↦ refl | false ↦ ap suc (length_put p qs) ]

-- so many nodes
abbrev Counted : {K : Type 0} → ℕ → Option (Rattle.quadtreap.specs.Tree.Tree K) → Type 0
Counted n none = n ≡ 0
Counted n (some t) = nodes t + 3 ≡ 4 * n

counted : {K : Type 0} (rs : List (Reading K)) → Counted (length rs) (tree_of rs)
counted [] = refl
counted (r ∷ rs) = omega (arith, node_count (r ∷ rs))

path_short : {K : Type 0} (gs : List (PairFrame K)) → length gs ≤ length (node_frames gs)
path_short [] = omega arith
path_short (on_left_at s w r C i E R O ∷ gs) = let h = path_short gs in omega arith
path_short (on_right_at s w r C i E L O ∷ gs) = let h = path_short gs in omega arith
path_short (on_outer_at s w r C i E L R ∷ gs) = let h = path_short gs in omega arith

module _ {K : Type 0} (join : K → K → K) (e : K) (k priority : ℕ) (v : K) (s : State K) (rs : List (Reading K)) (st : Stands join e s rs) (root : ℕ) (far : s.root ≡ Some root)
    (i : ℕ) (down : Descends K s.records root k s.places i) (gone : lookup k rs ≡ none) (small : k < 2 ^ 32) (room : length rs < (s.places + 3) / 4) where
  abbrev p : Reading K
  p = reads k priority v

  abbrev N : ℕ
  N = s.places

  abbrev t : PlacedPairs K
  t = held k join e s rs st root far

  lain : LiesTallied join e s.records s.tallies t
  lain = held_lain k join e s rs st root far

  abbrev way : Reaches t k i
  way = down t (held_lain k join e s rs st root far).kept (held_top k join e s rs st root far) (held_few k join e s rs st root far)

  abbrev f : List (NodeFrame K)
  f = node_frames way.path

  whole_nodes_of : nodes_of t ≡ plug f (leaf_at i way.box way.content)
  whole_nodes_of = ap nodes_of (sym way.whole) ∙ nodes_frames way.path (placed_leaf i way.box way.content)

  focus : LiesAmong s.records f (leaf_at i way.box way.content)
  focus = lies_among s.records way.path (placed_leaf i way.box way.content) (subst (λ u. LiesIn s.records (nodes_of u)) (sym way.whole) lain.kept)

  other : of_code k way.content ≡ none
  other =
      ap (of_code k) (sym (content_at_lem k way.path (placed_leaf i way.box way.content) way.leads) ∙ ap (λ u. content_at (tree_in u) k) way.whole)
      ∙ ap (λ u. map_find u k) (sym (held_tree k join e s rs st root far)) ∙ finds k rs st.valid ∙ gone

  -- the free places
  few : nodes (tree_in t) + 3 ≡ 4 * length rs
  few = subst (Counted (length rs)) (held_tree k join e s rs st root far) (counted rs)

  same_nodes : map_nodes (tree_of rs) ≡ nodes (tree_in t)
  same_nodes = ap map_nodes (held_tree k join e s rs st root far)

  left_over_lem : 4 + s.free.fresh ≤ N + length st.spare
  left_over_lem = let a = few in let b = same_nodes in let c = st.used in omega arith

  abbrev pub n : FourPlaces
  n = four_taken s.records s.free

  taken : TakesFour N s.records s.free st.spare n (four_left s.records s.free)
  taken = takes_four N s.records s.free st.spare st.free left_over_lem

  off : (j : ℕ) → N ≤ j → four j n ≡ 0
  off j h = let a = free_past _ _ _ _ st.free j h in let b = free_past _ _ _ _ taken.free j h in let c = taken.places j in omega arith

  in_whole : (j : ℕ) → in_tree j st.placed ≡ one j i + occurs_around j f
  in_whole j = ap (in_tree j) (held_is k join e s rs st root far) ∙ ap (occurs j) whole_nodes_of ∙ occurs_plug f (leaf_at i way.box way.content) j

  once : (j : ℕ) → four j n + (one j i + occurs_around j f) ≤ 1
  once j = let w = in_whole j in let a = place_once join e s rs st j in let b = taken.places j in omega arith

  inside : (N ≤ length s.records) × (N ≤ length s.tallies)
  inside = let q = st.size in (omega arith, omega arith)

  free : Free s.records (placed_leaf i way.box way.content) n
  free = let q = inside.0 in record {
    shrink = let z = taken.shrink in omega arith;
    split = let z = taken.split in omega arith;
    reading = let z = taken.reading in omega arith;
    outer = let z = taken.outer in omega arith;
    apart = λ j. let z = once j in omega arith;
    low = λ j h. let z = st.size in off j (omega arith);
  }

  low : (Rattle.place.specs.Boxes.smallest (Rattle.quadtreap.specs.Tree.extent way.content) (Rattle.quadtreap.specs.Tree.point_of p)).depth < 32
  low = parts_low rs st.valid way.path i way.box way.content (held_tree k join e s rs st root far ∙ ap (λ u. some (tree_in u)) (sym way.whole)) p small other

  old_totals : Totals join e s.tallies (leaf_at i way.box way.content) × Rattle.tables.proofs.Climbs.Beside join e s.tallies f
  old_totals = beside join e s.tallies f (leaf_at i way.box way.content) (subst (Totals join e s.tallies) whole_nodes_of lain.totals)

  abbrev recs1 : List Record
  recs1 = planted s.records i (record { priority = priority; code = k }) n

  abbrev ts1 : List K
  ts1 = mended join e recs1 (Some n.shrink) (sown join e n v s.tallies)

  abbrev new : PlacedPairs K
  new = planted_at n i way.box way.content p

  sow : Sows join e s.records recs1 s.tallies ts1 f i n new
  sow =
      let q = inside.1 in
      sows join e s.records s.tallies f i way.box way.content p n focus free once low (let z = taken.shrink in omega arith) (let z = taken.split in omega arith) (let z = taken.reading in omega arith) (let z = taken.outer in omega arith) old_totals.0 old_totals.1

  abbrev pub end : Tables K
  end = raised join e N recs1 ts1 n.shrink

  short : length way.path ≤ N
  short =
      let w = way_short join e f (leaf_at i way.box way.content) in
      let a : nodes (unplaced (plug f (leaf_at i way.box way.content))) ≡ nodes (tree_in t) = ap (λ q. nodes (unplaced q)) (sym whole_nodes_of) in
      let b = held_few k join e s rs st root far in
      let c = path_short way.path in
      omega arith

  rise : Raised join e recs1 ts1 way.path new end
  rise = subst (λ m. Raised join e recs1 ts1 way.path new (raised join e N recs1 ts1 m)) (place_plant n i way.box way.content p)
      (raises join e N way.path new recs1 ts1 sow.focus short sow.totals sow.beside)

  abbrev entered : PlacedPairs K
  entered = settled_all way.path new

  sowed_places : (j : ℕ) → occurs j (nodes_of (put_in_all way.path new)) ≡ four j n + (one j i + occurs_around j f)
  sowed_places j =
      let a : occurs j (nodes_of (put_in_all way.path new)) ≡ occurs j (nodes_of new) + occurs_around j f = ap (occurs j) (nodes_frames way.path new) ∙ occurs_plug f (nodes_of new) j in
      let b = places_plant n i way.box way.content p j in
      omega arith

  all_places : (j : ℕ) → occurs j (nodes_of entered) ≡ four j n + in_tree j st.placed
  all_places j = let a = rise.places j in let b = sowed_places j in let c = in_whole j in omega arith

  tree : some (tree_in entered) ≡ tree_of (put p rs)
  tree =
      ap some (enters t p i n way lain.right) ∙ ap (λ o. map_enter o p) (sym (held_tree k join e s rs st root far))
      ∙ enter_gives_tree p rs (valid_more k priority v rs small st.valid gone) st.ranked

  records_same : Elsewhere (λ j. four j n + (one j i + occurs_around j f)) s.records end.records
  records_same = records-onward _ _ s.records recs1 end.records (λ j z. let b = sowed_places j in omega arith) sow.elsewhere rise.elsewhere

  tallies_same : Beyond join e (λ j. four j n + (one j i + occurs_around j f)) s.tallies end.tallies
  tallies_same = onward join e _ _ _ s.tallies ts1 end.tallies (λ j z. omega arith) (λ j z. let b = sowed_places j in omega arith) sow.beyond rise.beyond

  abbrev pub after : State K
  after = state end.records end.tallies N (Some end.top) (s.live + 1) (four_left s.records s.free)

  pub stands_entered : Stands join e after (put p rs)
  stands_entered =
      let ranks = stays_ranked.0 p rs (valid_more k priority v rs small st.valid gone) st.ranked in
      let len = length_put p rs in
      record {
        size = st.size ∙ ap (λ m. min (min m (length s.tallies)) 65533) (sym records_same.long) ∙ ap (λ m. min (min (length end.records) m) 65533) (sym tallies_same.long);
        valid = ranks.0;
        ranked = ranks.1;
        count = let c = st.count in omega arith;
        placed = some entered;
        tree = tree;
        lies = record { kept = rise.kept; right = enters_ranks t p i n way lain.right; totals = rise.totals };
        top = ap Some rise.top;
        spare = taken.left;
        free = free_on _ N s.records end.records records_same _ taken.left (λ j. let w = in_whole j in let a = place_once join e s rs st j in let b = taken.places j in omega arith) taken.free;
        each = λ j l. let a = st.each j l in let b = taken.places j in let c = all_places j in omega arith;
        past = λ j l. let a = st.past j l in let b = off j l in let c = all_places j in omega arith;
        used =
            let a = few in
            let b : nodes (tree_in entered) + 3 ≡ 4 * length (put p rs) = subst (Counted (length (put p rs))) (sym tree) (counted (put p rs)) in
            let c : map_nodes (tree_of (put p rs)) ≡ nodes (tree_in entered) = ap map_nodes (sym tree) in
            let d = st.used in
            let m = same_nodes in
            let q = taken.count in
            omega arith;
      }

  -- nothing past the first places changes
  outside : (j : ℕ) → N ≤ j → four j n + (one j i + occurs_around j f) ≡ 0
  outside j l = let a = off j l in let b = st.past j l in let c = in_whole j in omega arith

  pub records_past : (j : ℕ) (d : Record) → N ≤ j → get_or end.records j d ≡ get_or s.records j d
  records_past j d l = any_default end.records s.records j blank d records_same.long (records_same.reads j (outside j l))

  pub tallies_past : (j : ℕ) (d : K) → N ≤ j → get_or end.tallies j d ≡ get_or s.tallies j d
  tallies_past j d l = tallies_same.reads j d (outside j l)
