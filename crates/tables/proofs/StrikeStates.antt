-- A reading that is struck: what the map holds then.
use Rattle.std.proofs.Common.{◌≡◌, ℕ, ◌+◌, ◌-◌, ◌*◌, ◌<◌, ◌≤◌, min, true, false, cond, not, eqb, List, [], ◌∷◌, length, get_or, sym, refl, ap, ◌∙◌, subst, inl, inr, arith}
use Rattle.std.specs.Prelude.{Some}
use mathlib.Core.Option.{none, some}
use Rattle.std.proofs.lemmas.Bool.{cases_lt, cases_Bool, eq-eqb, false≢true}
use Rattle.std.proofs.lemmas.List.{get_or_default, get_or_past}
use Rattle.records.specs.declared.record.Record.{Record}
use Rattle.records.specs.declared.places.FourPlaces.{FourPlaces}
use Rattle.place.specs.Boxes.{Box}
use Rattle.quadtreap.specs.Tree.{Reading, reading, tree_of, nodes, map_nodes}
use Rattle.quadtreap.specs.Rank.{other, without}
use Rattle.quadtreap.specs.Strike.{is_only, strike_tree, map_strike}
use Rattle.quadtreap.specs.Find.{lookup}
use Rattle.records.specs.PlacedNodes.{PlacedNodes, unplaced, place_of, one, occurs, blank, LiesIn, plug, NodeFrame}
use Rattle.records.specs.Writes.{at, Sink, struck_in}
use Rattle.records.specs.PlacedPairs.{PlacedPairs, placed_leaf, nodes_of, tree_in, top_place, node_frames, four}
use Rattle.records.specs.StrikeMoves.{moves_in}
use Rattle.records.specs.Promises.{Frees}
use Rattle.tables.specs.Calls.{is_some, present}
use Rattle.tables.specs.Totals.{Totals, climbed}
use Rattle.records.specs.Free.{linked, given_back, four_linked, four_given, free_at, FreeIn, GivesOne, GivesFour}
use Rattle.tables.specs.Stands.{State, state, Stands, LiesTallied, in_tree}
use Rattle.tables.specs.Removal.{struck_state, emptied_state}
use Rattle.records.specs.Elsewhere.{Elsewhere}
use Rattle.quadtreap.proofs.NodeLaws.{node_count}
use Rattle.quadtreap.proofs.PromoteLaws.{keep_no, keep_yes}
use Rattle.quadtreap.proofs.KeepLaws.{length_kept}
use Rattle.quadtreap.proofs.StrikeLaws.{some_nodes, strike_steps}
use Rattle.quadtreap.proofs.MapLaws.{strike_gives_tree}
use Rattle.quadtreap.proofs.SameLaws.{stays_ranked}
use Rattle.quadtreap.proofs.PairLaws.{stays_paired}
use Rattle.records.proofs.FrameLaws.{one_same, occurs_around, occurs_plug, LiesAmong}
use Rattle.records.proofs.PairLaws.{lies_among, lies_whole, nodes_frames}
use Rattle.records.proofs.MoveLaws.{moves_in_is}
use Rattle.records.proofs.RankLaws.{final}
use Rattle.records.proofs.StrikeLaws.{StrikeEnd, strikes, off_struck}
use Rattle.records.proofs.FreeLaws.{gives, gives_four}
use Rattle.tables.proofs.Climbs.{Climbs, climbs, way_short}
use Rattle.tables.proofs.Finds.{held, held_is, held_tree, held_lain, held_few}
use Rattle.tables.proofs.PlaceLaws.{free_on, kept_on, place_once}
use Rattle.tables.proofs.StrikeEntries.{Entries, under, entries_keep}
use Rattle.tables.proofs.RootLaws.{parent_is, tops}

-- the readings with other codes
module _ {K : Type 0} (k : ℕ) where
  pub without_absent : (rs : List (Reading K)) → lookup k rs ≡ none → without k rs ≡ rs
  without_absent [] h = refl
  without_absent (r ∷ rs) h =
      elim (cases_Bool (eqb k r.code)) [
        | inl is ↦ absurd (false≢true (sym (ap is_some (sym (ap (λ b. cond b (some r) (lookup k rs)) is) ∙ h))))
        | inr is ↦ keep_yes (other k) r rs (ap not is) ∙ ap (λ (l : List (Reading K)). r ∷ l) (without_absent rs (sym (ap (λ b. cond b (some r) (lookup k rs)) is) ∙ h))
      ]

  pub without_shorter : (rs : List (Reading K)) → present k rs ≡ true → length (without k rs) < length rs
  without_shorter [] h = absurd (false≢true h)
  without_shorter (r ∷ rs) h =
      elim (cases_Bool (eqb k r.code)) [
        | inl is ↦ let a = ap length (keep_no (other k) r rs (ap not is)) in let b = length_kept (other k) rs in omega arith
        | inr is ↦
            let a = ap length (keep_yes (other k) r rs (ap not is)) in
            let b = without_shorter rs (sym (ap (λ b. is_some (cond b (some r) (lookup k rs))) is) ∙ h) in
            omega arith
      ]

-- the same at a place, whatever is read past the end
pub reads_any : (recs recs' : List Record) (i : ℕ) (d : Record) → length recs' ≡ length recs → at recs' i ≡ at recs i → get_or recs' i d ≡ get_or recs i d
reads_any recs recs' i d long same =
    elim (cases_lt i (length recs)) [
      | inl l ↦ get_or_default recs' i d blank (omega arith) ∙ same ∙ get_or_default recs i blank d l
      | inr l ↦ get_or_past recs' i d (omega arith) ∙ sym (get_or_past recs i d l)
    ]

module _ {K : Type 0} (join : K → K → K) (e : K) (k : ℕ) (s : State K) (rs : List (Reading K)) (st : Stands join e s rs) (root : ℕ) (far : s.root ≡ Some root) where
  abbrev pub t : PlacedPairs K
  t = held k join e s rs st root far

  abbrev N : ℕ
  N = s.places

  lain : LiesTallied join e s.records s.tallies t
  lain = held_lain k join e s rs st root far

  few : nodes (tree_in t) ≤ N
  few = held_few k join e s rs st root far

  tree_before : tree_of rs ≡ some (tree_in t)
  tree_before = held_tree k join e s rs st root far

  nodes_before : 4 * length rs - 3 ≡ nodes (tree_in t)
  nodes_before = sym (node_count rs) ∙ ap map_nodes tree_before

  in_whole : (j : ℕ) → in_tree j st.placed ≡ occurs j (nodes_of t)
  in_whole j = ap (in_tree j) (held_is k join e s rs st root far)

  -- a node's place is not free, and is below N
  apart : (j : ℕ) → occurs j (nodes_of t) + free_at s.free st.spare j ≤ 1
  apart j = let w = in_whole j in let a = place_once join e s rs st j in omega arith

  below : (j : ℕ) → 1 ≤ occurs j (nodes_of t) → j < N
  below j h = let w = in_whole j in elim (cases_lt j N) [ inl l ↦ l | inr l ↦ let a = st.past j l in absurd (omega arith) ]

  -- the last reading
  module _ (i : ℕ) (C : Box) (r : Reading K) (is : placed_leaf i C (reading r) ≡ t) (code : k ≡ r.code) where
    lone : (j : ℕ) → one j i ≡ occurs j (nodes_of t)
    lone j = ap (λ u. occurs j (nodes_of u)) is

    gone : none ≡ tree_of (without k rs)
    gone =
        sym (ap (λ b. cond b none (some (strike_tree (tree_in (placed_leaf i C (reading r))) k))) (eq-eqb k r.code code)) ∙ ap (λ u. map_strike (some (tree_in u)) k) is ∙ ap (λ o. map_strike o k) (sym tree_before)
        ∙ strike_gives_tree k rs st.valid st.ranked

    one_before : nodes (tree_in t) ≡ 1
    one_before = ap (λ u. nodes (tree_in u)) (sym is)

    nodes_last : 4 * length (without k rs) - 3 ≡ 0
    nodes_last = sym (node_count (without k rs)) ∙ ap map_nodes (sym gone)

    pub last_live : s.live - 1 ≡ length (without k rs)
    last_live = let a = st.count in let b = nodes_before in let c = one_before in let d = nodes_last in omega arith

    -- the place of the leaf is given back
    back : GivesOne N s.records (linked s.records s.free i) s.free st.spare i (given_back s.free i)
    back =
        let a = lone i in
        let b = one_same i in
        let c = apart i in
        gives N s.records s.free st.spare i st.free (below i (omega arith)) (omega arith)

    pub stands_emptied_state : Stands join e (emptied_state s i) (without k rs)
    stands_emptied_state =
        let ranks = stays_ranked.1 k rs st.valid st.ranked in
        record {
          size = st.size ∙ ap (λ m. min (min m (length s.tallies)) 65533) (sym back.same.long);
          valid = ranks.0;
          ranked = ranks.1;
          count = last_live;
          placed = none;
          tree = gone;
          lies = tt;
          top = refl;
          spare = i ∷ st.spare;
          free = back.free;
          each = λ j h. let a = st.each j h in let b = in_whole j in let c = lone j in let d = back.places j in omega arith;
          past = λ j h. refl;
          used =
              let a : map_nodes (tree_of (without k rs)) ≡ 0 = ap map_nodes (sym gone) in
              let b : map_nodes (tree_of rs) ≡ nodes (tree_in t) = ap map_nodes tree_before in
              let c = one_before in
              let d = st.used in
              omega arith;
        }

    pub emptied_state_past : (j : ℕ) (d : Record) → N ≤ j → get_or (linked s.records s.free i) j d ≡ get_or s.records j d
    emptied_state_past j d h =
        reads_any s.records _ j d back.same.long (back.same.reads j (let a = lone j in let b = in_whole j in let c = st.past j h in omega arith))

  -- one of several
  module _ (live : present k rs ≡ true) (more : is_only (tree_in t) k ≡ false) where
    abbrev pub v : Sink
    v = struck_in N s.records (top_place t) k

    abbrev u : PlacedPairs K
    u = moves_in N t k

    abbrev recs1 : List Record
    recs1 = v.table

    focus_before : LiesAmong s.records [] (nodes_of t)
    focus_before = lies_among s.records [] t lain.kept

    pub land : StrikeEnd (Entries join e s.tallies k) s.records [] t u v
    land = strikes (Entries join e s.tallies k) k (entries_keep join e s.tallies k) N s.records [] t lain.right focus_before few (tt, under join e s.tallies k t lain.totals)

    off_tree : Elsewhere (λ j. occurs j (nodes_of t)) s.records recs1
    off_tree = off_struck N k s.records t lain.right focus_before few

    tree : some (tree_in u) ≡ tree_of (without k rs)
    tree =
        ap some (moves_in_is N t k lain.right ∙ strike_steps N (nodes (tree_in t)) (tree_in t) k few (omega arith))
        ∙ sym (ap (λ b. cond b none (some (strike_tree (tree_in t) k))) more) ∙ ap (λ o. map_strike o k) (sym tree_before) ∙ strike_gives_tree k rs st.valid st.ranked

    nodes_after : 4 * length (without k rs) - 3 ≡ nodes (tree_in u)
    nodes_after = sym (node_count (without k rs)) ∙ ap map_nodes (sym tree)

    -- a live reading is never missed
    pub frees : Frees t u land.leaf_place v.ends
    frees =
        elim land.answer [
          | inl a ↦ a
          | inr a ↦
              let b = a.nodes in
              let c = nodes_before in
              let d = nodes_after in
              let f = without_shorter k rs live in
              let g = some_nodes (tree_in u) in
              absurd (omega arith)
        ]

    abbrev pub i : ℕ
    i = land.leaf_place

    abbrev pub n : FourPlaces
    n = frees.freed

    pub ends_is : v.ends ≡ Rattle.records.specs.declared.places.Sinking.TheVariants.Done i n
    ends_is = frees.answer

    abbrev way : List (NodeFrame K)
    way = node_frames land.path

    abbrev leaf' : PlacedNodes K
    leaf' = nodes_of (placed_leaf i land.box land.content)

    nodes_of_after : nodes_of u ≡ plug way leaf'
    nodes_of_after = ap nodes_of (sym land.found) ∙ nodes_frames land.path (placed_leaf i land.box land.content)

    short : length way ≤ N
    short =
        let a = way_short join e way leaf' in
        let b : nodes (unplaced (plug way leaf')) ≡ nodes (tree_in u) = ap (λ p. nodes (unplaced p)) (sym nodes_of_after) in
        let c = frees.nodes in
        let d = few in
        omega arith

    abbrev ts2 : List K
    ts2 = climbed join e recs1 N (at recs1 i).parent s.tallies

    up : Climbs join e recs1 s.tallies ts2 way leaf'
    up = subst (λ p. Climbs join e recs1 s.tallies (climbed join e recs1 N p s.tallies) way leaf') (sym (parent_is recs1 way leaf' land.focus))
        (climbs join e recs1 N way leaf' s.tallies land.focus short land.kept.1 land.kept.0)

    abbrev recs2 : List Record
    recs2 = four_linked recs1 s.free n

    free1 : FreeIn N recs1 s.free st.spare
    free1 = free_on _ N s.records recs1 off_tree s.free st.spare apart st.free

    struck_below : (j : ℕ) → 1 ≤ four j n → j < N
    struck_below j h = let a = frees.places j in below j (omega arith)

    -- the four places are given back
    four_back : GivesFour N recs1 recs2 s.free st.spare n (four_given s.free n)
    four_back =
        let a = one_same n.shrink in
        let b = one_same n.split in
        let c = one_same n.reading in
        let d = one_same n.outer in
        gives_four N recs1 s.free st.spare n free1
        (struck_below n.shrink (omega arith)) (struck_below n.split (omega arith)) (struck_below n.reading (omega arith)) (struck_below n.outer (omega arith))
        (λ j. let x = frees.places j in let y = apart j in omega arith)

    off_four : Elsewhere (λ j. four j n) recs1 recs2
    off_four = four_back.same

    kept1 : LiesIn recs1 (nodes_of u)
    kept1 = subst (λ w. LiesIn recs1 (nodes_of w)) land.found (lies_whole recs1 land.path (placed_leaf i land.box land.content) land.focus)

    kept2 : LiesIn recs2 (nodes_of u)
    kept2 = kept_on _ recs1 recs2 off_four (nodes_of u) (λ j z. let a = frees.places j in let b = lain.kept.once j in omega arith) kept1

    pub struck_live : s.live - 1 ≡ length (without k rs)
    struck_live =
        let a = st.count in
        let b = nodes_before in
        let c = nodes_after in
        let d = frees.nodes in
        let f = some_nodes (tree_in u) in
        omega arith

    abbrev pub after : State K
    after = struck_state join e (state recs1 s.tallies N s.root s.live s.free) i n

    long_records : length recs2 ≡ length s.records
    long_records = off_four.long ∙ off_tree.long

    pub stands_struck : Stands join e after (without k rs)
    stands_struck =
        let ranks = stays_ranked.1 k rs st.valid st.ranked in
        record {
          size = st.size ∙ ap (λ m. min (min m (length s.tallies)) 65533) (sym long_records) ∙ ap (λ m. min (min (length recs2) m) 65533) (sym up.long);
          valid = ranks.0;
          ranked = ranks.1;
          count = struck_live;
          placed = some u;
          tree = tree;
          lies = record { kept = kept2; right = final N t k lain.right (stays_paired.0 rs (tree_in t) tree_before).0 few; totals = subst (Totals join e ts2) (sym nodes_of_after) up.totals };
          top = ap Some (tops recs1 N way leaf' land.focus short ∙ ap place_of (sym nodes_of_after));
          spare = n.shrink ∷ n.split ∷ n.reading ∷ n.outer ∷ st.spare;
          free = four_back.free;
          each = λ j h. let a = st.each j h in let b = in_whole j in let c = frees.places j in let d = four_back.places j in omega arith;
          past = λ j h. let a = st.past j h in let b = in_whole j in let c = frees.places j in omega arith;
          used =
              let a : map_nodes (tree_of (without k rs)) ≡ nodes (tree_in u) = ap map_nodes (sym tree) in
              let b : map_nodes (tree_of rs) ≡ nodes (tree_in t) = ap map_nodes tree_before in
              let c = frees.nodes in
              let d = st.used in
              omega arith;
        }

    pub records_past : (j : ℕ) (d : Record) → N ≤ j → get_or recs2 j d ≡ get_or s.records j d
    records_past j d h =
        let a = st.past j h in
        let b = in_whole j in
        let c = frees.places j in
        reads_any s.records recs2 j d long_records (off_four.reads j (omega arith) ∙ off_tree.reads j (omega arith))

    pub tallies_past : (j : ℕ) (d : K) → N ≤ j → get_or ts2 j d ≡ get_or s.tallies j d
    tallies_past j d h =
        let a = st.past j h in
        let b = in_whole j in
        let c = frees.places j in
        let o : occurs j (nodes_of u) ≡ occurs j leaf' + occurs_around j way = ap (occurs j) nodes_of_after ∙ occurs_plug way leaf' j in
        up.others j d (omega arith)
