-- A tally joined to a live reading: what the map holds then.
use Rattle.std.proofs.Common.{◌≡◌, ℕ, ◌+◌, ◌≤◌, min, true, false, cond, List, length, get_or, set, Ok, Err, sym, refl, ap, ◌∙◌, subst, arith, length-set, get_or-set_other}
use Rattle.std.specs.Prelude.{Some, Option as Maybe}
use mathlib.Core.Option.{none, some}
use Rattle.std.proofs.lemmas.Bool.{eq-eqb}
use Rattle.records.specs.declared.record.Record.{Record}
use Rattle.records.specs.declared.places.FreePlaces.{FreePlaces}
use Rattle.tables.specs.declared.fault.MapFault.TheVariants.{Absent}
use Rattle.place.specs.Boxes.{Box}
use Rattle.quadtreap.specs.Tree.{Reading, Content, reading, box, tree_of, nodes}
use Rattle.quadtreap.specs.Find.{of_code, lookup}
use Rattle.quadtreap.specs.Carry.{carry, carry_all, carry_tree, map_carry}
use Rattle.records.specs.Kinds.{is_reading}
use Rattle.records.specs.Links.{Link}
use Rattle.records.specs.PlacedNodes.{PlacedNodes, leaf_at, unplaced, place_of, one, occurs, LiesIn, record_of, above, plug, NodeFrame}
use Rattle.records.specs.PlacedPairs.{PlacedPairs, placed_leaf, nodes_of, tree_in, RanksStand, PairFrame, put_in_all, node_frames}
use Rattle.tables.specs.Calls.{Call, repeats, is_some, present, more, roll}
use Rattle.tables.specs.Totals.{Has, Totals, climbed}
use Rattle.tables.specs.Finds.{LeafOf, Lacks}
use Rattle.tables.specs.Stands.{State, state, Stands, LiesTallied, root_of, in_tree, Serves, Keeps}
use Rattle.quadtreap.proofs.CarryLaws.{carried}
use Rattle.records.proofs.FrameLaws.{one_same, differ, occurs_around, LiesAmong, occurs_plug}
use Rattle.records.proofs.PairLaws.{lies_among, lies_whole, nodes_frames}
use Rattle.tables.proofs.Climbs.{bears_same, beside, beside_other, Climbs, climbs, way_short}
use Rattle.tables.proofs.Finds.{held, held_is, held_tree, held_lain, held_few, found}
use Rattle.tables.proofs.Carries.{valid_carry, ranked_carry, length_carry, used_carry, heads, heads_few, heads_plug, carry_plug, right_swap, place_of_plug}

module _ {K : Type 0} (join : K → K → K) (e : K) (k : ℕ) (v : K) where
  -- no reading has the code
  pub absent : (s : State K) (cs : List (Call K)) → Stands join e s (roll join s.places cs) → lookup k (roll join s.places cs) ≡ none → Serves join e s s (repeats k v) cs (Err Absent)
  absent s cs st lacks =
      let rs : List (Reading K) = roll join s.places cs in
      let gone : present k rs ≡ false = ap is_some lacks in
      record {
        stands = subst (λ b. Stands join e s (cond b (carry_all (more join k v) rs) rs)) (sym gone) st;
        answer = ap (λ b. cond b (Ok (length rs)) (Err Absent)) (sym gone);
        places = refl;
        records_past = λ i d far. refl;
        tallies_past = λ i d far. refl;
        unchanged = λ h. refl;
      }

  module _ (s : State K) (rs : List (Reading K)) (st : Stands join e s rs) (root : ℕ) (far : s.root ≡ Some root) (i : ℕ) (path : List (PairFrame K)) (C : Box) (r : Reading K)
      (whole : put_in_all path (placed_leaf i C (reading r)) ≡ held k join e s rs st root far) (is : k ≡ r.code) where
    abbrev r' : Reading K
    r' = carry (more join k v) r

    abbrev way : List (NodeFrame K)
    way = node_frames path

    abbrev old : PlacedNodes K
    old = leaf_at i C (reading r)

    abbrev new : PlacedNodes K
    new = leaf_at i C (reading r')

    abbrev after : PlacedPairs K
    after = put_in_all path (placed_leaf i C (reading r'))

    abbrev ts : List K
    ts = s.tallies

    abbrev ts1 : List K
    ts1 = set ts i (join (get_or ts i e) v)

    abbrev ts2 : List K
    ts2 = climbed join e s.records s.places (above way) ts1

    abbrev s' : State K
    s' = state s.records ts2 s.places s.root s.live s.free

    lain : LiesTallied join e s.records ts (put_in_all path (placed_leaf i C (reading r)))
    lain = subst (LiesTallied join e s.records ts) (sym whole) (held_lain k join e s rs st root far)

    focus : LiesAmong s.records way old
    focus = lies_among s.records path (placed_leaf i C (reading r)) lain.kept

    focus' : LiesAmong s.records way new
    focus' = record { laid = focus.laid; around = focus.around; once = focus.once; low = focus.low; sized = focus.sized; framed = focus.framed }

    kept' : LiesIn s.records (nodes_of after)
    kept' = lies_whole s.records path (placed_leaf i C (reading r')) focus'

    right' : RanksStand after
    right' = right_swap path (placed_leaf i C (reading r)) (placed_leaf i C (reading r')) refl tt lain.right

    old_nodes_of : nodes_of (held k join e s rs st root far) ≡ plug way old
    old_nodes_of = ap nodes_of (sym whole) ∙ nodes_frames path (placed_leaf i C (reading r))

    new_nodes_of : nodes_of after ≡ plug way new
    new_nodes_of = nodes_frames path (placed_leaf i C (reading r'))

    totals_old : Totals join e ts old × Rattle.tables.proofs.Climbs.Beside join e ts way
    totals_old = beside join e ts way old (subst (Totals join e ts) (nodes_frames path (placed_leaf i C (reading r))) lain.totals)

    joined : join (get_or ts i e) v ≡ r'.tally
    joined = ap (λ x. join x v) (totals_old.0.reads e) ∙ ap (λ b. cond b (join r.tally v) r.tally) (sym (eq-eqb k r.code is))

    totals_new : Totals join e ts1 new
    totals_new = subst (λ x. Has ts1 i x) joined (bears_same join e ts i (join (get_or ts i e) v) totals_old.0.within)

    off : occurs_around i way ≡ 0
    off = let o = focus.once i in let s1 = one_same i in omega arith

    short : length way ≤ s.places
    short =
        let w = way_short join e way old in
        let n : nodes (unplaced (plug way old)) ≡ nodes (tree_in (held k join e s rs st root far)) = ap (λ p. nodes (unplaced p)) (sym old_nodes_of) in
        let f = held_few k join e s rs st root far in
        omega arith

    climbed_up : Climbs join e s.records ts1 ts2 way new
    climbed_up = climbs join e s.records s.places way new ts1 focus' short totals_new (beside_other join e ts i _ way off totals_old.1)

    same_places : (j : ℕ) → occurs j (nodes_of after) ≡ in_tree j st.placed
    same_places j =
        ap (occurs j) new_nodes_of ∙ occurs_plug way new j ∙ sym (occurs_plug way old j) ∙ ap (occurs j) (sym old_nodes_of) ∙ ap (in_tree j) (sym (held_is k join e s rs st root far))

    few : heads k (unplaced (plug way old)) ≤ 1
    few = subst (λ p. heads k (unplaced p) ≤ 1) old_nodes_of (heads_few k rs _ st.valid (held_tree k join e s rs st root far))

    one_here : one k r.code ≡ 1
    one_here = subst (λ c. one k c ≡ 1) is (one_same k)

    tree' : some (tree_in after) ≡ tree_of (carry_all (more join k v) rs)
    tree' =
        let h = heads_plug k join v way old in
        let z = one_here in
        let f = few in
        ap (λ p. some (unplaced p)) new_nodes_of
        ∙ ap some (carry_plug k join v way old new refl (omega arith))
        ∙ ap (λ p. some (carry_tree (more join k v) (unplaced p))) (sym old_nodes_of)
        ∙ ap (map_carry (more join k v)) (sym (held_tree k join e s rs st root far))
        ∙ sym (carried (more join k v) rs)

    long : length ts2 ≡ length ts
    long = climbed_up.long ∙ length-set ts i _

    pub stands_after : Stands join e s' (carry_all (more join k v) rs)
    stands_after = record {
      size = st.size ∙ ap (λ n. min (min (length s.records) n) 65533) (sym long);
      valid = valid_carry (more join k v) rs st.valid;
      ranked = ranked_carry (more join k v) rs st.ranked;
      count = st.count ∙ sym (length_carry (more join k v) rs);
      placed = some after;
      tree = tree';
      lies = record { kept = kept'; right = right'; totals = subst (Totals join e ts2) (sym new_nodes_of) climbed_up.totals };
      top = st.top ∙ ap root_of (held_is k join e s rs st root far) ∙ ap Some (ap place_of old_nodes_of ∙ place_of_plug way old new refl ∙ sym (ap place_of new_nodes_of));
      spare = st.spare;
      free = st.free;
      each = λ j h. let p = same_places j in let q = st.each j h in omega arith;
      past = λ j h. let p = same_places j in let q = st.past j h in omega arith;
      used = let u = used_carry (more join k v) rs in let w = st.used in omega arith;
    }

    pub past_after : (j : ℕ) (d : K) → s.places ≤ j → get_or ts2 j d ≡ get_or ts j d
    past_after j d h =
        let p = same_places j in
        let q = st.past j h in
        let o : occurs j (nodes_of after) ≡ occurs j new + occurs_around j way = ap (occurs j) new_nodes_of ∙ occurs_plug way new j in
        climbed_up.others j d (omega arith) ∙ get_or-set_other ts i j _ d (differ j i (omega arith))

  pub keeps_absent : (s : State K) → Lacks join e s k → Keeps join e s s (repeats k v) (Err Absent)
  keeps_absent s gone cs st = absent s cs st (gone cs st)

  module _ (s : State K) (cs : List (Call K)) (st : Stands join e s (roll join s.places cs)) (root : ℕ) (far : s.root ≡ Some root) (i : ℕ) where
    abbrev rs : List (Reading K)
    rs = roll join s.places cs

    joined_by : (c : Content K) (path : List (PairFrame K)) (C : Box) (q : Record) → put_in_all path (placed_leaf i C c) ≡ held k join e s rs st root far → q ≡ record_of (above (node_frames path)) (leaf_at i C c)
        → of_code k c ≡ lookup k rs → is_reading q.kind ≡ true → q.rank.code ≡ k → (m : ℕ) → m ≡ s.live
        → Serves join e s (state s.records (climbed join e s.records s.places q.parent (set s.tallies i (join (get_or s.tallies i e) v))) s.places s.root s.live s.free) (repeats k v) cs (Ok m)
    joined_by (box I) path C q whole is tells kind code m live = absurd (mathlib.Core.Bool.false≢true (sym (ap (λ (x : Record). is_reading x.kind) is) ∙ kind))
    joined_by (reading r) path C q whole is tells kind code m live =
        let same : k ≡ r.code = sym code ∙ ap (λ (x : Record). x.rank.code) is in
        let here : lookup k rs ≡ some r = sym tells ∙ ap (λ b. cond b (some r) none) (eq-eqb k r.code same) in
        let there : present k rs ≡ true = ap is_some here in
        let up : q.parent ≡ above (node_frames path) = ap (λ (x : Record). x.parent) is in
        let ts1 : List K = set s.tallies i (join (get_or s.tallies i e) v) in
        subst (λ p. Serves join e s (state s.records (climbed join e s.records s.places p ts1) s.places s.root s.live s.free) (repeats k v) cs (Ok m)) (sym up)
        record {
          stands = subst (λ b. Stands join e (state s.records (climbed join e s.records s.places (above (node_frames path)) ts1) s.places s.root s.live s.free) (cond b (carry_all (more join k v) rs) rs)) (sym there)
              (stands_after s rs st root far i path C r whole same);
          answer = ap Ok (live ∙ st.count) ∙ ap (λ b. cond b (Ok (length rs)) (Err Absent)) (sym there);
          places = refl;
          records_past = λ j d h. refl;
          tallies_past = past_after s rs st root far i path C r whole same;
          unchanged = λ h. absurd (mathlib.Core.Bool.false≢true h);
        }

  pub keeps_joined : (s : State K) (i : ℕ) (q : Record) → LeafOf s k i q → (m : ℕ) → m ≡ s.live → (s' : State K)
      → s' ≡ state s.records (climbed join e s.records s.places q.parent (set s.tallies i (join (get_or s.tallies i e) v))) s.places s.root s.live s.free
      → Keeps join e s s' (repeats k v) (Ok m)
  keeps_joined s i q l m live s' new cs st =
      let f = found k join e s _ st l.root l.held i l.leads in
      subst (λ (u : State K). Serves join e s u (repeats k v) cs (Ok m)) (sym new)
      (joined_by s cs st l.root l.held i f.content f.path f.box q f.whole (l.lies ∙ f.lies) f.tells l.kind l.code m live)

pub same_state : {K : Type 0} (r r' : List Record) (t t' : List K) (a a' : ℕ) (b b' : Maybe ℕ) (c c' : ℕ) (f f' : FreePlaces) → r ≡ r' → t ≡ t' → a ≡ a' → b ≡ b' → c ≡ c' → f ≡ f' → state r t a b c f ≡ state r' t' a' b' c' f'
same_state r r' t t' a a' b b' c c' f f' er et ea eb ec ef =
    ap (λ x. state x t a b c f) er ∙ ap (λ x. state r' x a b c f) et ∙ ap (λ x. state r' t' x b c f) ea ∙ ap (λ x. state r' t' a' x c f) eb
    ∙ ap (λ x. state r' t' a' b' x f) ec ∙ ap (λ x. state r' t' a' b' c' x) ef
