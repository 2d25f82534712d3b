-- A pair whose children have their entries gets its own two, and so each step of a rise.
use Rattle.std.proofs.Common.{◌≡◌, ℕ, ◌+◌, ◌<◌, ◌≤◌, true, false, cond, List, [], ◌∷◌, length, get_or, set, sym, refl, ap, ◌∙◌, subst, arith, length-set, get_or-set_other, get_or-set_same, None, Some}
use mathlib.Core.Option.{Option, none, some}
use Rattle.records.specs.declared.record.Record.{Record}
use Rattle.place.specs.Boxes.{Box}
use Rattle.quadtreap.specs.Tree.{outer}
use Rattle.quadtreap.specs.declared.rank.Rank.{Rank}
use Rattle.quadtreap.specs.Rank.{earlier}
use Rattle.quadtreap.specs.Pairs.{unranked}
use Rattle.quadtreap.specs.Walk.{tally_of}
use Rattle.records.specs.Links.{Link}
use Rattle.records.specs.PlacedNodes.{PlacedNodes, leaf_at, node_at, pair_at, ordered_nodes, carried, unplaced, place_of, one, occurs, NodesRecorded, NodeFrame, first, second, above}
use Rattle.records.specs.Writes.{at}
use Rattle.records.specs.PlacedPairs.{PlacedPairs, placed_leaf, placed_pair, nodes_of, tree_in, top_place, PairFrame, on_left_at, on_right_at, on_outer_at, node_frames, ordered_at, made_before, settled_at, risen_over}
use Rattle.tables.specs.Totals.{Has, Totals, renewed, mended}
use Rattle.records.proofs.FrameLaws.{one_same, differ, root_occurs, occurs_around, LiesAmong}
use Rattle.records.proofs.SettleLaws.{nodes_ordered, place_ordered}
use Rattle.records.proofs.CountLaws.{places_ordered}
use Rattle.tables.proofs.Climbs.{bears_other, bears_same, root_bears, Beside}

module _ {K : Type 0} (join : K → K → K) (e : K) where
  abbrev sum : PlacedNodes K → K
  sum t = tally_of join e (unplaced t)

  -- the same entries but at places that are used
  pub record Beyond (used : ℕ → ℕ) (ts ts' : List K) : Type 0 where
    pub long : length ts' ≡ length ts
    pub reads : (j : ℕ) (d : K) → used j ≡ 0 → get_or ts' j d ≡ get_or ts j d

  pub alike : (used : ℕ → ℕ) (ts : List K) → Beyond used ts ts
  alike used ts = record { long = refl; reads = λ j d h. refl }

  pub onward : (used a b : ℕ → ℕ) (ts ts1 ts2 : List K) → ((j : ℕ) → used j ≡ 0 → a j ≡ 0) → ((j : ℕ) → used j ≡ 0 → b j ≡ 0) → Beyond a ts ts1 → Beyond b ts1 ts2 → Beyond used ts ts2
  onward used a b ts ts1 ts2 ta tb p q = record { long = q.long ∙ p.long; reads = λ j d h. q.reads j d (tb j h) ∙ p.reads j d (ta j h) }

  bears_in : (ts ts' : List K) → length ts' ≡ length ts → (p : ℕ) (x : K) → ((d : K) → get_or ts' p d ≡ get_or ts p d) → Has ts p x → Has ts' p x
  bears_in ts ts' len p x agree h = record { within = subst (λ n. p < n) (sym len) h.within; reads = λ d. agree d ∙ h.reads d }

  pub totals_in : (used : ℕ → ℕ) (ts ts' : List K) → Beyond used ts ts' → (t : PlacedNodes K) → ((j : ℕ) → 1 ≤ occurs j t → used j ≡ 0) → Totals join e ts t → Totals join e ts' t
  totals_in used ts ts' b (leaf_at p C c) off h = let o = one_same p in bears_in ts ts' b.long p _ (λ d. b.reads p d (off p (omega arith))) h
  totals_in used ts ts' b (node_at k p r C g x y) off h =
      let o = one_same p in (
        bears_in ts ts' b.long p _ (λ d. b.reads p d (off p (omega arith))) h.0,
        totals_in used ts ts' b x (λ j s. off j (omega arith)) h.1,
        totals_in used ts ts' b y (λ j s. off j (omega arith)) h.2,
      )

  pub beside_in : (used : ℕ → ℕ) (ts ts' : List K) → Beyond used ts ts' → (f : List (NodeFrame K)) → ((j : ℕ) → 1 ≤ occurs_around j f → used j ≡ 0) → Beside join e ts f → Beside join e ts' f
  beside_in used ts ts' b [] off h = tt
  beside_in used ts ts' b (first k p r C g x ∷ f) off h =
      (subst (λ n. p < n) (sym b.long) h.0, totals_in used ts ts' b x (λ j s. off j (omega arith)) h.1, beside_in used ts ts' b f (λ j s. off j (omega arith)) h.2)
  beside_in used ts ts' b (second k p r C g x ∷ f) off h =
      (subst (λ n. p < n) (sym b.long) h.0, totals_in used ts ts' b x (λ j s. off j (omega arith)) h.1, beside_in used ts ts' b f (λ j s. off j (omega arith)) h.2)

  -- the two entries of a pair anew
  pub record Mends (ts ts' : List K) (s w : ℕ) (t : PlacedNodes K) : Type 0 where
    pub totals : Totals join e ts' t
    pub beyond : Beyond (λ j. one j s + one j w) ts ts'

  pub mends : (recs : List Record) (ts : List K) (p : Link) (s w : ℕ) (r : Rank) (C : Box) (g : Option Box) (E : Box) (L R O : PlacedNodes K) → NodesRecorded recs p (pair_at s w r C g E L R O)
      → ((j : ℕ) → occurs j (pair_at s w r C g E L R O) ≤ 1) → s < length ts → w < length ts → Totals join e ts L → Totals join e ts R → Totals join e ts O
      → Mends ts (mended join e recs (Some s) ts) s w (pair_at s w r C g E L R O)
  mends recs ts p s w r C g E L R O h once ins inw hl hr ho =
      let os = one_same s in
      let ow = one_same w in
      let n = once s in
      let m = once w in
      let x : K = join (get_or ts (place_of L) e) (get_or ts (place_of R) e) in
      let ts1 : List K = set ts w x in
      let y : K = join (get_or ts1 w e) (get_or ts1 (place_of O) e) in
      let ts2 : List K = set ts1 s y in
      let is : mended join e recs (Some s) ts ≡ ts2 =
      ap (λ (v : Record). renewed join e (renewed join e ts v.first (at recs v.first).first (at recs v.first).second) s v.first v.second) h.0.reads
      ∙ ap (λ (v : Record). renewed join e (renewed join e ts w v.first v.second) s w (place_of O)) h.1.0.reads in
      let beyond' : Beyond (λ j. one j s + one j w) ts ts2 = record {
        long = length-set ts1 s y ∙ length-set ts w x;
        reads = λ j d z. get_or-set_other ts1 s j y d (differ j s (omega arith)) ∙ get_or-set_other ts w j x d (differ j w (omega arith));
      } in
      let keep : (t : PlacedNodes K) → ((j : ℕ) → occurs j t + (one j s + one j w) ≤ 1) → Totals join e ts t → Totals join e ts2 t = λ t apart m. totals_in (λ j. one j s + one j w) ts ts2 beyond' t (λ j z. let q = apart j in omega arith) m in
      let inner' : x ≡ join (sum L) (sum R) = ap (λ v. join v (get_or ts (place_of R) e)) ((root_bears join e ts L hl).reads e) ∙ ap (join (sum L)) ((root_bears join e ts R hr).reads e) in
      let ro = root_occurs O in
      let rl = once (place_of O) in
      let offO : one (place_of O) w ≡ 0 = omega arith in
      subst (λ (l : List K). Mends ts l s w (pair_at s w r C g E L R O)) (sym is)
      record {
        totals = (
          subst (λ v. Has ts2 s v)
              (ap (λ v. join v (get_or ts1 (place_of O) e)) (get_or-set_same ts w x e inw ∙ inner')
              ∙ ap (join (join (sum L) (sum R))) (get_or-set_other ts w (place_of O) x e (differ (place_of O) w offO) ∙ (root_bears join e ts O ho).reads e))
              (bears_same join e ts1 s y (simp length-set ins)),
          (
            subst (λ v. Has ts2 w v) inner' (bears_other join e ts1 s y w x (omega arith) (bears_same join e ts w x inw)),
            keep L (λ j. let q = once j in omega arith) hl,
            keep R (λ j. let q = once j in omega arith) hr,
          ),
          keep O (λ j. let q = once j in omega arith) ho,
        );
        beyond = beyond';
      }

  -- the same of a pair in the order of its ranks
  pub mends_ordered : (recs : List Record) (ts : List K) (p : Link) (s w : ℕ) (C : Box) (g : Option Box) (E : Box) (L R O : PlacedNodes K) → NodesRecorded recs p (ordered_nodes s w C g E L R O)
      → ((j : ℕ) → (one j s + ((one j w + (occurs j L + occurs j R)) + occurs j O)) ≤ 1) → s < length ts → w < length ts → Totals join e ts L → Totals join e ts R → Totals join e ts O
      → Mends ts (mended join e recs (Some s) ts) s w (ordered_nodes s w C g E L R O)
  mends_ordered recs ts p s w C none E L R O h once ins inw hl hr ho =
      (elim (earlier (carried R) (carried L)) as (λ b. NodesRecorded recs p (cond b (pair_at s w (carried R) C none E R L O) (pair_at s w (carried L) C none E L R O)) → Mends ts (mended join e recs (Some s) ts) s w (cond b (pair_at s w (carried R) C none E R L O) (pair_at s w (carried L) C none E L R O))) [
        | true ↦ λ l. mends recs ts p s w (carried R) C none E R L O l (λ j. let q = once j in omega arith) ins inw hr hl ho
        | false ↦ λ l. mends recs ts p s w (carried L) C none E L R O l once ins inw hl hr ho
      ]) h
  mends_ordered recs ts p s w C (some I) E L R O h once ins inw hl hr ho = mends recs ts p s w unranked C (some I) E L R O h once ins inw hl hr ho

  -- what a table has of a ordered pair
  ordered_parts : (recs : List Record) (p : Link) (s w : ℕ) (C : Box) (g : Option Box) (E : Box) (L R O : PlacedNodes K) → NodesRecorded recs p (ordered_nodes s w C g E L R O) → NodesRecorded recs (Some s) O × NodesRecorded recs (Some w) L
  ordered_parts recs p s w C none E L R O =
      elim (earlier (carried R) (carried L)) as (λ b. NodesRecorded recs p (cond b (pair_at s w (carried R) C none E R L O) (pair_at s w (carried L) C none E L R O)) → NodesRecorded recs (Some s) O × NodesRecorded recs (Some w) L) [ true ↦ λ h. (h.2, h.1.2) | false ↦ λ h. (h.2, h.1.1) ]
  ordered_parts recs p s w C (some I) E L R O = λ h. (h.2, h.1.1)

  -- both pairs of a step
  abbrev pub mended_both : List Record → ℕ → Link → List K → List K
  mended_both recs top low ts = mended join e recs (Some top) (mended join e recs low ts)

  pub record Steps (ts ts' : List K) (gs : List (PairFrame K)) (u : PlacedPairs K) : Type 0 where
    pub totals : Totals join e ts' (nodes_of u)
    pub beside : Beside join e ts' (node_frames gs)
    pub beyond : Beyond (λ j. occurs j (nodes_of u)) ts ts'

  -- a ordered pair in place, nothing rose
  stay_ordered : (recs : List Record) (gs : List (PairFrame K)) (s w : ℕ) (C : Box) (g : Option Box) (E : Box) (L R O : PlacedPairs K) (ts : List K) → LiesAmong recs (node_frames gs) (nodes_of (ordered_at s w C g E L R O))
      → ((j : ℕ) → (one j s + ((one j w + (occurs j (nodes_of L) + occurs j (nodes_of R))) + occurs j (nodes_of O))) + occurs_around j (node_frames gs) ≤ 1) → s < length ts → w < length ts
      → Totals join e ts (nodes_of L) → Totals join e ts (nodes_of R) → Totals join e ts (nodes_of O) → Beside join e ts (node_frames gs) → Steps ts (mended_both recs s None ts) gs (ordered_at s w C g E L R O)
  stay_ordered recs gs s w C g E L R O ts h once ins inw hl hr ho bes =
      let is = nodes_ordered s w C g E L R O in
      let os = one_same s in
      let ow = one_same w in
      let m = mends_ordered recs ts (above (node_frames gs)) s w C g E (nodes_of L) (nodes_of R) (nodes_of O) (subst (NodesRecorded recs (above (node_frames gs))) is h.laid) (λ j. let q = once j in omega arith) ins inw hl hr ho in
      let occurs_all : (j : ℕ) → occurs j (nodes_of (ordered_at s w C g E L R O)) ≡ (one j s + ((one j w + (occurs j (nodes_of L) + occurs j (nodes_of R))) + occurs j (nodes_of O))) = λ j. places_ordered s w C g E L R O j in
      record {
        totals = subst (Totals join e (mended join e recs (Some s) ts)) (sym is) m.totals;
        beside = beside_in (λ j. one j s + one j w) ts (mended join e recs (Some s) ts) m.beyond (node_frames gs) (λ j z. let q = once j in omega arith) bes;
        beyond = record { long = m.beyond.long; reads = λ j d z. let q = occurs_all j in m.beyond.reads j d (omega arith) };
      }

  -- the left child rises
  rise_left : (recs recs' : List Record) (gs : List (PairFrame K)) (s w : ℕ) (r : Rank) (C : Box) (i : Option Box) (E : Box) (R O : PlacedPairs K) (y v : ℕ) (q : Rank) (B : Box) (k : Option Box) (F : Box) (A D o : PlacedPairs K) (ts : List K)
      → LiesAmong recs (node_frames (on_left_at s w r C i E R O ∷ gs)) (nodes_of (placed_pair y v q B k F A D o)) → LiesAmong recs' (node_frames gs) (nodes_of (ordered_at y v C k F A D (placed_pair s w unranked C (some F) E o R O)))
      → Totals join e ts (nodes_of (placed_pair y v q B k F A D o)) → Beside join e ts (node_frames (on_left_at s w r C i E R O ∷ gs))
      → Steps ts (mended_both recs' (top_place (ordered_at y v C k F A D (placed_pair s w unranked C (some F) E o R O))) (Some s) ts) gs (ordered_at y v C k F A D (placed_pair s w unranked C (some F) E o R O))
  rise_left recs recs' gs s w r C i E R O y v q B k F A D o ts h h' tot bes =
      let low : PlacedPairs K = placed_pair s w unranked C (some F) E o R O in
      let f : List (NodeFrame K) = node_frames (on_left_at s w r C i E R O ∷ gs) in
      let t : PlacedNodes K = nodes_of (placed_pair y v q B k F A D o) in
      let is = nodes_ordered y v C k F A D low in
      let os = one_same s in
      let oy = one_same y in
      let l = subst (NodesRecorded recs' (above (node_frames gs))) is h'.laid in
      let m1 = mends recs' ts (Some y) s w unranked C (some F) E (nodes_of o) (nodes_of R) (nodes_of O) (ordered_parts recs' (above (node_frames gs)) y v C k F (nodes_of A) (nodes_of D) (nodes_of low) l).0 (λ j. let n = h.once j in omega arith)
      bes.2.0 bes.0 tot.2 bes.1 bes.2.1 in
      let ts1 : List K = mended join e recs' (Some s) ts in
      let keep : (z : PlacedNodes K) → ((j : ℕ) → occurs j z + (one j s + one j w) ≤ 1) → Totals join e ts z → Totals join e ts1 z = λ z apart g. totals_in (λ j. one j s + one j w) ts ts1 m1.beyond z (λ j c. let n = apart j in omega arith) g in
      let m2 = mends_ordered recs' ts1 (above (node_frames gs)) y v C k F (nodes_of A) (nodes_of D) (nodes_of low) l (λ j. let n = h.once j in omega arith)
      (subst (λ n. y < n) (sym m1.beyond.long) tot.0.within) (subst (λ n. v < n) (sym m1.beyond.long) tot.1.0.within)
      (keep (nodes_of A) (λ j. let n = h.once j in omega arith) tot.1.1) (keep (nodes_of D) (λ j. let n = h.once j in omega arith) tot.1.2) m1.totals in
      let ts2 : List K = mended join e recs' (Some y) ts1 in
      subst (λ n. Steps ts (mended_both recs' n (Some s) ts) gs (ordered_at y v C k F A D low)) (sym (place_ordered y v C k F A D low))
      record {
        totals = subst (Totals join e ts2) (sym is) m2.totals;
        beside = beside_in (λ j. one j y + one j v) ts1 ts2 m2.beyond (node_frames gs) (λ j z. let n = h.once j in omega arith)
            (beside_in (λ j. one j s + one j w) ts ts1 m1.beyond (node_frames gs) (λ j z. let n = h.once j in omega arith) bes.2.2);
        beyond = onward (λ j. occurs j (nodes_of (ordered_at y v C k F A D low))) _ _ ts ts1 ts2 (λ j z. let n = places_ordered y v C k F A D low j in omega arith) (λ j z. let n = places_ordered y v C k F A D low j in omega arith) m1.beyond m2.beyond;
      }

  -- the outer child rises
  rise_outer : (recs recs' : List Record) (gs : List (PairFrame K)) (s w : ℕ) (r : Rank) (C : Box) (i : Option Box) (E : Box) (L R : PlacedPairs K) (x v : ℕ) (q : Rank) (B : Box) (k : Option Box) (F : Box) (A D o : PlacedPairs K) (ts : List K)
      → LiesAmong recs (node_frames (on_outer_at s w r C i E L R ∷ gs)) (nodes_of (placed_pair x v q B k F A D o)) → LiesAmong recs' (node_frames gs) (nodes_of (ordered_at x v B i F (placed_pair s w r (outer (tree_in A)) i E L R A) D o))
      → Totals join e ts (nodes_of (placed_pair x v q B k F A D o)) → Beside join e ts (node_frames (on_outer_at s w r C i E L R ∷ gs))
      → Steps ts (mended_both recs' (top_place (ordered_at x v B i F (placed_pair s w r (outer (tree_in A)) i E L R A) D o)) (Some s) ts) gs (ordered_at x v B i F (placed_pair s w r (outer (tree_in A)) i E L R A) D o)
  rise_outer recs recs' gs s w r C i E L R x v q B k F A D o ts h h' tot bes =
      let low : PlacedPairs K = placed_pair s w r (outer (tree_in A)) i E L R A in
      let f : List (NodeFrame K) = node_frames (on_outer_at s w r C i E L R ∷ gs) in
      let t : PlacedNodes K = nodes_of (placed_pair x v q B k F A D o) in
      let is = nodes_ordered x v B i F low D o in
      let os = one_same s in
      let ox = one_same x in
      let l = subst (NodesRecorded recs' (above (node_frames gs))) is h'.laid in
      let m1 = mends recs' ts (Some v) s w r (outer (tree_in A)) i E (nodes_of L) (nodes_of R) (nodes_of A) (ordered_parts recs' (above (node_frames gs)) x v B i F (nodes_of low) (nodes_of D) (nodes_of o) l).1 (λ j. let n = h.once j in omega arith)
      bes.0 bes.1.0.within bes.1.1 bes.1.2 tot.1.1 in
      let ts1 : List K = mended join e recs' (Some s) ts in
      let keep : (z : PlacedNodes K) → ((j : ℕ) → occurs j z + (one j s + one j w) ≤ 1) → Totals join e ts z → Totals join e ts1 z = λ z apart g. totals_in (λ j. one j s + one j w) ts ts1 m1.beyond z (λ j c. let n = apart j in omega arith) g in
      let m2 = mends_ordered recs' ts1 (above (node_frames gs)) x v B i F (nodes_of low) (nodes_of D) (nodes_of o) l (λ j. let n = h.once j in omega arith)
      (subst (λ n. x < n) (sym m1.beyond.long) tot.0.within) (subst (λ n. v < n) (sym m1.beyond.long) tot.1.0.within)
      m1.totals (keep (nodes_of D) (λ j. let n = h.once j in omega arith) tot.1.2) (keep (nodes_of o) (λ j. let n = h.once j in omega arith) tot.2) in
      let ts2 : List K = mended join e recs' (Some x) ts1 in
      subst (λ n. Steps ts (mended_both recs' n (Some s) ts) gs (ordered_at x v B i F low D o)) (sym (place_ordered x v B i F low D o))
      record {
        totals = subst (Totals join e ts2) (sym is) m2.totals;
        beside = beside_in (λ j. one j x + one j v) ts1 ts2 m2.beyond (node_frames gs) (λ j z. let n = h.once j in omega arith)
            (beside_in (λ j. one j s + one j w) ts ts1 m1.beyond (node_frames gs) (λ j z. let n = h.once j in omega arith) bes.2);
        beyond = onward (λ j. occurs j (nodes_of (ordered_at x v B i F low D o))) _ _ ts ts1 ts2 (λ j z. let n = places_ordered x v B i F low D o j in omega arith) (λ j z. let n = places_ordered x v B i F low D o j in omega arith) m1.beyond m2.beyond;
      }

  -- nothing rises
  stay_left : (recs recs' : List Record) (gs : List (PairFrame K)) (s w : ℕ) (r : Rank) (C : Box) (i : Option Box) (E : Box) (R O t : PlacedPairs K) (ts : List K) → LiesAmong recs (node_frames (on_left_at s w r C i E R O ∷ gs)) (nodes_of t)
      → LiesAmong recs' (node_frames gs) (nodes_of (ordered_at s w C i E t R O)) → Totals join e ts (nodes_of t) → Beside join e ts (node_frames (on_left_at s w r C i E R O ∷ gs)) → Steps ts (mended_both recs' (top_place (ordered_at s w C i E t R O)) None ts) gs (ordered_at s w C i E t R O)
  stay_left recs recs' gs s w r C i E R O t ts h h' tot bes =
      let os = one_same s in
      subst (λ n. Steps ts (mended_both recs' n None ts) gs (ordered_at s w C i E t R O)) (sym (place_ordered s w C i E t R O))
      (stay_ordered recs' gs s w C i E t R O ts h' (λ j. let n = h.once j in omega arith) bes.2.0 bes.0 tot bes.1 bes.2.1 bes.2.2)

  stay_right : (recs recs' : List Record) (gs : List (PairFrame K)) (s w : ℕ) (r : Rank) (C : Box) (i : Option Box) (E : Box) (L O t : PlacedPairs K) (ts : List K) → LiesAmong recs (node_frames (on_right_at s w r C i E L O ∷ gs)) (nodes_of t)
      → LiesAmong recs' (node_frames gs) (nodes_of (ordered_at s w C i E L t O)) → Totals join e ts (nodes_of t) → Beside join e ts (node_frames (on_right_at s w r C i E L O ∷ gs)) → Steps ts (mended_both recs' (top_place (ordered_at s w C i E L t O)) None ts) gs (ordered_at s w C i E L t O)
  stay_right recs recs' gs s w r C i E L O t ts h h' tot bes =
      let os = one_same s in
      subst (λ n. Steps ts (mended_both recs' n None ts) gs (ordered_at s w C i E L t O)) (sym (place_ordered s w C i E L t O))
      (stay_ordered recs' gs s w C i E L t O ts h' (λ j. let n = h.once j in omega arith) bes.2.0 bes.0 bes.1 tot bes.2.1 bes.2.2)

  stay_outer : (recs recs' : List Record) (gs : List (PairFrame K)) (s w : ℕ) (r : Rank) (C : Box) (i : Option Box) (E : Box) (L R t : PlacedPairs K) (ts : List K) → LiesAmong recs (node_frames (on_outer_at s w r C i E L R ∷ gs)) (nodes_of t)
      → LiesAmong recs' (node_frames gs) (nodes_of (placed_pair s w r C i E L R t)) → Totals join e ts (nodes_of t) → Beside join e ts (node_frames (on_outer_at s w r C i E L R ∷ gs)) → Steps ts (mended_both recs' s None ts) gs (placed_pair s w r C i E L R t)
  stay_outer recs recs' gs s w r C i E L R t ts h h' tot bes =
      let os = one_same s in
      let m = mends recs' ts (above (node_frames gs)) s w r C i E (nodes_of L) (nodes_of R) (nodes_of t) h'.laid (λ j. let n = h.once j in omega arith) bes.0 bes.1.0.within bes.1.1 bes.1.2 tot in
      record {
        totals = m.totals;
        beside = beside_in (λ j. one j s + one j w) ts (mended join e recs' (Some s) ts) m.beyond (node_frames gs) (λ j z. let n = h.once j in omega arith) bes.2;
        beyond = record { long = m.beyond.long; reads = λ j d z. m.beyond.reads j d (omega arith) };
      }

  -- one step of the rise
  pub steps_on : (recs recs' : List Record) (gs : List (PairFrame K)) (g : PairFrame K) (t : PlacedPairs K) (ts : List K) → LiesAmong recs (node_frames (g ∷ gs)) (nodes_of t) → LiesAmong recs' (node_frames gs) (nodes_of (settled_at g t))
      → Totals join e ts (nodes_of t) → Beside join e ts (node_frames (g ∷ gs)) → Steps ts (mended_both recs' (top_place (settled_at g t)) (risen_over g t) ts) gs (settled_at g t)
  steps_on recs recs' gs (on_left_at s w r C i E R O) (placed_leaf p B c) ts h h' tot bes = stay_left recs recs' gs s w r C i E R O (placed_leaf p B c) ts h h' tot bes
  steps_on recs recs' gs (on_left_at s w r C i E R O) (placed_pair y v q B k F A D o) ts h h' tot bes =
      let t : PlacedPairs K = placed_pair y v q B k F A D o in
      let X : PlacedPairs K = ordered_at y v C k F A D (placed_pair s w unranked C (some F) E o R O) in
      let Y : PlacedPairs K = ordered_at s w C i E t R O in
      (elim (made_before t R) as (λ b. LiesAmong recs' (node_frames gs) (nodes_of (cond b X Y)) → Steps ts (mended_both recs' (top_place (cond b X Y)) (cond b (Some s) None) ts) gs (cond b X Y)) [
        | true ↦ λ l. rise_left recs recs' gs s w r C i E R O y v q B k F A D o ts h l tot bes
        | false ↦ λ l. stay_left recs recs' gs s w r C i E R O t ts h l tot bes
      ]) h'
  steps_on recs recs' gs (on_right_at s w r C i E L O) t ts h h' tot bes = stay_right recs recs' gs s w r C i E L O t ts h h' tot bes
  steps_on recs recs' gs (on_outer_at s w r C i E L R) (placed_leaf p B c) ts h h' tot bes = stay_outer recs recs' gs s w r C i E L R (placed_leaf p B c) ts h h' tot bes
  steps_on recs recs' gs (on_outer_at s w r C i E L R) (placed_pair x v q B k F A D o) ts h h' tot bes =
      let t : PlacedPairs K = placed_pair x v q B k F A D o in
      let X : PlacedPairs K = ordered_at x v B i F (placed_pair s w r (outer (tree_in A)) i E L R A) D o in
      let Y : PlacedPairs K = placed_pair s w r C i E L R t in
      (elim (made_before t R) as (λ b. LiesAmong recs' (node_frames gs) (nodes_of (cond b X Y)) → Steps ts (mended_both recs' (top_place (cond b X Y)) (cond b (Some s) None) ts) gs (cond b X Y)) [
        | true ↦ λ l. rise_outer recs recs' gs s w r C i E L R x v q B k F A D o ts h l tot bes
        | false ↦ λ l. stay_outer recs recs' gs s w r C i E L R t ts h l tot bes
      ]) h'
