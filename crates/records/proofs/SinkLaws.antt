-- One step of a strike in the table.
use Rattle.std.proofs.Common.{◌≡◌, ℕ, ◌≤◌, Bool, true, false, cond, ◌&&◌, eqb, List, ◌∷◌, sym, refl, ap, ◌∙◌, subst, arith, Some}
use mathlib.Core.Option.{Option, none, some}
use Rattle.std.proofs.lemmas.Bool.{and_parts, false≢true}
use Rattle.records.specs.declared.record.Record.{Record}
use Rattle.records.specs.declared.record.BoxNumbers.{BoxNumbers}
use Rattle.records.specs.declared.places.FourPlaces.{FourPlaces}
use Rattle.records.specs.declared.places.Sinking.TheVariants.{On, Done, Lost}
use Rattle.records.specs.declared.kind.Kind.TheVariants.{Shrink, Split}
use Rattle.place.specs.Boxes.{Box, holds}
use Rattle.quadtreap.specs.Tree.{Content, reading, box, outer}
use Rattle.quadtreap.specs.declared.rank.Rank.{Rank}
use Rattle.quadtreap.specs.Pairs.{unranked, earlier_than, is_none}
use Rattle.quadtreap.specs.Strike.{least_of}
use Rattle.records.specs.Links.{Link}
use Rattle.records.specs.Kinds.{is_leaf, is_pair}
use Rattle.records.specs.PlacedNodes.{shrinks, splits, inner_numbers, in_record, leaf_kind, PlacedNodes, leaf_at, node_at, pair_at, occurs, Shallow, Sized, NodesRecorded, above}
use Rattle.records.specs.Writes.{at, box_of, promoted_left, promoted_outer, ranked, swapped, no_inner, earlier_in, least_in, above_leaves_in, replaced_in, Sink, sinks, raised_outer, sunk_right, sunk_left, child_toward, sunk_pair, sunk_in}
use Rattle.records.specs.PlacedPairs.{PlacedPairs, placed_leaf, placed_pair, nodes_of, tree_in, top_place, rank, rank_at, PairFrame, on_left_at, node_frames}
use Rattle.records.specs.Elsewhere.{Elsewhere}
use Rattle.records.specs.StrikeMoves.{StrikeMove, finished, onward, lost, move_of, made_at, is_leaf_at, replaced_at, Pair, whole, above_leaves, freed, to_left, to_right, to_outer, left_over, outer_over, exchanged_at, move_right, move_left, move_toward, move_pair}
use Rattle.records.proofs.FrameLaws.{root_lies, root_rank, root_outer, LiesAmong, down_first, down_second}
use Rattle.records.proofs.PromoteLaws.{rises_left, rises_outer, ranks, exchanges}
use Rattle.records.proofs.SettleLaws.{earlier_than_leaf, earlier_than_over, earlier_than_pairs, made}
use Rattle.records.proofs.SinkSteps.{chosen, reads}
use Rattle.records.proofs.ElsewhereLaws.{same, used_by, off_left, off_outer, off_rank, off_swap}
use Rattle.records.proofs.ReplaceLaws.{replaces, off_replaced}

and_cond : (a b : Bool) → cond a b false ≡ (a && b)
and_cond true b = refl
and_cond false b = refl

module _ {K : Type 0} where
  -- The table and the answer are those of the move, and off the places used the table is recs.
  abbrev pub Moved : List Record → (ℕ → ℕ) → List (PairFrame K) → StrikeMove K → Sink → Type 0
  Moved recs used gs (finished t n) v = LiesAmong v.table (node_frames gs) (nodes_of t) × (v.ends ≡ Done (top_place t) n) × Elsewhere used recs v.table
  Moved recs used gs (onward g t) v = LiesAmong v.table (node_frames (g ∷ gs)) (nodes_of t) × (v.ends ≡ On (top_place t)) × Elsewhere used recs v.table
  Moved recs used gs (lost t) v = LiesAmong v.table (node_frames gs) (nodes_of t) × (v.ends ≡ Lost) × Elsewhere used recs v.table

  pub moved_same : (recs : List Record) (used : ℕ → ℕ) (gs : List (PairFrame K)) (m : StrikeMove K) (v : Sink) → Moved recs used gs m v → Elsewhere used recs v.table
  moved_same recs used gs (finished t n) v h = h.2
  moved_same recs used gs (onward g t) v h = h.2
  moved_same recs used gs (lost t) v h = h.2

  -- the same from an earlier table
  moved_from : (recs recs' : List Record) (used used' : ℕ → ℕ) (gs : List (PairFrame K)) (m : StrikeMove K) (v : Sink) → ((j : ℕ) → used j ≡ 0 → used' j ≡ 0) → Elsewhere used recs recs' → Moved recs' used' gs m v → Moved recs used gs m v
  moved_from recs recs' used used' gs (finished t n) v to e h = (h.0, h.1, Rattle.records.proofs.ElsewhereLaws.onward used used' recs recs' v.table to e h.2)
  moved_from recs recs' used used' gs (onward g t) v to e h = (h.0, h.1, Rattle.records.proofs.ElsewhereLaws.onward used used' recs recs' v.table to e h.2)
  moved_from recs recs' used used' gs (lost t) v to e h = (h.0, h.1, Rattle.records.proofs.ElsewhereLaws.onward used used' recs recs' v.table to e h.2)

  either : (recs : List Record) (used : ℕ → ℕ) (gs : List (PairFrame K)) (b : Bool) (x y : StrikeMove K) (v w : Sink) → (b ≡ true → Moved recs used gs x v) → (b ≡ false → Moved recs used gs y w) → Moved recs used gs (cond b x y) (cond b v w)
  either recs used gs true x y v w p q = p refl
  either recs used gs false x y v w p q = q refl

  leaf_is : (c : Content K) → is_leaf (leaf_kind c) ≡ true
  leaf_is (reading r) = refl
  leaf_is (box I) = refl

  module _ (recs : List Record) where
    -- what the tests tell
    pub earlier_than_is : (p q : Link) (a b : PlacedPairs K) → NodesRecorded recs p (nodes_of a) → NodesRecorded recs q (nodes_of b) → earlier_in recs (top_place a) (top_place b) ≡ earlier_than (made_at a) (made_at b)
    earlier_than_is p q (placed_leaf j C c) b ha hb = earlier_than_leaf recs p j (top_place b) C c ha
    earlier_than_is p q (placed_pair s w r C i E L R O) (placed_leaf j B c) ha hb =
        earlier_than_over recs q s j (rank R) (nodes_of R) (ap (λ (v : Record). is_pair v.kind) ha.0.reads) (made recs p s w r C i E (nodes_of L) (nodes_of R) (nodes_of O) ha) B c hb
    earlier_than_is p q (placed_pair s w r C i E L R O) (placed_pair y v g B k F A D o) ha hb =
        earlier_than_pairs recs s y (rank R) (rank D) (ap (λ (v : Record). is_pair v.kind) ha.0.reads) (ap (λ (v : Record). is_pair v.kind) hb.0.reads)
        (made recs p s w r C i E (nodes_of L) (nodes_of R) (nodes_of O) ha) (made recs q y v g B k F (nodes_of A) (nodes_of D) (nodes_of o) hb)

    pub least_is : (p q m : Link) (a b c : PlacedPairs K) → NodesRecorded recs p (nodes_of a) → NodesRecorded recs q (nodes_of b) → NodesRecorded recs m (nodes_of c) → least_in recs (top_place a) (top_place b) (top_place c) ≡ least_of (made_at a) (made_at b) (made_at c)
    least_is p q m a b c ha hb hc =
        ap (λ v. cond v (earlier_in recs (top_place a) (top_place c)) false) (earlier_than_is p q a b ha hb)
        ∙ ap (λ v. cond (earlier_than (made_at a) (made_at b)) v false) (earlier_than_is p m a c ha hc)
        ∙ and_cond (earlier_than (made_at a) (made_at b)) (earlier_than (made_at a) (made_at c))

    leaf_reads : (p : Link) (t : PlacedPairs K) → NodesRecorded recs p (nodes_of t) → is_leaf (at recs (top_place t)).kind ≡ is_leaf_at t
    leaf_reads p (placed_leaf j C c) h = ap (λ (v : Record). is_leaf v.kind) h.reads ∙ leaf_is c
    leaf_reads p (placed_pair s w r C i E L R O) h = ap (λ (v : Record). is_leaf v.kind) h.0.reads

    pub rank_is : (p : Link) (t : PlacedNodes K) → NodesRecorded recs p t → (at recs (Rattle.records.specs.PlacedNodes.place_of t)).rank ≡ Rattle.records.specs.PlacedNodes.carried t
    rank_is p t h = ap (λ (v : Record). v.rank) (root_lies recs p t h).reads ∙ root_rank p t

    -- the left child rises, and the pair goes on below it
    over_left_lem : (gs : List (PairFrame K)) (s w : ℕ) (r : Rank) (C : Box) (i : Option Box) (E : Box) (L R O : PlacedPairs K) (b c : Option Rank) → LiesAmong recs (node_frames gs) (nodes_of (placed_pair s w r C i E L R O)) → least_of (made_at L) b c ≡ true
        → Moved recs (used_by (node_frames gs) (nodes_of (placed_pair s w r C i E L R O))) gs (left_over (record { shrink = s; split = w; rank = r; outer = C; inner = i; box = E; left = L; right = R; out = O }) L) (sinks (promoted_left recs s) (On s))
    over_left_lem gs s w r C i E (placed_leaf j B d) R O b c h yes' = absurd (false≢true yes')
    over_left_lem gs s w r C i E (placed_pair y v q B k F A D o) R O b c h yes' = (
      down_second (promoted_left recs s) (node_frames gs) shrinks y q C k (node_at splits v q F k (nodes_of A) (nodes_of D)) (nodes_of (placed_pair s w unranked C (some F) E o R O))
          (rises_left recs (node_frames gs) s w y r q C E B i k (node_at splits v q F k (nodes_of A) (nodes_of D)) (nodes_of o) (nodes_of R) (nodes_of O) h),
      refl,
      off_left recs (node_frames gs) s w y r q C E B i k (node_at splits v q F k (nodes_of A) (nodes_of D)) (nodes_of o) (nodes_of R) (nodes_of O) h,
    )

    -- the outer child rises, takes a rank, and the pair goes on below it
    pub raised_is : (gs : List (PairFrame K)) (s w : ℕ) (r : Rank) (C : Box) (i : Option Box) (E : Box) (L R O : PlacedPairs K) (z : ℕ) (a : Rank) → LiesAmong recs (node_frames gs) (nodes_of (placed_pair s w r C i E L R O)) → (at recs z).rank ≡ a
        → raised_outer recs s z ≡ ranked (promoted_outer recs s) (top_place O) (rank_at i a)
    raised_is gs s w r C none E L R O z a h is =
        let ranks_by : Record → Rank → List Record = λ v q. cond (no_inner v) (ranked (promoted_outer recs s) v.second q) (ranked (promoted_outer recs s) v.second unranked) in
        ap (λ (v : Record). ranks_by v ((at recs z).rank)) h.laid.0.reads ∙ ap (ranked (promoted_outer recs s) (top_place O)) is
    raised_is gs s w r C (some I) E L R O z a h is =
        let ranks_by : Record → Rank → List Record = λ v q. cond (no_inner v) (ranked (promoted_outer recs s) v.second q) (ranked (promoted_outer recs s) v.second unranked) in
        ap (λ (v : Record). ranks_by v ((at recs z).rank)) h.laid.0.reads

    over_outer_lem : (gs : List (PairFrame K)) (s w : ℕ) (r : Rank) (C : Box) (i : Option Box) (E : Box) (L R O : PlacedPairs K) (b c : Option Rank) (z : ℕ) (a : Rank) → LiesAmong recs (node_frames gs) (nodes_of (placed_pair s w r C i E L R O)) → (at recs z).rank ≡ a → least_of (made_at O) b c ≡ true
        → Moved recs (used_by (node_frames gs) (nodes_of (placed_pair s w r C i E L R O))) gs (outer_over (record { shrink = s; split = w; rank = r; outer = C; inner = i; box = E; left = L; right = R; out = O }) O a) (sinks (raised_outer recs s z) (On s))
    over_outer_lem gs s w r C i E L R (placed_leaf j B d) b c z a h is yes' = absurd (false≢true yes')
    over_outer_lem gs s w r C i E L R (placed_pair y v q B k F A D o) b c z a h is yes' =
        let u : PlacedPairs K = placed_pair s w r (outer (tree_in A)) i E L R A in
        let up = rises_outer recs (node_frames gs) s y v r q C B F i k (node_at splits w r E i (nodes_of L) (nodes_of R)) (nodes_of A) (nodes_of D) (nodes_of o) h in
        let t : List Record = ranked (promoted_outer recs s) y (rank_at i a) in
        let named : LiesAmong t (node_frames gs) (pair_at y v (rank_at i a) B i F (nodes_of u) (nodes_of D) (nodes_of o)) = ranks (promoted_outer recs s) (node_frames gs) y v q B i F (nodes_of u) (nodes_of D) (nodes_of o) up (rank_at i a) in
        let low : LiesAmong t (node_frames (on_left_at y v (rank_at i a) B i F D o ∷ gs)) (nodes_of u) =
        down_first t _ splits v (rank_at i a) F i (nodes_of u) (nodes_of D) (down_first t (node_frames gs) shrinks y (rank_at i a) B i (node_at splits v (rank_at i a) F i (nodes_of u) (nodes_of D)) (nodes_of o) named) in
        let used : ℕ → ℕ = used_by (node_frames gs) (nodes_of (placed_pair s w r C i E L R (placed_pair y v q B k F A D o))) in
        let same' : Elsewhere used recs t =
        Rattle.records.proofs.ElsewhereLaws.onward used _ recs (promoted_outer recs s) t (λ j z. omega arith) (off_outer recs (node_frames gs) s y v r q C B F i k (node_at splits w r E i (nodes_of L) (nodes_of R)) (nodes_of A) (nodes_of D) (nodes_of o) h)
        (off_rank (promoted_outer recs s) (node_frames gs) y v q B i F (nodes_of u) (nodes_of D) (nodes_of o) up (rank_at i a)) in
        let is' = sym (raised_is gs s w r C i E L R (placed_pair y v q B k F A D o) z a h is) in
        (subst (λ l. LiesAmong l (node_frames (on_left_at y v (rank_at i a) B i F D o ∷ gs)) (nodes_of u)) is' low, refl, subst (Elsewhere used recs) is' same')

    -- into a child
    into_left : (gs : List (PairFrame K)) (x : Pair K) → LiesAmong recs (node_frames gs) (nodes_of (whole x)) → Moved recs (used_by (node_frames gs) (nodes_of (whole x))) gs (to_left x) (sinks recs (On (top_place x.left)))
    into_left gs x h = (
      down_first recs _ splits x.split x.rank x.box x.inner (nodes_of x.left) (nodes_of x.right)
          (down_first recs (node_frames gs) shrinks x.shrink x.rank x.outer x.inner (node_at splits x.split x.rank x.box x.inner (nodes_of x.left) (nodes_of x.right)) (nodes_of x.out) h),
      refl,
      same _ recs,
    )

    into_right : (gs : List (PairFrame K)) (x : Pair K) → LiesAmong recs (node_frames gs) (nodes_of (whole x)) → Moved recs (used_by (node_frames gs) (nodes_of (whole x))) gs (to_right x) (sinks recs (On (top_place x.right)))
    into_right gs x h = (
      down_second recs _ splits x.split x.rank x.box x.inner (nodes_of x.left) (nodes_of x.right)
          (down_first recs (node_frames gs) shrinks x.shrink x.rank x.outer x.inner (node_at splits x.split x.rank x.box x.inner (nodes_of x.left) (nodes_of x.right)) (nodes_of x.out) h),
      refl,
      same _ recs,
    )

    into_outer : (gs : List (PairFrame K)) (x : Pair K) → LiesAmong recs (node_frames gs) (nodes_of (whole x)) → Moved recs (used_by (node_frames gs) (nodes_of (whole x))) gs (to_outer x) (sinks recs (On (top_place x.out)))
    into_outer gs x h =
        (down_second recs (node_frames gs) shrinks x.shrink x.rank x.outer x.inner (node_at splits x.split x.rank x.box x.inner (nodes_of x.left) (nodes_of x.right)) (nodes_of x.out) h, refl, same _ recs)

    -- a leaf takes the place of the pair
    replace_child : (gs : List (PairFrame K)) (x : Pair K) (t : PlacedPairs K) (q : Link) (n : FourPlaces) → LiesAmong recs (node_frames gs) (nodes_of (whole x)) → is_leaf_at t ≡ true → NodesRecorded recs q (nodes_of t) → ((y : ℕ) → occurs y (nodes_of t) ≤ occurs y (nodes_of (whole x))) → Sized (nodes_of t)
        → Moved recs (used_by (node_frames gs) (nodes_of (whole x))) gs (finished (replaced_at x.outer t) n) (sinks (replaced_in recs x.shrink (top_place t)) (Done (top_place t) n))
    replace_child gs x (placed_leaf j B c) q n h yes' laid inside sized = (
      replaces recs (node_frames gs) x.shrink x.split x.rank x.outer x.inner x.box (nodes_of x.left) (nodes_of x.right) (nodes_of x.out) h q j B c laid inside sized.1,
      refl,
      off_replaced recs (node_frames gs) x.shrink x.split x.rank x.outer x.inner x.box (nodes_of x.left) (nodes_of x.right) (nodes_of x.out) h q j B c laid inside sized.1,
    )
    replace_child gs x (placed_pair s w r C i E L R O) q n h yes' laid inside sized = absurd (false≢true yes')

  -- The choice between the ways, from the tests.
  module _ (recs : List Record) (gs : List (PairFrame K)) (x : Pair K) (h : LiesAmong recs (node_frames gs) (nodes_of (whole x))) where
    abbrev used : ℕ → ℕ
    used = used_by (node_frames gs) (nodes_of (whole x))

    abbrev s : ℕ
    s = x.shrink

    abbrev l : ℕ
    l = top_place x.left

    abbrev r : ℕ
    r = top_place x.right

    abbrev o : ℕ
    o = top_place x.out

    abbrev a : Option Rank
    a = made_at x.left

    abbrev b : Option Rank
    b = made_at x.right

    abbrev c : Option Rank
    c = made_at x.out

    abbrev pub rs : Record
    rs = in_record Shrink x.outer x.inner x.split o (above (node_frames gs)) x.rank

    abbrev pub rw : Record
    rw = in_record Split x.box x.inner l r (Some s) x.rank

    pub at_s : at recs s ≡ rs
    at_s = h.laid.0.reads

    pub at_w : at recs rs.first ≡ rw
    at_w = h.laid.1.0.reads

    low_is : above_leaves_in recs s ≡ above_leaves x
    low_is =
        let P : Bool → Bool → Bool → Bool = λ u v w. cond u (cond v w false) false in
        ap (λ (v : Record). P (is_leaf (at recs (at recs v.first).first).kind) (is_leaf (at recs (at recs v.first).second).kind) (is_leaf (at recs v.second).kind)) at_s
        ∙ ap (λ (v : Record). P (is_leaf (at recs v.first).kind) (is_leaf (at recs v.second).kind) (is_leaf (at recs o).kind)) at_w
        ∙ ap (λ v. P v (is_leaf (at recs r).kind) (is_leaf (at recs o).kind)) (leaf_reads recs (Some x.split) x.left h.laid.1.1)
        ∙ ap (λ v. P (is_leaf_at x.left) v (is_leaf (at recs o).kind)) (leaf_reads recs (Some x.split) x.right h.laid.1.2)
        ∙ ap (P (is_leaf_at x.left) (is_leaf_at x.right)) (leaf_reads recs (Some s) x.out h.laid.2)
        ∙ and_cond (is_leaf_at x.left) (cond (is_leaf_at x.right) (is_leaf_at x.out) false)
        ∙ ap (λ v. is_leaf_at x.left && v) (and_cond (is_leaf_at x.right) (is_leaf_at x.out))

    least_left : least_in recs l r o ≡ least_of a b c
    least_left = least_is recs (Some x.split) (Some x.split) (Some s) x.left x.right x.out h.laid.1.1 h.laid.1.2 h.laid.2

    least_right : least_in recs r l o ≡ least_of b a c
    least_right = least_is recs (Some x.split) (Some x.split) (Some s) x.right x.left x.out h.laid.1.2 h.laid.1.1 h.laid.2

    least_outer : least_in recs o l r ≡ least_of c a b
    least_outer = least_is recs (Some s) (Some x.split) (Some x.split) x.out x.left x.right h.laid.2 h.laid.1.1 h.laid.1.2

    -- the struck reading is the first of the right child
    abbrev pub by_right : Bool → Bool → Bool → Sink
    by_right u v w =
        cond u (sinks (replaced_in recs s l) (Done l (freed x x.right))) (cond v (sinks (promoted_left recs s) (On s)) (cond w (sinks (raised_outer recs s l) (On s)) (sinks recs (On r))))

    pub right_computes : sunk_right recs s ≡ by_right (above_leaves x) (least_of a b c) (least_of c a b)
    right_computes =
        let P : Record → Record → Sink = λ v w.
        cond (above_leaves_in recs s) (sinks (replaced_in recs s w.first) (Done w.first (record { shrink = s; split = v.first; reading = w.second; outer = v.second })))
        (cond (least_in recs w.first w.second v.second) (sinks (promoted_left recs s) (On s))
        (cond (least_in recs v.second w.first w.second) (sinks (raised_outer recs s w.first) (On s)) (sinks recs (On w.second)))) in
        ap (λ (v : Record). P v (at recs v.first)) at_s ∙ ap (P rs) at_w
        ∙ ap (λ u. by_right u (least_in recs l r o) (least_in recs o l r)) low_is
        ∙ ap (λ u. by_right (above_leaves x) u (least_in recs o l r)) least_left
        ∙ ap (by_right (above_leaves x) (least_of a b c)) least_outer

    pub sinks_right : Moved recs used gs (move_right x) (sunk_right recs s)
    sinks_right =
        subst (Moved recs used gs (move_right x)) (sym right_computes)
        (either recs used gs (above_leaves x) _ _ _ _
        (λ e. replace_child recs gs x x.left (Some x.split) (freed x x.right) h (and_parts _ _ e).0 h.laid.1.1 (λ y. omega arith) h.sized.2.2)
        (λ _. either recs used gs (least_of a b c) _ _ _ _
        (λ e. over_left_lem recs gs s x.split x.rank x.outer x.inner x.box x.left x.right x.out b c h e)
        (λ _. either recs used gs (least_of c a b) _ _ _ _
        (λ e. over_outer_lem recs gs s x.split x.rank x.outer x.inner x.box x.left x.right x.out a b l (rank x.left) h (rank_is recs (Some x.split) (nodes_of x.left) h.laid.1.1) e)
        (λ _. into_right recs gs x h))))

    -- the struck reading is the first of the left child
    abbrev pub by_left : Bool → Bool → Bool → Sink
    by_left u v w =
        cond u (sinks (replaced_in recs s r) (Done r (freed x x.left))) (cond v (sinks (promoted_left (swapped recs s) s) (On s)) (cond w (sinks (raised_outer recs s r) (On s)) (sinks (swapped recs s) (On l))))

    pub left_computes : sunk_left recs s ≡ by_left (above_leaves x) (least_of b a c) (least_of c a b)
    left_computes =
        let P : Record → Record → Sink = λ v w.
        cond (above_leaves_in recs s) (sinks (replaced_in recs s w.second) (Done w.second (record { shrink = s; split = v.first; reading = w.first; outer = v.second })))
        (cond (least_in recs w.second w.first v.second) (sinks (promoted_left (swapped recs s) s) (On s))
        (cond (least_in recs v.second w.first w.second) (sinks (raised_outer recs s w.second) (On s)) (sinks (swapped recs s) (On w.first)))) in
        ap (λ (v : Record). P v (at recs v.first)) at_s ∙ ap (P rs) at_w
        ∙ ap (λ u. by_left u (least_in recs r l o) (least_in recs o l r)) low_is
        ∙ ap (λ u. by_left (above_leaves x) u (least_in recs o l r)) least_right
        ∙ ap (by_left (above_leaves x) (least_of b a c)) least_outer

    pub exchanged_lies : LiesAmong (swapped recs s) (node_frames gs) (nodes_of (whole (exchanged_at x)))
    exchanged_lies = exchanges recs (node_frames gs) s x.split x.rank x.outer x.inner x.box (nodes_of x.left) (nodes_of x.right) (nodes_of x.out) h

    exchanged_same : Elsewhere used recs (swapped recs s)
    exchanged_same = off_swap recs (node_frames gs) s x.split x.rank x.outer x.inner x.box (nodes_of x.left) (nodes_of x.right) (nodes_of x.out) h

    pub sinks_left : Moved recs used gs (move_left x) (sunk_left recs s)
    sinks_left =
        subst (Moved recs used gs (move_left x)) (sym left_computes)
        (either recs used gs (above_leaves x) _ _ _ _
        (λ e. replace_child recs gs x x.right (Some x.split) (freed x x.left) h (and_parts _ _ (and_parts _ _ e).1).0 h.laid.1.2 (λ y. omega arith) h.sized.2.3)
        (λ _. either recs used gs (least_of b a c) _ _ _ _
        (λ e. moved_from recs (swapped recs s) used (used_by (node_frames gs) (nodes_of (whole (exchanged_at x)))) gs (left_over (exchanged_at x) x.right) (sinks (promoted_left (swapped recs s) s) (On s)) (λ j z. omega arith) exchanged_same
        (over_left_lem (swapped recs s) gs s x.split (rank x.right) x.outer x.inner x.box x.right x.left x.out a c exchanged_lies e))
        (λ _. either recs used gs (least_of c a b) _ _ _ _
        (λ e. over_outer_lem recs gs s x.split x.rank x.outer x.inner x.box x.left x.right x.out a b r (rank x.right) h (rank_is recs (Some x.split) (nodes_of x.right) h.laid.1.2) e)
        (λ _. moved_from recs (swapped recs s) used (used_by (node_frames gs) (nodes_of (whole (exchanged_at x)))) gs (to_right (exchanged_at x)) (sinks (swapped recs s) (On l)) (λ j z. omega arith) exchanged_same (into_right (swapped recs s) gs (exchanged_at x) exchanged_lies)))))

    -- the child in which the code lies
    module _ (k : ℕ) where
      abbrev pub by_box : Bool → Bool → Sink
      by_box u v = cond u (cond v (sinks recs (On l)) (sinks recs (On r))) (sinks recs (On o))

      box_is : holds (box_of (at recs l).outer) k ≡ holds (outer (tree_in x.left)) k
      box_is =
          ap (λ (v : Record). holds (box_of v.outer) k) (root_lies recs (Some x.split) (nodes_of x.left) h.laid.1.1).reads
          ∙ ap (λ (v : BoxNumbers). holds (box_of v) k) (root_outer (Some x.split) (nodes_of x.left))

      by_box_is : (u v : Bool) → sinks recs (On (cond u (cond v l r) o)) ≡ by_box u v
      by_box_is true true = refl
      by_box_is true false = refl
      by_box_is false v = refl

      pub toward_computes : sinks recs (On (child_toward recs s k)) ≡ by_box (holds x.box k) (holds (outer (tree_in x.left)) k)
      toward_computes =
          let P : Record → Record → Sink = λ v w. sinks recs (On (cond (holds (box_of w.outer) k) (cond (holds (box_of (at recs w.first).outer) k) w.first w.second) v.second)) in
          ap (λ (v : Record). P v (at recs v.first)) at_s ∙ ap (P rs) at_w ∙ by_box_is (holds x.box k) (holds (box_of (at recs l).outer) k) ∙ ap (by_box (holds x.box k)) box_is

      sinks_toward : Moved recs used gs (move_toward x k) (sinks recs (On (child_toward recs s k)))
      sinks_toward =
          subst (Moved recs used gs (move_toward x k)) (sym toward_computes)
          (either recs used gs (holds x.box k) _ _ _ _
          (λ _. either recs used gs (holds (outer (tree_in x.left)) k) _ _ _ _ (λ _. into_left recs gs x h) (λ _. into_right recs gs x h))
          (λ _. into_outer recs gs x h))

      pub inner_box_is : (g : Option Box) → Rattle.std.specs.Option.is_none (inner_numbers g) ≡ is_none g
      inner_box_is none = refl
      inner_box_is (some I) = refl

      pub sinks_pair : Moved recs used gs (move_pair x k) (sunk_pair recs s k)
      sinks_pair =
          let cr : (at recs r).rank.code ≡ (rank x.right).code = ap (λ (v : Rank). v.code) (rank_is recs (Some x.split) (nodes_of x.right) h.laid.1.2) in
          let cl : (at recs l).rank.code ≡ (rank x.left).code = ap (λ (v : Rank). v.code) (rank_is recs (Some x.split) (nodes_of x.left) h.laid.1.1) in
          let e : sunk_pair recs s k ≡ chosen recs s k (eqb k (rank x.right).code) (is_none x.inner) (eqb k (rank x.left).code) =
          reads recs s k rs rw at_s at_w
          ∙ ap (λ n. chosen recs s k (eqb k n) (Rattle.std.specs.Option.is_none (inner_numbers x.inner)) (eqb k (at recs l).rank.code)) cr
          ∙ ap (λ v. chosen recs s k (eqb k (rank x.right).code) v (eqb k (at recs l).rank.code)) (inner_box_is x.inner)
          ∙ ap (λ n. chosen recs s k (eqb k (rank x.right).code) (is_none x.inner) (eqb k n)) cl in
          subst (Moved recs used gs (move_pair x k)) (sym e)
          (either recs used gs (eqb k (rank x.right).code) _ _ _ _ (λ _. sinks_right)
          (λ _. either recs used gs (is_none x.inner) _ _ _ _
          (λ _. either recs used gs (eqb k (rank x.left).code) _ _ _ _ (λ _. sinks_left) (λ _. sinks_toward))
          (λ _. sinks_toward)))

  pub kind_low : (c : Content K) → is_pair (leaf_kind c) ≡ false
  kind_low (reading r) = refl
  kind_low (box I) = refl

  pub sinks_in : (recs : List Record) (gs : List (PairFrame K)) (t : PlacedPairs K) → LiesAmong recs (node_frames gs) (nodes_of t) → (k : ℕ) → Moved recs (used_by (node_frames gs) (nodes_of t)) gs (move_of t k) (sunk_in recs (top_place t) k)
  sinks_in recs gs (placed_leaf p C c) h k =
      let e : sunk_in recs p k ≡ sinks recs Lost = ap (λ b. cond b (sunk_pair recs p k) (sinks recs Lost)) (ap (λ (v : Record). is_pair v.kind) h.laid.reads ∙ kind_low c) in
      subst (Moved recs (used_by (node_frames gs) (leaf_at p C c)) gs (lost (placed_leaf p C c))) (sym e) (h, refl, same _ recs)
  sinks_in recs gs (placed_pair s w r C i E L R O) h k =
      let x : Pair K = record { shrink = s; split = w; rank = r; outer = C; inner = i; box = E; left = L; right = R; out = O } in
      let e : sunk_in recs s k ≡ sunk_pair recs s k = ap (λ (v : Record). cond (is_pair v.kind) (sunk_pair recs s k) (sinks recs Lost)) h.laid.0.reads in
      subst (Moved recs (used_by (node_frames gs) (nodes_of (whole x))) gs (move_pair x k)) (sym e) (sinks_pair recs gs x h k)
