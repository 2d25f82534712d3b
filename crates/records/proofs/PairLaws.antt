-- The steps with places are those of the tree.
use Rattle.std.proofs.Common.{◌≡◌, ℕ, true, false, cond, List, [], ◌∷◌, sym, refl, ap, ◌∙◌, subst}
use mathlib.Core.Option.{Option, none, some}
use Rattle.records.specs.declared.record.Record.{Record}
use Rattle.place.specs.Boxes.{Box}
use Rattle.quadtreap.specs.Tree.{reading, box, Tree, outer}
use Rattle.quadtreap.specs.declared.rank.Rank.{Rank}
use Rattle.quadtreap.specs.Rank.{earlier}
use Rattle.quadtreap.specs.Pairs.{exchanged, unranked, node_rank, ordered, plug_all}
use Rattle.quadtreap.specs.Enter.{settle, settle_all}
use Rattle.records.specs.PlacedNodes.{plug, LiesIn}
use Rattle.records.specs.PlacedPairs.{PlacedPairs, placed_leaf, placed_pair, nodes_of, tree_in, rank, rank_at, RanksStand, PairFrame, on_left_at, on_right_at, on_outer_at, put_in_all, frame, frames, node_frames, FrameRanksStand, FramesRanksStand, ordered_at, settled_at, settled_all}
use Rattle.records.proofs.FrameLaws.{LiesAmong, unplug, replug}

module _ {K : Type 0} where
  pub node_rank_at : (s w : ℕ) (r : Rank) (C : Box) (i : Option Box) (E : Box) (L R O : PlacedPairs K) → node_rank (tree_in (placed_pair s w r C i E L R O)) ≡ rank_at i (node_rank (tree_in L))
  node_rank_at s w r C none E L R O = refl
  node_rank_at s w r C (some I) E L R O = refl

  pub rank_node_rank : (t : PlacedPairs K) → RanksStand t → rank t ≡ node_rank (tree_in t)
  rank_node_rank (placed_leaf p C (reading r)) h = refl
  rank_node_rank (placed_leaf p C (box I)) h = refl
  rank_node_rank (placed_pair s w r C i E L R O) h = h.0 ∙ sym (node_rank_at s w r C i E L R O)

  -- the order of the children
  pub tree_ordered : (s w : ℕ) (r : Rank) (C : Box) (i : Option Box) (E : Box) (L R O : PlacedPairs K) → RanksStand L → RanksStand R → tree_in (ordered_at s w C i E L R O) ≡ ordered (tree_in (placed_pair s w r C i E L R O))
  tree_ordered s w r C none E L R O hl hr =
      let x : Tree K = tree_in (placed_pair s w r C none E L R O) in
      (elim (earlier (rank R) (rank L)) as (λ b. tree_in (cond b (placed_pair s w (rank R) C none E R L O) (placed_pair s w (rank L) C none E L R O)) ≡ cond b (exchanged x) x) [ true ↦ refl | false ↦ refl ])
      ∙ ap (λ q. cond (earlier q (rank L)) (exchanged x) x) (rank_node_rank R hr) ∙ ap (λ q. cond (earlier (node_rank (tree_in R)) q) (exchanged x) x) (rank_node_rank L hl)
  tree_ordered s w r C (some I) E L R O hl hr = refl

  pub ranks_ordered : (s w : ℕ) (C : Box) (i : Option Box) (E : Box) (L R O : PlacedPairs K) → RanksStand L → RanksStand R → RanksStand O → RanksStand (ordered_at s w C i E L R O)
  ranks_ordered s w C none E L R O hl hr ho =
      elim (earlier (rank R) (rank L)) as (λ b. RanksStand (cond b (placed_pair s w (rank R) C none E R L O) (placed_pair s w (rank L) C none E L R O))) [ true ↦ (rank_node_rank R hr, hr, hl, ho) | false ↦ (rank_node_rank L hl, hl, hr, ho) ]
  ranks_ordered s w C (some I) E L R O hl hr ho = (refl, hl, hr, ho)

  -- one step of the rise
  pub tree_settle : (g : PairFrame K) (t : PlacedPairs K) → FrameRanksStand g → RanksStand t → tree_in (settled_at g t) ≡ settle (frame g) (tree_in t)
  tree_settle (on_left_at s w r C i E R O) (placed_leaf p B c) hg ht = tree_ordered s w r C i E (placed_leaf p B c) R O tt hg.0
  tree_settle (on_left_at s w r C i E R O) (placed_pair y v q B k F A D o) hg ht =
      let t : PlacedPairs K = placed_pair y v q B k F A D o in
      let low : PlacedPairs K = placed_pair s w unranked C (some F) E o R O in
      let over : Tree K = ordered (tree_in (placed_pair y v q C k F A D low)) in
      let stay : Tree K = ordered (tree_in (placed_pair s w r C i E t R O)) in
      (elim (earlier (rank D) (rank R)) as (λ b. tree_in (cond b (ordered_at y v C k F A D low) (ordered_at s w C i E t R O)) ≡ cond b over stay) [
        | true ↦ tree_ordered y v q C k F A D low ht.1 ht.2
        | false ↦ tree_ordered s w r C i E t R O ht hg.0
      ])
      ∙ ap (λ z. cond (earlier z (rank R)) over stay) (rank_node_rank D ht.2) ∙ ap (λ z. cond (earlier (node_rank (tree_in D)) z) over stay) (rank_node_rank R hg.0)
  tree_settle (on_right_at s w r C i E L O) t hg ht = tree_ordered s w r C i E L t O hg.0 ht
  tree_settle (on_outer_at s w r C i E L R) (placed_leaf p B c) hg ht = refl
  tree_settle (on_outer_at s w r C i E L R) (placed_pair x v q B k F A D o) hg ht =
      let t : PlacedPairs K = placed_pair x v q B k F A D o in
      let low : PlacedPairs K = placed_pair s w r (outer (tree_in A)) i E L R A in
      let over : Tree K = ordered (tree_in (placed_pair x v q B i F low D o)) in
      let stay : Tree K = tree_in (placed_pair s w r C i E L R t) in
      (elim (earlier (rank D) (rank R)) as (λ b. tree_in (cond b (ordered_at x v B i F low D o) (placed_pair s w r C i E L R t)) ≡ cond b over stay) [
        | true ↦ tree_ordered x v q B i F low D o (hg.0, hg.1, hg.2, ht.1) ht.2
        | false ↦ refl
      ])
      ∙ ap (λ z. cond (earlier z (rank R)) over stay) (rank_node_rank D ht.2) ∙ ap (λ z. cond (earlier (node_rank (tree_in D)) z) over stay) (rank_node_rank R hg.2)

  pub ranks_settle : (g : PairFrame K) (t : PlacedPairs K) → FrameRanksStand g → RanksStand t → RanksStand (settled_at g t)
  ranks_settle (on_left_at s w r C i E R O) (placed_leaf p B c) hg ht = ranks_ordered s w C i E (placed_leaf p B c) R O tt hg.0 hg.1
  ranks_settle (on_left_at s w r C i E R O) (placed_pair y v q B k F A D o) hg ht =
      let t : PlacedPairs K = placed_pair y v q B k F A D o in
      let low : PlacedPairs K = placed_pair s w unranked C (some F) E o R O in
      elim (earlier (rank D) (rank R)) as (λ b. RanksStand (cond b (ordered_at y v C k F A D low) (ordered_at s w C i E t R O))) [
        | true ↦ ranks_ordered y v C k F A D low ht.1 ht.2 (refl, ht.3, hg.0, hg.1)
        | false ↦ ranks_ordered s w C i E t R O ht hg.0 hg.1
      ]
  ranks_settle (on_right_at s w r C i E L O) t hg ht = ranks_ordered s w C i E L t O hg.0 ht hg.1
  ranks_settle (on_outer_at s w r C i E L R) (placed_leaf p B c) hg ht = (hg.0, hg.1, hg.2, tt)
  ranks_settle (on_outer_at s w r C i E L R) (placed_pair x v q B k F A D o) hg ht =
      let t : PlacedPairs K = placed_pair x v q B k F A D o in
      let low : PlacedPairs K = placed_pair s w r (outer (tree_in A)) i E L R A in
      elim (earlier (rank D) (rank R)) as (λ b. RanksStand (cond b (ordered_at x v B i F low D o) (placed_pair s w r C i E L R t))) [
        | true ↦ ranks_ordered x v B i F low D o (hg.0, hg.1, hg.2, ht.1) ht.2 ht.3
        | false ↦ (hg.0, hg.1, hg.2, ht)
      ]

  -- all the frames
  pub tree_frames : (gs : List (PairFrame K)) (t : PlacedPairs K) → tree_in (put_in_all gs t) ≡ plug_all (frames gs) (tree_in t)
  tree_frames [] t = refl
  tree_frames (on_left_at s w r C i E R O ∷ gs) t = tree_frames gs (placed_pair s w r C i E t R O)
  tree_frames (on_right_at s w r C i E L O ∷ gs) t = tree_frames gs (placed_pair s w r C i E L t O)
  tree_frames (on_outer_at s w r C i E L R ∷ gs) t = tree_frames gs (placed_pair s w r C i E L R t)

  pub nodes_frames : (gs : List (PairFrame K)) (t : PlacedPairs K) → nodes_of (put_in_all gs t) ≡ plug (node_frames gs) (nodes_of t)
  nodes_frames [] t = refl
  nodes_frames (on_left_at s w r C i E R O ∷ gs) t = nodes_frames gs (placed_pair s w r C i E t R O)
  nodes_frames (on_right_at s w r C i E L O ∷ gs) t = nodes_frames gs (placed_pair s w r C i E L t O)
  nodes_frames (on_outer_at s w r C i E L R ∷ gs) t = nodes_frames gs (placed_pair s w r C i E L R t)

  pub lies_among : (recs : List Record) (gs : List (PairFrame K)) (t : PlacedPairs K) → LiesIn recs (nodes_of (put_in_all gs t)) → LiesAmong recs (node_frames gs) (nodes_of t)
  lies_among recs gs t h = unplug recs (node_frames gs) (nodes_of t) (subst (LiesIn recs) (nodes_frames gs t) h)

  pub lies_whole : (recs : List Record) (gs : List (PairFrame K)) (t : PlacedPairs K) → LiesAmong recs (node_frames gs) (nodes_of t) → LiesIn recs (nodes_of (put_in_all gs t))
  lies_whole recs gs t h = subst (LiesIn recs) (sym (nodes_frames gs t)) (replug recs (node_frames gs) (nodes_of t) h)

  pub tree_settles : (gs : List (PairFrame K)) (t : PlacedPairs K) → FramesRanksStand gs → RanksStand t → tree_in (settled_all gs t) ≡ settle_all (frames gs) (tree_in t)
  tree_settles [] t hg ht = refl
  tree_settles (g ∷ gs) t hg ht =
      tree_settles gs (settled_at g t) hg.1 (ranks_settle g t hg.0 ht) ∙ ap (settle_all (frames gs)) (tree_settle g t hg.0 ht)

  pub ranks_settles : (gs : List (PairFrame K)) (t : PlacedPairs K) → FramesRanksStand gs → RanksStand t → RanksStand (settled_all gs t)
  ranks_settles [] t hg ht = ht
  ranks_settles (g ∷ gs) t hg ht = ranks_settles gs (settled_at g t) hg.1 (ranks_settle g t hg.0 ht)

  -- the ranks that stand in the whole stand in the frames and in what is in them
  pub ranks_parts : (gs : List (PairFrame K)) (t : PlacedPairs K) → RanksStand (put_in_all gs t) → FramesRanksStand gs × RanksStand t
  ranks_parts [] t h = (tt, h)
  ranks_parts (on_left_at s w r C i E R O ∷ gs) t h = let k = ranks_parts gs (placed_pair s w r C i E t R O) h in (((k.1.2, k.1.3), k.0), k.1.1)
  ranks_parts (on_right_at s w r C i E L O ∷ gs) t h = let k = ranks_parts gs (placed_pair s w r C i E L t O) h in (((k.1.1, k.1.3), k.0), k.1.2)
  ranks_parts (on_outer_at s w r C i E L R ∷ gs) t h = let k = ranks_parts gs (placed_pair s w r C i E L R t) h in (((k.1.0, k.1.1, k.1.2), k.0), k.1.3)
