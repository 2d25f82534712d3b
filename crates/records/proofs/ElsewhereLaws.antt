-- A step changes no record off the places of its tree.
use Rattle.std.proofs.Common.{◌≡◌, ℕ, ◌+◌, ◌<◌, ◌≤◌, true, false, cond, List, ◌∷◌, sym, refl, ap, ◌∙◌, subst, arith}
use mathlib.Core.Option.{Option, some}
use Rattle.records.specs.declared.record.Record.{Record}
use Rattle.records.specs.declared.places.FourPlaces.{FourPlaces}
use Rattle.place.specs.Boxes.{Box}
use Rattle.quadtreap.specs.Tree.{Reading, Content, outer, box_in}
use Rattle.quadtreap.specs.declared.rank.Rank.{Rank}
use Rattle.quadtreap.specs.Rank.{earlier, rank_of}
use Rattle.quadtreap.specs.Pairs.{unranked}
use Rattle.records.specs.PlacedNodes.{shrinks, splits, PlacedNodes, leaf_at, node_at, pair_at, unplaced, carried, inner_numbers, one, occurs, NodeFrame, above}
use Rattle.records.specs.Writes.{Write, wrote, relinked, promoted_left, promoted_outer, ranked, swapped, ordered_in, settled_in, Rise, planted}
use Rattle.records.specs.PlacedPairs.{PlacedPairs, placed_leaf, placed_pair, nodes_of, top_place, PairFrame, on_left_at, on_right_at, on_outer_at, put_in_all, node_frames, made_before, Free, four}
use Rattle.records.specs.Elsewhere.{Elsewhere, places_of}
use Rattle.records.proofs.FrameLaws.{touched, long, reads_on, root_le, occurs_around, occurs_plug, LiesAmong}
use Rattle.records.proofs.PairLaws.{nodes_frames}
use Rattle.records.proofs.WriteLaws.{relinked_long, relinked_reads}
use Rattle.records.proofs.PromoteLaws.{left_writes, left_computes, rises_left, outer_writes, outer_computes, rises_outer, rank_writes, rank_computes, swap_writes, swap_computes, ordered_computes}
use Rattle.records.proofs.SettleLaws.{left_up, left_way, left_goes, right_up, right_goes, outer_up, outer_way, outer_goes}
use Rattle.records.proofs.PlantLaws.{new_writes, table, computes, joins, new_box}

pub same : (used : ℕ → ℕ) (recs : List Record) → Elsewhere used recs recs
same used recs = record { long = refl; reads = λ j h. refl }

pub onward : (used used' : ℕ → ℕ) (a b c : List Record) → ((j : ℕ) → used j ≡ 0 → used' j ≡ 0) → Elsewhere used a b → Elsewhere used' b c → Elsewhere used a c
onward used used' a b c to p q = record { long = q.long ∙ p.long; reads = λ j h. q.reads j (to j h) ∙ p.reads j h }

pub wider : (used used' : ℕ → ℕ) (a b : List Record) → ((j : ℕ) → used j ≡ 0 → used' j ≡ 0) → Elsewhere used' a b → Elsewhere used a b
wider used used' a b to p = record { long = p.long; reads = λ j h. p.reads j (to j h) }

pub by_writes : (used : ℕ → ℕ) (recs : List Record) (ws : List Write) → ((j : ℕ) → used j ≡ 0 → touched j ws ≡ 0) → Elsewhere used recs (wrote ws recs)
by_writes used recs ws off = record { long = Rattle.records.proofs.FrameLaws.long ws recs; reads = λ j h. reads_on ws recs j (off j h) }

module _ {K : Type 0} where
  abbrev pub used_by : List (NodeFrame K) → PlacedNodes K → ℕ → ℕ
  used_by f t j = occurs j t + occurs_around j f

  -- a tree in its frames has the places of both
  pub whole_used : (gs : List (PairFrame K)) (t : PlacedPairs K) (j : ℕ) → places_of (put_in_all gs t) j ≡ used_by (node_frames gs) (nodes_of t) j
  whole_used gs t j = ap (occurs j) (nodes_frames gs t) ∙ occurs_plug (node_frames gs) (nodes_of t) j

  pub same_whole : (gs : List (PairFrame K)) (t : PlacedPairs K) (a b : List Record) → Elsewhere (used_by (node_frames gs) (nodes_of t)) a b → Elsewhere (places_of (put_in_all gs t)) a b
  same_whole gs t a b = wider _ _ a b (λ j z. sym (whole_used gs t j) ∙ z)

  pub by_relinking : (used : ℕ → ℕ) (recs : List Record) (f : List (NodeFrame K)) (x y : ℕ) (ws : List Write) → ((j : ℕ) → used j ≡ 0 → touched j ws + occurs_around j f ≡ 0) → Elsewhere used recs (wrote ws (relinked recs (above f) x y))
  by_relinking used recs f x y ws off = record {
    long = Rattle.records.proofs.FrameLaws.long ws (relinked recs (above f) x y) ∙ relinked_long recs (above f) x y;
    reads = λ j h. let z = off j h in reads_on ws (relinked recs (above f) x y) j (omega arith) ∙ relinked_reads recs f x y j (omega arith);
  }

  module _ (recs : List Record) (f : List (NodeFrame K)) where
    pub off_left : (x w y : ℕ) (r q : Rank) (C E B : Box) (i k : Option Box) (P o R O : PlacedNodes K) (h : LiesAmong recs f (pair_at x w r C i E (node_at shrinks y q B k P o) R O))
        → Elsewhere (used_by f (pair_at x w r C i E (node_at shrinks y q B k P o) R O)) recs (promoted_left recs x)
    off_left x w y r q C E B i k P o R O h =
        subst (Elsewhere (used_by f (pair_at x w r C i E (node_at shrinks y q B k P o) R O)) recs) (sym (left_computes recs f x w y r q C E B i k P o R O h))
        (by_relinking _ recs f x y (left_writes recs f x w y r q C E B i k P o R O h) (λ j z. let n = root_le o j in omega arith))

    pub off_outer : (s x w : ℕ) (r q : Rank) (C B E : Box) (i k : Option Box) (P L R O : PlacedNodes K) (h : LiesAmong recs f (node_at shrinks s r C i P (pair_at x w q B k E L R O)))
        → Elsewhere (used_by f (node_at shrinks s r C i P (pair_at x w q B k E L R O))) recs (promoted_outer recs s)
    off_outer s x w r q C B E i k P L R O h =
        subst (Elsewhere (used_by f (node_at shrinks s r C i P (pair_at x w q B k E L R O))) recs) (sym (outer_computes recs f s x w r q C B E i k P L R O h))
        (by_relinking _ recs f s x (outer_writes recs f s x w r q C B E i k P L R O h) (λ j z. let n = root_le L j in omega arith))

    module _ (s w : ℕ) (r : Rank) (C : Box) (i : Option Box) (E : Box) (L R O : PlacedNodes K) (h : LiesAmong recs f (pair_at s w r C i E L R O)) where
      abbrev all : ℕ → ℕ
      all = used_by f (pair_at s w r C i E L R O)

      pub off_rank : (q : Rank) → Elsewhere all recs (ranked recs s q)
      off_rank q = subst (Elsewhere all recs) (sym (rank_computes recs f s w r C i E L R O h q)) (by_writes all recs (rank_writes recs f s w r C i E L R O h q) (λ j z. omega arith))

      pub off_swap : Elsewhere all recs (swapped recs s)
      off_swap = subst (Elsewhere all recs) (sym (swap_computes recs f s w r C i E L R O h)) (by_writes all recs (swap_writes recs f s w r C i E L R O h) (λ j z. omega arith))

      pub off_ordered : Elsewhere all recs (ordered_in recs s)
      off_ordered =
          subst (Elsewhere all recs) (sym (ordered_computes recs f s w r C i E L R O h))
          (elim (Rattle.std.specs.Option.is_none (inner_numbers i)) as (λ b. Elsewhere all recs (cond b (cond (earlier (carried R) (carried L)) (swapped recs s) (ranked recs s (carried L))) (ranked recs s unranked))) [
            | true ↦ elim (earlier (carried R) (carried L)) as (λ b. Elsewhere all recs (cond b (swapped recs s) (ranked recs s (carried L)))) [ true ↦ off_swap | false ↦ off_rank (carried L) ]
            | false ↦ off_rank unranked
          ])

  module _ (recs : List Record) where
    pub off_settle : (gs : List (PairFrame K)) (g : PairFrame K) (t : PlacedPairs K) → LiesAmong recs (node_frames (g ∷ gs)) (nodes_of t) → Elsewhere (used_by (node_frames (g ∷ gs)) (nodes_of t)) recs (settled_in recs (top_place t)).table
    off_settle gs (on_left_at s w r C i E R O) (placed_leaf p B c) h =
        subst (λ (v : Rise). Elsewhere (used_by (node_frames (on_left_at s w r C i E R O ∷ gs)) (leaf_at p B c)) recs v.table) (sym (left_goes recs gs s w r C i E R O (placed_leaf p B c) h))
        (wider _ _ recs _ (λ j z. omega arith) (off_ordered recs (node_frames gs) s w r C i E (leaf_at p B c) (nodes_of R) (nodes_of O) (left_up recs gs s w r C i E R O (placed_leaf p B c) h)))
    off_settle gs (on_left_at s w r C i E R O) (placed_pair y v q B k F A D o) h =
        let t : PlacedPairs K = placed_pair y v q B k F A D o in
        let lu = left_up recs gs s w r C i E R O t h in
        let used : ℕ → ℕ = used_by (node_frames (on_left_at s w r C i E R O ∷ gs)) (nodes_of t) in
        let P : PlacedNodes K = node_at splits v q F k (nodes_of A) (nodes_of D) in
        let low : PlacedPairs K = placed_pair s w unranked C (some F) E o R O in
        let up = rises_left recs (node_frames gs) s w y r q C E B i k P (nodes_of o) (nodes_of R) (nodes_of O) lu in
        subst (λ (z : Rise). Elsewhere used recs z.table) (sym (left_goes recs gs s w r C i E R O t h))
        (elim (made_before t R) as (λ b. Elsewhere used recs (left_way recs gs s w r C i E R O t h b).table) [
          | true ↦ onward used _ recs (promoted_left recs s) _ (λ j z. omega arith) (wider used _ recs _ (λ j z. omega arith) (off_left recs (node_frames gs) s w y r q C E B i k P (nodes_of o) (nodes_of R) (nodes_of O) lu))
              (off_ordered (promoted_left recs s) (node_frames gs) y v q C k F (nodes_of A) (nodes_of D) (nodes_of low) up)
          | false ↦ wider used _ recs _ (λ j z. omega arith) (off_ordered recs (node_frames gs) s w r C i E (nodes_of t) (nodes_of R) (nodes_of O) lu)
        ])
    off_settle gs (on_right_at s w r C i E L O) t h =
        subst (λ (v : Rise). Elsewhere (used_by (node_frames (on_right_at s w r C i E L O ∷ gs)) (nodes_of t)) recs v.table) (sym (right_goes recs gs s w r C i E L O t h))
        (wider _ _ recs _ (λ j z. omega arith) (off_ordered recs (node_frames gs) s w r C i E (nodes_of L) (nodes_of t) (nodes_of O) (right_up recs gs s w r C i E L O t h)))
    off_settle gs (on_outer_at s w r C i E L R) (placed_leaf p B c) h =
        subst (λ (v : Rise). Elsewhere (used_by (node_frames (on_outer_at s w r C i E L R ∷ gs)) (leaf_at p B c)) recs v.table) (sym (outer_goes recs gs s w r C i E L R (placed_leaf p B c) h))
        (same _ recs)
    off_settle gs (on_outer_at s w r C i E L R) (placed_pair x v q B k F A D o) h =
        let t : PlacedPairs K = placed_pair x v q B k F A D o in
        let ou = outer_up recs gs s w r C i E L R t h in
        let used : ℕ → ℕ = used_by (node_frames (on_outer_at s w r C i E L R ∷ gs)) (nodes_of t) in
        let P : PlacedNodes K = node_at splits w r E i (nodes_of L) (nodes_of R) in
        let low : PlacedPairs K = placed_pair s w r (outer (unplaced (nodes_of A))) i E L R A in
        let up = rises_outer recs (node_frames gs) s x v r q C B F i k P (nodes_of A) (nodes_of D) (nodes_of o) ou in
        subst (λ (z : Rise). Elsewhere used recs z.table) (sym (outer_goes recs gs s w r C i E L R t h))
        (elim (made_before t R) as (λ b. Elsewhere used recs (outer_way recs gs s w r C i E L R t h b).table) [
          | true ↦ onward used _ recs (promoted_outer recs s) _ (λ j z. omega arith) (wider used _ recs _ (λ j z. omega arith) (off_outer recs (node_frames gs) s x v r q C B F i k P (nodes_of A) (nodes_of D) (nodes_of o) ou))
              (off_ordered (promoted_outer recs s) (node_frames gs) x v q B i F (nodes_of low) (nodes_of D) (nodes_of o) up)
          | false ↦ same used recs
        ])

  pub off_plant : (recs : List Record) (f : List (NodeFrame K)) (i : ℕ) (C : Box) (p : Reading K) (n : FourPlaces) (c : Content K) (h : LiesAmong recs f (leaf_at i C c)) (free : Free recs (placed_leaf i C c) n)
      (new : (j : ℕ) → touched j (new_writes recs f i C p n c) + occurs_around j f ≤ 1) (small : (new_box recs f i C p n c).depth < 32)
      → Elsewhere (λ j. four j n + (one j i + occurs_around j f)) recs (planted recs i (rank_of p) n)
  off_plant recs f i C p n c h free new small =
      let used : ℕ → ℕ = λ j. four j n + (one j i + occurs_around j f) in
      let first' : Elsewhere used recs (table recs f i C p n) =
      subst (Elsewhere used recs) (sym (computes recs f i C p n c small h.laid)) (by_relinking used recs f i n.shrink (new_writes recs f i C p n c) (λ j z. omega arith)) in
      onward used _ recs (table recs f i C p n) _ (λ j z. omega arith) first'
      (off_ordered (table recs f i C p n) f n.shrink n.split unranked C (box_in c) (new_box recs f i C p n c) _ _ _ (joins recs f i C p n c h free new small))
