-- The promotions and the order of a pair in the table are those of the tree with its places.
use Rattle.std.proofs.Common.{◌≡◌, ℕ, ◌+◌, ◌<◌, ◌≤◌, true, false, cond, List, [], ◌∷◌, length, sym, ap, ◌∙◌, subst, arith, Some}
use mathlib.Core.Option.{Option, none, some}
use Rattle.records.specs.declared.record.Record.{Record}
use Rattle.records.specs.declared.record.BoxNumbers.{BoxNumbers}
use Rattle.records.specs.declared.kind.Kind.TheVariants.{Shrink, Split}
use Rattle.place.specs.Boxes.{Box}
use Rattle.quadtreap.specs.Tree.{outer}
use Rattle.quadtreap.specs.declared.rank.Rank.{Rank}
use Rattle.quadtreap.specs.Rank.{earlier}
use Rattle.quadtreap.specs.Pairs.{unranked}
use Rattle.records.specs.Links.{Link}
use Rattle.records.specs.PlacedNodes.{shrinks, in_record, inner_numbers, numbers_of, PlacedNodes, node_at, pair_at, ordered_nodes, carried, unplaced, place_of, occurs, Lies, NodesRecorded, NodeFrame, above}
use Rattle.records.specs.Writes.{at, Write, write, wrote, with_parent, relinked, promoted_left, promoted_outer, ranked, swapped, ordered_in}
use Rattle.records.proofs.FrameLaws.{touched, In, here, there, root_le, root_lies, root_outer, root_rank, root_sized, occurs_around, LiesAmong}
use Rattle.records.proofs.WriteLaws.{stays, written, moves, holds_on, stays_in, written_in, holds_in}

module _ {K : Type 0} (recs : List Record) (f : List (NodeFrame K)) where
  -- the left child rises
  module _ (x w y : ℕ) (r q : Rank) (C E B : Box) (i k : Option Box) (P o R O : PlacedNodes K) (h : LiesAmong recs f (pair_at x w r C i E (node_at shrinks y q B k P o) R O)) where
    abbrev pub left_writes : List Write
    left_writes =
        write x (in_record Shrink C (some (outer (unplaced P))) w (place_of O) (Some y) unranked)
        ∷ write w (in_record Split E (some (outer (unplaced P))) (place_of o) (place_of R) (Some x) unranked)
        ∷ write y (in_record Shrink C k (place_of P) x (above f) q)
        ∷ write (place_of o) (with_parent (at recs (place_of o)) (Some w))
        ∷ []

    pub left_computes : promoted_left recs x ≡ wrote left_writes (relinked recs (above f) x y)
    left_computes =
        let e1 = h.laid.0.reads in
        let e2 = h.laid.1.0.reads in
        let e3 = h.laid.1.1.0.reads in
        let e4 : (at recs (place_of P)).outer ≡ numbers_of (outer (unplaced P)) = ap (λ (r : Record). r.outer) (root_lies recs (Some y) P h.laid.1.1.1).reads ∙ root_outer (Some y) P in
        simp (e1, e2, e3, e4)

    left_apart : (j : ℕ) → touched j left_writes + occurs_around j f ≤ 1
    left_apart j = let n = h.once j in let z = root_le o j in omega arith

    pub rises_left : LiesAmong (promoted_left recs x) f (node_at shrinks y q C k P (pair_at x w unranked C (some (outer (unplaced P))) E o R O))
    rises_left =
        let l = h.laid in
        let s = h.sized in
        let stay : (p : Link) (t : PlacedNodes K) → ((j : ℕ) → occurs j t + (touched j left_writes + occurs_around j f) ≤ 1) → NodesRecorded recs p t → NodesRecorded (wrote left_writes (relinked recs (above f) x y)) p t = stays recs f x y left_writes left_apart in
        let land : (j : ℕ) (v : Record) → In (write j v) left_writes → j < length recs → Lies (wrote left_writes (relinked recs (above f) x y)) j v = written recs f x y left_writes left_apart in
        subst (λ t. LiesAmong t f (node_at shrinks y q C k P (pair_at x w unranked C (some (outer (unplaced P))) E o R O))) (sym left_computes)
        record {
          laid = (
            land y _ (there (there here)) l.1.1.0.within,
            stay (Some y) P (λ j. let n = h.once j in let z = root_le o j in omega arith) l.1.1.1,
            (
              land x _ here l.0.within,
              (
                land w _ (there here) l.1.0.within,
                moves recs f x y left_writes left_apart (Some y) (Some w) o (there (there (there here))) (λ j. let n = h.once j in let z = root_le o j in omega arith) l.1.1.2,
                stay (Some w) R (λ j. let n = h.once j in let z = root_le o j in omega arith) l.1.2,
              ),
              stay (Some x) O (λ j. let n = h.once j in let z = root_le o j in omega arith) l.2,
            ),
          );
          around = holds_on recs f x y left_writes left_apart (λ j. let n = h.once j in omega arith) h.around;
          once = λ j. let n = h.once j in omega arith;
          low = λ j u. let n = h.low j u in omega arith;
          sized = (s.0, s.2.2.1, s.2.2.2, (s.0, root_sized P s.2.2.2, (s.2.0, root_sized P s.2.2.2, s.2.2.3, s.2.3), s.3));
          framed = h.framed;
        }

  -- the outer child rises
  module _ (s x w : ℕ) (r q : Rank) (C B E : Box) (i k : Option Box) (P L R O : PlacedNodes K) (h : LiesAmong recs f (node_at shrinks s r C i P (pair_at x w q B k E L R O))) where
    abbrev pub outer_writes : List Write
    outer_writes =
        write s (in_record Shrink (outer (unplaced L)) i (place_of P) (place_of L) (Some w) r)
        ∷ write x (in_record Shrink B i w (place_of O) (above f) q)
        ∷ write w (in_record Split E i s (place_of R) (Some x) q)
        ∷ write (place_of L) (with_parent (at recs (place_of L)) (Some s))
        ∷ []

    pub outer_computes : promoted_outer recs s ≡ wrote outer_writes (relinked recs (above f) s x)
    outer_computes =
        let e1 = h.laid.0.reads in
        let e2 = h.laid.2.0.reads in
        let e3 = h.laid.2.1.0.reads in
        let e4 : (at recs (place_of L)).outer ≡ numbers_of (outer (unplaced L)) = ap (λ (r : Record). r.outer) (root_lies recs (Some w) L h.laid.2.1.1).reads ∙ root_outer (Some w) L in
        simp (e1, e2, e3, e4)

    outer_apart : (j : ℕ) → touched j outer_writes + occurs_around j f ≤ 1
    outer_apart j = let n = h.once j in let z = root_le L j in omega arith

    pub rises_outer : LiesAmong (promoted_outer recs s) f (pair_at x w q B i E (node_at shrinks s r (outer (unplaced L)) i P L) R O)
    rises_outer =
        let l = h.laid in
        let z = h.sized in
        let stay : (p : Link) (t : PlacedNodes K) → ((j : ℕ) → occurs j t + (touched j outer_writes + occurs_around j f) ≤ 1) → NodesRecorded recs p t → NodesRecorded (wrote outer_writes (relinked recs (above f) s x)) p t = stays recs f s x outer_writes outer_apart in
        let land : (j : ℕ) (v : Record) → In (write j v) outer_writes → j < length recs → Lies (wrote outer_writes (relinked recs (above f) s x)) j v = written recs f s x outer_writes outer_apart in
        subst (λ t. LiesAmong t f (pair_at x w q B i E (node_at shrinks s r (outer (unplaced L)) i P L) R O)) (sym outer_computes)
        record {
          laid = (
            land x _ (there here) l.2.0.within,
            (
              land w _ (there (there here)) l.2.1.0.within,
              (
                land s _ here l.0.within,
                stay (Some s) P (λ j. let n = h.once j in let z = root_le L j in omega arith) l.1,
                moves recs f s x outer_writes outer_apart (Some w) (Some s) L (there (there (there here))) (λ j. let n = h.once j in let z = root_le L j in omega arith) l.2.1.1,
              ),
              stay (Some w) R (λ j. let n = h.once j in let z = root_le L j in omega arith) l.2.1.2,
            ),
            stay (Some x) O (λ j. let n = h.once j in let z = root_le L j in omega arith) l.2.2,
          );
          around = holds_on recs f s x outer_writes outer_apart (λ j. let n = h.once j in omega arith) h.around;
          once = λ j. let n = h.once j in omega arith;
          low = λ j u. let n = h.low j u in omega arith;
          sized = (z.3.0, z.1, (z.3.2.0, z.1, (root_sized L z.3.2.2, z.1, z.2, z.3.2.2), z.3.2.3), z.3.3);
          framed = h.framed;
        }

  -- a pair in its place
  module _ (s w : ℕ) (r : Rank) (C : Box) (i : Option Box) (E : Box) (L R O : PlacedNodes K) (h : LiesAmong recs f (pair_at s w r C i E L R O)) where
    -- another rank
    module _ (q : Rank) where
      abbrev pub rank_writes : List Write
      rank_writes = write s (in_record Shrink C i w (place_of O) (above f) q) ∷ write w (in_record Split E i (place_of L) (place_of R) (Some s) q) ∷ []

      pub rank_computes : ranked recs s q ≡ wrote rank_writes recs
      rank_computes = let e1 = h.laid.0.reads in let e2 = h.laid.1.0.reads in simp (e1, e2)

      rank_apart : (j : ℕ) → touched j rank_writes + occurs_around j f ≤ 1
      rank_apart j = let n = h.once j in omega arith

      pub ranks : LiesAmong (ranked recs s q) f (pair_at s w q C i E L R O)
      ranks =
          let l = h.laid in
          subst (λ t. LiesAmong t f (pair_at s w q C i E L R O)) (sym rank_computes)
          record {
            laid = (
              written_in recs f rank_writes rank_apart s _ here l.0.within,
              (
                written_in recs f rank_writes rank_apart w _ (there here) l.1.0.within,
                stays_in recs f rank_writes rank_apart (Some w) L (λ j. let n = h.once j in omega arith) l.1.1,
                stays_in recs f rank_writes rank_apart (Some w) R (λ j. let n = h.once j in omega arith) l.1.2,
              ),
              stays_in recs f rank_writes rank_apart (Some s) O (λ j. let n = h.once j in omega arith) l.2,
            );
            around = holds_in recs f rank_writes rank_apart s h.around;
            once = h.once;
            low = h.low;
            sized = h.sized;
            framed = h.framed;
          }

    -- left and right change places
    abbrev pub swap_writes : List Write
    swap_writes = write s (in_record Shrink C i w (place_of O) (above f) (carried R)) ∷ write w (in_record Split E i (place_of R) (place_of L) (Some s) (carried R)) ∷ []

    pub left_rank : (at recs (place_of L)).rank ≡ carried L
    left_rank = ap (λ (v : Record). v.rank) (root_lies recs (Some w) L h.laid.1.1).reads ∙ root_rank (Some w) L

    pub right_rank : (at recs (place_of R)).rank ≡ carried R
    right_rank = ap (λ (v : Record). v.rank) (root_lies recs (Some w) R h.laid.1.2).reads ∙ root_rank (Some w) R

    pub swap_computes : swapped recs s ≡ wrote swap_writes recs
    swap_computes =
        let e1 = h.laid.0.reads in
        let e2 = h.laid.1.0.reads in
        let e3 = right_rank in
        simp (e1, e2, e3)

    swap_apart : (j : ℕ) → touched j swap_writes + occurs_around j f ≤ 1
    swap_apart j = let n = h.once j in omega arith

    pub exchanges : LiesAmong (swapped recs s) f (pair_at s w (carried R) C i E R L O)
    exchanges =
        let l = h.laid in
        let z = h.sized in
        subst (λ t. LiesAmong t f (pair_at s w (carried R) C i E R L O)) (sym swap_computes)
        record {
          laid = (
            written_in recs f swap_writes swap_apart s _ here l.0.within,
            (
              written_in recs f swap_writes swap_apart w _ (there here) l.1.0.within,
              stays_in recs f swap_writes swap_apart (Some w) R (λ j. let n = h.once j in omega arith) l.1.2,
              stays_in recs f swap_writes swap_apart (Some w) L (λ j. let n = h.once j in omega arith) l.1.1,
            ),
            stays_in recs f swap_writes swap_apart (Some s) O (λ j. let n = h.once j in omega arith) l.2,
          );
          around = holds_in recs f swap_writes swap_apart s h.around;
          once = λ j. let n = h.once j in omega arith;
          low = λ j u. let n = h.low j u in omega arith;
          sized = (z.0, z.1, (z.2.0, z.2.1, z.2.3, z.2.2), z.3);
          framed = h.framed;
        }

    -- in the order of the ranks
    abbrev pub by_ranks : Rattle.std.specs.Prelude.Option BoxNumbers → Rank → Rank → List Record
    by_ranks g a b = cond (Rattle.std.specs.Option.is_none g) (cond (earlier b a) (swapped recs s) (ranked recs s a)) (ranked recs s unranked)

    pub ordered_computes : ordered_in recs s ≡ by_ranks (inner_numbers i) (carried L) (carried R)
    ordered_computes =
        let e1 = h.laid.0.reads in
        let e2 : at recs (at recs s).first ≡ in_record Split E i (place_of L) (place_of R) (Some s) r = ap (λ (v : Record). at recs v.first) e1 ∙ h.laid.1.0.reads in
        let a : (at recs (at recs (at recs s).first).first).rank ≡ carried L = ap (λ (v : Record). (at recs v.first).rank) e2 ∙ left_rank in
        let b : (at recs (at recs (at recs s).first).second).rank ≡ carried R = ap (λ (v : Record). (at recs v.second).rank) e2 ∙ right_rank in
        ap (λ (v : Record). by_ranks v.inner ((at recs (at recs (at recs s).first).first).rank) ((at recs (at recs (at recs s).first).second).rank)) e1
        ∙ ap (λ (v : Rank). by_ranks (inner_numbers i) v ((at recs (at recs (at recs s).first).second).rank)) a
        ∙ ap (λ (v : Rank). by_ranks (inner_numbers i) (carried L) v) b

  pub orders : (s w : ℕ) (r : Rank) (C : Box) (i : Option Box) (E : Box) (L R O : PlacedNodes K) → LiesAmong recs f (pair_at s w r C i E L R O) → LiesAmong (ordered_in recs s) f (ordered_nodes s w C i E L R O)
  orders s w r C none E L R O h =
      subst (λ t. LiesAmong t f (ordered_nodes s w C none E L R O)) (sym (ordered_computes s w r C none E L R O h))
      (elim (earlier (carried R) (carried L)) as (λ b. LiesAmong (cond b (swapped recs s) (ranked recs s (carried L))) f (cond b (pair_at s w (carried R) C none E R L O) (pair_at s w (carried L) C none E L R O))) [
        | true ↦ exchanges s w r C none E L R O h
        | false ↦ ranks s w r C none E L R O h (carried L)
      ])
  orders s w r C (some I) E L R O h =
      subst (λ t. LiesAmong t f (pair_at s w unranked C (some I) E L R O)) (sym (ordered_computes s w r C (some I) E L R O h))
      (ranks s w r C (some I) E L R O h unranked)
