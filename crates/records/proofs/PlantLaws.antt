-- A leaf becomes a pair.
use Rattle.std.proofs.Common.{◌≡◌, ℕ, suc, ◌+◌, ◌<◌, ◌≤◌, min, List, [], ◌∷◌, length, sym, ap, ◌∙◌, subst, arith, Some}
use mathlib.Core.Option.{none, some}
use Rattle.records.specs.declared.record.BoxNumbers.{BoxNumbers}
use Rattle.records.specs.declared.record.Record.{Record}
use Rattle.records.specs.declared.places.FourPlaces.{FourPlaces}
use Rattle.records.specs.declared.kind.Kind.TheVariants.{Reading as ReadingKind, Box as BoxKind, Shrink, Split}
use Rattle.place.specs.Boxes.{Box, cut, point, smallest, half}
use Rattle.quadtreap.specs.Tree.{Reading, Content, reading, box, leaf, point_of, box_in, extent}
use Rattle.quadtreap.specs.declared.rank.Rank.{Rank}
use Rattle.quadtreap.specs.Rank.{rank_of}
use Rattle.quadtreap.specs.Pairs.{unranked}
use Rattle.quadtreap.specs.Enter.{plant}
use Rattle.records.specs.PlacedNodes.{leaf_at, pair_at, in_record, leaf_kind, leaf_rank, record_of, Lies, NodeFrame, above}
use Rattle.records.specs.Writes.{at, Write, write, wrote, relinked, content_numbers, box_of, joined_in, ordered_in, planted}
use Rattle.records.specs.PlacedPairs.{placed_leaf, nodes_of, tree_in, RanksStand, Free, planted_at}
use Rattle.records.proofs.FrameLaws.{touched, In, here, there, occurs_around, LiesAmong}
use Rattle.records.proofs.WriteLaws.{written, holds_on}
use Rattle.records.proofs.PromoteLaws.{orders}
use Rattle.records.proofs.SettleLaws.{nodes_ordered, place_ordered}
use Rattle.records.proofs.PairLaws.{tree_ordered, ranks_ordered}

-- The table after a planting, from what is read and written on the way.
pub plants_by : (recs joined ordered : List Record) (i : ℕ) (q : Rank) (n : FourPlaces) (r : Record) (b : BoxNumbers) (e : Box) → r ≡ at recs i → b ≡ content_numbers r → e ≡ smallest (box_of b) (point q.code)
    → joined ≡ joined_in recs i e q n → ordered ≡ ordered_in joined n.shrink → ordered ≡ planted recs i q n
plants_by recs joined ordered i q n r b e is is' on j o =
    o
    ∙ ap (λ t. ordered_in t n.shrink) (j ∙ ap (λ v. joined_in recs i v q n) (on ∙ ap (λ (v : BoxNumbers). smallest (box_of v) (point q.code)) (is' ∙ ap content_numbers is)))

module _ {K : Type 0} (recs : List Record) (f : List (NodeFrame K)) (i : ℕ) (C : Box) (p : Reading K) (n : FourPlaces) where
  abbrev pub new_box : Content K → Box
  new_box c = smallest (extent c) (point_of p)

  -- The writes of a new pair, with halves of depth m.
  abbrev halved_writes : ℕ → Content K → List Write
  halved_writes m c =
      write i (in_record (leaf_kind c) (cut m (extent c).code) (box_in c) 65535 65535 (Some n.split) (leaf_rank c))
      ∷ write n.reading (in_record ReadingKind (cut m p.code) none 65535 65535 (Some n.split) (rank_of p))
      ∷ write n.outer (in_record BoxKind C (some (new_box c)) 65535 65535 (Some n.shrink) unranked)
      ∷ write n.split (in_record Split (new_box c) (box_in c) i n.reading (Some n.shrink) unranked)
      ∷ write n.shrink (in_record Shrink C (box_in c) n.split n.outer (above f) unranked)
      ∷ []

  abbrev pub new_writes : Content K → List Write
  new_writes c = halved_writes (suc (new_box c).depth) c

  abbrev pub table : List Record
  table = joined_in recs i (smallest (box_of (content_numbers (at recs i))) (point p.code)) (rank_of p) n

  halved : (c : Content K) → Lies recs i (record_of (above f) (leaf_at i C c)) → table ≡ wrote (halved_writes (min (suc (new_box c).depth) 32) c) (relinked recs (above f) i n.shrink)
  halved (reading r) h = let e = h.reads in simp e
  halved (box I) h = let e = h.reads in simp e

  pub computes : (c : Content K) → (new_box c).depth < 32 → Lies recs i (record_of (above f) (leaf_at i C c)) → table ≡ wrote (new_writes c) (relinked recs (above f) i n.shrink)
  computes c small h =
      let deep : min (suc (new_box c).depth) 32 ≡ suc (new_box c).depth = omega arith in
      halved c h ∙ ap (λ m. wrote (halved_writes m c) (relinked recs (above f) i n.shrink)) deep

  module _ (c : Content K) (h : LiesAmong recs f (leaf_at i C c)) (free : Free recs (placed_leaf i C c) n) (new : (j : ℕ) → touched j (new_writes c) + occurs_around j f ≤ 1) (small : (new_box c).depth < 32) where
    abbrev ws : List Write
    ws = new_writes c

    land : (j : ℕ) (v : Record) → In (write j v) ws → j < length recs → Lies (wrote ws (relinked recs (above f) i n.shrink)) j v
    land = written recs f i n.shrink ws new

    pub joins : LiesAmong table f (pair_at n.shrink n.split unranked C (box_in c) (new_box c) (leaf_at i (half (new_box c) (extent c)) c) (leaf_at n.reading (half (new_box c) (point_of p)) (reading p)) (leaf_at n.outer C (box (new_box c))))
    joins =
        subst (λ t. LiesAmong t f (pair_at n.shrink n.split unranked C (box_in c) (new_box c) (leaf_at i (half (new_box c) (extent c)) c) (leaf_at n.reading (half (new_box c) (point_of p)) (reading p)) (leaf_at n.outer C (box (new_box c))))) (sym (computes c small h.laid))
        record {
          laid = (
            land n.shrink _ (there (there (there (there here)))) free.shrink,
            (
              land n.split _ (there (there (there here))) free.split,
              land i _ here h.laid.within,
              land n.reading _ (there here) free.reading,
            ),
            land n.outer _ (there (there here)) free.outer,
          );
          around = holds_on recs f i n.shrink ws new (λ j. let q = h.once j in omega arith) h.around;
          once = λ j. let q = new j in omega arith;
          low = λ j u. let q = h.low j u in let z = free.low j u in omega arith;
          sized = (
            h.sized.0,
            h.sized.1,
            (omega arith, h.sized.1, (omega arith, h.sized.1), (omega arith, tt)),
            (h.sized.0, omega arith),
          );
          framed = h.framed;
        }

    pub plants : LiesAmong (planted recs i (rank_of p) n) f (nodes_of (planted_at n i C c p))
    plants =
        subst (LiesAmong (planted recs i (rank_of p) n) f) (sym (nodes_ordered n.shrink n.split C (box_in c) (new_box c) (placed_leaf i (half (new_box c) (extent c)) c) (placed_leaf n.reading (half (new_box c) (point_of p)) (reading p)) (placed_leaf n.outer C (box (new_box c)))))
        (orders table f n.shrink n.split unranked C (box_in c) (new_box c) _ _ _ joins)

module _ {K : Type 0} where
  pub tree_plant : (n : FourPlaces) (i : ℕ) (C : Box) (c : Content K) (p : Reading K) → tree_in (planted_at n i C c p) ≡ plant (leaf C c) p
  tree_plant n i C c p =
      let E : Box = smallest (extent c) (point_of p) in
      tree_ordered n.shrink n.split unranked C (box_in c) E (placed_leaf i (half E (extent c)) c) (placed_leaf n.reading (half E (point_of p)) (reading p)) (placed_leaf n.outer C (box E)) tt tt

  pub ranks_plant : (n : FourPlaces) (i : ℕ) (C : Box) (c : Content K) (p : Reading K) → RanksStand (planted_at n i C c p)
  ranks_plant n i C c p =
      let E : Box = smallest (extent c) (point_of p) in
      ranks_ordered n.shrink n.split C (box_in c) E (placed_leaf i (half E (extent c)) c) (placed_leaf n.reading (half E (point_of p)) (reading p)) (placed_leaf n.outer C (box E)) tt tt tt

  pub place_plant : (n : FourPlaces) (i : ℕ) (C : Box) (c : Content K) (p : Reading K) → Rattle.records.specs.PlacedPairs.top_place (planted_at n i C c p) ≡ n.shrink
  place_plant n i C c p =
      let E : Box = smallest (extent c) (point_of p) in
      place_ordered n.shrink n.split C (box_in c) E (placed_leaf i (half E (extent c)) c) (placed_leaf n.reading (half E (point_of p)) (reading p)) (placed_leaf n.outer C (box E))
