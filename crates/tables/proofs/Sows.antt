-- A new pair at fresh places, with its entries.
use Rattle.std.proofs.Common.{◌≡◌, ℕ, ◌+◌, ◌<◌, ◌≤◌, List, length, set, sym, refl, ◌∙◌, subst, arith, length-set, get_or-set_other, Some}
use Rattle.records.specs.declared.record.Record.{Record}
use Rattle.records.specs.declared.places.FourPlaces.{FourPlaces}
use Rattle.place.specs.Boxes.{Box, smallest, half}
use Rattle.quadtreap.specs.Tree.{Reading, Content, reading, box, leaf, point_of, box_in, extent}
use Rattle.quadtreap.specs.Rank.{rank_of}
use Rattle.quadtreap.specs.Walk.{tally_of}
use Rattle.records.specs.PlacedNodes.{leaf_at, one, NodesRecorded, NodeFrame, above}
use Rattle.records.specs.Writes.{planted}
use Rattle.records.specs.PlacedPairs.{PlacedPairs, placed_leaf, nodes_of, Free, four, planted_at}
use Rattle.tables.specs.Totals.{Has, Totals, mended}
use Rattle.records.specs.Elsewhere.{Elsewhere}
use Rattle.records.proofs.FrameLaws.{one_same, differ, occurs_around, LiesAmong}
use Rattle.records.proofs.SettleLaws.{nodes_ordered}
use Rattle.records.proofs.PlantLaws.{plants}
use Rattle.records.proofs.ElsewhereLaws.{off_plant}
use Rattle.tables.proofs.Climbs.{bears_other, bears_same, Beside}
use Rattle.tables.proofs.Mends.{Beyond, onward, beside_in, mends_ordered}

module _ {K : Type 0} (join : K → K → K) (e : K) where
  leaf_sum : (C B : Box) (c : Content K) → tally_of join e (leaf C c) ≡ tally_of join e (leaf B c)
  leaf_sum C B (reading r) = refl
  leaf_sum C B (box I) = refl

  -- the tallies of the two new leaves
  abbrev pub sown : FourPlaces → K → List K → List K
  sown n v ts = set (set ts n.reading v) n.outer e

  pub record Sows (recs recs' : List Record) (ts ts' : List K) (f : List (NodeFrame K)) (i : ℕ) (n : FourPlaces) (t : PlacedPairs K) : Type 0 where
    pub focus : LiesAmong recs' f (nodes_of t)
    pub totals : Totals join e ts' (nodes_of t)
    pub beside : Beside join e ts' f
    pub elsewhere : Elsewhere (λ j. four j n + (one j i + occurs_around j f)) recs recs'
    pub beyond : Beyond join e (λ j. four j n) ts ts'

  pub sows : (recs : List Record) (ts : List K) (f : List (NodeFrame K)) (i : ℕ) (C : Box) (c : Content K) (p : Reading K) (n : FourPlaces) → LiesAmong recs f (leaf_at i C c) → Free recs (placed_leaf i C c) n
      → ((j : ℕ) → four j n + (one j i + occurs_around j f) ≤ 1) → (smallest (extent c) (point_of p)).depth < 32
      → n.shrink < length ts → n.split < length ts → n.reading < length ts → n.outer < length ts → Totals join e ts (leaf_at i C c) → Beside join e ts f
      → Sows recs (planted recs i (rank_of p) n) ts (mended join e (planted recs i (rank_of p) n) (Some n.shrink) (sown n p.tally ts)) f i n (planted_at n i C c p)
  sows recs ts f i C c p n h free once small ls lw lr lo tot bes =
      let E : Box = smallest (extent c) (point_of p) in
      let recs' : List Record = planted recs i (rank_of p) n in
      let ts1 : List K = set ts n.reading p.tally in
      let ts2 : List K = sown n p.tally ts in
      let new : (j : ℕ) → (one j i + (one j n.reading + (one j n.outer + (one j n.split + (one j n.shrink + 0))))) + occurs_around j f ≤ 1 = λ j. let q = once j in omega arith in
      let focus' : LiesAmong recs' f (nodes_of (planted_at n i C c p)) = plants recs f i C p n c h free new small in
      let is = nodes_ordered n.shrink n.split C (box_in c) E (placed_leaf i (half E (extent c)) c) (placed_leaf n.reading (half E (point_of p)) (reading p)) (placed_leaf n.outer C (box E)) in
      let os = one_same n.shrink in
      let oi = one_same i in
      let orr = one_same n.reading in
      let oo = one_same n.outer in
      let qi = once i in
      let qr = once n.reading in
      let qo = once n.outer in
      let leaf' : Has ts2 i (tally_of join e (leaf (half E (extent c)) c)) =
      subst (λ x. Has ts2 i x) (leaf_sum C (half E (extent c)) c) (bears_other join e ts1 n.outer e i _ (omega arith) (bears_other join e ts n.reading p.tally i _ (omega arith) tot)) in
      let read' : Has ts2 n.reading p.tally = bears_other join e ts1 n.outer e n.reading _ (omega arith) (bears_same join e ts n.reading p.tally lr) in
      let out' : Has ts2 n.outer e = bears_same join e ts1 n.outer e (simp length-set lo) in
      let len : length ts2 ≡ length ts = length-set ts1 n.outer e ∙ length-set ts n.reading p.tally in
      let m = mends_ordered join e recs' ts2 (above f) n.shrink n.split C (box_in c) E (leaf_at i (half E (extent c)) c) (leaf_at n.reading (half E (point_of p)) (reading p)) (leaf_at n.outer C (box E))
      (subst (NodesRecorded recs' (above f)) is focus'.laid) (λ j. let q = once j in omega arith) (subst (λ k. n.shrink < k) (sym len) ls) (subst (λ k. n.split < k) (sym len) lw) leaf' read' out' in
      let ts3 : List K = mended join e recs' (Some n.shrink) ts2 in
      let first' : Beyond join e (λ j. four j n) ts ts2 = record {
        long = len;
        reads = λ j d z. get_or-set_other ts1 n.outer j e d (differ j n.outer (omega arith)) ∙ get_or-set_other ts n.reading j p.tally d (differ j n.reading (omega arith));
      } in
      let all : Beyond join e (λ j. four j n) ts ts3 = onward join e (λ j. four j n) _ _ ts ts2 ts3 (λ j z. z) (λ j z. omega arith) first' m.beyond in
      record {
        focus = focus';
        totals = subst (Totals join e ts3) (sym is) m.totals;
        beside = beside_in join e (λ j. four j n) ts ts3 all f (λ j z. let q = once j in omega arith) bes;
        elsewhere = off_plant recs f i C p n c h free new small;
        beyond = all;
      }
