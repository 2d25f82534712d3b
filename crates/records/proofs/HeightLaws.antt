-- The height that the records tell is that of the tree that lies in them.
use Rattle.std.proofs.Common.{◌≡◌, ℕ, zero, suc, ◌-◌, ◌<◌, ◌≤◌, max, true, false, cond, List, sym, refl, ap, ◌∙◌, subst, arith, None, Some}
use Rattle.records.specs.declared.record.Record.{Record}
use Rattle.quadtreap.specs.Tree.{Content, reading, box, nodes, height}
use Rattle.records.specs.Links.{Link}
use Rattle.records.specs.Kinds.{is_leaf}
use Rattle.records.specs.PlacedNodes.{PlacedNodes, leaf_at, node_at, shrinks, splits, unplaced, place_of, leaf_kind, NodesRecorded}
use Rattle.records.specs.Writes.{at}
use Rattle.records.specs.PlacedPairs.{nodes_of}
use Rattle.records.specs.Heights.{height_in, Heights}

-- one more than the greater height of the two children, of n levels each
abbrev over : ℕ → List Record → ℕ → ℕ
over n recs i = suc (max (height_in n recs (at recs i).first) (height_in n recs (at recs i).second))

pub at_leaf : (n : ℕ) (recs : List Record) (i : ℕ) → is_leaf (at recs i).kind ≡ true → height_in n recs i ≡ 0
at_leaf zero recs i low = refl
at_leaf (suc n) recs i low = ap (λ b. cond b 0 (over n recs i)) low

pub at_node : (n : ℕ) (recs : List Record) (i : ℕ) → 0 < n → is_leaf (at recs i).kind ≡ false → height_in n recs i ≡ over (n - 1) recs i
at_node zero recs i some high = absurd (omega arith)
at_node (suc n) recs i some high =
    let back : n ≡ suc n - 1 = omega arith in
    ap (λ b. cond b 0 (over n recs i)) high ∙ ap (λ (m : ℕ). over m recs i) back

leaf_low : {K : Type 0} (c : Content K) → is_leaf (leaf_kind c) ≡ true
leaf_low (reading r) = refl
leaf_low (box I) = refl

module _ (recs : List Record) where
  -- the heights of both children are known
  over_both : (n i a b x y : ℕ) → (at recs i).first ≡ a → (at recs i).second ≡ b → height_in n recs a ≡ x → height_in n recs b ≡ y → over n recs i ≡ suc (max x y)
  over_both n i a b x y ea eb ha hb =
      ap (λ (m : ℕ). suc (max m (height_in n recs (at recs i).second))) (ap (height_in n recs) ea ∙ ha)
      ∙ ap (λ (m : ℕ). suc (max x m)) (ap (height_in n recs) eb ∙ hb)

  pub of_nodes_of : {K : Type 0} (t : PlacedNodes K) (p : Link) (n : ℕ) → NodesRecorded recs p t → nodes (unplaced t) ≤ n → height_in n recs (place_of t) ≡ height (unplaced t)
  of_nodes_of (leaf_at q C c) p n h few = at_leaf n recs q (subst (λ (r : Record). is_leaf r.kind ≡ true) (sym h.reads) (leaf_low c))
  of_nodes_of (node_at shrinks q r C g a b) p n h few =
      at_node n recs q (omega arith) (ap (λ (v : Record). is_leaf v.kind) h.0.reads)
      ∙ over_both (n - 1) q (place_of a) (place_of b) (height (unplaced a)) (height (unplaced b)) (ap (λ (v : Record). v.first) h.0.reads) (ap (λ (v : Record). v.second) h.0.reads)
      (of_nodes_of a (Some q) (n - 1) h.1 (omega arith)) (of_nodes_of b (Some q) (n - 1) h.2 (omega arith))
  of_nodes_of (node_at splits q r C g a b) p n h few =
      at_node n recs q (omega arith) (ap (λ (v : Record). is_leaf v.kind) h.0.reads)
      ∙ over_both (n - 1) q (place_of a) (place_of b) (height (unplaced a)) (height (unplaced b)) (ap (λ (v : Record). v.first) h.0.reads) (ap (λ (v : Record). v.second) h.0.reads)
      (of_nodes_of a (Some q) (n - 1) h.1 (omega arith)) (of_nodes_of b (Some q) (n - 1) h.2 (omega arith))

pub height_lifts : (K : Type 0) (recs : List Record) (i n r : ℕ) → r ≡ height_in n recs i → Heights K recs i n r
height_lifts K recs i n r e t kept top few = e ∙ ap (height_in n recs) top ∙ of_nodes_of recs (nodes_of t) None n kept.laid few
