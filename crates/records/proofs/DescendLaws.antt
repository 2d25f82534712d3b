-- The way down in the table is the way of the code in the tree.
use Rattle.std.proofs.Common.{◌≡◌, ℕ, zero, suc, ◌≤◌, true, false, not, List, [], ◌∷◌, sym, refl, ap, ◌∙◌, subst, inl, inr, arith, None, Some}
use Rattle.std.proofs.lemmas.Bool.{cases_Bool, and_from}
use Rattle.records.specs.declared.record.Record.{Record}
use Rattle.place.specs.Boxes.{holds}
use Rattle.quadtreap.specs.Tree.{Content, reading, box, outer, nodes}
use Rattle.quadtreap.specs.Enter.{leads_all}
use Rattle.records.specs.Links.{Link}
use Rattle.records.specs.Kinds.{is_leaf}
use Rattle.records.specs.PlacedNodes.{leaf_kind, PlacedNodes, NodesRecorded, LiesIn}
use Rattle.records.specs.Writes.{at, box_of, descended}
use Rattle.records.specs.PlacedPairs.{PlacedPairs, placed_leaf, placed_pair, nodes_of, tree_in, top_place, PairFrame, on_left_at, on_right_at, on_outer_at, put_in_all, frames, Reaches}
use Rattle.records.proofs.FrameLaws.{root_lies, root_outer}
use Rattle.records.proofs.DescendSteps.{to_first, stops, goes_first, goes_second}

module _ {K : Type 0} (recs : List Record) (k : ℕ) where
  leaf_below : (c : Content K) → is_leaf (leaf_kind c) ≡ true
  leaf_below (reading r) = refl
  leaf_below (box I) = refl

  first_is : (p : Link) (t : PlacedNodes K) (i : ℕ) → NodesRecorded recs p t → (at recs i).first ≡ Rattle.records.specs.PlacedNodes.place_of t → to_first recs i k ≡ holds (outer (Rattle.records.specs.PlacedNodes.unplaced t)) k
  first_is p t i h e =
      ap (λ j. holds (box_of (at recs j).outer) k) e
      ∙ ap (λ (r : Record). holds (box_of r.outer) k) (root_lies recs p t h).reads
      ∙ ap (λ c. holds (box_of c) k) (root_outer p t)

  pub descends : (n : ℕ) (t : PlacedPairs K) (gs : List (PairFrame K)) (p : Link) → NodesRecorded recs p (nodes_of t) → nodes (tree_in t) ≤ n → leads_all (frames gs) (tree_in t) k ≡ true → Reaches (put_in_all gs t) k (descended n recs (top_place t) k)
  descends n (placed_leaf j C c) gs p h few led =
      subst (Reaches (put_in_all gs (placed_leaf j C c)) k) (sym (stops n recs j k (subst (λ (r : Record). is_leaf r.kind ≡ true) (sym h.reads) (leaf_below c))))
      record { path = gs; box = C; content = c; whole = refl; leads = led }
  descends zero (placed_pair s w r C i E L R O) gs p h few led = absurd (omega arith)
  descends (suc zero) (placed_pair s w r C i E L R O) gs p h few led = absurd (omega arith)
  descends (suc (suc n)) (placed_pair s w r C i E L R O) gs p h few led =
      let t : PlacedPairs K = placed_pair s w r C i E L R O in
      let ks : is_leaf (at recs s).kind ≡ false = ap (λ (v : Record). is_leaf v.kind) h.0.reads in
      let kw : is_leaf (at recs w).kind ≡ false = ap (λ (v : Record). is_leaf v.kind) h.1.0.reads in
      let fs : to_first recs s k ≡ holds E k = first_is (Some s) (Rattle.records.specs.PlacedNodes.node_at Rattle.records.specs.PlacedNodes.splits w r E i (nodes_of L) (nodes_of R)) s h.1 (ap (λ (v : Record). v.first) h.0.reads) in
      let fw : to_first recs w k ≡ holds (outer (tree_in L)) k = first_is (Some w) (nodes_of L) w h.1.1 (ap (λ (v : Record). v.first) h.1.0.reads) in
      elim (cases_Bool (holds E k)) [
        | inl e ↦
            let to_w : descended (suc (suc n)) recs s k ≡ descended (suc n) recs w k =
            goes_first (suc n) recs s k ks (fs ∙ e) ∙ ap (λ (v : Record). descended (suc n) recs v.first k) h.0.reads in
            elim (cases_Bool (holds (outer (tree_in L)) k)) [
              | inl l ↦
                  let to : descended (suc (suc n)) recs s k ≡ descended n recs (top_place L) k =
                  to_w ∙ goes_first n recs w k kw (fw ∙ l) ∙ ap (λ (v : Record). descended n recs v.first k) h.1.0.reads in
                  subst (Reaches (put_in_all gs t) k) (sym to)
                  (descends n L (on_left_at s w r C i E R O ∷ gs) (Some w) h.1.1 (omega arith) (and_from _ _ (and_from _ _ e l) led))
              | inr l ↦
                  let to : descended (suc (suc n)) recs s k ≡ descended n recs (top_place R) k =
                  to_w ∙ goes_second n recs w k kw (fw ∙ l) ∙ ap (λ (v : Record). descended n recs v.second k) h.1.0.reads in
                  subst (Reaches (put_in_all gs t) k) (sym to)
                  (descends n R (on_right_at s w r C i E L O ∷ gs) (Some w) h.1.2 (omega arith)
                  (and_from _ _ (and_from _ _ e (ap not l)) led))
            ]
        | inr e ↦
            let to : descended (suc (suc n)) recs s k ≡ descended (suc n) recs (top_place O) k =
            goes_second (suc n) recs s k ks (fs ∙ e) ∙ ap (λ (v : Record). descended (suc n) recs v.second k) h.0.reads in
            subst (Reaches (put_in_all gs t) k) (sym to)
            (descends (suc n) O (on_outer_at s w r C i E L R ∷ gs) (Some s) h.2 (omega arith) (and_from _ _ (ap not e) led))
      ]

  pub descends_whole : (n : ℕ) (t : PlacedPairs K) → LiesIn recs (nodes_of t) → nodes (tree_in t) ≤ n → Reaches t k (descended n recs (top_place t) k)
  descends_whole n t h few = descends n t [] None h.laid few refl
