-- One step of the rise in the table.
use Rattle.std.proofs.Common.{◌≡◌, ℕ, Bool, true, false, cond, eqb, ◌≢◌, List, ◌∷◌, sym, refl, ap, ◌∙◌, subst, arith, None, Some}
use mathlib.Core.Option.{Option, none, some}
use Rattle.std.proofs.lemmas.Bool.{eq-eqb, ne_eqb}
use Rattle.records.specs.declared.record.Record.{Record}
use Rattle.place.specs.Boxes.{Box}
use Rattle.quadtreap.specs.Tree.{Content, reading, box, outer}
use Rattle.quadtreap.specs.declared.rank.Rank.{Rank}
use Rattle.quadtreap.specs.Rank.{earlier}
use Rattle.quadtreap.specs.Pairs.{unranked}
use Rattle.records.specs.Links.{Link}
use Rattle.records.specs.Kinds.{is_pair, is_split}
use Rattle.records.specs.PlacedNodes.{shrinks, splits, leaf_kind, PlacedNodes, leaf_at, node_at, pair_at, ordered_nodes, carried, unplaced, place_of, record_of, NodesRecorded, above}
use Rattle.records.specs.Writes.{at, promoted_left, promoted_outer, ordered_in, made_by, earlier_in, Rise, risen, settled_outside, settled_inside, settled_under, settled_in}
use Rattle.records.specs.PlacedPairs.{PlacedPairs, placed_leaf, placed_pair, nodes_of, top_place, rank, PairFrame, on_left_at, on_right_at, on_outer_at, node_frames, ordered_at, made_before, over_left, over_outer, settled_at, risen_over}
use Rattle.records.proofs.FrameLaws.{differ, root_le, root_occurs, root_lies, root_rank, LiesAmong, up_first, up_second}
use Rattle.records.proofs.PromoteLaws.{rises_left, rises_outer, orders}

pub earlier_than_pairs : (recs : List Record) (j x : ℕ) (A B : Rank) → is_pair (at recs j).kind ≡ true → is_pair (at recs x).kind ≡ true → (made_by recs (at recs j)).rank ≡ A → (made_by recs (at recs x)).rank ≡ B → earlier_in recs j x ≡ earlier A B
earlier_than_pairs recs j x A B kj kx a b =
    ap (λ v. cond v (cond (is_pair (at recs x).kind) (earlier ((made_by recs (at recs j)).rank) ((made_by recs (at recs x)).rank)) true) false) kj
    ∙ ap (λ v. cond v (earlier ((made_by recs (at recs j)).rank) ((made_by recs (at recs x)).rank)) true) kx
    ∙ ap (λ v. earlier v ((made_by recs (at recs x)).rank)) a ∙ ap (earlier A) b

-- the way that the step goes
abbrev way : List Record → ℕ → ℕ → Record → Rise
way recs s up rp = cond (is_split rp.kind) (settled_inside recs s (eqb rp.first s) rp.parent) (settled_outside recs s up)

eqs : (n : ℕ) (x y : Rise) → cond (eqb n n) x y ≡ x
eqs n x y = ap (λ b. cond b x y) (eq-eqb n n refl)

nes : (m n : ℕ) (x y : Rise) → m ≢ n → cond (eqb m n) x y ≡ y
nes m n x y far = ap (λ b. cond b x y) (ne_eqb m n far)

module _ {K : Type 0} where
  pub nodes_ordered : (s w : ℕ) (C : Box) (i : Option Box) (E : Box) (L R O : PlacedPairs K) → nodes_of (ordered_at s w C i E L R O) ≡ ordered_nodes s w C i E (nodes_of L) (nodes_of R) (nodes_of O)
  nodes_ordered s w C none E L R O =
      elim (earlier (rank R) (rank L)) as (λ b. nodes_of (cond b (placed_pair s w (rank R) C none E R L O) (placed_pair s w (rank L) C none E L R O)) ≡ cond b (pair_at s w (rank R) C none E (nodes_of R) (nodes_of L) (nodes_of O)) (pair_at s w (rank L) C none E (nodes_of L) (nodes_of R) (nodes_of O))) [ true ↦ refl | false ↦ refl ]
  nodes_ordered s w C (some I) E L R O = refl

  pub place_ordered : (s w : ℕ) (C : Box) (i : Option Box) (E : Box) (L R O : PlacedPairs K) → top_place (ordered_at s w C i E L R O) ≡ s
  place_ordered s w C none E L R O =
      elim (earlier (rank R) (rank L)) as (λ b. top_place (cond b (placed_pair s w (rank R) C none E R L O) (placed_pair s w (rank L) C none E L R O)) ≡ s) [ true ↦ refl | false ↦ refl ]
  place_ordered s w C (some I) E L R O = refl

  root_parent : (p : Link) (t : PlacedNodes K) → (record_of p t).parent ≡ p
  root_parent p (leaf_at q C c) = refl
  root_parent p (node_at k q r C g a b) = refl

  module _ (recs : List Record) where
    -- which of two was made earlier
    pub made : (p : Link) (s w : ℕ) (r : Rank) (C : Box) (i : Option Box) (E : Box) (L R O : PlacedNodes K) → NodesRecorded recs p (pair_at s w r C i E L R O) → (made_by recs (at recs s)).rank ≡ carried R
    made p s w r C i E L R O h =
        ap (λ (v : Record). (at recs (at recs v.first).second).rank) h.0.reads
        ∙ ap (λ (v : Record). (at recs v.second).rank) h.1.0.reads
        ∙ ap (λ (v : Record). v.rank) (root_lies recs (Some w) R h.1.2).reads ∙ root_rank (Some w) R

    leaf_low : (c : Content K) → is_pair (leaf_kind c) ≡ false
    leaf_low (reading r) = refl
    leaf_low (box I) = refl

    pub earlier_than_leaf : (p : Link) (j x : ℕ) (C : Box) (c : Content K) → NodesRecorded recs p (leaf_at j C c) → earlier_in recs j x ≡ false
    earlier_than_leaf p j x C c h =
        ap (λ b. cond b (cond (is_pair (at recs x).kind) (earlier ((made_by recs (at recs j)).rank) ((made_by recs (at recs x)).rank)) true) false)
        (ap (λ (v : Record). is_pair v.kind) h.reads ∙ leaf_low c)

    pub earlier_than_over : (p : Link) (j x : ℕ) (A : Rank) (t : PlacedNodes K) → is_pair (at recs j).kind ≡ true → (made_by recs (at recs j)).rank ≡ A → (C : Box) (c : Content K) → NodesRecorded recs p (leaf_at x C c) → earlier_in recs j x ≡ true
    earlier_than_over p j x A t kind is C c h =
        ap (λ b. cond b (cond (is_pair (at recs x).kind) (earlier ((made_by recs (at recs j)).rank) ((made_by recs (at recs x)).rank)) true) false) kind
        ∙ ap (λ b. cond b (earlier ((made_by recs (at recs j)).rank) ((made_by recs (at recs x)).rank)) true) (ap (λ (v : Record). is_pair v.kind) h.reads ∙ leaf_low c)

    pub made_before_lem : (p q : Link) (s w : ℕ) (r : Rank) (C : Box) (i : Option Box) (E : Box) (L R O : PlacedNodes K) (t D : PlacedPairs K) → nodes_of D ≡ R → NodesRecorded recs p (nodes_of t) → NodesRecorded recs q (pair_at s w r C i E L R O) → earlier_in recs (top_place t) s ≡ made_before t D
    made_before_lem p q s w r C i E L R O (placed_leaf j B c) D is h g = earlier_than_leaf p j s B c h
    made_before_lem p q s w r C i E L R O (placed_pair y v a B k F A G o) D is h g =
        earlier_than_pairs recs y s (rank G) (rank D) (ap (λ (z : Record). is_pair z.kind) h.0.reads) (ap (λ (z : Record). is_pair z.kind) g.0.reads)
        (made p y v a B k F (nodes_of A) (nodes_of G) (nodes_of o) h) (made q s w r C i E L R O g ∙ ap carried (sym is))

    goes : (t : PlacedNodes K) (p : ℕ) (rp : Record) → NodesRecorded recs (Some p) t → at recs p ≡ rp → settled_in recs (place_of t) ≡ way recs (place_of t) p rp
    goes t p rp h e =
        let up : (at recs (place_of t)).parent ≡ Some p = ap (λ (v : Record). v.parent) (root_lies recs (Some p) t h).reads ∙ root_parent (Some p) t in
        ap (settled_under recs (place_of t)) up ∙ ap (way recs (place_of t) p) e

    -- the child is on the left
    module _ (gs : List (PairFrame K)) (s w : ℕ) (r : Rank) (C : Box) (i : Option Box) (E : Box) (R O t : PlacedPairs K) (h : LiesAmong recs (node_frames (on_left_at s w r C i E R O ∷ gs)) (nodes_of t)) where
      pub left_up : LiesAmong recs (node_frames gs) (pair_at s w r C i E (nodes_of t) (nodes_of R) (nodes_of O))
      left_up = up_first recs (node_frames gs) shrinks s r C i (node_at splits w r E i (nodes_of t) (nodes_of R)) (nodes_of O) (up_first recs _ splits w r E i (nodes_of t) (nodes_of R) h)

      abbrev pub left_way : Bool → Rise
      left_way b = cond b (risen (ordered_in (promoted_left recs s) (top_place t)) (top_place t) (Some s)) (risen (ordered_in recs s) s None)

      pub left_goes : settled_in recs (top_place t) ≡ left_way (made_before t R)
      left_goes =
          goes (nodes_of t) w _ h.laid h.around.0.reads
          ∙ eqs (top_place t) (left_way (earlier_in recs (top_place t) s)) (risen (ordered_in recs s) s None)
          ∙ ap left_way (made_before_lem (Some w) (above (node_frames gs)) s w r C i E (nodes_of t) (nodes_of R) (nodes_of O) t R refl h.laid left_up.laid)

      left_stays : LiesAmong (ordered_in recs s) (node_frames gs) (nodes_of (ordered_at s w C i E t R O))
      left_stays = subst (LiesAmong (ordered_in recs s) (node_frames gs)) (sym (nodes_ordered s w C i E t R O)) (orders recs (node_frames gs) s w r C i E (nodes_of t) (nodes_of R) (nodes_of O) left_up)

    -- the child is on the right
    module _ (gs : List (PairFrame K)) (s w : ℕ) (r : Rank) (C : Box) (i : Option Box) (E : Box) (L O t : PlacedPairs K) (h : LiesAmong recs (node_frames (on_right_at s w r C i E L O ∷ gs)) (nodes_of t)) where
      pub right_up : LiesAmong recs (node_frames gs) (pair_at s w r C i E (nodes_of L) (nodes_of t) (nodes_of O))
      right_up = up_first recs (node_frames gs) shrinks s r C i (node_at splits w r E i (nodes_of L) (nodes_of t)) (nodes_of O) (up_second recs _ splits w r E i (nodes_of L) (nodes_of t) h)

      pub right_goes : settled_in recs (top_place t) ≡ risen (ordered_in recs s) s None
      right_goes =
          let a = root_occurs (nodes_of L) in
          let b = root_le (nodes_of t) (top_place L) in
          let far : top_place L ≢ top_place t = differ (top_place L) (top_place t) (let n = h.once (top_place L) in omega arith) in
          goes (nodes_of t) w _ h.laid h.around.0.reads
          ∙ nes (top_place L) (top_place t) _ (risen (ordered_in recs s) s None) far

      right_stays : LiesAmong (ordered_in recs s) (node_frames gs) (nodes_of (ordered_at s w C i E L t O))
      right_stays = subst (LiesAmong (ordered_in recs s) (node_frames gs)) (sym (nodes_ordered s w C i E L t O)) (orders recs (node_frames gs) s w r C i E (nodes_of L) (nodes_of t) (nodes_of O) right_up)

    -- the child is outside
    module _ (gs : List (PairFrame K)) (s w : ℕ) (r : Rank) (C : Box) (i : Option Box) (E : Box) (L R t : PlacedPairs K) (h : LiesAmong recs (node_frames (on_outer_at s w r C i E L R ∷ gs)) (nodes_of t)) where
      pub outer_up : LiesAmong recs (node_frames gs) (pair_at s w r C i E (nodes_of L) (nodes_of R) (nodes_of t))
      outer_up = up_second recs (node_frames gs) shrinks s r C i (node_at splits w r E i (nodes_of L) (nodes_of R)) (nodes_of t) h

      abbrev pub outer_way : Bool → Rise
      outer_way b = cond b (risen (ordered_in (promoted_outer recs s) (top_place t)) (top_place t) (Some s)) (risen recs s None)

      pub outer_goes : settled_in recs (top_place t) ≡ outer_way (made_before t R)
      outer_goes =
          goes (nodes_of t) s _ h.laid h.around.0.reads
          ∙ ap outer_way (made_before_lem (Some s) (above (node_frames gs)) s w r C i E (nodes_of L) (nodes_of R) (nodes_of t) t R refl h.laid outer_up.laid)

    -- The table, the pair in place and the pair that it rose over are those of the tree with places.
    pub record Settles (gs : List (PairFrame K)) (g : PairFrame K) (t : PlacedPairs K) (v : Rise) : Type 0 where
      pub focus : LiesAmong v.table (node_frames gs) (nodes_of (settled_at g t))
      pub top : v.top ≡ top_place (settled_at g t)
      pub low : v.low ≡ risen_over g t

    pub settles : (gs : List (PairFrame K)) (g : PairFrame K) (t : PlacedPairs K) → LiesAmong recs (node_frames (g ∷ gs)) (nodes_of t) → Settles gs g t (settled_in recs (top_place t))
    settles gs (on_left_at s w r C i E R O) (placed_leaf p B c) h =
        subst (Settles gs (on_left_at s w r C i E R O) (placed_leaf p B c)) (sym (left_goes gs s w r C i E R O (placed_leaf p B c) h))
        record { focus = left_stays gs s w r C i E R O (placed_leaf p B c) h; top = sym (place_ordered s w C i E (placed_leaf p B c) R O); low = refl }
    settles gs (on_left_at s w r C i E R O) (placed_pair y v q B k F A D o) h =
        let t : PlacedPairs K = placed_pair y v q B k F A D o in
        let up = rises_left recs (node_frames gs) s w y r q C E B i k (node_at splits v q F k (nodes_of A) (nodes_of D)) (nodes_of o) (nodes_of R) (nodes_of O) (left_up gs s w r C i E R O t h) in
        let low : PlacedPairs K = placed_pair s w unranked C (some F) E o R O in
        let over : LiesAmong (ordered_in (promoted_left recs s) y) (node_frames gs) (nodes_of (ordered_at y v C k F A D low)) =
        subst (LiesAmong (ordered_in (promoted_left recs s) y) (node_frames gs)) (sym (nodes_ordered y v C k F A D low)) (orders (promoted_left recs s) (node_frames gs) y v q C k F (nodes_of A) (nodes_of D) (nodes_of low) up) in
        subst (Settles gs (on_left_at s w r C i E R O) t) (sym (left_goes gs s w r C i E R O t h))
        record {
          focus = elim (made_before t R) as (λ b. LiesAmong (left_way gs s w r C i E R O t h b).table (node_frames gs) (nodes_of (cond b (over_left s w C i E t R O) (ordered_at s w C i E t R O)))) [ true ↦ over | false ↦ left_stays gs s w r C i E R O t h ];
          top = elim (made_before t R) as (λ b. (left_way gs s w r C i E R O t h b).top ≡ top_place (cond b (over_left s w C i E t R O) (ordered_at s w C i E t R O))) [ true ↦ sym (place_ordered y v C k F A D low) | false ↦ sym (place_ordered s w C i E t R O) ];
          low = elim (made_before t R) as (λ b. (left_way gs s w r C i E R O t h b).low ≡ cond b (Some s) None) [ true ↦ refl | false ↦ refl ];
        }
    settles gs (on_right_at s w r C i E L O) t h =
        subst (Settles gs (on_right_at s w r C i E L O) t) (sym (right_goes gs s w r C i E L O t h))
        record { focus = right_stays gs s w r C i E L O t h; top = sym (place_ordered s w C i E L t O); low = refl }
    settles gs (on_outer_at s w r C i E L R) (placed_leaf p B c) h =
        subst (Settles gs (on_outer_at s w r C i E L R) (placed_leaf p B c)) (sym (outer_goes gs s w r C i E L R (placed_leaf p B c) h))
        record { focus = outer_up gs s w r C i E L R (placed_leaf p B c) h; top = refl; low = refl }
    settles gs (on_outer_at s w r C i E L R) (placed_pair x v q B k F A D o) h =
        let t : PlacedPairs K = placed_pair x v q B k F A D o in
        let up = rises_outer recs (node_frames gs) s x v r q C B F i k (node_at splits w r E i (nodes_of L) (nodes_of R)) (nodes_of A) (nodes_of D) (nodes_of o) (outer_up gs s w r C i E L R t h) in
        let low : PlacedPairs K = placed_pair s w r (outer (unplaced (nodes_of A))) i E L R A in
        let over : LiesAmong (ordered_in (promoted_outer recs s) x) (node_frames gs) (nodes_of (ordered_at x v B i F low D o)) =
        subst (LiesAmong (ordered_in (promoted_outer recs s) x) (node_frames gs)) (sym (nodes_ordered x v B i F low D o)) (orders (promoted_outer recs s) (node_frames gs) x v q B i F (nodes_of low) (nodes_of D) (nodes_of o) up) in
        subst (Settles gs (on_outer_at s w r C i E L R) t) (sym (outer_goes gs s w r C i E L R t h))
        record {
          focus = elim (made_before t R) as (λ b. LiesAmong (outer_way gs s w r C i E L R t h b).table (node_frames gs) (nodes_of (cond b (over_outer s w r C i E L R t) (placed_pair s w r C i E L R t)))) [ true ↦ over | false ↦ outer_up gs s w r C i E L R t h ];
          top = elim (made_before t R) as (λ b. (outer_way gs s w r C i E L R t h b).top ≡ top_place (cond b (over_outer s w r C i E L R t) (placed_pair s w r C i E L R t))) [ true ↦ sym (place_ordered x v B i F low D o) | false ↦ refl ];
          low = elim (made_before t R) as (λ b. (outer_way gs s w r C i E L R t h b).low ≡ cond b (Some s) None) [ true ↦ refl | false ↦ refl ];
        }
