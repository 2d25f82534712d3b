-- The leaf to which a code leads, and what it tells of the live readings.
use Rattle.std.proofs.Common.{◌≡◌, ℕ, ◌≤◌, Bool, true, false, cond, not, ◌&&◌, eqb, ◌≢◌, ◌⊎◌, List, [], ◌∷◌, sym, refl, ap, ◌∙◌, subst, inl, inr, arith}
use mathlib.Core.Option.{Option, none, some}
use Rattle.std.proofs.lemmas.Option.{none-some}
use Rattle.std.specs.Option.{unwrap_or}
use Rattle.std.specs.Prelude.{Option as Maybe, Some, None}
use Rattle.std.proofs.lemmas.Bool.{and_parts, and_cases, ne_eqb, eqb-true, eqb-false}
use Rattle.records.specs.declared.record.Record.{Record}
use Rattle.place.specs.Boxes.{Box, holds}
use Rattle.quadtreap.specs.Tree.{Reading, Content, reading, box, outer, tree_of, nodes, map_nodes}
use Rattle.quadtreap.specs.Enter.{leads_all}
use Rattle.quadtreap.specs.Find.{content_at, of_code, map_find, lookup}
use Rattle.records.specs.Kinds.{is_reading}
use Rattle.records.specs.Links.{Link}
use Rattle.records.specs.PlacedNodes.{leaf_at, record_of, above, LiesIn}
use Rattle.records.specs.Writes.{at}
use Rattle.records.specs.PlacedPairs.{PlacedPairs, placed_leaf, placed_pair, nodes_of, tree_in, top_place, PairFrame, on_left_at, on_right_at, on_outer_at, put_in_all, frames, node_frames}
use Rattle.records.specs.Promises.{Descends}
use Rattle.tables.specs.Finds.{LeafOf, Lacks}
use Rattle.tables.specs.Stands.{State, Stands, LiesTallied, Lies, map_tree, root_of}
use Rattle.quadtreap.proofs.FindLaws.{finds}
use Rattle.records.proofs.PairLaws.{lies_among}

chosen : {X : Type 0} (b : Bool) (x y z : X) → b ≡ true → x ≡ z → cond b x y ≡ z
chosen true x y z h e = e
chosen false x y z h e = absurd (mathlib.Core.Bool.false≢true h)

passed : {X : Type 0} (b : Bool) (x y z : X) → not b ≡ true → y ≡ z → cond b x y ≡ z
passed true x y z h e = absurd (mathlib.Core.Bool.false≢true h)
passed false x y z h e = e

pub none_or_some : {X : Type 0} (o : Maybe X) → (o ≡ None) ⊎ ((x : X) × (o ≡ Some x))
none_or_some None = inl refl
none_or_some (Some x) = inr (x, refl)

module _ {K : Type 0} (k : ℕ) where
  pub content_at_lem : (gs : List (PairFrame K)) (t : PlacedPairs K) → leads_all (frames gs) (tree_in t) k ≡ true → content_at (tree_in (put_in_all gs t)) k ≡ content_at (tree_in t) k
  content_at_lem [] t led = refl
  content_at_lem (on_left_at s w r C i E R O ∷ gs) t led =
      let h = and_parts (holds E k && holds (outer (tree_in t)) k) _ led in
      let l = and_parts (holds E k) (holds (outer (tree_in t)) k) h.0 in
      content_at_lem gs (placed_pair s w r C i E t R O) h.1 ∙ chosen (holds E k) _ _ _ l.0 (chosen (holds (outer (tree_in t)) k) _ _ _ l.1 refl)
  content_at_lem (on_right_at s w r C i E L O ∷ gs) t led =
      let h = and_parts (holds E k && not (holds (outer (tree_in L)) k)) _ led in
      let l = and_parts (holds E k) (not (holds (outer (tree_in L)) k)) h.0 in
      content_at_lem gs (placed_pair s w r C i E L t O) h.1 ∙ chosen (holds E k) _ _ _ l.0 (passed (holds (outer (tree_in L)) k) _ _ _ l.1 refl)
  content_at_lem (on_outer_at s w r C i E L R ∷ gs) t led =
      let h = and_parts (not (holds E k)) _ led in
      content_at_lem gs (placed_pair s w r C i E L R t) h.1 ∙ passed (holds E k) _ _ _ h.0 refl

  pub whole_of : (root : ℕ) (o : Option (PlacedPairs K)) → root_of o ≡ Some root → (t : PlacedPairs K) × (o ≡ some t)
  whole_of root none top = absurd (none-some root top)
  whole_of root (some t) top = (t, refl)

  pub none_of : (o : Option (PlacedPairs K)) → root_of o ≡ None → o ≡ none
  none_of none top = refl
  none_of (some t) top = absurd (none-some (top_place t) (sym top))

  -- the leaf at i, in its rings
  pub record Found (s : State K) (rs : List (Reading K)) (t : PlacedPairs K) (i : ℕ) : Type 0 where
    pub path : List (PairFrame K)
    pub box : Box
    pub content : Content K
    pub whole : put_in_all path (placed_leaf i box content) ≡ t
    pub lies : at s.records i ≡ record_of (above (node_frames path)) (leaf_at i box content)
    pub tells : of_code k content ≡ lookup k rs

  module _ (join : K → K → K) (e : K) (s : State K) (rs : List (Reading K)) (st : Stands join e s rs) where
    -- an empty map
    pub none_found : s.root ≡ None → lookup k rs ≡ none
    none_found is =
        let o = none_of st.placed (sym st.top ∙ is) in
        sym (finds k rs st.valid) ∙ ap (λ u. map_find u k) (sym st.tree ∙ ap map_tree o)

    module _ (root : ℕ) (far : s.root ≡ Some root) where
      abbrev pub held : PlacedPairs K
      held = (whole_of root st.placed (sym st.top ∙ far)).0

      pub held_is : st.placed ≡ some held
      held_is = (whole_of root st.placed (sym st.top ∙ far)).1

      pub held_tree : tree_of rs ≡ some (tree_in held)
      held_tree = sym st.tree ∙ ap map_tree held_is

      pub held_lain : LiesTallied join e s.records s.tallies held
      held_lain = subst (λ o. Lies join e s.records s.tallies o) held_is st.lies

      pub held_top : root ≡ top_place held
      held_top = ap (λ o. unwrap_or o 0) (sym far ∙ st.top ∙ ap root_of held_is)

      pub held_few : nodes (tree_in held) ≤ s.places
      held_few =
          let n : map_nodes (tree_of rs) ≡ nodes (tree_in held) = ap map_nodes held_tree in
          let u = st.used in
          let f = st.free.fits in
          omega arith

      pub found : (i : ℕ) → Descends K s.records root k s.places i → Found s rs held i
      found i down =
          let way = down held held_lain.kept held_top held_few in
          let kept : LiesIn s.records (nodes_of (put_in_all way.path (placed_leaf i way.box way.content))) = subst (λ u. LiesIn s.records (nodes_of u)) (sym way.whole) held_lain.kept in
          let focus = lies_among s.records way.path (placed_leaf i way.box way.content) kept in
          record {
            path = way.path;
            box = way.box;
            content = way.content;
            whole = way.whole;
            lies = focus.laid.reads;
            tells =
                ap (of_code k) (sym (content_at_lem way.path (placed_leaf i way.box way.content) way.leads) ∙ ap (λ u. content_at (tree_in u) k) way.whole)
                ∙ ap (λ u. map_find u k) (sym held_tree) ∙ finds k rs st.valid;
          }

-- what the leaf holds is no reading with the code
other_content : {K : Type 0} (k : ℕ) (c : Content K) (p : Link) (i : ℕ) (C : Box) (q : Record) → q ≡ record_of p (leaf_at i C c) → (is_reading q.kind ≡ false) ⊎ (q.rank.code ≢ k) → of_code k c ≡ none
other_content k (reading r) p i C q is (inl far) = absurd (mathlib.Core.Bool.false≢true (sym far ∙ ap (λ (x : Record). is_reading x.kind) is))
other_content k (reading r) p i C q is (inr far) = ap (λ b. cond b (some r) none) (ne_eqb k r.code (λ z. far (ap (λ (x : Record). x.rank.code) is ∙ sym z)))
other_content k (box I) p i C q is way = refl

-- a leaf that does not hold the reading with the code
other_leaf : (k : ℕ) (q : Record) → (is_reading q.kind && eqb q.rank.code k) ≡ false → (is_reading q.kind ≡ false) ⊎ (q.rank.code ≢ k)
other_leaf k q h =
    elim (and_cases (is_reading q.kind) (eqb q.rank.code k) h) [ inl a ↦ inl a | inr b ↦ inr (eqb-false q.rank.code k b) ]

module _ {K : Type 0} (join : K → K → K) (e : K) (s : State K) (k : ℕ) where
  pub lacks_empty : s.root ≡ None → Lacks join e s k
  lacks_empty is cs st = none_found k join e s _ st is

  pub lacks_other : (root i : ℕ) (q : Record) → s.root ≡ Some root → Descends K s.records root k s.places i → q ≡ at s.records i → (is_reading q.kind && eqb q.rank.code k) ≡ false → Lacks join e s k
  lacks_other root i q far down is other cs st =
      let f = found k join e s _ st root far i down in
      sym f.tells ∙ other_content k f.content _ i f.box q (is ∙ f.lies) (other_leaf k q other)

pub leaf_of : {K : Type 0} (s : State K) (k root i : ℕ) (q : Record) → s.root ≡ Some root → Descends K s.records root k s.places i → q ≡ at s.records i → (is_reading q.kind && eqb q.rank.code k) ≡ true → LeafOf s k i q
leaf_of s k root i q far down is own =
    let parts = and_parts (is_reading q.kind) (eqb q.rank.code k) own in
    record { root = root; held = far; leads = down; lies = is; kind = parts.0; code = eqb-true q.rank.code k parts.1 }
