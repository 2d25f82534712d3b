-- A tally joined to one reading: the list, the tree, and the tree with its places.
use Rattle.std.proofs.Common.{◌≡◌, ℕ, suc, ◌+◌, ◌≤◌, Bool, true, cond, List, [], ◌∷◌, length, sym, refl, ap, ◌∙◌, subst, inl, inr, arith}
use mathlib.Core.Option.{Option, none, some}
use Rattle.std.specs.List.{AllByRecursion}
use Rattle.std.proofs.lemmas.Bool.{ne_eqb, cases_eq}
use Rattle.place.specs.Boxes.{Box, whole}
use Rattle.quadtreap.specs.Tree.{Reading, reading, box, Tree, leaf, shrink, split, insert, insert_all, tree_of, nodes, map_nodes}
use Rattle.quadtreap.specs.Rank.{before, Ranked, Valid}
use Rattle.quadtreap.specs.Cells.{total}
use Rattle.quadtreap.specs.Pairs.{node_rank}
use Rattle.quadtreap.specs.Carry.{carry, carry_all, carry_tree, map_carry}
use Rattle.records.specs.PlacedNodes.{NodeKind as Kind, shrinks, splits, PlacedNodes, node_at, unplaced, grown, place_of, one, NodeFrame, first, second, plug}
use Rattle.records.specs.PlacedPairs.{PlacedPairs, placed_pair, tree_in, rank_at, RanksStand, PairFrame, on_left_at, on_right_at, on_outer_at, put_in_all}
use Rattle.tables.specs.Calls.{more}
use Rattle.quadtreap.proofs.CellLaws.{total_insert}
use Rattle.quadtreap.proofs.CarryLaws.{carried}
use Rattle.records.proofs.FrameLaws.{one_same, one_not, differ}
use Rattle.records.proofs.PairLaws.{node_rank_at, ranks_parts}

before_carry : {K : Type 0} (f : Reading K → K) (q r : Reading K) → before q r ≡ true → before (carry f q) (carry f r) ≡ true
unfolding before
before_carry f q r h = h

all_carry : {K : Type 0} (f : Reading K → K) (P Q : Reading K → Type 0) → ((r : Reading K) → P r → Q (carry f r)) → (rs : List (Reading K)) → AllByRecursion P rs → AllByRecursion Q (carry_all f rs)
all_carry f P Q to [] h = tt
all_carry f P Q to (r ∷ rs) h = (to r h.0, all_carry f P Q to rs h.1)

pub valid_carry : {K : Type 0} (f : Reading K → K) (rs : List (Reading K)) → Valid rs → Valid (carry_all f rs)
valid_carry f [] h = tt
valid_carry f (q ∷ qs) h = (h.0, all_carry f (λ r. q.code ≡ r.code → ⊥) (λ r. q.code ≡ r.code → ⊥) (λ r p. p) qs h.1, valid_carry f qs h.2)

pub ranked_carry : {K : Type 0} (f : Reading K → K) (rs : List (Reading K)) → Ranked rs → Ranked (carry_all f rs)
ranked_carry f [] h = tt
ranked_carry f (q ∷ qs) h = (all_carry f (λ r. before q r ≡ true) (λ r. before (carry f q) r ≡ true) (λ r p. before_carry f q r p) qs h.0, ranked_carry f qs h.1)

pub length_carry : {K : Type 0} (f : Reading K → K) (rs : List (Reading K)) → length (carry_all f rs) ≡ length rs
length_carry f [] = refl
length_carry f (r ∷ rs) = ap suc (length_carry f rs)

nodes_carry : {K : Type 0} (f : Reading K → K) (t : Tree K) → nodes (carry_tree f t) ≡ nodes t
nodes_carry f (leaf C c) = refl
nodes_carry f (shrink C i a b) = let x = nodes_carry f a in let y = nodes_carry f b in omega arith
nodes_carry f (split C i a b) = let x = nodes_carry f a in let y = nodes_carry f b in omega arith

map_nodes_carry : {K : Type 0} (f : Reading K → K) (o : Option (Tree K)) → map_nodes (map_carry f o) ≡ map_nodes o
map_nodes_carry f none = refl
map_nodes_carry f (some t) = nodes_carry f t

pub used_carry : {K : Type 0} (f : Reading K → K) (rs : List (Reading K)) → map_nodes (tree_of (carry_all f rs)) ≡ map_nodes (tree_of rs)
used_carry f rs = ap map_nodes (carried f rs) ∙ map_nodes_carry f (tree_of rs)

module _ {K : Type 0} (k : ℕ) where
  -- how many readings have the code k
  abbrev pub heads : Tree K → ℕ
  heads t = total (λ (a b : ℕ). a + b) 0 (λ r. one k r.code) t

  abbrev heads_of : List (Reading K) → ℕ
  heads_of [] = 0
  heads_of (r ∷ rs) = one k r.code + heads_of rs

  heads_insert : (t : Tree K) (p : Reading K) → heads (insert t p) ≡ heads t + one k p.code
  heads_insert t p = total_insert (λ (a b : ℕ). a + b) 0 (λ (r : Reading K). one k r.code) (λ a b c. omega arith) (λ a b. omega arith) (λ a. omega arith) t p

  heads_all : (t : Tree K) (ps : List (Reading K)) → heads (insert_all t ps) ≡ heads t + heads_of ps
  heads_all t [] = omega arith
  heads_all t (p ∷ ps) = let h = heads_all (insert t p) ps in let i = heads_insert t p in omega arith

  none_head : (c : ℕ) → c ≡ k → (rs : List (Reading K)) → AllByRecursion (λ r. c ≡ r.code → ⊥) rs → heads_of rs ≡ 0
  none_head c is [] h = refl
  none_head c is (r ∷ rs) h = let z = one_not k r.code (λ e. h.0 (is ∙ e)) in let n = none_head c is rs h.1 in omega arith

  one_head : (rs : List (Reading K)) → Valid rs → heads_of rs ≤ 1
  one_head [] h = omega arith
  one_head (r ∷ rs) h =
      elim (cases_eq r.code k) [
        | inl is ↦ let n = none_head r.code is rs h.1 in let o : one k r.code ≡ 1 = subst (λ c. one k c ≡ 1) (sym is) (one_same k) in omega arith
        | inr far ↦ let z = one_not k r.code (λ e. far (sym e)) in let n = one_head rs h.2 in omega arith
      ]

  abbrev map_heads : Option (Tree K) → ℕ
  map_heads none = 0
  map_heads (some t) = heads t

  map_heads_few : (rs : List (Reading K)) → Valid rs → map_heads (tree_of rs) ≤ 1
  map_heads_few [] v = omega arith
  map_heads_few (r ∷ rs) v = let h = heads_all (leaf whole (reading r)) rs in let o = one_head (r ∷ rs) v in omega arith

  -- in a map's tree one reading at most
  pub heads_few : (rs : List (Reading K)) (t : Tree K) → Valid rs → tree_of rs ≡ some t → heads t ≤ 1
  heads_few rs t v e = subst (λ (n : ℕ). n ≤ 1) (ap map_heads e) (map_heads_few rs v)

  module _ (join : K → K → K) (v : K) where
    abbrev f : Reading K → K
    f = more join k v

    carry_same : (r : Reading K) → one k r.code ≡ 0 → carry f r ≡ r
    carry_same r h =
        ap (λ (b : Bool). record { code = r.code; priority = r.priority; tally = cond b (join r.tally v) r.tally }) (ne_eqb k r.code (differ k r.code h))

    tree_same : (t : Tree K) → heads t ≡ 0 → carry_tree f t ≡ t
    tree_same (leaf C (reading r)) h = ap (λ q. leaf C (reading q)) (carry_same r h)
    tree_same (leaf C (box I)) h = refl
    tree_same (shrink C i a b) h = ap (λ x. shrink C i x (carry_tree f b)) (tree_same a (omega arith)) ∙ ap (λ x. shrink C i a x) (tree_same b (omega arith))
    tree_same (split C i a b) h = ap (λ x. split C i x (carry_tree f b)) (tree_same a (omega arith)) ∙ ap (λ x. split C i a x) (tree_same b (omega arith))

    abbrev heads_in : List (NodeFrame K) → ℕ
    heads_in [] = 0
    heads_in (first c p r C g b ∷ s) = heads (unplaced b) + heads_in s
    heads_in (second c p r C g a ∷ s) = heads (unplaced a) + heads_in s

    heads_node_at : (c : Kind) (C : Box) (g : Option Box) (a b : Tree K) → heads (grown c C g a b) ≡ heads a + heads b
    heads_node_at shrinks C g a b = refl
    heads_node_at splits C g a b = refl

    pub heads_plug : (s : List (NodeFrame K)) (t : PlacedNodes K) → heads (unplaced (plug s t)) ≡ heads (unplaced t) + heads_in s
    heads_plug [] t = omega arith
    heads_plug (first c p r C g b ∷ s) t = let h = heads_plug s (node_at c p r C g t b) in let n = heads_node_at c C g (unplaced t) (unplaced b) in omega arith
    heads_plug (second c p r C g a ∷ s) t = let h = heads_plug s (node_at c p r C g a t) in let n = heads_node_at c C g (unplaced a) (unplaced t) in omega arith

    carry_node_at : (c : Kind) (C : Box) (g : Option Box) (a b : Tree K) → carry_tree f (grown c C g a b) ≡ grown c C g (carry_tree f a) (carry_tree f b)
    carry_node_at shrinks C g a b = refl
    carry_node_at splits C g a b = refl

    -- around the reading nothing changes
    pub carry_plug : (s : List (NodeFrame K)) (t u : PlacedNodes K) → unplaced u ≡ carry_tree f (unplaced t) → heads_in s ≡ 0 → unplaced (plug s u) ≡ carry_tree f (unplaced (plug s t))
    carry_plug [] t u e none' = e
    carry_plug (first c p r C g b ∷ s) t u e none' =
        carry_plug s (node_at c p r C g t b) (node_at c p r C g u b)
        (ap (λ x. grown c C g x (unplaced b)) e ∙ ap (λ x. grown c C g (carry_tree f (unplaced t)) x) (sym (tree_same (unplaced b) (omega arith))) ∙ sym (carry_node_at c C g (unplaced t) (unplaced b))) (omega arith)
    carry_plug (second c p r C g a ∷ s) t u e none' =
        carry_plug s (node_at c p r C g a t) (node_at c p r C g a u)
        (ap (λ x. grown c C g (unplaced a) x) e ∙ ap (λ x. grown c C g x (carry_tree f (unplaced t))) (sym (tree_same (unplaced a) (omega arith))) ∙ sym (carry_node_at c C g (unplaced a) (unplaced t))) (omega arith)

-- the ranks stay where the node_rank of a part stays
pub right_swap : {K : Type 0} (gs : List (PairFrame K)) (t u : PlacedPairs K) → node_rank (tree_in t) ≡ node_rank (tree_in u) → RanksStand u → RanksStand (put_in_all gs t) → RanksStand (put_in_all gs u)
right_swap [] t u e hu h = hu
right_swap (on_left_at s w r C i E R O ∷ gs) t u e hu h =
    let k = (ranks_parts gs (placed_pair s w r C i E t R O) h).1 in
    right_swap gs (placed_pair s w r C i E t R O) (placed_pair s w r C i E u R O) (node_rank_at s w r C i E t R O ∙ ap (rank_at i) e ∙ sym (node_rank_at s w r C i E u R O)) (k.0 ∙ ap (rank_at i) e, hu, k.2, k.3) h
right_swap (on_right_at s w r C i E L O ∷ gs) t u e hu h =
    let k = (ranks_parts gs (placed_pair s w r C i E L t O) h).1 in
    right_swap gs (placed_pair s w r C i E L t O) (placed_pair s w r C i E L u O) (node_rank_at s w r C i E L t O ∙ sym (node_rank_at s w r C i E L u O)) (k.0, k.1, hu, k.3) h
right_swap (on_outer_at s w r C i E L R ∷ gs) t u e hu h =
    let k = (ranks_parts gs (placed_pair s w r C i E L R t) h).1 in
    right_swap gs (placed_pair s w r C i E L R t) (placed_pair s w r C i E L R u) (node_rank_at s w r C i E L R t ∙ sym (node_rank_at s w r C i E L R u)) (k.0, k.1, k.2, hu) h

pub place_of_plug : {K : Type 0} (s : List (NodeFrame K)) (t u : PlacedNodes K) → place_of t ≡ place_of u → place_of (plug s t) ≡ place_of (plug s u)
place_of_plug [] t u e = e
place_of_plug (first c p r C g b ∷ s) t u e = place_of_plug s (node_at c p r C g t b) (node_at c p r C g u b) refl
place_of_plug (second c p r C g a ∷ s) t u e = place_of_plug s (node_at c p r C g a t) (node_at c p r C g a u) refl
