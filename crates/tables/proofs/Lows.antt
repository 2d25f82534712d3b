-- A new reading and the leaf that its code leads to part below depth 32.
use Rattle.std.proofs.Common.{◌≡◌, ℕ, ◌^◌, ◌<◌, min, cond, List, [], ◌∷◌, ◌++◌, length, sym, ap, ◌∙◌, subst, inl, inr, arith}
use mathlib.Core.Option.{Option, none, some}
use Rattle.std.specs.List.{AllByRecursion}
use Rattle.std.proofs.lemmas.Bool.{eq-eqb, cases_eq}
use Rattle.place.specs.Boxes.{Box, whole, smallest}
use Rattle.quadtreap.specs.Tree.{Reading, Content, reading, box, Tree, leaf, shrink, split, point_of, build, tree_of, extent}
use Rattle.quadtreap.specs.Rank.{Valid}
use Rattle.quadtreap.specs.Cells.{inside, readings}
use Rattle.quadtreap.specs.Find.{of_code, lookup}
use Rattle.records.specs.PlacedPairs.{PlacedPairs, placed_leaf, placed_pair, tree_in, PairFrame, on_left_at, on_right_at, on_outer_at, put_in_all}
use Rattle.tables.specs.Calls.{is_some, reads}
use Rattle.place.proofs.BoxLaws.{agree_le}
use Rattle.quadtreap.proofs.CellLaws.{all_parts, all_insert_all}
use Rattle.quadtreap.proofs.InsideLaws.{by_cells}
use Rattle.quadtreap.proofs.ValidLaws.{valid_cell}

-- no other reading has the code
pub all_other : {K : Type 0} (k : ℕ) (rs : List (Reading K)) → lookup k rs ≡ none → AllByRecursion (λ r. k ≡ r.code → ⊥) rs
all_other k [] h = tt
all_other k (r ∷ rs) h =
    elim (cases_eq k r.code) [
      | inl is ↦ absurd (mathlib.Core.Bool.true≢false (sym (ap (λ b. is_some (cond b (some r) (lookup k rs))) (eq-eqb k r.code is)) ∙ ap is_some h))
      | inr far ↦ (far, all_other k rs (sym (ap (λ b. cond b (some r) (lookup k rs)) (Rattle.std.proofs.lemmas.Bool.ne_eqb k r.code far)) ∙ h))
    ]

pub valid_more : {K : Type 0} (k p : ℕ) (v : K) (rs : List (Reading K)) → k < 2 ^ 32 → Valid rs → lookup k rs ≡ none → Valid (reads k p v ∷ rs)
valid_more k p v rs small h gone = (small, all_other k rs gone, h)

module _ {K : Type 0} where
  abbrev pub Low : Content K → Type 0
  Low (reading r) = Unit {0}
  Low (box I) = I.depth < 32

  -- the inner boxes of the leaves
  abbrev pub Holes : Tree K → Type 0
  Holes (leaf C c) = Low c
  Holes (shrink C i a b) = Holes a × Holes b
  Holes (split C i a b) = Holes a × Holes b

  holes_build : (r : Reading K) (rs : List (Reading K)) → Valid (r ∷ rs) → Holes (build whole (reading r) rs)
  holes_build r rs v =
      by_cells (λ C c t. Low c → Holes t) (λ C c f l. l) (λ C c p ps f l r o w. ((l w, r tt), o f.all.0.low)) (length rs) whole (reading r) rs (omega arith) (valid_cell r rs v) tt

  codes : (rs : List (Reading K)) → Valid rs → AllByRecursion (λ r. r.code < 2 ^ 32) rs
  codes [] v = tt
  codes (r ∷ rs) v = (v.0, codes rs v.2)

  abbrev Fine : Option (Tree K) → Type 0
  Fine none = Unit {0}
  Fine (some t) = Holes t × AllByRecursion (λ r. r.code < 2 ^ 32) (readings t)

  fine : (rs : List (Reading K)) → Valid rs → Fine (tree_of rs)
  fine [] v = tt
  fine (r ∷ rs) v = (holes_build r rs v, all_insert_all (λ r. r.code < 2 ^ 32) (leaf whole (reading r)) rs (v.0, tt) (codes rs v.2))

  in_path : (P : Reading K → Type 0) (gs : List (PairFrame K)) (t : PlacedPairs K) → Holes (tree_in (put_in_all gs t)) → AllByRecursion P (readings (tree_in (put_in_all gs t))) → Holes (tree_in t) × AllByRecursion P (readings (tree_in t))
  in_path P [] t h a = (h, a)
  in_path P (on_left_at s w r C i E R O ∷ gs) t h a =
      let k = in_path P gs (placed_pair s w r C i E t R O) h a in
      (k.0.0.0, (all_parts P (readings (tree_in t)) (readings (tree_in R)) (all_parts P (readings (tree_in t) ++ readings (tree_in R)) (readings (tree_in O)) k.1).0).0)
  in_path P (on_right_at s w r C i E L O ∷ gs) t h a =
      let k = in_path P gs (placed_pair s w r C i E L t O) h a in
      (k.0.0.1, (all_parts P (readings (tree_in L)) (readings (tree_in t)) (all_parts P (readings (tree_in L) ++ readings (tree_in t)) (readings (tree_in O)) k.1).0).1)
  in_path P (on_outer_at s w r C i E L R ∷ gs) t h a =
      let k = in_path P gs (placed_pair s w r C i E L R t) h a in
      (k.0.1, (all_parts P (readings (tree_in L) ++ readings (tree_in R)) (readings (tree_in t)) k.1).1)

  low_by : (c : Content K) (p : Reading K) → Low c → AllByRecursion (λ r. r.code < 2 ^ 32) (inside c) → p.code < 2 ^ 32 → of_code p.code c ≡ none → (smallest (extent c) (point_of p)).depth < 32
  low_by (reading r) p low a small gone =
      elim (cases_eq p.code r.code) [
        | inl is ↦ absurd (mathlib.Core.Bool.true≢false (sym (ap (λ b. is_some (cond b (some r) none)) (eq-eqb p.code r.code is)) ∙ ap is_some gone))
        | inr far ↦ (valid_cell r (p ∷ []) (a.0, ((λ z. far (sym z)), tt), (small, tt, tt))).all.0.low
      ]
  low_by (box I) p low a small gone = omega (arith, agree_le (min I.depth 32) I.code p.code)

  -- where the tree of rs has the leaf
  pub parts_low : (rs : List (Reading K)) → Valid rs → (gs : List (PairFrame K)) (i : ℕ) (C : Box) (c : Content K) → tree_of rs ≡ some (tree_in (put_in_all gs (placed_leaf i C c))) → (p : Reading K) → p.code < 2 ^ 32 → of_code p.code c ≡ none
      → (smallest (extent c) (point_of p)).depth < 32
  parts_low rs v gs i C c is p small gone =
      let f : Fine (some (tree_in (put_in_all gs (placed_leaf i C c)))) = subst Fine is (fine rs v) in
      let k = in_path (λ r. r.code < 2 ^ 32) gs (placed_leaf i C c) f.0 f.1 in
      low_by c p k.0 k.1 small gone
