-- Where the boxes of a tree lie.
use Rattle.std.proofs.Common.{◌≡◌, ℕ, zero, suc, ◌^◌, ◌<◌, ◌≤◌, min, Bool, true, false, List, [], ◌∷◌, length, filter, sym, refl, ◌∙◌, subst, inl, inr, arith}
use mathlib.Core.Option.{some}
use Rattle.std.specs.List.{AllByRecursion}
use Rattle.std.proofs.lemmas.Bool.{cases_lt, both_ways, not-true, and_parts, and_from}
use Rattle.std.proofs.ByRecursion.{all_kept_by, All-weaker, kept_by_passes}
use Rattle.place.specs.Boxes.{prefix, Box, cut, holds, within, smallest, half, Formed}
use Rattle.quadtreap.specs.Tree.{Reading, Content, reading, box, Tree, leaf, shrink, split, point_of, extent, box_in, outer, lies, outside, pair, build}
use Rattle.quadtreap.specs.Cells.{readings, in_cell}
use Rattle.place.proofs.BoxLaws.{Parts, halves, prefix_cut, cut_eq, holds_own, true_holds, agree_le, within_parts, parts_within, within_refl, within_trans, within_holds, smallest_left, smallest_least, point_within, cut_small}
use Rattle.quadtreap.proofs.BuildLaws.{build_cons, outer_insert_all}
use Rattle.quadtreap.proofs.KeepLaws.{length_kept, all_kept_with, outside_parts, Apart, apart_kept}
use Rattle.quadtreap.proofs.CellLaws.{all_insert_all, in_of, in_first}

pub formed_cut : (k c : ℕ) → k ≤ 32 → c < 2 ^ 32 → Formed (cut k c)
formed_cut k c l h = record { deep = l; small = cut_small k c h; clear = cut_eq k (cut k c).code c (prefix_cut k k c (omega arith)) }

-- a cell, what it holds, and the readings that come to it
pub record Cell {K : Type 0} (C : Box) (c : Content K) (ps : List (Reading K)) : Type 0 where
  pub formed : Formed C
  pub around : within (extent c) C ≡ true
  pub small : (extent c).code < 2 ^ 32
  pub all : AllByRecursion (λ r. Parts (extent c) (point_of r)) ps
  pub apart : Apart ps
  pub here : AllByRecursion (λ r. in_cell C (box_in c) r ≡ true) ps
  pub codes : AllByRecursion (λ r. r.code < 2 ^ 32) ps

deeper : {K : Type 0} (C : Box) (c : Content K) (p : Reading K) → Parts (extent c) (point_of p) → in_cell C (box_in c) p ≡ true → suc (smallest (extent c) (point_of p)).depth ≤ (extent c).depth
deeper C (reading r) p s h = s.low
deeper C (box I) p s h =
    let k : ℕ = (smallest I (point_of p)).depth in
    let out : lies I p ≡ false = not-true (lies I p) (and_parts (lies C p) (outside I p) h).1 in
    elim (cases_lt k I.depth) [
      | inl l ↦ l
      | inr l ↦
          let e : k ≡ I.depth = omega (arith, agree_le (min I.depth 32) I.code p.code) in
          absurd (both_ways (lies I p) out (true_holds I p.code (sym (subst (λ (j : ℕ). prefix j I.code ≡ prefix j p.code) e s.same))))
    ]

module _ {K : Type 0} (C : Box) (c : Content K) (p : Reading K) (ps : List (Reading K)) (f : Cell C c (p ∷ ps)) where
  abbrev E : Box
  E = smallest (extent c) (point_of p)

  abbrev k : ℕ
  k = E.depth

  abbrev H : Box
  H = half E (extent c)

  abbrev G : Box
  G = half E (point_of p)

  low : k < 32
  low = f.all.0.low

  pub formed_middle : Formed E
  formed_middle = formed_cut k (extent c).code (let l = low in omega arith) f.small

  pub holds_next : holds E p.code ≡ true
  holds_next = true_holds E p.code (sym f.all.0.same ∙ sym (prefix_cut k k (extent c).code (omega arith)))

  pub middle_in : within E C ≡ true
  middle_in = smallest_least (extent c) (point_of p) C f.around (point_within C p.code f.formed.deep (in_first C (box_in c) p f.here.0))

  pub left_in : within H E ≡ true
  left_in = parts_within H E (omega arith) (prefix_cut k (suc k) (extent c).code (omega arith) ∙ sym (prefix_cut k k (extent c).code (omega arith)))

  pub right_in : within G E ≡ true
  right_in = parts_within G E (omega arith) (prefix_cut k (suc k) p.code (omega arith) ∙ sym f.all.0.same ∙ sym (prefix_cut k k (extent c).code (omega arith)))

  -- no box lies in both halves, and the whole lies in neither
  pub halves_apart : (X : Box) → within X H ≡ true → within X G ≡ true → ⊥
  halves_apart X a b =
      f.all.0.differ
      (sym (prefix_cut (suc k) (suc k) (extent c).code (omega arith)) ∙ sym (within_parts X H a).1 ∙ (within_parts X G b).1 ∙ prefix_cut (suc k) (suc k) p.code (omega arith))

  pub not_left : within E H ≡ true → ⊥
  not_left h = let l = (within_parts E H h).0 in omega arith

  pub not_right : within E G ≡ true → ⊥
  not_right h = let l = (within_parts E G h).0 in omega arith

  pub near_extent : within (extent c) H ≡ true
  near_extent = parts_within (extent c) H (deeper C c p f.all.0 f.here.0) (sym (prefix_cut (suc k) (suc k) (extent c).code (omega arith)))

  pub cell_left : Cell H c (filter (lies H) ps)
  cell_left =
      record {
        formed = formed_cut (suc k) (extent c).code low f.small;
        around = near_extent;
        small = f.small;
        all = all_kept_by (lies H) (λ r. Parts (extent c) (point_of r)) ps f.all.1;
        apart = apart_kept (lies H) ps f.apart.1;
        here = all_kept_with (λ r. in_cell C (box_in c) r ≡ true) (λ r. in_cell H (box_in c) r ≡ true) (lies H) (λ r i y. in_of C H (box_in c) r i y) ps f.here.1;
        codes = all_kept_by (lies H) (λ r. r.code < 2 ^ 32) ps f.codes.1;
      }

  pub cell_right : Cell G (reading p) (filter (lies G) ps)
  cell_right =
      record {
        formed = formed_cut (suc k) p.code low f.codes.0;
        around = point_within G p.code low (holds_own (suc k) p.code);
        small = f.codes.0;
        all = all_kept_by (lies G) (λ r. Parts (point_of p) (point_of r)) ps f.apart.0;
        apart = apart_kept (lies G) ps f.apart.1;
        here = kept_by_passes (lies G) ps;
        codes = all_kept_by (lies G) (λ r. r.code < 2 ^ 32) ps f.codes.1;
      }

  pub cell_outer : Cell C (box E) (filter (outside E) ps)
  cell_outer =
      record {
        formed = f.formed;
        around = middle_in;
        small = formed_middle.small;
        all = all_kept_with (λ r. Parts (extent c) (point_of r)) (λ r. Parts E (point_of r)) (outside E) (λ r u o. outside_parts (extent c) p.code r.code f.all.0 u (not-true (lies E r) o)) ps f.all.1;
        apart = apart_kept (outside E) ps f.apart.1;
        here = all_kept_with (λ r. in_cell C (box_in c) r ≡ true) (λ r. in_cell C (some E) r ≡ true) (outside E) (λ r i o. and_from (lies C r) (outside E r) (in_first C (box_in c) r i) o) ps f.here.1;
        codes = all_kept_by (outside E) (λ r. r.code < 2 ^ 32) ps f.codes.1;
      }

-- what holds of the cells of a build by its parts holds of it
pub by_cells : {K : Type 0} (P : Box → Content K → Tree K → Type 0)
    → ((C : Box) (c : Content K) → Cell C c [] → P C c (leaf C c))
    → ((C : Box) (c : Content K) (p : Reading K) (ps : List (Reading K)) → Cell C c (p ∷ ps)
    → (let E : Box = smallest (extent c) (point_of p) in
    let H : Box = half E (extent c) in
    let G : Box = half E (point_of p) in
    let L : Tree K = build H c (filter (lies H) ps) in
    let R : Tree K = build G (reading p) (filter (lies G) ps) in
    let O : Tree K = build C (box E) (filter (outside E) ps) in
    P H c L → P G (reading p) R → P C (box E) O → P C c (pair C (box_in c) E L R O)))
    → (n : ℕ) (C : Box) (c : Content K) (ps : List (Reading K)) → length ps ≤ n → Cell C c ps → P C c (build C c ps)
by_cells P none' more n C c [] l f = none' C c f
by_cells P none' more zero C c (p ∷ ps) l f = absurd (omega arith)
by_cells P none' more (suc n) C c (p ∷ ps) l f =
    let E : Box = smallest (extent c) (point_of p) in
    let H : Box = half E (extent c) in
    let G : Box = half E (point_of p) in
    subst (P C c) (sym (build_cons C c p ps f.all.0))
    (more C c p ps f
    (by_cells P none' more n H c (filter (lies H) ps) (omega (arith, length_kept (lies H) ps)) (cell_left C c p ps f))
    (by_cells P none' more n G (reading p) (filter (lies G) ps) (omega (arith, length_kept (lies G) ps)) (cell_right C c p ps f))
    (by_cells P none' more n C (box E) (filter (outside E) ps) (omega (arith, length_kept (outside E) ps)) (cell_outer C c p ps f)))

-- every internal node's outer box lies in F
abbrev pub Inside : {K : Type 0} → Box → Tree K → Type 0
Inside F (leaf C c) = Unit {0}
Inside F (shrink C i a b) = (within C F ≡ true) × Inside F a × Inside F b
Inside F (split E i a b) = (within E F ≡ true) × Inside F a × Inside F b

-- none does
abbrev pub Off : {K : Type 0} → Box → Tree K → Type 0
Off F (leaf C c) = Unit {0}
Off F (shrink C i a b) = (within C F ≡ false) × Off F a × Off F b
Off F (split E i a b) = (within E F ≡ false) × Off F a × Off F b

pub inside_wider : {K : Type 0} (F G : Box) → within F G ≡ true → (t : Tree K) → Inside F t → Inside G t
inside_wider F G h (leaf C c) a = tt
inside_wider F G h (shrink C i x y) a = (within_trans C F G a.0 h, inside_wider F G h x a.1, inside_wider F G h y a.2)
inside_wider F G h (split C i x y) a = (within_trans C F G a.0 h, inside_wider F G h x a.1, inside_wider F G h y a.2)

pub refuted : (b : Bool) → (b ≡ true → ⊥) → b ≡ false
refuted true h = absurd (h refl)
refuted false h = refl

pub off_from_inside : {K : Type 0} (F I : Box) → ((X : Box) → within X F ≡ true → within X I ≡ true → ⊥) → (t : Tree K) → Inside F t → Off I t
off_from_inside F I h (leaf C c) a = tt
off_from_inside F I h (shrink C i x y) a = (refuted (within C I) (h C a.0), off_from_inside F I h x a.1, off_from_inside F I h y a.2)
off_from_inside F I h (split C i x y) a = (refuted (within C I) (h C a.0), off_from_inside F I h x a.1, off_from_inside F I h y a.2)

pub off_smaller : {K : Type 0} (I E : Box) → within I E ≡ true → (t : Tree K) → Off E t → Off I t
off_smaller I E h (leaf C c) a = tt
off_smaller I E h (shrink C i x y) a =
    (refuted (within C I) (λ w. both_ways (within C E) a.0 (within_trans C I E w h)), off_smaller I E h x a.1, off_smaller I E h y a.2)
off_smaller I E h (split C i x y) a =
    (refuted (within C I) (λ w. both_ways (within C E) a.0 (within_trans C I E w h)), off_smaller I E h x a.1, off_smaller I E h y a.2)

-- The internal nodes of a cell lie in its outer box, and not in its inner one.
abbrev pub Avoids : {K : Type 0} → Content K → Tree K → Type 0
Avoids (reading r) t = Unit {0}
Avoids (box I) t = Off I t

module _ {K : Type 0} (C : Box) (p : Reading K) (ps : List (Reading K)) (L R O : Tree K) where
  pair_inside : (c : Content K) → Cell C c (p ∷ ps) → Inside (half (smallest (extent c) (point_of p)) (extent c)) L → Inside (half (smallest (extent c) (point_of p)) (point_of p)) R → Inside C O
      → Inside C (pair C (box_in c) (smallest (extent c) (point_of p)) L R O)
  pair_inside c f l r o =
      let E : Box = smallest (extent c) (point_of p) in
      let H : Box = half E (extent c) in
      let G : Box = half E (point_of p) in
      let e = middle_in C c p ps f in (
        within_refl C,
        (e, inside_wider H C (within_trans H E C (left_in C c p ps f) e) L l, inside_wider G C (within_trans G E C (right_in C c p ps f) e) R r),
        o,
      )

  pair_off : (I : Box) → Cell C (box I) (p ∷ ps) → Off I L → Inside (half (smallest I (point_of p)) (point_of p)) R → Off (smallest I (point_of p)) O
      → Off I (pair C (some I) (smallest I (point_of p)) L R O)
  pair_off I f l r o =
      let E : Box = smallest I (point_of p) in
      let G : Box = half E (point_of p) in
      let out : lies I p ≡ false = not-true (lies I p) (and_parts (lies C p) (outside I p) f.here.0).1 in (
        refuted (within C I) (λ w. both_ways (lies I p) out (within_holds C I p.code w (and_parts (lies C p) (outside I p) f.here.0).0)),
        (
          refuted (within E I) (λ w. both_ways (lies I p) out (within_holds E I p.code w (holds_next C (box I) p ps f))),
          l,
          off_from_inside G I (λ X g i. halves_apart C (box I) p ps f X (within_trans X I (half E I) i (near_extent C (box I) p ps f)) g) R r,
        ),
        off_smaller I E (smallest_left I (point_of p)) O o,
      )

  pair_avoids : (c : Content K) → Cell C c (p ∷ ps) → Avoids c L → Inside (half (smallest (extent c) (point_of p)) (point_of p)) R → Off (smallest (extent c) (point_of p)) O
      → Avoids c (pair C (box_in c) (smallest (extent c) (point_of p)) L R O)
  pair_avoids (reading q) f l r o = tt
  pair_avoids (box I) f l r o = pair_off I f l r o

leaf_avoids : {K : Type 0} (C : Box) (c : Content K) → Avoids c (leaf C c)
leaf_avoids C (reading r) = tt
leaf_avoids C (box I) = tt

pub lying_build : {K : Type 0} (n : ℕ) (C : Box) (c : Content K) (ps : List (Reading K)) → length ps ≤ n → Cell C c ps → Inside C (build C c ps) × Avoids c (build C c ps)
lying_build {K} =
    by_cells (λ C c t. Inside C t × Avoids c t) (λ C c f. (tt, leaf_avoids C c))
    (λ C c p ps f l r o. (pair_inside C p ps _ _ _ c f l.0 r.0 o.0, pair_avoids C p ps _ _ _ c f l.1 r.0 o.1))

-- every node's outer box is formed
abbrev pub Boxed : {K : Type 0} → Tree K → Type 0
Boxed (leaf C c) = Formed C
Boxed (shrink C i a b) = Formed C × Boxed a × Boxed b
Boxed (split E i a b) = Formed E × Boxed a × Boxed b

pub boxed_build : {K : Type 0} (n : ℕ) (C : Box) (c : Content K) (ps : List (Reading K)) → length ps ≤ n → Cell C c ps → Boxed (build C c ps)
boxed_build = by_cells (λ C c t. Boxed t) (λ C c f. f.formed) (λ C c p ps f l r o. (f.formed, (formed_middle C c p ps f, l, r), o))

-- the readings of the second child lie outside the first one's box
abbrev pub Parted : {K : Type 0} → Tree K → Type 0
Parted (leaf C c) = Unit {0}
Parted (shrink C i a b) = AllByRecursion (λ r. lies (outer a) r ≡ false) (readings b) × Parted a × Parted b
Parted (split E i a b) = AllByRecursion (λ r. lies (outer a) r ≡ false) (readings b) × Parted a × Parted b

pub parted_build : {K : Type 0} (n : ℕ) (C : Box) (c : Content K) (ps : List (Reading K)) → length ps ≤ n → Cell C c ps → Parted (build C c ps)
parted_build {K} = by_cells (λ C c t. Parted t) (λ C c f. tt) more
  where
    more : (C : Box) (c : Content K) (p : Reading K) (ps : List (Reading K)) → Cell C c (p ∷ ps)
        → (let E : Box = smallest (extent c) (point_of p) in
        let H : Box = half E (extent c) in
        let G : Box = half E (point_of p) in
        let L : Tree K = build H c (filter (lies H) ps) in
        let R : Tree K = build G (reading p) (filter (lies G) ps) in
        let O : Tree K = build C (box E) (filter (outside E) ps) in
        Parted L → Parted R → Parted O → Parted (pair C (box_in c) E L R O))
    more C c p ps f l r o =
        let E : Box = smallest (extent c) (point_of p) in
        let H : Box = half E (extent c) in
        let G : Box = half E (point_of p) in
        let off : (x : Reading K) → lies G x ≡ true → lies H x ≡ false = λ x g. grind (arith, halves E.depth (extent c).code p.code f.all.0 x.code) in
        let out : AllByRecursion (λ x. lies E x ≡ false) (readings (build C (box E) (filter (outside E) ps))) =
        all_insert_all (λ x. lies E x ≡ false) (leaf C (box E)) (filter (outside E) ps) tt
        (All-weaker (λ x. outside E x ≡ true) (λ x. lies E x ≡ false) (λ x e. not-true (lies E x) e) (filter (outside E) ps) (kept_by_passes (outside E) ps)) in
        let far : AllByRecursion (λ x. lies H x ≡ false) (readings (build G (reading p) (filter (lies G) ps))) =
        all_insert_all (λ x. lies H x ≡ false) (leaf G (reading p)) (filter (lies G) ps) (off p (holds_own (suc E.depth) p.code), tt)
        (All-weaker (λ x. lies G x ≡ true) (λ x. lies H x ≡ false) off (filter (lies G) ps) (kept_by_passes (lies G) ps)) in
        (out, (rw (outer_insert_all (leaf H c) (filter (lies H) ps)) far, l, r), o)
