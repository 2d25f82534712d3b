-- Entering, by settling each pair on the way up, gives the tree of the readings by rank.
use Rattle.std.proofs.Common.{◌≡◌, ℕ, zero, suc, ◌≤◌, Bool, true, false, cond, ◌&&◌, List, [], ◌∷◌, length, filter, sym, refl, ap, ◌∙◌, inl, inr, arith}
use mathlib.Core.Option.{Option, none, some}
use Rattle.std.specs.List.{AllByRecursion}
use Rattle.std.proofs.lemmas.Bool.{cases_Bool, both_ways, and_parts, and_right, cond-true, cond-false}
use Rattle.std.proofs.ByRecursion.{all_kept_by}
use Rattle.place.specs.Boxes.{Box, holds, smallest, half}
use Rattle.quadtreap.specs.Tree.{Reading, Content, reading, box, Tree, leaf, shrink, split, point_of, extent, box_in, outer, lies, outside, pair, insert, insert_all, build}
use Rattle.quadtreap.specs.declared.rank.Rank.{Rank}
use Rattle.quadtreap.specs.Rank.{before, put, earlier, rank_of}
use Rattle.quadtreap.specs.Pairs.{inner_box, left_of, promote_left, promote_outer, unranked, node_rank, creation, earlier_than, is_none, out_of_order, ordered, Frame, on_left, on_right, on_outer, plug, plug_all}
use Rattle.quadtreap.specs.Enter.{settle, enter_tree, settle_all, leads, leads_all}
use Rattle.place.proofs.BoxLaws.{Parts, halves}
use Rattle.quadtreap.proofs.BuildLaws.{build_cons, outer_insert_all}
use Rattle.quadtreap.proofs.RankLaws.{before_is, earlier_asym, before_trans, before_asym, put_front, all_before}
use Rattle.quadtreap.proofs.PromoteLaws.{with_left, with_right, with_outer}
use Rattle.quadtreap.proofs.KeepLaws.{length_kept}
use Rattle.quadtreap.proofs.SettleLaws.{ahead, exchanged_if, Heads, Fits, fits_near, fits_far, fits_out, apart_here, after_both, end_near, end_far, end_out}

-- the rank that a content gives its cell
abbrev pub name_of : {K : Type 0} → Content K → Rank
name_of (reading r) = rank_of r
name_of (box I) = unranked

pub node_rank_insert : {K : Type 0} (t : Tree K) (p : Reading K) → node_rank (insert t p) ≡ node_rank t
node_rank_insert (leaf C (reading r)) p = refl
node_rank_insert (leaf C (box I)) p = refl
node_rank_insert (shrink C none a b) p =
    let f = node_rank_insert a p in
    elim (lies (outer a) p) as (λ v. node_rank (cond v (shrink C none (insert a p) b) (shrink C none a (insert b p))) ≡ node_rank a) [ true ↦ f | false ↦ refl ]
node_rank_insert (shrink C (some I) a b) p =
    elim (lies (outer a) p) as (λ v. node_rank (cond v (shrink C (some I) (insert a p) b) (shrink C (some I) a (insert b p))) ≡ unranked) [ true ↦ refl | false ↦ refl ]
node_rank_insert (split C none a b) p =
    let f = node_rank_insert a p in
    elim (lies (outer a) p) as (λ v. node_rank (cond v (split C none (insert a p) b) (split C none a (insert b p))) ≡ node_rank a) [ true ↦ f | false ↦ refl ]
node_rank_insert (split C (some I) a b) p =
    elim (lies (outer a) p) as (λ v. node_rank (cond v (split C (some I) (insert a p) b) (split C (some I) a (insert b p))) ≡ unranked) [ true ↦ refl | false ↦ refl ]

pub node_rank_insert_all : {K : Type 0} (t : Tree K) (ps : List (Reading K)) → node_rank (insert_all t ps) ≡ node_rank t
node_rank_insert_all t [] = refl
node_rank_insert_all t (p ∷ ps) = node_rank_insert_all (insert t p) ps ∙ node_rank_insert t p

pub node_rank_build : {K : Type 0} (C : Box) (c : Content K) (ps : List (Reading K)) → node_rank (build C c ps) ≡ name_of c
node_rank_build C (reading r) ps = node_rank_insert_all (leaf C (reading r)) ps
node_rank_build C (box I) ps = node_rank_insert_all (leaf C (box I)) ps

-- the pair of a cell was made by the next reading
pub creation_build : {K : Type 0} (C : Box) (c : Content K) (p : Reading K) (ps : List (Reading K)) → Parts (extent c) (point_of p) → creation (build C c (p ∷ ps)) ≡ some (rank_of p)
creation_build C c p ps s =
    let G : Box = half (smallest (extent c) (point_of p)) (point_of p) in
    ap creation (build_cons C c p ps s) ∙ ap some (node_rank_build G (reading p) (filter (lies G) ps))

pub out_of_order_build : {K : Type 0} (C : Box) (c : Content K) (p : Reading K) (ps : List (Reading K)) → Parts (extent c) (point_of p) → out_of_order (build C c (p ∷ ps)) ≡ ahead p c
out_of_order_build {K} C c p ps s =
    let E : Box = smallest (extent c) (point_of p) in
    let H : Box = half E (extent c) in
    let G : Box = half E (point_of p) in
    ap out_of_order (build_cons C c p ps s)
    ∙ rw (node_rank_build G (reading p) (filter (lies G) ps), node_rank_build H c (filter (lies H) ps)) (last c)
  where
    last : (c : Content K) → (is_none (box_in c) && earlier (rank_of p) (name_of c)) ≡ ahead p c
    last (reading r) = sym (before_is p r)
    last (box I) = refl

-- the rank of the left child
pub left_node_rank : {K : Type 0} (C : Box) (c : Content K) (p : Reading K) (ps : List (Reading K)) → Parts (extent c) (point_of p) → node_rank (left_of (build C c (p ∷ ps))) ≡ name_of c
left_node_rank C c p ps s =
    let H : Box = half (smallest (extent c) (point_of p)) (extent c) in
    ap (λ t. node_rank (left_of t)) (build_cons C c p ps s) ∙ node_rank_build H c (filter (lies H) ps)

made_front : {K : Type 0} (C : Box) (c : Content K) (p q : Reading K) (ks : List (Reading K)) → Fits c p ks → Heads c (q ∷ ks) → ahead p c ≡ true
    → earlier (node_rank (left_of (build C c (put p ks)))) (rank_of q) ≡ before p q
made_front C (reading r) p q ks f heads h =
    ap (λ l. earlier (node_rank (left_of (build C (reading r) l))) (rank_of q)) (put_front p ks (all_before p r h ks heads.1))
    ∙ ap (λ a. earlier a (rank_of q)) (left_node_rank C (reading r) p ks f.here)
    ∙ sym (before_is r q) ∙ heads.0 ∙ sym (before_trans p r q h heads.0)
made_front C (box I) p q ks f heads h = absurd (both_ways false refl h)

module _ {K : Type 0} (C : Box) (c : Content K) (p : Reading K) where
  pub out_of_order_put : (ps : List (Reading K)) → Fits c p ps → out_of_order (build C c (put p ps)) ≡ ahead p c
  out_of_order_put [] f = out_of_order_build C c p [] f.here
  out_of_order_put (q ∷ qs) f =
      elim (cases_Bool (before p q)) [
        | inl h ↦ rw h (out_of_order_build C c p (q ∷ qs) f.here)
        | inr h ↦ rw h (out_of_order_build C c q (put p qs) f.all.0 ∙ late c f.heads ∙ sym (after_both C c p q qs f h))
      ]
    where
      late : (c : Content K) → Heads c (q ∷ qs) → ahead q c ≡ false
      late (reading r) h = before_asym r q h.0
      late (box I) h = refl

  -- what the children of the right pair are compared by
  pub made_put : (q : Reading K) (ks : List (Reading K)) → Fits c p ks → AllByRecursion (λ r. before q r ≡ true) ks → Heads c (q ∷ ks)
      → earlier_than (creation (exchanged_if (ahead p c) (build C c (put p ks)))) (some (rank_of q)) ≡ before p q
  made_put q ks f late heads =
      elim (cases_Bool (ahead p c)) [
        | inl h ↦ rw h (made_front C c p q ks f heads h)
        | inr h ↦ rw h (behind ks f late)
      ]
    where
      at : (l : List (Reading K)) (r : Reading K) (rs : List (Reading K)) → l ≡ r ∷ rs → Parts (extent c) (point_of r) → earlier_than (creation (build C c l)) (some (rank_of q)) ≡ before r q
      at l r rs e s = ap (λ m. earlier_than (creation (build C c m)) (some (rank_of q))) e ∙ ap (λ o. earlier_than o (some (rank_of q))) (creation_build C c r rs s) ∙ sym (before_is r q)

      behind : (ks : List (Reading K)) → Fits c p ks → AllByRecursion (λ r. before q r ≡ true) ks → earlier_than (creation (build C c (put p ks))) (some (rank_of q)) ≡ before p q
      behind [] f a = at (p ∷ []) p [] refl f.here
      behind (k ∷ ks) f a =
          elim (cases_Bool (before p k)) [
            | inl h ↦ at (put p (k ∷ ks)) p (k ∷ ks) (cond-true _ _ _ h) f.here
            | inr h ↦
                at (put p (k ∷ ks)) k (put p ks) (cond-false _ _ _ h) f.all.0
                ∙ before_asym q k a.0
                ∙ sym (elim (cases_Bool (before p q)) [ inl e ↦ absurd (both_ways (before p k) h (before_trans p q k e a.0)) | inr e ↦ e ])
          ]

pub ordered_idem : {K : Type 0} (x : Tree K) → ordered (ordered x) ≡ ordered x
ordered_idem x =
    elim (cases_Bool (out_of_order x)) [
      | inl h ↦ rw h (cond-false _ _ _ (and_right (is_none (inner_box x)) _ (earlier_asym _ _ (and_parts (is_none (inner_box x)) _ h).1)))
      | inr h ↦ rw h (rw h)
    ]

ordered_over : {K : Type 0} (C : Box) (c : Content K) (p : Reading K) (ps : List (Reading K)) → Fits c p ps → ordered (build C c (put p ps)) ≡ exchanged_if (ahead p c) (build C c (put p ps))
ordered_over C c p ps f = ap (λ v. exchanged_if v (build C c (put p ps))) (out_of_order_put C c p ps f)

ordered_final : {K : Type 0} (C : Box) (c : Content K) (p : Reading K) (ps : List (Reading K)) → Fits c p ps → ordered (exchanged_if (ahead p c) (build C c (put p ps))) ≡ exchanged_if (ahead p c) (build C c (put p ps))
ordered_final C c p ps f = let e = ordered_over C c p ps f in ap ordered (sym e) ∙ ordered_idem (build C c (put p ps)) ∙ e

pub heads_keep : {K : Type 0} (f : Reading K → Bool) (c : Content K) (q : Reading K) (qs : List (Reading K)) → Heads c (q ∷ qs) → Heads c (q ∷ filter f qs)
heads_keep f (reading r) q qs h = (h.0, all_kept_by f (λ r'. before r r' ≡ true) qs h.1)
heads_keep f (box I) q qs h = tt

-- one step at a pair
module _ {K : Type 0} (C : Box) (i : Option Box) (E : Box) (j : Option Box) where
  settle_left : (R O t : Tree K) (v : Bool) → earlier_than (creation t) (some (node_rank R)) ≡ v
      → settle (on_left C i E j R O) t ≡ ordered (cond v (promote_left (shrink C i (split E j t R) O)) (shrink C i (split E j t R) O))
  settle_left R O t true e = cond-true _ _ _ e
  settle_left R O t false e = cond-false _ _ _ e

  settle_outer : (L R t : Tree K) (v : Bool) → earlier_than (creation t) (some (node_rank R)) ≡ v
      → settle (on_outer C i E j L R) t ≡ cond v (ordered (promote_outer (shrink C i (split E j L R) t))) (shrink C i (split E j L R) t)
  settle_outer L R t v e = rw e

  step_near : (L R O : Tree K) (p : Reading K) (H : Box) (t : Tree K) → lies E p ≡ true → outer L ≡ H → lies H p ≡ true → enter_tree L p ≡ t
      → enter_tree (shrink C i (split E j L R) O) p ≡ settle (on_left C i E j R O) t
  step_near L R O p H t e o h d = rw (e, o, h, d)

  step_far : (L R O : Tree K) (p : Reading K) (H : Box) (t : Tree K) → lies E p ≡ true → outer L ≡ H → lies H p ≡ false → enter_tree R p ≡ t
      → enter_tree (shrink C i (split E j L R) O) p ≡ settle (on_right C i E j L O) t
  step_far L R O p H t e o h d = rw (e, o, h, d)

  step_out : (L R O : Tree K) (p : Reading K) (t : Tree K) → lies E p ≡ false → enter_tree O p ≡ t
      → enter_tree (shrink C i (split E j L R) O) p ≡ settle (on_outer C i E j L R) t
  step_out L R O p t e d = rw (e, d)

module _ {K : Type 0} (C : Box) (c : Content K) (p q : Reading K) (ps : List (Reading K)) (f : Fits c p (q ∷ ps)) where
  abbrev E : Box
  E = smallest (extent c) (point_of q)

  abbrev H : Box
  H = half E (extent c)

  abbrev G : Box
  G = half E (point_of q)

  abbrev y : Tree K
  y = build C c (q ∷ ps)

  abbrev b : Bool
  b = ahead p c

  abbrev L : Tree K
  L = build H c (filter (lies H) ps)

  abbrev R : Tree K
  R = build G (reading q) (filter (lies G) ps)

  abbrev O : Tree K
  O = build C (box E) (filter (outside E) ps)

  abbrev is : y ≡ pair C (box_in c) E L R O
  is = apart_here C c p q ps f

  abbrev labelled : node_rank R ≡ rank_of q
  labelled = node_rank_build G (reading q) (filter (lies G) ps)

  on_near : lies E p ≡ true → lies H p ≡ true → enter_tree L p ≡ exchanged_if b (build H c (put p (filter (lies H) ps))) → enter_tree y p ≡ exchanged_if b (build C c (put p (q ∷ ps)))
  on_near e h ih =
      let t : Tree K = exchanged_if b (build H c (put p (filter (lies H) ps))) in
      let made : earlier_than (creation t) (some (node_rank R)) ≡ before p q =
      ap (λ a. earlier_than (creation t) (some a)) labelled
      ∙ made_put H c p q (filter (lies H) ps) (fits_near c p q ps f (lies H)) (all_kept_by (lies H) (λ r. before q r ≡ true) ps f.rank.0) (heads_keep (lies H) c q ps f.heads) in
      ap (λ w. enter_tree w p) is
      ∙ step_near C (box_in c) E (box_in c) L R O p H t e (outer_insert_all (leaf H c) (filter (lies H) ps)) h ih
      ∙ settle_left C (box_in c) E (box_in c) R O t (before p q) made
      ∙ ap (λ w. ordered (cond (before p q) (promote_left (with_left w t)) (with_left w t))) (sym is)
      ∙ ap ordered (end_near C c p q ps f h (before p q) refl)
      ∙ ordered_final C c p (q ∷ ps) f

  on_far : lies E p ≡ true → lies H p ≡ false → lies G p ≡ true → enter_tree R p ≡ exchanged_if (before p q) (build G (reading q) (put p (filter (lies G) ps))) → enter_tree y p ≡ exchanged_if b (build C c (put p (q ∷ ps)))
  on_far e h g ih =
      let t : Tree K = exchanged_if (before p q) (build G (reading q) (put p (filter (lies G) ps))) in
      ap (λ w. enter_tree w p) is
      ∙ step_far C (box_in c) E (box_in c) L R O p H t e (outer_insert_all (leaf H c) (filter (lies H) ps)) h ih
      ∙ ap (λ w. ordered (with_right w t)) (sym is)
      ∙ ap ordered (end_far C c p q ps f g (before p q) refl)
      ∙ ordered_over C c p (q ∷ ps) f

  on_out : lies E p ≡ false → enter_tree O p ≡ build C (box E) (put p (filter (outside E) ps)) → enter_tree y p ≡ exchanged_if b (build C c (put p (q ∷ ps)))
  on_out e ih =
      let t : Tree K = build C (box E) (put p (filter (outside E) ps)) in
      let made : earlier_than (creation t) (some (node_rank R)) ≡ before p q =
      ap (λ a. earlier_than (creation t) (some a)) labelled
      ∙ made_put C (box E) p q (filter (outside E) ps) (fits_out c p q ps f e) (all_kept_by (outside E) (λ r. before q r ≡ true) ps f.rank.0) tt in
      ap (λ w. enter_tree w p) is
      ∙ step_out C (box_in c) E (box_in c) L R O p t e ih
      ∙ settle_outer C (box_in c) E (box_in c) L R t (before p q) made
      ∙ ap (λ w. cond (before p q) (ordered (promote_outer (with_outer w t))) (with_outer w t)) (sym is)
      ∙ close (before p q) refl
    where
      close : (v : Bool) → before p q ≡ v → (let t = build C (box E) (put p (filter (outside E) ps)) in cond v (ordered (promote_outer (with_outer y t))) (with_outer y t)) ≡ exchanged_if b (build C c (put p (q ∷ ps)))
      close true h = ap ordered (end_out C c p q ps f e true h) ∙ ordered_over C c p (q ∷ ps) f
      close false h = end_out C c p q ps f e false h ∙ ap (λ v. exchanged_if v (build C c (put p (q ∷ ps)))) (sym (after_both C c p q ps f h))

pub enter_build : {K : Type 0} (n : ℕ) (C : Box) (c : Content K) (p : Reading K) (ps : List (Reading K)) → length ps ≤ n → Fits c p ps
    → enter_tree (build C c ps) p ≡ exchanged_if (ahead p c) (build C c (put p ps))
enter_build n C c p [] l f = ordered_over C c p [] f
enter_build zero C c p (q ∷ ps) l f = absurd (omega arith)
enter_build (suc n) C c p (q ∷ ps) l f =
    let E : Box = smallest (extent c) (point_of q) in
    let H : Box = half E (extent c) in
    let G : Box = half E (point_of q) in
    elim (halves E.depth (extent c).code q.code f.all.0 p.code) [
      | inl o ↦ on_out C c p q ps f o.0 (enter_build n C (box E) p (filter (outside E) ps) (omega (arith, length_kept (outside E) ps)) (fits_out c p q ps f o.0))
      | inr (inl m) ↦ on_near C c p q ps f m.0 m.1 (enter_build n H c p (filter (lies H) ps) (omega (arith, length_kept (lies H) ps)) (fits_near c p q ps f (lies H)))
      | inr (inr m) ↦ on_far C c p q ps f m.0 m.1 m.2 (enter_build n G (reading q) p (filter (lies G) ps) (omega (arith, length_kept (lies G) ps)) (fits_far c p q ps f (lies G)))
    ]

-- entering into a child, and then its pair settled
pub enter_plug : {K : Type 0} (f : Frame K) (t : Tree K) (p : Reading K) → leads f t p.code ≡ true → enter_tree (plug f t) p ≡ settle f (enter_tree t p)
enter_plug (on_left C i E j R O) t p h =
    let a = and_parts (holds E p.code) (holds (outer t) p.code) h in step_near C i E j t R O p (outer t) (enter_tree t p) a.0 refl a.1 refl
enter_plug (on_right C i E j L O) t p h =
    let a : (holds E p.code ≡ true) × (holds (outer L) p.code ≡ false) = (grind arith, grind arith) in step_far C i E j L t O p (outer L) (enter_tree t p) a.0 refl a.1 refl
enter_plug (on_outer C i E j L R) t p h =
    let a : holds E p.code ≡ false = grind arith in step_out C i E j L R t p (enter_tree t p) a refl

pub enter_plug_all : {K : Type 0} (fs : List (Frame K)) (t : Tree K) (p : Reading K) → leads_all fs t p.code ≡ true → enter_tree (plug_all fs t) p ≡ settle_all fs (enter_tree t p)
enter_plug_all [] t p h = refl
enter_plug_all (f ∷ fs) t p h =
    let a = and_parts (leads f t p.code) (leads_all fs (plug f t) p.code) h in
    enter_plug_all fs (plug f t) p a.1 ∙ ap (settle_all fs) (enter_plug f t p a.0)
