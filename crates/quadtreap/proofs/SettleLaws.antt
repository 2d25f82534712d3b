-- A reading on its way to its rank: what becomes of a pair when a child has changed.
use Rattle.std.proofs.Common.{◌≡◌, Bool, true, false, cond, List, ◌∷◌, filter, sym, refl, ap, ◌∙◌, inl, inr}
use Rattle.std.specs.List.{AllByRecursion}
use Rattle.std.proofs.lemmas.Bool.{not-true, cases_Bool, both_ways}
use Rattle.std.proofs.ByRecursion.{all_kept_by}
use Rattle.place.specs.Boxes.{Box, smallest, half}
use Rattle.quadtreap.specs.Tree.{Reading, Content, reading, box, Tree, point_of, extent, box_in, lies, outside, pair, build}
use Rattle.quadtreap.specs.Rank.{before, Ranked, put}
use Rattle.quadtreap.specs.Pairs.{exchanged, promote_left, promote_outer}
use Rattle.place.proofs.BoxLaws.{Parts}
use Rattle.quadtreap.proofs.BuildLaws.{build_cons}
use Rattle.quadtreap.proofs.RankLaws.{before_trans, ranked_kept, put_front, all_before}
use Rattle.quadtreap.proofs.PromoteLaws.{with_left, with_right, with_outer, first_two_exchanged}
use Rattle.quadtreap.proofs.PutLaws.{child_near, child_far, child_out, later, earlier_near, earlier_far, earlier_out}
use Rattle.quadtreap.proofs.KeepLaws.{all_kept_with, outside_parts, Apart, apart_kept}

-- p ranks before what c is
abbrev pub ahead : {K : Type 0} → Reading K → Content K → Bool
ahead p (reading r) = before p r
ahead p (box I) = false

abbrev pub exchanged_if : {K : Type 0} → Bool → Tree K → Tree K
exchanged_if b t = cond b (exchanged t) t

-- what a reading c ranks before
abbrev pub Heads : {K : Type 0} → Content K → List (Reading K) → Type 0
Heads (reading r) qs = AllByRecursion (λ q. before r q ≡ true) qs
Heads (box I) qs = Unit {0}

pub heads_kept : {K : Type 0} (f : Reading K → Bool) (c : Content K) (qs : List (Reading K)) → Heads c qs → Heads c (filter f qs)
heads_kept f (reading r) qs h = all_kept_by f (λ q. before r q ≡ true) qs h
heads_kept f (box I) qs h = tt

pub heads_tail : {K : Type 0} (c : Content K) (q : Reading K) (qs : List (Reading K)) → Heads c (q ∷ qs) → Heads c qs
heads_tail (reading r) q qs h = h.1
heads_tail (box I) q qs h = tt

pub heads_before : {K : Type 0} (c : Content K) (p q : Reading K) (qs : List (Reading K)) → Heads c (q ∷ qs) → ahead p c ≡ true → before p q ≡ true
heads_before (reading r) p q qs h a = before_trans p r q a h.0
heads_before (box I) p q qs h a = absurd (both_ways false refl a)

-- a cell's content and its readings, and one that is to come
pub record Fits {K : Type 0} (c : Content K) (p : Reading K) (ps : List (Reading K)) : Type 0 where
  pub here : Parts (extent c) (point_of p)
  pub all : AllByRecursion (λ r. Parts (extent c) (point_of r)) ps
  pub clear : AllByRecursion (λ r. Parts (point_of r) (point_of p)) ps
  pub apart : Apart ps
  pub rank : Ranked ps
  pub heads : Heads c ps

module _ {K : Type 0} (c : Content K) (p q : Reading K) (ps : List (Reading K)) (f : Fits c p (q ∷ ps)) where
  pub fits_near : (t : Reading K → Bool) → Fits c p (filter t ps)
  fits_near t =
      record {
        here = f.here;
        all = all_kept_by t (λ r. Parts (extent c) (point_of r)) ps f.all.1;
        clear = all_kept_by t (λ r. Parts (point_of r) (point_of p)) ps f.clear.1;
        apart = apart_kept t ps f.apart.1;
        rank = ranked_kept t ps f.rank.1;
        heads = heads_kept t c ps (heads_tail c q ps f.heads);
      }

  pub fits_far : (t : Reading K → Bool) → Fits (reading q) p (filter t ps)
  fits_far t =
      record {
        here = f.clear.0;
        all = all_kept_by t (λ r. Parts (point_of q) (point_of r)) ps f.apart.0;
        clear = all_kept_by t (λ r. Parts (point_of r) (point_of p)) ps f.clear.1;
        apart = apart_kept t ps f.apart.1;
        rank = ranked_kept t ps f.rank.1;
        heads = all_kept_by t (λ r. before q r ≡ true) ps f.rank.0;
      }

  pub fits_out : lies (smallest (extent c) (point_of q)) p ≡ false → Fits (box (smallest (extent c) (point_of q))) p (filter (outside (smallest (extent c) (point_of q))) ps)
  fits_out o =
      let E : Box = smallest (extent c) (point_of q) in
      record {
        here = outside_parts (extent c) q.code p.code f.all.0 f.here o;
        all = all_kept_with (λ r. Parts (extent c) (point_of r)) (λ r. Parts E (point_of r)) (outside E) (λ r u n. outside_parts (extent c) q.code r.code f.all.0 u (not-true (lies E r) n)) ps f.all.1;
        clear = all_kept_by (outside E) (λ r. Parts (point_of r) (point_of p)) ps f.clear.1;
        apart = apart_kept (outside E) ps f.apart.1;
        rank = ranked_kept (outside E) ps f.rank.1;
        heads = tt;
      }

exchanged_if_left : {K : Type 0} (b : Bool) (x y : Tree K) → promote_left (with_left x (exchanged_if b y)) ≡ exchanged_if b (promote_left (with_left x y))
exchanged_if_left true x y = refl
exchanged_if_left false x y = refl

module _ {K : Type 0} (C : Box) (c : Content K) (p q : Reading K) (ps : List (Reading K)) (f : Fits c p (q ∷ ps)) where
  abbrev E : Box
  E = smallest (extent c) (point_of q)

  abbrev H : Box
  H = half E (extent c)

  abbrev G : Box
  G = half E (point_of q)

  abbrev y : Tree K
  y = build C c (q ∷ ps)

  abbrev b : Bool
  b = ahead p c

  pub apart_here : y ≡ pair C (box_in c) E (build H c (filter (lies H) ps)) (build G (reading q) (filter (lies G) ps)) (build C (box E) (filter (outside E) ps))
  apart_here = build_cons C c q ps f.all.0

  -- a reading that ranks after q ranks after c too
  pub after_both : before p q ≡ false → b ≡ false
  after_both n = elim (cases_Bool b) [ inl a ↦ absurd (both_ways (before p q) n (heads_before c p q ps f.heads a)) | inr a ↦ a ]

  pub end_near : lies H p ≡ true → (v : Bool) → before p q ≡ v
      → (let t = exchanged_if b (build H c (put p (filter (lies H) ps))) in cond v (promote_left (with_left y t)) (with_left y t)) ≡ exchanged_if b (build C c (put p (q ∷ ps)))
  end_near h true e =
      exchanged_if_left b y (build H c (put p (filter (lies H) ps))) ∙ ap (exchanged_if b) (sym (earlier_near C c q p ps f.all.0 f.here f.rank e h))
  end_near h false e =
      rw (after_both e) (sym (later C c q p ps f.all.0 f.rank.1 e ∙ child_near C c q p ps f.all.0 f.rank.1 h))

  pub end_far : lies G p ≡ true → (v : Bool) → before p q ≡ v
      → with_right y (exchanged_if v (build G (reading q) (put p (filter (lies G) ps)))) ≡ build C c (put p (q ∷ ps))
  end_far h true e =
      ap (with_right y)
      (ap (λ l. exchanged (build G (reading q) l)) (put_front p (filter (lies G) ps) (all_kept_by (lies G) (λ r. before p r ≡ true) ps (all_before p q e ps f.rank.0)))
      ∙ sym (first_two_exchanged G q p (filter (lies G) ps) f.clear.0))
      ∙ sym (earlier_far C c q p ps f.all.0 f.here f.rank e h)
  end_far h false e = sym (later C c q p ps f.all.0 f.rank.1 e ∙ child_far C c q p ps f.all.0 f.rank.1 h)

  pub end_out : lies E p ≡ false → (v : Bool) → before p q ≡ v
      → (let t = build C (box E) (put p (filter (outside E) ps)) in cond v (promote_outer (with_outer y t)) (with_outer y t)) ≡ build C c (put p (q ∷ ps))
  end_out h true e = sym (earlier_out C c q p ps f.all.0 f.here f.rank e h)
  end_out h false e = sym (later C c q p ps f.all.0 f.rank.1 e ∙ child_out C c q p ps f.all.0 f.rank.1 h)
