-- The way up renews the entry of each node on it.
use Rattle.std.proofs.Common.{◌≡◌, ℕ, zero, suc, ◌+◌, ◌-◌, ◌<◌, ◌≤◌, List, [], ◌∷◌, length, get_or, set, sym, refl, ap, ◌∙◌, subst, arith, length-set, get_or-set_other, get_or-set_same, None, Some}
use mathlib.Core.Option.{Option}
use Rattle.records.specs.declared.record.Record.{Record}
use Rattle.place.specs.Boxes.{Box}
use Rattle.quadtreap.specs.Tree.{nodes}
use Rattle.quadtreap.specs.Walk.{tally_of}
use Rattle.records.specs.Links.{Link}
use Rattle.records.specs.PlacedNodes.{NodeKind as Kind, shrinks, splits, kind_of, in_record, PlacedNodes, leaf_at, node_at, unplaced, grown, place_of, one, occurs, NodeFrame, first, second, plug, above}
use Rattle.records.specs.Writes.{at}
use Rattle.tables.specs.Totals.{Has, Totals, renewed, climbed}
use Rattle.records.proofs.FrameLaws.{one_same, differ, occurs_around, LiesAmong, up_first, up_second}

module _ {K : Type 0} (join : K → K → K) (e : K) where
  -- a write elsewhere
  pub bears_other : (ts : List K) (q : ℕ) (x : K) (i : ℕ) (k : K) → one q i ≡ 0 → Has ts i k → Has (set ts q x) i k
  bears_other ts q x i k far h = record { within = simp length-set h.within; reads = λ d. get_or-set_other ts q i x d (λ z. differ q i far (sym z)) ∙ h.reads d }

  pub bears_same : (ts : List K) (i : ℕ) (x : K) → i < length ts → Has (set ts i x) i x
  bears_same ts i x h = record { within = simp length-set h; reads = λ d. get_or-set_same ts i x d h }

  pub totals_other : (ts : List K) (q : ℕ) (x : K) (t : PlacedNodes K) → occurs q t ≡ 0 → Totals join e ts t → Totals join e (set ts q x) t
  totals_other ts q x (leaf_at p C c) far h = bears_other ts q x p _ far h
  totals_other ts q x (node_at k p r C g a b) far h =
      (bears_other ts q x p _ (omega arith) h.0, totals_other ts q x a (omega arith) h.1, totals_other ts q x b (omega arith) h.2)

  pub root_bears : (ts : List K) (t : PlacedNodes K) → Totals join e ts t → Has ts (place_of t) (tally_of join e (unplaced t))
  root_bears ts (leaf_at p C c) h = h
  root_bears ts (node_at k p r C g a b) h = h.0

  joins : (k : Kind) (C : Box) (g : Option Box) (a b : PlacedNodes K) → join (tally_of join e (unplaced a)) (tally_of join e (unplaced b)) ≡ tally_of join e (grown k C g (unplaced a) (unplaced b))
  joins shrinks C g a b = refl
  joins splits C g a b = refl

  -- the entries of what stands beside the way up
  abbrev pub Beside : List K → List (NodeFrame K) → Type 0
  Beside ts [] = Unit {0}
  Beside ts (first k p r C g b ∷ f) = (p < length ts) × Totals join e ts b × Beside ts f
  Beside ts (second k p r C g a ∷ f) = (p < length ts) × Totals join e ts a × Beside ts f

  pub beside_other : (ts : List K) (q : ℕ) (x : K) (f : List (NodeFrame K)) → occurs_around q f ≡ 0 → Beside ts f → Beside (set ts q x) f
  beside_other ts q x [] far h = tt
  beside_other ts q x (first k p r C g b ∷ f) far h = (simp length-set h.0, totals_other ts q x b (omega arith) h.1, beside_other ts q x f (omega arith) h.2)
  beside_other ts q x (second k p r C g b ∷ f) far h = (simp length-set h.0, totals_other ts q x b (omega arith) h.1, beside_other ts q x f (omega arith) h.2)

  pub beside : (ts : List K) (f : List (NodeFrame K)) (t : PlacedNodes K) → Totals join e ts (plug f t) → Totals join e ts t × Beside ts f
  beside ts [] t h = (h, tt)
  beside ts (first k p r C g b ∷ f) t h = let u = beside ts f (node_at k p r C g t b) h in (u.0.1, (u.0.0.within, u.0.2, u.1))
  beside ts (second k p r C g a ∷ f) t h = let u = beside ts f (node_at k p r C g a t) h in (u.0.2, (u.0.0.within, u.0.1, u.1))

  module _ (recs : List Record) where
    abbrev run : ℕ → Link → List K → List K
    run n i ts = climbed join e recs n i ts

    pub stops : (n : ℕ) (ts : List K) → run n None ts ≡ ts
    stops zero ts = refl
    stops (suc n) ts = refl

    -- one turn of the loop, with d behind it: r is what it reads
    pub turns : (n d i : ℕ) (from j : Link) (ts ts' : List K) (r : Record) → d < n → from ≡ Some i → r ≡ at recs i → ts' ≡ renewed join e ts i r.first r.second → j ≡ r.parent → run (n - (d + 1)) j ts' ≡ run (n - d) from ts
    turns n d i from j ts ts' r some at_i is new to =
        let left : n - d ≡ suc (n - (d + 1)) = omega arith in
        let m : ℕ = n - (d + 1) in
        ap (λ p. run m p ts') to ∙ ap (λ (l : List K). run m r.parent l) new
        ∙ ap (λ (v : Record). run m v.parent (renewed join e ts i v.first v.second)) is ∙ ap (λ (k : ℕ). run k (Some i) ts) (sym left) ∙ ap (λ p. run (n - d) p ts) (sym at_i)

    -- a turn at a node whose children bear x and y
    steps_on : (n p a b : ℕ) (q : Link) (ts : List K) (x y : K) (r : Record) → at recs p ≡ r → r.first ≡ a → r.second ≡ b → r.parent ≡ q → Has ts a x → Has ts b y
        → run (suc n) (Some p) ts ≡ run n q (set ts p (join x y))
    steps_on n p a b q ts x y r is fa fb fq ha hb =
        ap (λ (v : Record). run n v.parent (renewed join e ts p v.first v.second)) is
        ∙ ap (λ m. run n m (renewed join e ts p r.first r.second)) fq
        ∙ ap (λ (m : ℕ). run n q (renewed join e ts p m r.second)) fa
        ∙ ap (λ (m : ℕ). run n q (renewed join e ts p a m)) fb
        ∙ ap (λ (v : K). run n q (set ts p (join v (get_or ts b e)))) (ha.reads e)
        ∙ ap (λ (v : K). run n q (set ts p (join x v))) (hb.reads e)

    -- what the run leaves: the entries of the whole plan, and nothing else changed
    pub record Climbs (ts ts' : List K) (f : List (NodeFrame K)) (t : PlacedNodes K) : Type 0 where
      pub totals : Totals join e ts' (plug f t)
      pub others : (i : ℕ) (d : K) → occurs_around i f ≡ 0 → get_or ts' i d ≡ get_or ts i d
      pub long : length ts' ≡ length ts

    pub climbs : (n : ℕ) (f : List (NodeFrame K)) (t : PlacedNodes K) (ts : List K) → LiesAmong recs f t → length f ≤ n → Totals join e ts t → Beside ts f → Climbs ts (run n (above f) ts) f t
    climbs n [] t ts h few tot bes =
        subst (λ (l : List K). Climbs ts l [] t) (sym (stops n ts)) record { totals = tot; others = λ i d far. refl; long = refl }
    climbs zero (first k p r C g b ∷ f) t ts h few tot bes = absurd (omega arith)
    climbs zero (second k p r C g b ∷ f) t ts h few tot bes = absurd (omega arith)
    climbs (suc n) (first k p r C g b ∷ f) t ts h few tot bes =
        let s = one_same p in
        let o = h.once p in
        let x : K = join (tally_of join e (unplaced t)) (tally_of join e (unplaced b)) in
        let turn : run (suc n) (Some p) ts ≡ run n (above f) (set ts p x) =
        steps_on n p (place_of t) (place_of b) (above f) ts _ _ (in_record (kind_of k) C g (place_of t) (place_of b) (above f) r) h.around.0.reads refl refl refl (root_bears ts t tot) (root_bears ts b bes.1) in
        let here : Has (set ts p x) p (tally_of join e (unplaced (node_at k p r C g t b))) = subst (λ (v : K). Has (set ts p x) p v) (joins k C g t b) (bears_same ts p x bes.0) in
        let on : Climbs (set ts p x) (run n (above f) (set ts p x)) f (node_at k p r C g t b) =
        climbs n f (node_at k p r C g t b) (set ts p x) (up_first recs f k p r C g t b h) (omega arith)
        (here, totals_other ts p x t (omega arith) tot, totals_other ts p x b (omega arith) bes.1) (beside_other ts p x f (omega arith) bes.2) in
        subst (λ (l : List K). Climbs ts l (first k p r C g b ∷ f) t) (sym turn)
        record {
          totals = on.totals;
          others = λ i d far. on.others i d (omega arith) ∙ get_or-set_other ts p i x d (differ i p (omega arith));
          long = on.long ∙ length-set ts p x;
        }
    climbs (suc n) (second k p r C g a ∷ f) t ts h few tot bes =
        let s = one_same p in
        let o = h.once p in
        let x : K = join (tally_of join e (unplaced a)) (tally_of join e (unplaced t)) in
        let turn : run (suc n) (Some p) ts ≡ run n (above f) (set ts p x) =
        steps_on n p (place_of a) (place_of t) (above f) ts _ _ (in_record (kind_of k) C g (place_of a) (place_of t) (above f) r) h.around.0.reads refl refl refl (root_bears ts a bes.1) (root_bears ts t tot) in
        let here : Has (set ts p x) p (tally_of join e (unplaced (node_at k p r C g a t))) = subst (λ (v : K). Has (set ts p x) p v) (joins k C g a t) (bears_same ts p x bes.0) in
        let on : Climbs (set ts p x) (run n (above f) (set ts p x)) f (node_at k p r C g a t) =
        climbs n f (node_at k p r C g a t) (set ts p x) (up_second recs f k p r C g a t h) (omega arith)
        (here, totals_other ts p x a (omega arith) bes.1, totals_other ts p x t (omega arith) tot) (beside_other ts p x f (omega arith) bes.2) in
        subst (λ (l : List K). Climbs ts l (second k p r C g a ∷ f) t) (sym turn)
        record {
          totals = on.totals;
          others = λ i d far. on.others i d (omega arith) ∙ get_or-set_other ts p i x d (differ i p (omega arith));
          long = on.long ∙ length-set ts p x;
        }

  -- the way up is no longer than the number of nodes
  grows : (k : Kind) (C : Box) (g : Option Box) (a b : PlacedNodes K) → nodes (grown k C g (unplaced a) (unplaced b)) ≡ suc (nodes (unplaced a) + nodes (unplaced b))
  grows shrinks C g a b = refl
  grows splits C g a b = refl

  pub way_short : (f : List (NodeFrame K)) (t : PlacedNodes K) → nodes (unplaced t) + length f ≤ nodes (unplaced (plug f t))
  way_short [] t = omega arith
  way_short (first k p r C g b ∷ f) t = let h = way_short f (node_at k p r C g t b) in let n = grows k C g t b in omega arith
  way_short (second k p r C g a ∷ f) t = let h = way_short f (node_at k p r C g a t) in let n = grows k C g a t in omega arith
