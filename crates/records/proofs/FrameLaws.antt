-- Trees in a table: the frames around a tree, and what a few writes leave as it was.
use Rattle.std.proofs.Common.{◌≡◌, ℕ, ◌+◌, ◌<◌, ◌≤◌, cond, ◌≢◌, List, [], ◌∷◌, length, set, sym, refl, ap, ◌∙◌, subst, inl, inr, arith, length-set, get_or-set_other, get_or-set_same, Some}
use mathlib.Core.Option.{Option}
use Rattle.std.proofs.lemmas.Bool.{eq-eqb, ne_eqb, cases_eq}
use Rattle.records.specs.declared.record.Record.{Record}
use Rattle.place.specs.Boxes.{Box}
use Rattle.quadtreap.specs.Tree.{outer}
use Rattle.quadtreap.specs.declared.rank.Rank.{Rank}
use Rattle.records.specs.Links.{Link}
use Rattle.records.specs.PlacedNodes.{NodeKind, shrinks, splits, kind_of, in_record, PlacedNodes, leaf_at, node_at, unplaced, grown, place_of, one, occurs, Shallow, Sized, numbers_of, carried, blank, record_of, Lies, NodesRecorded, LiesIn, NodeFrame, first, second, plug, above}
use Rattle.records.specs.Writes.{at, Write, wrote}

-- places
pub one_same : (i : ℕ) → one i i ≡ 1
unfolding one
one_same i = ap (λ b. cond b 1 0) (eq-eqb i i refl)

one_is : (i j : ℕ) → i ≡ j → one i j ≡ 1
one_is i j e = subst (λ k. one i k ≡ 1) e (one_same i)

pub differ : (i j : ℕ) → one i j ≡ 0 → i ≢ j
differ i j zero' e = let k = one_is i j e in omega arith

pub one_not : (i j : ℕ) → i ≢ j → one i j ≡ 0
unfolding one
one_not i j far = ap (λ b. cond b 1 0) (ne_eqb i j far)

pub one_le : (i j : ℕ) → one i j ≤ 1
one_le i j = elim (cases_eq i j) [ inl e ↦ let k = one_is i j e in omega arith | inr far ↦ let k = one_not i j far in omega arith ]

-- the places of some writes
abbrev pub touched : ℕ → List Write → ℕ
touched i [] = 0
touched i (w ∷ ws) = one i w.place + touched i ws

pub data In (w : Write) : List Write → Type 0 where
  here : {ws : List Write} → In w (w ∷ ws)
  there : {v : Write} {ws : List Write} → In w ws → In w (v ∷ ws)

pub long : (ws : List Write) (t : List Record) → length (wrote ws t) ≡ length t
long [] t = refl
long (w ∷ ws) t = long ws (set t w.place w.value) ∙ length-set t w.place w.value

pub reads_on : (ws : List Write) (t : List Record) (i : ℕ) → touched i ws ≡ 0 → at (wrote ws t) i ≡ at t i
reads_on [] t i far = refl
reads_on (w ∷ ws) t i far = reads_on ws (set t w.place w.value) i (omega arith) ∙ get_or-set_other t w.place i w.value blank (differ i w.place (omega arith))

pub reads_in : {w : Write} {ws : List Write} → In w ws → (t : List Record) → touched w.place ws ≤ 1 → w.place < length t → at (wrote ws t) w.place ≡ w.value
reads_in {w} (here {ws}) t few within =
    let k = one_same w.place in
    reads_on ws (set t w.place w.value) w.place (omega arith) ∙ get_or-set_same t w.place w.value blank within
reads_in {w} (there {v} {ws} m) t few within = reads_in m (set t v.place v.value) (omega arith) (simp length-set within)

module _ {K : Type 0} where
  pub root_le : (t : PlacedNodes K) (i : ℕ) → one i (place_of t) ≤ occurs i t
  root_le (leaf_at p C c) i = omega arith
  root_le (node_at k p r C g a b) i = omega arith

  pub root_occurs : (t : PlacedNodes K) → 1 ≤ occurs (place_of t) t
  root_occurs t = let k = one_same (place_of t) in let h = root_le t (place_of t) in omega arith

  -- the record of a root
  pub root_lies : (recs : List Record) (p : Link) (t : PlacedNodes K) → NodesRecorded recs p t → Lies recs (place_of t) (record_of p t)
  root_lies recs p (leaf_at q C c) h = h
  root_lies recs p (node_at k q r C g a b) h = h.0

  pub root_outer : (p : Link) (t : PlacedNodes K) → (record_of p t).outer ≡ numbers_of (outer (unplaced t))
  root_outer p (leaf_at q C c) = refl
  root_outer p (node_at k q r C g a b) =
      elim k as (λ v. numbers_of C ≡ numbers_of (outer (grown v C g (unplaced a) (unplaced b)))) [ shrinks ↦ refl | splits ↦ refl ]

  pub root_rank : (p : Link) (t : PlacedNodes K) → (record_of p t).rank ≡ carried t
  root_rank p (leaf_at q C c) = refl
  root_rank p (node_at k q r C g a b) = refl

  pub root_sized : (t : PlacedNodes K) → Sized t → (outer (unplaced t)).depth ≤ 32
  root_sized (leaf_at q C c) h = h.0
  root_sized (node_at k q r C g a b) h =
      elim k as (λ v. (outer (grown v C g (unplaced a) (unplaced b))).depth ≤ 32) [ shrinks ↦ h.0 | splits ↦ h.0 ]

  -- a tree lies in every table that has the same at its places
  pub same_nodes : (recs recs' : List Record) → length recs' ≡ length recs → (p : Link) (t : PlacedNodes K) → ((i : ℕ) → 1 ≤ occurs i t → at recs' i ≡ at recs i) → NodesRecorded recs p t → NodesRecorded recs' p t
  same_nodes recs recs' len p (leaf_at q C c) agree h =
      let k = one_same q in record { within = subst (λ n. q < n) (sym len) h.within; reads = agree q (omega arith) ∙ h.reads }
  same_nodes recs recs' len p (node_at k q r C g a b) agree h =
      let o = one_same q in (
        record { within = subst (λ n. q < n) (sym len) h.0.within; reads = agree q (omega arith) ∙ h.0.reads },
        same_nodes recs recs' len (Some q) a (λ i some. agree i (omega arith)) h.1,
        same_nodes recs recs' len (Some q) b (λ i some. agree i (omega arith)) h.2,
      )

  -- the frames
  abbrev pub occurs_around : ℕ → List (NodeFrame K) → ℕ
  occurs_around i [] = 0
  occurs_around i (first k p r C g b ∷ f) = one i p + (occurs i b + occurs_around i f)
  occurs_around i (second k p r C g a ∷ f) = one i p + (occurs i a + occurs_around i f)

  abbrev pub Around : List Record → ℕ → List (NodeFrame K) → Type 0
  Around recs x [] = Unit {0}
  Around recs x (first k p r C g b ∷ f) = Lies recs p (in_record (kind_of k) C g x (place_of b) (above f) r) × NodesRecorded recs (Some p) b × Around recs p f
  Around recs x (second k p r C g a ∷ f) = Lies recs p (in_record (kind_of k) C g (place_of a) x (above f) r) × NodesRecorded recs (Some p) a × Around recs p f

  abbrev pub AllSized : List (NodeFrame K) → Type 0
  AllSized [] = Unit {0}
  AllSized (first k p r C g b ∷ f) = (C.depth ≤ 32) × Shallow g × Sized b × AllSized f
  AllSized (second k p r C g a ∷ f) = (C.depth ≤ 32) × Shallow g × Sized a × AllSized f

  -- the tree t lies in the table, in the frames f
  pub record LiesAmong (recs : List Record) (f : List (NodeFrame K)) (t : PlacedNodes K) : Type 0 where
    pub laid : NodesRecorded recs (above f) t
    pub around : Around recs (place_of t) f
    pub once : (i : ℕ) → occurs i t + occurs_around i f ≤ 1
    pub low : (i : ℕ) → 65535 ≤ i → occurs i t + occurs_around i f ≡ 0
    pub sized : Sized t
    pub framed : AllSized f

  pub down_first : (recs : List Record) (f : List (NodeFrame K)) (k : NodeKind) (p : ℕ) (r : Rank) (C : Box) (g : Option Box) (a b : PlacedNodes K) → LiesAmong recs f (node_at k p r C g a b) → LiesAmong recs (first k p r C g b ∷ f) a
  down_first recs f k p r C g a b h = record {
    laid = h.laid.1;
    around = (h.laid.0, h.laid.2, h.around);
    once = λ i. let o = h.once i in omega arith;
    low = λ i l. let o = h.low i l in omega arith;
    sized = h.sized.2;
    framed = (h.sized.0, h.sized.1, h.sized.3, h.framed);
  }

  pub down_second : (recs : List Record) (f : List (NodeFrame K)) (k : NodeKind) (p : ℕ) (r : Rank) (C : Box) (g : Option Box) (a b : PlacedNodes K) → LiesAmong recs f (node_at k p r C g a b) → LiesAmong recs (second k p r C g a ∷ f) b
  down_second recs f k p r C g a b h = record {
    laid = h.laid.2;
    around = (h.laid.0, h.laid.1, h.around);
    once = λ i. let o = h.once i in omega arith;
    low = λ i l. let o = h.low i l in omega arith;
    sized = h.sized.3;
    framed = (h.sized.0, h.sized.1, h.sized.2, h.framed);
  }

  pub up_first : (recs : List Record) (f : List (NodeFrame K)) (k : NodeKind) (p : ℕ) (r : Rank) (C : Box) (g : Option Box) (a b : PlacedNodes K) → LiesAmong recs (first k p r C g b ∷ f) a → LiesAmong recs f (node_at k p r C g a b)
  up_first recs f k p r C g a b h = record {
    laid = (h.around.0, h.laid, h.around.1);
    around = h.around.2;
    once = λ i. let o = h.once i in omega arith;
    low = λ i l. let o = h.low i l in omega arith;
    sized = (h.framed.0, h.framed.1, h.sized, h.framed.2);
    framed = h.framed.3;
  }

  pub up_second : (recs : List Record) (f : List (NodeFrame K)) (k : NodeKind) (p : ℕ) (r : Rank) (C : Box) (g : Option Box) (a b : PlacedNodes K) → LiesAmong recs (second k p r C g a ∷ f) b → LiesAmong recs f (node_at k p r C g a b)
  up_second recs f k p r C g a b h = record {
    laid = (h.around.0, h.around.1, h.laid);
    around = h.around.2;
    once = λ i. let o = h.once i in omega arith;
    low = λ i l. let o = h.low i l in omega arith;
    sized = (h.framed.0, h.framed.1, h.framed.2, h.sized);
    framed = h.framed.3;
  }

  pub enters : (recs : List Record) (t : PlacedNodes K) → LiesIn recs t → LiesAmong recs [] t
  enters recs t h = record {
    laid = h.laid;
    around = tt;
    once = λ i. let o = h.once i in omega arith;
    low = λ i l. let o = h.low i l in omega arith;
    sized = h.sized;
    framed = tt;
  }

  pub leaves : (recs : List Record) (t : PlacedNodes K) → LiesAmong recs [] t → LiesIn recs t
  leaves recs t h = record {
    laid = h.laid;
    once = λ i. let o = h.once i in omega arith;
    low = λ i l. let o = h.low i l in omega arith;
    sized = h.sized;
  }

  pub occurs_plug : (f : List (NodeFrame K)) (t : PlacedNodes K) (i : ℕ) → occurs i (plug f t) ≡ occurs i t + occurs_around i f
  occurs_plug [] t i = omega arith
  occurs_plug (first k p r C g b ∷ f) t i = let h = occurs_plug f (node_at k p r C g t b) i in omega arith
  occurs_plug (second k p r C g a ∷ f) t i = let h = occurs_plug f (node_at k p r C g a t) i in omega arith

  pub unplug : (recs : List Record) (f : List (NodeFrame K)) (t : PlacedNodes K) → LiesIn recs (plug f t) → LiesAmong recs f t
  unplug recs [] t h = enters recs t h
  unplug recs (first k p r C g b ∷ f) t h = down_first recs f k p r C g t b (unplug recs f (node_at k p r C g t b) h)
  unplug recs (second k p r C g a ∷ f) t h = down_second recs f k p r C g a t (unplug recs f (node_at k p r C g a t) h)

  pub replug : (recs : List Record) (f : List (NodeFrame K)) (t : PlacedNodes K) → LiesAmong recs f t → LiesIn recs (plug f t)
  replug recs [] t h = leaves recs t h
  replug recs (first k p r C g b ∷ f) t h = replug recs f (node_at k p r C g t b) (up_first recs f k p r C g t b h)
  replug recs (second k p r C g a ∷ f) t h = replug recs f (node_at k p r C g a t) (up_second recs f k p r C g a t h)

  -- frames lie in every table that has the same at their places
  pub same_frames : (recs recs' : List Record) → length recs' ≡ length recs → (x : ℕ) (f : List (NodeFrame K)) → ((i : ℕ) → 1 ≤ occurs_around i f → at recs' i ≡ at recs i) → Around recs x f → Around recs' x f
  same_frames recs recs' len x [] agree h = tt
  same_frames recs recs' len x (first k p r C g b ∷ f) agree h =
      let o = one_same p in (
        record { within = subst (λ n. p < n) (sym len) h.0.within; reads = agree p (omega arith) ∙ h.0.reads },
        same_nodes recs recs' len (Some p) b (λ i some. agree i (omega arith)) h.1,
        same_frames recs recs' len p f (λ i some. agree i (omega arith)) h.2,
      )
  same_frames recs recs' len x (second k p r C g a ∷ f) agree h =
      let o = one_same p in (
        record { within = subst (λ n. p < n) (sym len) h.0.within; reads = agree p (omega arith) ∙ h.0.reads },
        same_nodes recs recs' len (Some p) a (λ i some. agree i (omega arith)) h.1,
        same_frames recs recs' len p f (λ i some. agree i (omega arith)) h.2,
      )
