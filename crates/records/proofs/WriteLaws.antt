-- A few writes at the places of a tree change that tree and nothing around it.
use Rattle.std.proofs.Common.{◌≡◌, ℕ, ◌+◌, ◌<◌, ◌≤◌, cond, ◌≢◌, List, [], ◌∷◌, length, set, sym, refl, ap, ◌∙◌, subst, arith, length-set, get_or-set_other, get_or-set_same, None, Some}
use Rattle.std.proofs.lemmas.Bool.{eq-eqb, ne_eqb}
use Rattle.records.specs.declared.record.Record.{Record}
use Rattle.records.specs.Links.{Link}
use Rattle.records.specs.PlacedNodes.{kind_of, in_record, PlacedNodes, leaf_at, node_at, place_of, one, occurs, blank, Lies, NodesRecorded, NodeFrame, first, second, above}
use Rattle.records.specs.Writes.{at, Write, write, wrote, with_parent, renamed, relinked}
use Rattle.records.proofs.FrameLaws.{one_same, differ, touched, In, long, reads_on, reads_in, root_occurs, same_nodes, same_frames, occurs_around, Around}

pub relinked_long : (t : List Record) (p : Link) (x y : ℕ) → length (relinked t p x y) ≡ length t
relinked_long t None x y = refl
relinked_long t (Some p) x y = length-set t p _

relinked_other : (t : List Record) (p x y i : ℕ) → i ≢ p → at (relinked t (Some p) x y) i ≡ at t i
relinked_other t p x y i far = get_or-set_other t p i _ blank far

module _ {K : Type 0} where
  -- the parent names another child, and nothing else changes
  pub relinked_reads : (recs : List Record) (f : List (NodeFrame K)) (x y i : ℕ) → occurs_around i f ≡ 0 → at (relinked recs (above f) x y) i ≡ at recs i
  relinked_reads recs [] x y i far = refl
  relinked_reads recs (first k p r C g b ∷ f) x y i far = relinked_other recs p x y i (differ i p (omega arith))
  relinked_reads recs (second k p r C g a ∷ f) x y i far = relinked_other recs p x y i (differ i p (omega arith))

  relinks : (recs : List Record) (f : List (NodeFrame K)) (x y : ℕ) → ((i : ℕ) → one i x + occurs_around i f ≤ 1) → Around recs x f → Around (relinked recs (above f) x y) y f
  relinks recs [] x y once a = tt
  relinks recs (first k p r C g b ∷ f) x y once a =
      let s = one_same p in
      let o = once p in
      let w = a.0.within in
      let new : renamed (at recs p) x y ≡ in_record (kind_of k) C g y (place_of b) (above f) r =
      ap (λ v. renamed v x y) a.0.reads ∙ ap (λ e. cond e (in_record (kind_of k) C g y (place_of b) (above f) r) (in_record (kind_of k) C g x y (above f) r)) (eq-eqb x x refl) in
      let far : (i : ℕ) → one i p ≡ 0 → at (set recs p (renamed (at recs p) x y)) i ≡ at recs i = λ i h. get_or-set_other recs p i _ blank (differ i p h) in (
        record { within = simp length-set w; reads = get_or-set_same recs p _ blank w ∙ new },
        same_nodes recs _ (length-set recs p _) (Some p) b (λ i some. far i (let q = once i in omega arith)) a.1,
        same_frames recs _ (length-set recs p _) p f (λ i some. far i (let q = once i in omega arith)) a.2,
      )
  relinks recs (second k p r C g b ∷ f) x y once a =
      let s = one_same p in
      let o = once p in
      let w = a.0.within in
      let there = root_occurs b in
      let other : place_of b ≢ x = differ (place_of b) x (let q = once (place_of b) in omega arith) in
      let new : renamed (at recs p) x y ≡ in_record (kind_of k) C g (place_of b) y (above f) r =
      ap (λ v. renamed v x y) a.0.reads ∙ ap (λ e. cond e (in_record (kind_of k) C g y x (above f) r) (in_record (kind_of k) C g (place_of b) y (above f) r)) (ne_eqb (place_of b) x other) in
      let far : (i : ℕ) → one i p ≡ 0 → at (set recs p (renamed (at recs p) x y)) i ≡ at recs i = λ i h. get_or-set_other recs p i _ blank (differ i p h) in (
        record { within = simp length-set w; reads = get_or-set_same recs p _ blank w ∙ new },
        same_nodes recs _ (length-set recs p _) (Some p) b (λ i some. far i (let q = once i in omega arith)) a.1,
        same_frames recs _ (length-set recs p _) p f (λ i some. far i (let q = once i in omega arith)) a.2,
      )

  -- The table after writes ws, where the tree at y takes the place of the one at x.
  module _ (recs : List Record) (f : List (NodeFrame K)) (x y : ℕ) (ws : List Write) (apart : (i : ℕ) → touched i ws + occurs_around i f ≤ 1) where
    abbrev pub after : List Record
    after = wrote ws (relinked recs (above f) x y)

    after_long : length after ≡ length recs
    after_long = long ws (relinked recs (above f) x y) ∙ relinked_long recs (above f) x y

    -- a tree off the writes and the frames
    pub stays : (p : Link) (t : PlacedNodes K) → ((i : ℕ) → occurs i t + (touched i ws + occurs_around i f) ≤ 1) → NodesRecorded recs p t → NodesRecorded after p t
    stays p t far h =
        same_nodes recs after after_long p t (λ i some. let q = far i in reads_on ws (relinked recs (above f) x y) i (omega arith) ∙ relinked_reads recs f x y i (omega arith)) h

    -- what is written
    pub written : (i : ℕ) (r : Record) → In (write i r) ws → i < length recs → Lies after i r
    written i r m within =
        let q = apart i in
        let w : i < length (relinked recs (above f) x y) = subst (λ n. i < n) (sym (relinked_long recs (above f) x y)) within in
        record { within = subst (λ n. i < n) (sym after_long) within; reads = reads_in m (relinked recs (above f) x y) (omega arith) w }

    -- a tree under another parent
    pub moves : (p q : Link) (t : PlacedNodes K) → In (write (place_of t) (with_parent (at recs (place_of t)) q)) ws → ((i : ℕ) → occurs i t + (touched i ws + occurs_around i f) ≤ 1 + one i (place_of t)) → NodesRecorded recs p t → NodesRecorded after q t
    moves p q (leaf_at j C c) m far h = written j _ (subst (λ (r : Record). In (write j (with_parent r q)) ws) h.reads m) h.within
    moves p q (node_at k j r C g a b) m far h = (
      written j _ (subst (λ (r : Record). In (write j (with_parent r q)) ws) h.0.reads m) h.0.within,
      stays (Some j) a (λ i. let z = far i in omega arith) h.1,
      stays (Some j) b (λ i. let z = far i in omega arith) h.2,
    )

    -- the frames
    pub holds_on : ((i : ℕ) → one i x + occurs_around i f ≤ 1) → Around recs x f → Around after y f
    holds_on once a =
        same_frames (relinked recs (above f) x y) after (long ws _) y f (λ i some. let q = apart i in reads_on ws (relinked recs (above f) x y) i (omega arith)) (relinks recs f x y once a)

  -- the same with the root's place kept
  module _ (recs : List Record) (f : List (NodeFrame K)) (ws : List Write) (apart : (i : ℕ) → touched i ws + occurs_around i f ≤ 1) where
    pub stays_in : (p : Link) (t : PlacedNodes K) → ((i : ℕ) → occurs i t + touched i ws ≤ 1) → NodesRecorded recs p t → NodesRecorded (wrote ws recs) p t
    stays_in p t far h = same_nodes recs (wrote ws recs) (long ws recs) p t (λ i some. let q = far i in reads_on ws recs i (omega arith)) h

    pub written_in : (i : ℕ) (r : Record) → In (write i r) ws → i < length recs → Lies (wrote ws recs) i r
    written_in i r m within =
        let q = apart i in
        record { within = subst (λ n. i < n) (sym (long ws recs)) within; reads = reads_in m recs (omega arith) within }

    pub holds_in : (x : ℕ) → Around recs x f → Around (wrote ws recs) x f
    holds_in x a = same_frames recs (wrote ws recs) (long ws recs) x f (λ i some. let q = apart i in reads_on ws recs i (omega arith)) a
