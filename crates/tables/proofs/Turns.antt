-- What the turns of a walk come to at a tree that lies in the tables.
use Rattle.std.proofs.Common.{◌≡◌, ℕ, suc, ◌+◌, ◌-◌, ◌*◌, ◌<◌, ◌≤◌, Bool, true, false, cond, ◌≢◌, List, [], ◌∷◌, get_or, add-one, sym, refl, ap, ◌∙◌, inl, inr, arith, None, Some}
use mathlib.Core.Option.{Option}
use Rattle.std.proofs.lemmas.Bool.{cases_Bool, eq-eqb, ne_eqb}
use Rattle.records.specs.declared.record.Record.{Record}
use Rattle.tables.specs.declared.walk.Sight.{Sight}
use Rattle.tables.specs.declared.walk.Sight.TheVariants.{Misses, Held}
use Rattle.tables.specs.declared.walk.Position.{Position}
use Rattle.tables.specs.declared.walk.Position.TheVariants.{Down, Back, Finished}
use Rattle.tables.specs.declared.walk.Tallied.{Tallied}
use Rattle.tables.specs.declared.walk.Spot.{Spot}
use Rattle.place.specs.Boxes.{Box}
use Rattle.quadtreap.specs.Tree.{Content, reading, box, Tree, leaf, shrink, split, outer, nodes}
use Rattle.quadtreap.specs.declared.rank.Rank.{Rank}
use Rattle.quadtreap.specs.Walk.{Tests, Joins, Answer, answer, tally_of, taken, walk, visit, Visits}
use Rattle.records.specs.Links.{Link}
use Rattle.records.specs.PlacedNodes.{NodeKind, shrinks, splits, PlacedNodes, leaf_at, node_at, unplaced, grown, place_of, occurs, record_of, NodesRecorded}
use Rattle.records.specs.Writes.{at}
use Rattle.tables.specs.Totals.{Totals}
use Rattle.tables.specs.Walks.{crossed, arrived, ran}
use Rattle.quadtreap.proofs.VisitLaws.{step_by_step}
use Rattle.tables.proofs.Runs.{stops}
use Rattle.records.proofs.FrameLaws.{differ, root_le, root_occurs, root_lies, root_outer}

module _ {K : Type 0} (join : K → K → K) (e : K) (q : Tests) (laws : Joins join e) (recs : List Record) (ts : List K) where
  -- what is found so far, as the walk over the tables keeps it
  abbrev pub tallied : Answer K → Tallied K
  tallied x = record { tally = x.tally; expanded = x.expanded }

  -- the walk is at p with the answer x so far
  abbrev pub spot : Position → Answer K → Spot K
  spot p x = record { position = p; found = tallied x }

  abbrev go : ℕ → Spot K → Tallied K
  go n s = ran join e q recs ts n s

  abbrev visits : Visits join e q
  visits = step_by_step join e q laws

  -- the answer so far, and then the walk of t
  abbrev pub after : Answer K → Tree K → Answer K
  after x t = visit join e q x (t ∷ [])

  -- from the first child to the second, from the second to the parent, and from the root to the end
  pub to_second : (n i p j : ℕ) (x : Answer K) → (at recs i).parent ≡ Some p → (at recs p).first ≡ i → (at recs p).second ≡ j → go (suc n) (spot (Back i) x) ≡ go n (spot (Down j) x)
  to_second n i p j x up is to = rw (up, eq-eqb (at recs p).first i is, to)

  pub to_parent : (n i p : ℕ) (x : Answer K) → (at recs i).parent ≡ Some p → (at recs p).first ≢ i → go (suc n) (spot (Back i) x) ≡ go n (spot (Back p) x)
  to_parent n i p x up other = rw (up, ne_eqb (at recs p).first i other)

  pub to_end : (n i : ℕ) (x : Answer K) → (at recs i).parent ≡ None → go (suc n) (spot (Back i) x) ≡ tallied x
  to_end n i x up = rw up (stops join e q recs ts n (spot Finished x) refl)

  -- the record and the entry of a tree's root
  root_bears : (t : PlacedNodes K) → Totals join e ts t → get_or ts (place_of t) e ≡ tally_of join e (unplaced t)
  root_bears (leaf_at i C c) h = h.reads e
  root_bears (node_at k i r C g a b) h = h.0.reads e

  root_parent : (p : Link) (t : PlacedNodes K) → (record_of p t).parent ≡ p
  root_parent p (leaf_at i C c) = refl
  root_parent p (node_at k i r C g a b) = refl

  -- how a node lies, where it is known whether its box misses and whether it is held
  abbrev chosen : Bool → Bool → Record → Sight
  chosen m h r = cond m Misses (cond h Held (crossed q r))

  -- The tree t lies in the tables, under a parent at p.
  pub record Laid (p : Link) (t : PlacedNodes K) : Type 0 where
    pub laid : NodesRecorded recs p t
    pub totals : Totals join e ts t
    pub once : (i : ℕ) → occurs i t ≤ 1

  reads_parent : (p : Link) (t : PlacedNodes K) → Laid p t → (at recs (place_of t)).parent ≡ p
  reads_parent p t h = ap (λ (r : Record). r.parent) (root_lies recs p t h.laid).reads ∙ root_parent p t

  lands : (p : Link) (t : PlacedNodes K) (x : Answer K) (m d : Bool) → Laid p t → q.misses (outer (unplaced t)) ≡ m → q.held (outer (unplaced t)) ≡ d
      → (n : ℕ) → go (suc n) (spot (Down (place_of t)) x) ≡ go n (arrived join (place_of t) (record_of p t) (tally_of join e (unplaced t)) (tallied x) (chosen m d (record_of p t)))
  lands p t x m d h em ed n = rw ((root_lies recs p t h.laid).reads, root_bears t h.totals, root_outer p t, em, ed)

  -- The walk passes over the tree t: some turns after it has come down to t with the answer x so far, it is done with t and has its answer.
  pub record Passes (t : PlacedNodes K) (x : Answer K) : Type 0 where
    pub turns : ℕ
    pub few : turns < 2 * nodes (unplaced t)
    pub run : (n : ℕ) → go (turns + n) (spot (Down (place_of t)) x) ≡ go n (spot (Back (place_of t)) (after x (unplaced t)))

  some_nodes : (t : Tree K) → 1 ≤ nodes t
  some_nodes (leaf C c) = omega arith
  some_nodes (shrink C i a b) = omega arith
  some_nodes (split C i a b) = omega arith

  at_once : (t : PlacedNodes K) (x y : Answer K) → after x (unplaced t) ≡ y → ((n : ℕ) → go (suc n) (spot (Down (place_of t)) x) ≡ go n (spot (Back (place_of t)) y)) → Passes t x
  at_once t x y is f =
      record {
        turns = 1;
        few = (let s = some_nodes (unplaced t) in omega arith);
        run = λ n. let c : 1 + n ≡ suc n = omega arith in rw (c, f n) (ap (λ (z : Answer K). go n (spot (Back (place_of t)) z)) (sym is));
      }

  pub missed : (p : Link) (t : PlacedNodes K) (x : Answer K) → Laid p t → q.misses (outer (unplaced t)) ≡ true → Passes t x
  missed p t x h em = at_once t x x (visits.misses x (unplaced t) [] em) (lands p t x true (q.held (outer (unplaced t))) h em refl)

  pub kept_whole : (p : Link) (t : PlacedNodes K) (x : Answer K) → Laid p t → q.misses (outer (unplaced t)) ≡ false → q.held (outer (unplaced t)) ≡ true → Passes t x
  kept_whole p t x h em ed = at_once t x _ (visits.held x (unplaced t) [] em ed) (lands p t x false true h em ed)

  neutral_after : (a : K) → join a e ≡ a
  neutral_after a = laws.comm a e ∙ laws.neutral a

  -- what a leaf that crosses is taken for
  leaf_takes : (p : Link) (i : ℕ) (C : Box) (c : Content K) (x : Answer K)
      → arrived join i (record_of p (leaf_at i C c)) (tally_of join e (leaf C c)) (tallied x) (crossed q (record_of p (leaf_at i C c))) ≡ spot (Back i) (answer (join x.tally (taken e q c)) x.expanded)
  leaf_takes p i C (reading r) x =
      elim (q.has r.code) as
      (λ b. arrived join i (record_of p (leaf_at i C (reading r))) r.tally (tallied x) (cond b Held Misses) ≡ spot (Back i) (answer (join x.tally (cond b r.tally e)) x.expanded)) [
        | true ↦ refl
        | false ↦ ap (λ (k : K). spot (Back i) (answer k x.expanded)) (sym (neutral_after x.tally))
      ]
  leaf_takes p i C (box I) x = ap (λ (k : K). spot (Back i) (answer k x.expanded)) (sym (neutral_after x.tally))

  pub leaf_crosses : (p : Link) (i : ℕ) (C : Box) (c : Content K) (x : Answer K) → Laid p (leaf_at i C c) → q.misses C ≡ false → q.held C ≡ false → Passes (leaf_at i C c) x
  leaf_crosses p i C c x h em ed = at_once (leaf_at i C c) x _ (visits.leaves x C c [] em ed) (λ n. lands p (leaf_at i C c) x false false h em ed n ∙ ap (go n) (leaf_takes p i C c x))

  -- a node with two children, of either kind
  fork_nodes : (k : NodeKind) (C : Box) (g : Option Box) (u v : Tree K) → nodes (grown k C g u v) ≡ suc (nodes u + nodes v)
  fork_nodes shrinks C g u v = refl
  fork_nodes splits C g u v = refl

  fork_after : (k : NodeKind) (C : Box) (g : Option Box) (u v : Tree K) (x : Answer K) → q.misses (outer (grown k C g u v)) ≡ false → q.held (outer (grown k C g u v)) ≡ false
      → after x (grown k C g u v) ≡ after (after (answer x.tally (suc x.expanded)) u) v
  fork_after shrinks C g u v x em ed = visits.shrinks x C g u v [] em ed
  fork_after splits C g u v x em ed = visits.splits x C g u v [] em ed

  fork_opens : (p : Link) (k : NodeKind) (i : ℕ) (r : Rank) (C : Box) (g : Option Box) (a b : PlacedNodes K) (x : Answer K) (v : K)
      → arrived join i (record_of p (node_at k i r C g a b)) v (tallied x) (crossed q (record_of p (node_at k i r C g a b))) ≡ spot (Down (place_of a)) (answer x.tally (suc x.expanded))
  fork_opens p shrinks i r C g a b x v = rw add-one
  fork_opens p splits i r C g a b x v = rw add-one

  first_laid : (p : Link) (k : NodeKind) (i : ℕ) (r : Rank) (C : Box) (g : Option Box) (a b : PlacedNodes K) → Laid p (node_at k i r C g a b) → Laid (Some i) a
  first_laid p k i r C g a b h = record { laid = h.laid.1; totals = h.totals.1; once = λ j. let o = h.once j in omega arith }

  second_laid : (p : Link) (k : NodeKind) (i : ℕ) (r : Rank) (C : Box) (g : Option Box) (a b : PlacedNodes K) → Laid p (node_at k i r C g a b) → Laid (Some i) b
  second_laid p k i r C g a b h = record { laid = h.laid.2; totals = h.totals.2; once = λ j. let o = h.once j in omega arith }

  -- both children lie at places of their own
  apart : (p : Link) (k : NodeKind) (i : ℕ) (r : Rank) (C : Box) (g : Option Box) (a b : PlacedNodes K) → Laid p (node_at k i r C g a b) → place_of a ≢ place_of b
  apart p k i r C g a b h =
      let o = h.once (place_of a) in
      let u = root_occurs a in
      let v = root_le b (place_of a) in
      differ (place_of a) (place_of b) (omega arith)

  pub fork_crosses : (p : Link) (k : NodeKind) (i : ℕ) (r : Rank) (C : Box) (g : Option Box) (a b : PlacedNodes K) (x : Answer K) → Laid p (node_at k i r C g a b)
      → q.misses (outer (unplaced (node_at k i r C g a b))) ≡ false → q.held (outer (unplaced (node_at k i r C g a b))) ≡ false → Passes a (answer x.tally (suc x.expanded)) → Passes b (after (answer x.tally (suc x.expanded)) (unplaced a))
      → Passes (node_at k i r C g a b) x
  fork_crosses p k i r C g a b x h em ed pa pb =
      let t : PlacedNodes K = node_at k i r C g a b in
      let size = fork_nodes k C g (unplaced a) (unplaced b) in
      let ha = first_laid p k i r C g a b h in
      let hb = second_laid p k i r C g a b h in
      let here : at recs i ≡ record_of p t = h.laid.0.reads in
      let x1 : Answer K = answer x.tally (suc x.expanded) in
      let x2 : Answer K = after x1 (unplaced a) in
      let x3 : Answer K = after x2 (unplaced b) in
      record {
        turns = suc (pa.turns + suc (pb.turns + 1));
        few = (let u = pa.few in let v = pb.few in omega arith);
        run = λ n.
            let c : suc (pa.turns + suc (pb.turns + 1)) + n ≡ suc (pa.turns + suc (pb.turns + suc n)) = omega arith in
            rw (
              c,
              lands p t x false false h em ed (pa.turns + suc (pb.turns + suc n)),
              fork_opens p k i r C g a b x (tally_of join e (unplaced t)),
              pa.run (suc (pb.turns + suc n)),
              to_second (pb.turns + suc n) (place_of a) i (place_of b) x2 (reads_parent (Some i) a ha) (ap (λ (v : Record). v.first) here) (ap (λ (v : Record). v.second) here),
              pb.run (suc n),
              to_parent n (place_of b) i x3 (reads_parent (Some i) b hb) (λ is. apart p k i r C g a b h (sym (ap (λ (v : Record). v.first) here) ∙ is)),
            )
            (ap (λ (y : Answer K). go n (spot (Back i) y)) (sym (fork_after k C g (unplaced a) (unplaced b) x em ed)));
      }

  -- a tree is passed over where it is if its box crosses
  if_crossed : (p : Link) (t : PlacedNodes K) (x : Answer K) → Laid p t → (q.misses (outer (unplaced t)) ≡ false → q.held (outer (unplaced t)) ≡ false → Passes t x) → Passes t x
  if_crossed p t x h crosses =
      elim (cases_Bool (q.misses (outer (unplaced t)))) [
        | inl em ↦ missed p t x h em
        | inr em ↦ elim (cases_Bool (q.held (outer (unplaced t)))) [ inl ed ↦ kept_whole p t x h em ed | inr ed ↦ crosses em ed ]
      ]

  -- every tree that lies in the tables is passed over
  pub passes : (p : Link) (t : PlacedNodes K) (x : Answer K) → Laid p t → Passes t x
  passes p (leaf_at i C c) x h = if_crossed p (leaf_at i C c) x h (leaf_crosses p i C c x h)
  passes p (node_at k i r C g a b) x h =
      let pa = passes (Some i) a (answer x.tally (suc x.expanded)) (first_laid p k i r C g a b h) in
      let pb = passes (Some i) b (after (answer x.tally (suc x.expanded)) (unplaced a)) (second_laid p k i r C g a b h) in
      if_crossed p (node_at k i r C g a b) x h (λ em ed. fork_crosses p k i r C g a b x h em ed pa pb)

  split_turns : (m n : ℕ) → m < n → (j : ℕ) × (n ≡ m + suc j)
  split_turns m n less = (n - suc m, omega arith)

  -- the whole walk, in two turns to a node
  pub whole_walk : (t : PlacedNodes K) (n : ℕ) → Laid None t → 2 * nodes (unplaced t) ≤ n → go n (spot (Down (place_of t)) (answer e 0)) ≡ tallied (walk join e q (unplaced t))
  whole_walk t n h enough =
      let w = passes None t (answer e 0) h in
      let z = split_turns w.turns n (let f = w.few in omega arith) in
      rw (z.1, w.run (suc z.0), to_end z.0 (place_of t) (after (answer e 0) (unplaced t)) (reads_parent None t h)) (ap tallied (visits.start (unplaced t)))
