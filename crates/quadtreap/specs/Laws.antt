-- The laws of the tree that its tables and its maps are proved by, where K is the kind of tally.
--   StaysPaired, Kept          trees are made of pairs, and their readings lie in their cells
--   Settled, Risen             entering by steps
--   GoesOn, IsDone, Relabels   striking by steps
--   StaysRanked, SortsByRank   lists stay in rank order, and are brought into it
--   Finds, Carried             what the tree finds, and that tallies do not change it
--   Totals, StepByStep         the tally of a node, and a walk by steps
--   SameTests                  tests that answer alike have the same walks
use Rattle.std.specs.Prelude.{◌≡◌, ℕ, ◌<◌, true, List, ◌∷◌}
use Rattle.std.proofs.Math.Option.{none, some}
use Rattle.place.specs.Boxes.{Box}
use Rattle.quadtreap.specs.Tree.{Reading, Content, Tree, leaf, box_in, tree_of, nodes}
use Rattle.quadtreap.specs.Rank.{Ranked, Valid, put, in_rank_order, without, Alike}
use Rattle.quadtreap.specs.Cells.{readings, Celled}
use Rattle.quadtreap.specs.Pairs.{inner_box, node_rank, Frame, plug, plug_all, Paired, Fitting}
use Rattle.quadtreap.specs.Enter.{settle, plant, enter_tree, settle_all, leads, leads_all}
use Rattle.quadtreap.specs.Strike.{done, on, strike_step, strike_tree, FittingStep, node_rank_after}
use Rattle.quadtreap.specs.Walk.{Tests, Agree, Joins, tally_of, map_tally, map_walk, every, joined, Visits}
use Rattle.quadtreap.specs.Find.{map_find, lookup}
use Rattle.quadtreap.specs.Carry.{carry_all, map_carry}

-- The tree of every list is made of pairs, and planting, settling and each step of striking keep to pairs and to the inner box.
abbrev pub StaysPaired : Type 0 → Type 0
StaysPaired K =
    ((rs : List (Reading K)) (t : Tree K) → tree_of rs ≡ some t → Paired t × (inner_box t ≡ none))
    × ((C : Box) (c : Content K) (p : Reading K) → Paired (plant (leaf C c) p) × (inner_box (plant (leaf C c) p) ≡ box_in c))
    × ((f : Frame K) (t : Tree K) → Fitting f t → Paired (plug f t) × Paired (settle f t) × (inner_box (settle f t) ≡ inner_box (plug f t)))
    × ((t : Tree K) (k : ℕ) → Paired t → FittingStep (inner_box t) (strike_step t k))

-- The readings under each node lie in its cell.
abbrev pub Kept : Type 0 → Type 0
Kept K = (rs : List (Reading K)) (t : Tree K) → Valid rs → tree_of rs ≡ some t → Celled t

-- Entering into a pair is entering into the child that the code leads to, and then settling the pair.
abbrev pub Settled : Type 0 → Type 0
Settled K = (f : Frame K) (t : Tree K) (p : Reading K) → leads f t p.code ≡ true → enter_tree (plug f t) p ≡ settle f (enter_tree t p)

-- Planting at the leaf that the code leads to, and then settling every pair up to the root, is entering.
abbrev pub Risen : Type 0 → Type 0
Risen K =
    (fs : List (Frame K)) (C : Box) (c : Content K) (p : Reading K) → leads_all fs (leaf C c) p.code ≡ true
    → settle_all fs (plant (leaf C c) p) ≡ enter_tree (plug_all fs (leaf C c)) p

-- Where a step goes on, striking the tree is striking the smaller one and putting it back into the frame; the smaller one has fewer nodes.
abbrev pub GoesOn : Type 0 → Type 0
GoesOn K = (t u : Tree K) (f : Frame K) (k : ℕ) → strike_step t k ≡ on f u → (strike_tree t k ≡ plug f (strike_tree u k)) × (nodes u < nodes t)

-- Where a step is done, its tree is the tree after the whole strike.
abbrev pub IsDone : Type 0 → Type 0
IsDone K = (t u : Tree K) (k : ℕ) → strike_step t k ≡ done u → strike_tree t k ≡ u

-- Striking leaves a node with no inner box the rank that is stated for it.
abbrev pub Relabels : Type 0 → Type 0
Relabels K = (t : Tree K) (k : ℕ) → Paired t → inner_box t ≡ none → node_rank (strike_tree t k) ≡ node_rank_after t k

-- A list stays in rank order, and its codes differ, where a reading is put at its rank and where one goes.
abbrev pub StaysRanked : Type 0 → Type 0
StaysRanked K =
    ((p : Reading K) (rs : List (Reading K)) → Valid (p ∷ rs) → Ranked rs → Valid (put p rs) × Ranked (put p rs))
    × ((k : ℕ) (rs : List (Reading K)) → Valid rs → Ranked rs → Valid (without k rs) × Ranked (without k rs))

-- A list brought into rank order is in rank order and has the same members, and one that is in rank order stays.
abbrev pub SortsByRank : Type 0 → Type 0
SortsByRank K =
    ((rs : List (Reading K)) → Valid rs → Valid (in_rank_order rs) × Ranked (in_rank_order rs) × Alike (in_rank_order rs) rs)
    × ((rs : List (Reading K)) → Ranked rs → in_rank_order rs ≡ rs)

-- The way down the tree by a code ends at the reading with that code, if there is one.
abbrev pub Finds : Type 0 → Type 0
Finds K = (k : ℕ) (rs : List (Reading K)) → Valid rs → map_find (tree_of rs) k ≡ lookup k rs

-- The same readings with other tallies have the same tree with those tallies.
abbrev pub Carried : Type 0 → Type 0 → Type 0
Carried K M = (f : Reading K → M) (rs : List (Reading K)) → tree_of (carry_all f rs) ≡ map_carry f (tree_of rs)

-- The tally of a node is the join over the readings under it, and that of a map is the join over all its readings.
abbrev pub Totals : Type 0 → Type 0
Totals K =
    (join : K → K → K) (e : K) → Joins join e
    → ((t : Tree K) → tally_of join e t ≡ joined join e every (readings t))
    × ((rs : List (Reading K)) → map_tally join e (tree_of rs) ≡ joined join e every rs)

-- A walk goes by steps, for each commutative kind of tally.
abbrev pub StepByStep : Type 0 → Type 0
StepByStep K = (join : K → K → K) (e : K) (q : Tests) → Joins join e → Visits join e q

-- Tests that answer alike on the boxes and the codes that a tree can have give the same walk.
abbrev pub SameTests : Type 0 → Type 0
SameTests K =
    (join : K → K → K) (e : K) (p q : Tests) → Agree p q → (rs : List (Reading K)) → Valid rs
    → map_walk join e p (tree_of rs) ≡ map_walk join e q (tree_of rs)
