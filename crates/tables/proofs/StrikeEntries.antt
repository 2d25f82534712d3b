-- The entries of the tally table while a reading is struck: those beside the way down stay right.
use Rattle.std.proofs.Common.{◌≡◌, ℕ, ◌<◌, true, false, eqb, ◌⊎◌, List, length, sym, ◌∙◌, inl, inr}
use mathlib.Core.Option.{Option}
use Rattle.std.proofs.lemmas.Bool.{false≢true}
use Rattle.records.specs.declared.record.Record.{Record}
use Rattle.place.specs.Boxes.{Box}
use Rattle.quadtreap.specs.Tree.{reading, box, split}
use Rattle.quadtreap.specs.declared.rank.Rank.{Rank}
use Rattle.quadtreap.specs.Strike.{least_of}
use Rattle.quadtreap.specs.Walk.{tally_of}
use Rattle.records.specs.Writes.{Sink, sunk_in}
use Rattle.records.specs.PlacedPairs.{PlacedPairs, placed_leaf, placed_pair, nodes_of, tree_in, top_place, rank, PairFrame, node_frames}
use Rattle.records.specs.StrikeMoves.{StrikeMove, replaced_at, Pair, whole, made_at, left_over, outer_over, exchanged_at, move_pair, move_of}
use Rattle.tables.specs.Totals.{Has, Totals}
use Rattle.records.proofs.StrikeLaws.{Keeps, Next}
use Rattle.records.proofs.MoveCases.{by_cases}
use Rattle.tables.proofs.Climbs.{Beside}

module _ {K : Type 0} (join : K → K → K) (e : K) (ts : List K) (k : ℕ) where
  -- The entries under the root. That of the split node may be stale only where the struck reading is the first of the right child, since the way then goes through it.
  abbrev pub Under : PlacedPairs K → Type 0
  Under (placed_leaf p C c) = Totals join e ts (nodes_of (placed_leaf p C c))
  Under (placed_pair s w r C i E L R O) =
      (s < length ts) × (w < length ts) × Totals join e ts (nodes_of L) × Totals join e ts (nodes_of R) × Totals join e ts (nodes_of O)
      × (Has ts w (tally_of join e (split E i (tree_in L) (tree_in R))) ⊎ (eqb k (rank R).code ≡ true))

  pub under : (t : PlacedPairs K) → Totals join e ts (nodes_of t) → Under t
  under (placed_leaf p C c) h = h
  under (placed_pair s w r C i E L R O) h = (h.0.within, h.1.0.within, h.1.1, h.1.2, h.2, inl h.1.0)

  under_seat : (B : Box) (t : PlacedPairs K) → Totals join e ts (nodes_of t) → Under (replaced_at B t)
  under_seat B (placed_leaf p C (reading r)) h = h
  under_seat B (placed_leaf p C (box I)) h = h
  under_seat B (placed_pair s w r C i E L R O) h = under (placed_pair s w r C i E L R O) h

  -- the entries beside the way down, and those under what is gone on with
  abbrev pub Entries : List Record → List (PairFrame K) → PlacedPairs K → Type 0
  Entries recs gs t = Beside join e ts (node_frames gs) × Under t

  module _ (gs : List (PairFrame K)) (v : Sink) (bes : Beside join e ts (node_frames gs)) where
    abbrev P : StrikeMove K → Type 0
    P F = Next Entries gs F v

    over_left_lem : (x : Pair K) (t : PlacedPairs K) (b c : Option Rank) → least_of (made_at t) b c ≡ true → x.shrink < length ts → x.split < length ts → Totals join e ts (nodes_of t) → Totals join e ts (nodes_of x.right) → Totals join e ts (nodes_of x.out)
        → eqb k (rank x.right).code ≡ true → P (left_over x t)
    over_left_lem x (placed_leaf p B d) b c least ls lw ht hr ho is = absurd (false≢true least)
    over_left_lem x (placed_pair y u q B j F A D o) b c least ls lw ht hr ho is = ((ht.0.within, ht.1, bes), (ls, lw, ht.2, hr, ho, inr is))

    over_outer_lem : (x : Pair K) (t : PlacedPairs K) (a : Rank) (b c : Option Rank) → least_of (made_at t) b c ≡ true → Under (whole x) → Totals join e ts (nodes_of t) → P (outer_over x t a)
    over_outer_lem x (placed_leaf p B d) a b c least h ht = absurd (false≢true least)
    over_outer_lem x (placed_pair y u q B j F A D o) a b c least h ht = ((ht.1.0.within, ht.1.2, (ht.0.within, ht.2, bes)), (h.0, h.1, h.2, h.3, ht.1.1, h.5))

    entries_pair : (x : Pair K) → Under (whole x) → P (move_pair x k)
    entries_pair x h =
        let split-right : eqb k (rank x.right).code ≡ false → Has ts x.split (tally_of join e (split x.box x.inner (tree_in x.left) (tree_in x.right))) =
        λ er. elim h.5 [ inl a ↦ a | inr a ↦ absurd (false≢true (sym er ∙ a)) ] in
        by_cases P x k record {
          last_right = λ _ _. (bes, under_seat x.outer x.left h.2);
          left_rises = λ er least. over_left_lem x x.left (made_at x.right) (made_at x.out) least h.0 h.1 h.2 h.3 h.4 er;
          outer_rises = λ er least. over_outer_lem x x.out (rank x.left) (made_at x.left) (made_at x.right) least h h.4;
          last_left = λ _ _ _ _. (bes, under_seat x.outer x.right h.3);
          right_rises = λ er ei el least. over_left_lem (exchanged_at x) x.right (made_at x.left) (made_at x.out) least h.0 h.1 h.3 h.2 h.4 el;
          outer_rises_left = λ er ei el least. over_outer_lem x x.out (rank x.right) (made_at x.left) (made_at x.right) least h h.4;
          exchanges_on = λ er ei el. ((h.1, h.3, (h.0, h.4, bes)), under x.left h.2);
          goes_left = λ er el. ((h.1, h.3, (h.0, h.4, bes)), under x.left h.2);
          goes_right = λ el. ((h.1, h.2, (h.0, h.4, bes)), under x.right h.3);
          goes_outer = λ er el. ((h.0, (split-right er, h.2, h.3), bes), under x.out h.4);
        }

  entries_next : (recs : List Record) (gs : List (PairFrame K)) (t : PlacedPairs K) (v : Sink) → Entries recs gs t → Next Entries gs (move_of t k) v
  entries_next recs gs (placed_leaf p C c) v h = h
  entries_next recs gs (placed_pair s w r C i E L R O) v h =
      entries_pair gs v h.0 (record { shrink = s; split = w; rank = r; outer = C; inner = i; box = E; left = L; right = R; out = O }) h.1

  pub entries_keep : Keeps Entries k
  entries_keep recs gs t f h = entries_next recs gs t (sunk_in recs (top_place t) k) h
