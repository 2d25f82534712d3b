-- The whole strike in the table.
use Rattle.std.proofs.Common.{◌≡◌, ℕ, zero, suc, ◌+◌, ◌≤◌, true, ◌⊎◌, List, [], ◌∷◌, sym, refl, ◌∙◌, subst, inl, inr, arith}
use Rattle.std.proofs.lemmas.Bool.{false≢true}
use Rattle.records.specs.declared.record.Record.{Record}
use Rattle.records.specs.declared.places.FourPlaces.{FourPlaces}
use Rattle.records.specs.declared.places.Sinking.{Sinking}
use Rattle.place.specs.Boxes.{Box}
use Rattle.quadtreap.specs.Tree.{Content, nodes}
use Rattle.records.specs.PlacedNodes.{one, occurs, LiesIn}
use Rattle.records.specs.Writes.{Sink, sunk_in, followed, struck_in}
use Rattle.records.specs.PlacedPairs.{PlacedPairs, placed_leaf, placed_pair, nodes_of, tree_in, top_place, RanksStand, PairFrame, on_left_at, on_right_at, on_outer_at, put_in, put_in_all, node_frames}
use Rattle.records.specs.Elsewhere.{Elsewhere}
use Rattle.records.specs.StrikeMoves.{StrikeMove, finished, onward, lost, is_leaf_at, move_of, after_move, moves_in}
use Rattle.records.specs.Promises.{MovesDown, Sinks, Frees, Misses, StruckTree, Strikes, Moved as Landed}
use Rattle.quadtreap.proofs.StrikeLaws.{some_nodes, strike_steps}
use Rattle.records.proofs.FrameLaws.{occurs_around, LiesAmong}
use Rattle.records.proofs.PairLaws.{lies_among, lies_whole}
use Rattle.records.proofs.ElsewhereLaws.{used_by, same_whole}
use Rattle.records.proofs.SinkLaws.{Moved, moved_same, sinks_in}
use Rattle.records.proofs.MoveLaws.{RanksOn, ranks_of, move_of_is, moves_in_is}
use Rattle.records.proofs.MoveCases.{EndsInLeaf, ends_in_leaf_of, Placed, placed, Numbered, numbered, Fewer, fewer, LostSame, never_lost}
use Rattle.records.proofs.RankLaws.{final}

abbrev run : ℕ → ℕ → Sink → Sink
run n k v = followed (λ t' s'. struck_in n t' s' k) v.table v.ends

module _ {K : Type 0} where
  abbrev frame_places : ℕ → PairFrame K → ℕ
  frame_places j (on_left_at s w r C i E R O) = one j s + (one j w + (occurs j (nodes_of R) + occurs j (nodes_of O)))
  frame_places j (on_right_at s w r C i E L O) = one j s + (one j w + (occurs j (nodes_of L) + occurs j (nodes_of O)))
  frame_places j (on_outer_at s w r C i E L R) = one j s + (one j w + (occurs j (nodes_of L) + occurs j (nodes_of R)))

  pub in_frame : (g : PairFrame K) (t : PlacedPairs K) (j : ℕ) → occurs j (nodes_of (put_in g t)) ≡ occurs j (nodes_of t) + frame_places j g
  in_frame (on_left_at s w r C i E R O) t j = omega arith
  in_frame (on_right_at s w r C i E L O) t j = omega arith
  in_frame (on_outer_at s w r C i E L R) t j = omega arith

  around_frame : (g : PairFrame K) (gs : List (PairFrame K)) (j : ℕ) → occurs_around j (node_frames (g ∷ gs)) ≡ frame_places j g + occurs_around j (node_frames gs)
  around_frame (on_left_at s w r C i E R O) gs j = omega arith
  around_frame (on_right_at s w r C i E L O) gs j = omega arith
  around_frame (on_outer_at s w r C i E L R) gs j = omega arith

  frame_nodes : (g : PairFrame K) (t u : PlacedPairs K) (d : ℕ) → nodes (tree_in t) ≡ nodes (tree_in u) + d → nodes (tree_in (put_in g t)) ≡ nodes (tree_in (put_in g u)) + d
  frame_nodes (on_left_at s w r C i E R O) t u d e = omega arith
  frame_nodes (on_right_at s w r C i E L O) t u d e = omega arith
  frame_nodes (on_outer_at s w r C i E L R) t u d e = omega arith

  -- what Inv says of the table, the frames and the tree after a step
  abbrev pub Next : (List Record → List (PairFrame K) → PlacedPairs K → Type 0) → List (PairFrame K) → StrikeMove K → Sink → Type 0
  Next Inv gs (finished t n) v = Inv v.table gs t
  Next Inv gs (onward g t) v = Inv v.table (g ∷ gs) t
  Next Inv gs (lost t) v = Inv v.table gs t

  -- each step keeps what Inv says
  abbrev pub Keeps : (List Record → List (PairFrame K) → PlacedPairs K → Type 0) → ℕ → Type 0
  Keeps Inv k =
      (recs : List Record) (gs : List (PairFrame K)) (t : PlacedPairs K) → LiesAmong recs (node_frames gs) (nodes_of t) → Inv recs gs t
      → Next Inv gs (move_of t k) (sunk_in recs (top_place t) k)

  -- Where a removal comes to its end, and what Inv says there.
  pub record StrikeEnd (Inv : List Record → List (PairFrame K) → PlacedPairs K → Type 0) (recs : List Record) (gs : List (PairFrame K)) (t u : PlacedPairs K) (v : Sink) : Type 0 where
    pub path : List (PairFrame K)
    pub leaf_place : ℕ
    pub box : Box
    pub content : Content K
    pub focus : LiesAmong v.table (node_frames path) (nodes_of (placed_leaf leaf_place box content))
    pub found : put_in_all path (placed_leaf leaf_place box content) ≡ put_in_all gs u
    pub answer : Frees t u leaf_place v.ends ⊎ Misses t u v.ends
    pub same : Elsewhere (used_by (node_frames gs) (nodes_of t)) recs v.table
    pub kept : Inv v.table path (placed_leaf leaf_place box content)

  -- a step on, and what comes of the rest
  lifted : (g : PairFrame K) (t u w : PlacedPairs K) (i : ℕ) (r : Sinking) → ((j : ℕ) → occurs j (nodes_of t) ≡ occurs j (nodes_of (put_in g u))) → nodes (tree_in t) ≡ nodes (tree_in (put_in g u)) → Frees u w i r ⊎ Misses u w r
      → Frees t (put_in g w) i r ⊎ Misses t (put_in g w) r
  lifted g t u w i r same count m =
      elim m [
        | inl a ↦ inl (record {
          freed = a.freed;
          answer = a.answer;
          places = λ j. let p = same j in let q = in_frame g u j in let z = in_frame g w j in let d = a.places j in omega arith;
          nodes = count ∙ frame_nodes g u w 4 a.nodes;
        })
        | inr a ↦ inr (record {
          answer = a.answer;
          places = λ j. let p = same j in let q = in_frame g u j in let z = in_frame g w j in let d = a.places j in omega arith;
          nodes = let e = frame_nodes g u w 0 (let d = a.nodes in omega arith) in omega arith;
        })
      ]

  module _ (Inv : List Record → List (PairFrame K) → PlacedPairs K → Type 0) (k : ℕ) (keeps : Keeps Inv k) where
    pub strikes : (n : ℕ) (recs : List Record) (gs : List (PairFrame K)) (t : PlacedPairs K) → RanksStand t → LiesAmong recs (node_frames gs) (nodes_of t) → nodes (tree_in t) ≤ n → Inv recs gs t → StrikeEnd Inv recs gs t (moves_in n t k) (struck_in n recs (top_place t) k)
    strikes zero recs gs t h f few inv = absurd (omega (arith, some_nodes (tree_in t)))
    strikes (suc n) recs gs t h f few inv = each (λ recs' hs u. strikes n recs' hs u) (move_of t k) (sunk_in recs (top_place t) k) (sinks_in recs gs t f k) (ranks_of t k h) (ends_in_leaf_of t k) (placed t k) (numbered t k) (fewer t k h) (keeps recs gs t f inv)
      where
        leaf_ends : (u : PlacedPairs K) (m : FourPlaces) (v : Sink) → Moved recs (used_by (node_frames gs) (nodes_of t)) gs (finished u m) v → is_leaf_at u ≡ true → Placed t (finished u m) → Numbered t (finished u m) → Inv v.table gs u → StrikeEnd Inv recs gs t u (run n k v)
        leaf_ends (placed_leaf p B c) m v lands leafy at_places count inv' =
            subst (λ (e : Sinking). StrikeEnd Inv recs gs t (placed_leaf p B c) (followed (λ t' s'. struck_in n t' s' k) v.table e)) (sym lands.1)
            record { path = gs; leaf_place = p; box = B; content = c; focus = lands.0; found = refl; answer = inl (record { freed = m; answer = refl; places = at_places; nodes = count }); same = lands.2; kept = inv' }
        leaf_ends (placed_pair a b c d e f g h i) m v lands leafy at_places count inv' = absurd (false≢true leafy)

        leaf_lost : (u : PlacedPairs K) (v : Sink) → Moved recs (used_by (node_frames gs) (nodes_of t)) gs (lost u) v → is_leaf_at u ≡ true → Placed t (lost u) → Numbered t (lost u) → Inv v.table gs u → StrikeEnd Inv recs gs t u (run n k v)
        leaf_lost (placed_leaf p B c) v lands leafy at_places count inv' =
            subst (λ (e : Sinking). StrikeEnd Inv recs gs t (placed_leaf p B c) (followed (λ t' s'. struck_in n t' s' k) v.table e)) (sym lands.1)
            record { path = gs; leaf_place = p; box = B; content = c; focus = lands.0; found = refl; answer = inr (record { answer = refl; places = at_places; nodes = count }); same = lands.2; kept = inv' }
        leaf_lost (placed_pair a b c d e f g h i) v lands leafy at_places count inv' = absurd (false≢true leafy)

        each : ((recs' : List Record) (hs : List (PairFrame K)) (u : PlacedPairs K) → RanksStand u → LiesAmong recs' (node_frames hs) (nodes_of u) → nodes (tree_in u) ≤ n → Inv recs' hs u → StrikeEnd Inv recs' hs u (moves_in n u k) (struck_in n recs' (top_place u) k))
            → (F : StrikeMove K) (v : Sink) → Moved recs (used_by (node_frames gs) (nodes_of t)) gs F v → RanksOn F → EndsInLeaf F → Placed t F → Numbered t F → Fewer (nodes (tree_in t)) F → Next Inv gs F v → StrikeEnd Inv recs gs t (after_move (λ u. moves_in n u k) F) (run n k v)
        each again (finished u m) v lands good leafy at_places count less inv' = leaf_ends u m v lands leafy at_places count inv'
        each again (lost u) v lands good leafy at_places count less inv' = leaf_lost u v lands leafy at_places count inv'
        each again (onward g u) v lands good leafy at_places count less inv' =
            let m = again v.table (g ∷ gs) u good lands.0 (omega arith) inv' in
            subst (λ (e : Sinking). StrikeEnd Inv recs gs t (put_in g (moves_in n u k)) (followed (λ t' s'. struck_in n t' s' k) v.table e)) (sym lands.1)
            record {
              path = m.path;
              leaf_place = m.leaf_place;
              box = m.box;
              content = m.content;
              focus = m.focus;
              found = m.found;
              answer = lifted g t u (moves_in n u k) m.leaf_place _ at_places count m.answer;
              same = Rattle.records.proofs.ElsewhereLaws.onward _ _ recs v.table _ (λ j z. let p = at_places j in let q = in_frame g u j in let w = around_frame g gs j in omega arith) lands.2 m.same;
              kept = m.kept;
            }

  -- nothing is asked of the way
  abbrev Any : List Record → List (PairFrame K) → PlacedPairs K → Type 0
  Any recs gs t = Unit {0}

  any_next : (gs : List (PairFrame K)) (F : StrikeMove K) (v : Sink) → Next Any gs F v
  any_next gs (finished t n) v = tt
  any_next gs (onward g t) v = tt
  any_next gs (lost t) v = tt

  any_keeps : (k : ℕ) → Keeps Any k
  any_keeps k recs gs t f inv = any_next gs (move_of t k) (sunk_in recs (top_place t) k)

  leaf_only : (t : PlacedPairs K) (k : ℕ) → LostSame t (move_of t k)
  leaf_only (placed_leaf p C c) k = refl
  leaf_only (placed_pair s w r C i E L R O) k = never_lost (record { shrink = s; split = w; rank = r; outer = C; inner = i; box = E; left = L; right = R; out = O }) k

-- A strike changes no record off the tree.
pub off_struck : {K : Type 0} (n k : ℕ) (recs : List Record) (t : PlacedPairs K) → RanksStand t → LiesAmong recs [] (nodes_of t) → nodes (tree_in t) ≤ n
    → Elsewhere (λ j. occurs j (nodes_of t)) recs (struck_in n recs (top_place t) k).table
off_struck n k recs t h f few = same_whole [] t recs _ (strikes Any k (any_keeps k) n recs [] t h f few tt).same

pub sink_moves : (K : Type 0) (recs : List Record) (s k : ℕ) → Sinks K recs (sunk_in recs s k).table s k (sunk_in recs s k).ends
sink_moves K recs s k gs t is h kept =
    let used : ℕ → ℕ = used_by (node_frames gs) (nodes_of t) in
    let go : (F : StrikeMove K) (v : Sink) → Moved recs used gs F v → RanksOn F → Placed t F → LostSame t F → Landed v.table gs t F v.ends =
    λ F. elim F as (λ F. (v : Sink) → Moved recs used gs F v → RanksOn F → Placed t F → LostSame t F → Landed v.table gs t F v.ends) [
      | finished u n ↦ λ v written good placed same. (lies_whole v.table gs u written.0, written.1, placed)
      | onward g u ↦ λ v written good placed same. (lies_whole v.table (g ∷ gs) u written.0, written.1, placed, good)
      | lost u ↦ λ v written good placed same. (lies_whole v.table gs u written.0, written.1, same)
    ] in
    let m = sinks_in recs gs t (lies_among recs gs t kept) k in
    subst (λ j. MovesDown recs (sunk_in recs j k).table gs t k (sunk_in recs j k).ends) (sym is)
    record {
      written = go (move_of t k) (sunk_in recs (top_place t) k) m (ranks_of t k h) (placed t k) (leaf_only t k);
      step = move_of_is t k h;
      same = same_whole gs t recs _ (moved_same recs used gs (move_of t k) (sunk_in recs (top_place t) k) m);
    }

pub strike_gives_tree : (K : Type 0) (recs : List Record) (root k n : ℕ) → Strikes K recs (struck_in n recs root k).table root k n (struck_in n recs root k).ends
strike_gives_tree K recs root k n t h kept is few =
    let m = strikes Any k (any_keeps k) n recs [] t h (lies_among recs [] t kept) few tt in
    subst (λ j. StruckTree recs (struck_in n recs j k).table t k n (struck_in n recs j k).ends) (sym is)
    record {
      kept = subst (λ u. LiesIn (struck_in n recs (top_place t) k).table (nodes_of u)) m.found (lies_whole _ m.path (placed_leaf m.leaf_place m.box m.content) m.focus);
      tree = moves_in_is n t k h ∙ strike_steps n (nodes (tree_in t)) (tree_in t) k few (omega arith);
      right = λ w. final n t k h w few;
      path = m.path;
      leaf_place = m.leaf_place;
      box = m.box;
      content = m.content;
      found = m.found;
      answer = m.answer;
      same = same_whole [] t recs _ m.same;
    }

-- the same of a table that is known to be what the function makes of another
pub sink_lifts : (K : Type 0) (recs exit : List Record) (s k : ℕ) (r : Sinking) → exit ≡ (sunk_in recs s k).table → r ≡ (sunk_in recs s k).ends → Sinks K recs exit s k r
sink_lifts K recs exit s k r e e' =
    subst (λ t. Sinks K recs t s k r) (sym e) (subst (λ (z : Sinking). Sinks K recs (sunk_in recs s k).table s k z) (sym e') (sink_moves K recs s k))

pub strike_lifts : (K : Type 0) (recs exit : List Record) (root k n : ℕ) (r : Sinking) → exit ≡ (struck_in n recs root k).table → r ≡ (struck_in n recs root k).ends → Strikes K recs exit root k n r
strike_lifts K recs exit root k n r e e' =
    subst (λ t. Strikes K recs t root k n r) (sym e) (subst (λ (z : Sinking). Strikes K recs (struck_in n recs root k).table root k n z) (sym e') (strike_gives_tree K recs root k n))
