-- A whole insertion: the way down, the new pair, and the rise.
use Rattle.std.proofs.Common.{◌≡◌, ℕ, sym, ap, ◌∙◌, subst}
use Rattle.records.specs.declared.places.FourPlaces.{FourPlaces}
use Rattle.quadtreap.specs.Tree.{Reading}
use Rattle.quadtreap.specs.Enter.{enter_tree, settle_all}
use Rattle.records.specs.PlacedPairs.{PlacedPairs, placed_leaf, tree_in, RanksStand, frames, FramesRanksStand, settled_all, planted_at, Reaches}
use Rattle.quadtreap.proofs.MapLaws.{risen}
use Rattle.records.proofs.PairLaws.{tree_frames, tree_settles, ranks_settles, ranks_parts}
use Rattle.records.proofs.PlantLaws.{tree_plant, ranks_plant}

module _ {K : Type 0} (t : PlacedPairs K) (p : Reading K) (i : ℕ) (n : FourPlaces) (way : Reaches t p.code i) (h : RanksStand t) where
  abbrev entered : PlacedPairs K
  entered = settled_all way.path (planted_at n i way.box way.content p)

  pub frames_ranks : FramesRanksStand way.path
  frames_ranks = (ranks_parts way.path (placed_leaf i way.box way.content) (subst RanksStand (sym way.whole) h)).0

  -- what stands after the last step of the rise is the tree with the reading at its rank
  pub enters : tree_in entered ≡ enter_tree (tree_in t) p
  enters =
      tree_settles way.path (planted_at n i way.box way.content p) frames_ranks (ranks_plant n i way.box way.content p)
      ∙ ap (settle_all (frames way.path)) (tree_plant n i way.box way.content p)
      ∙ risen (frames way.path) way.box way.content p way.leads
      ∙ ap (λ u. enter_tree u p) (sym (tree_frames way.path (placed_leaf i way.box way.content)) ∙ ap tree_in way.whole)

  pub enters_ranks : RanksStand entered
  enters_ranks = ranks_settles way.path (planted_at n i way.box way.content p) frames_ranks (ranks_plant n i way.box way.content p)
