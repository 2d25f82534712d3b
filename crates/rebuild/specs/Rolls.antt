-- The list of the live readings, and what its calls do.
--   readings      the readings that are live
--   comes_after   whether a live reading ranks after a rank
--   Called        what a call answers and leaves
use Rattle.std.specs.Prelude.{◌≡◌, ℕ, Bool, List, map}
use Rattle.quadtreap.specs.Tree.{Reading}
use Rattle.quadtreap.specs.Rank.{earlier}
use Rattle.quadtreap.specs.declared.rank.Rank.{Rank}
use Rattle.tables.specs.Calls.{Call, Reply, next, reply}
use Rattle.replay.specs.Weights.{Weighed, joined}
use Rattle.rebuild.specs.declared.node.Live.{Live}
use Rattle.rebuild.specs.declared.roll.Roll.{Roll}
use Rattle.rebuild.specs.Trees.{reading_of}

-- The readings that are live, in the order of the list.
abbrev pub readings : Roll → List (Reading Weighed)
readings r = map reading_of r.live.items

-- Whether a live reading ranks after the rank.
abbrev pub comes_after : Rank → Live → Bool
comes_after rank r = earlier rank r.rank

-- The call c on a map of N places where the readings rs are live answers a, and the readings rs' are live after it.
pub record Called (N : ℕ) (c : Call Weighed) (rs rs' : List (Reading Weighed)) (a : Reply) : Type 0 where
  pub answer : a ≡ reply N c rs
  pub live : rs' ≡ next joined N c rs
