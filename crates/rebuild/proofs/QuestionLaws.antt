-- The trees of the questions are small, and the two ways to test their boxes answer alike.
use Rattle.std.proofs.Common.{◌≡◌, ◌^◌, ◌<◌, ◌≤◌, List, map, length, ap, arith}
use Rattle.std.proofs.lemmas.List.{length-map}
use Rattle.std.proofs.Math.Option.{some}
use Rattle.crossing.specs.Regions.{Places}
use Rattle.quadtreap.specs.Tree.{Reading, Tree, tree_of, nodes, map_nodes}
use Rattle.quadtreap.specs.Rank.{Valid}
use Rattle.quadtreap.specs.Walk.{asked, map_walk}
use Rattle.quadtreap.proofs.NodeLaws.{node_count}
use Rattle.quadtreap.proofs.WalkLaws.{same_tests}
use Rattle.tables.specs.Walks.{numbered}
use Rattle.tables.proofs.Sights.{numbered_agree}
use Rattle.replay.specs.Weights.{Weighed, joined, neutral}
use Rattle.rebuild.specs.declared.node.Live.{Live}
use Rattle.rebuild.specs.Trees.{reading_of}

-- the tree of as many readings as any map holds
pub few_nodes : (rs : List Live) (t : Tree Weighed) → some t ≡ tree_of (map reading_of rs) → length rs ≤ 16384 → nodes t < 2 ^ 16
few_nodes rs t is few =
    let n : nodes t ≡ map_nodes (tree_of (map reading_of rs)) = ap map_nodes is in
    omega (arith, n, node_count (map reading_of rs), length-map rs reading_of, few)

-- tests by the two numbers of a box, and by the box
pub same_walk : (inner outer : Places) (rs : List (Reading Weighed)) → Valid rs
    → map_walk joined neutral (numbered inner outer) (tree_of rs) ≡ map_walk joined neutral (asked inner outer) (tree_of rs)
same_walk inner outer rs valid = same_tests joined neutral (numbered inner outer) (asked inner outer) (numbered_agree inner outer) rs valid
