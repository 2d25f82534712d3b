-- What is built, with the readings that are left inserted, is what was begun with all of them inserted.
use Rattle.std.proofs.Common.{◌≡◌, map, drop}
use Rattle.quadtreap.specs.Tree.{insert_all}
use Rattle.rebuild.specs.Trees.{reading_of, tree}
use Rattle.rebuild.proofs.build.build.Given as goal

abbrev pub invariant-loop-reading : goal.invariant-loop-reading
invariant-loop-reading l =
    insert_all (tree l.root) (map reading_of (drop l.reading-index l.others)) ≡ insert_all (tree l.initial.root) (map reading_of l.others)
