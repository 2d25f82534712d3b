-- Entering at the rank: a reading is planted at its leaf, and on the way up each pair is settled.
--   plant, settle           a new pair at a leaf, and one step up
--   enter_tree, map_enter   entering a reading into a tree and into a map
--   settle_all              all steps up to the root
--   leads, leads_all        whether a code leads from a pair, or from the root, to a tree
use Rattle.std.specs.Prelude.{ℕ, Bool, true, cond, not, ◌&&◌, List, [], ◌∷◌}
use Rattle.std.proofs.Math.Option.{Option, none, some}
use Rattle.place.specs.Boxes.{whole, holds}
use Rattle.quadtreap.specs.Tree.{Reading, reading, Tree, leaf, shrink, split, outer, insert}
use Rattle.quadtreap.specs.Pairs.{promote_left, promote_outer, creation, earlier_than, ordered, Frame, on_left, on_right, on_outer, plug}

-- A leaf becomes a pair of what it held and p, in rank order, and any other tree stays.
abbrev pub plant : {K : Type 0} → Tree K → Reading K → Tree K
plant (leaf C c) p = ordered (insert (leaf C c) p)
plant (shrink C i a b) p = shrink C i a b
plant (split E i a b) p = split E i a b

-- One step up: the pair takes the changed child, and a left or outer child that was made before the pair rises over it.
abbrev pub settle : {K : Type 0} → Frame K → Tree K → Tree K
settle (on_left C i E j R O) t =
    let x : Tree _ = shrink C i (split E j t R) O in
    cond (earlier_than (creation t) (creation x)) (ordered (promote_left x)) (ordered x)
settle (on_right C i E j L O) t = ordered (shrink C i (split E j L t) O)
settle (on_outer C i E j L R) t =
    let x : Tree _ = shrink C i (split E j L R) t in
    cond (earlier_than (creation t) (creation x)) (ordered (promote_outer x)) x

-- Entering p at its rank: it is planted at the leaf that its code leads to, each pair above that leaf is settled, and a tree that is no leaf and no pair stays.
abbrev pub enter_tree : {K : Type 0} → Tree K → Reading K → Tree K
enter_tree (leaf C c) p = plant (leaf C c) p
enter_tree (split E i a b) p = split E i a b
enter_tree (shrink C i (leaf B c) b) p = shrink C i (leaf B c) b
enter_tree (shrink C i (shrink B j a d) b) p = shrink C i (shrink B j a d) b
enter_tree (shrink C i (split E j L R) O) p =
    let l : Tree _ = settle (on_left C i E j R O) (enter_tree L p) in
    let r : Tree _ = settle (on_right C i E j L O) (enter_tree R p) in
    let o : Tree _ = settle (on_outer C i E j L R) (enter_tree O p) in
    cond (holds E p.code) (cond (holds (outer L) p.code) l r) o

-- Entering p into a map: with no other reading it is a leaf over the whole square.
abbrev pub map_enter : {K : Type 0} → Option (Tree K) → Reading K → Option (Tree K)
map_enter none p = some (leaf whole (reading p))
map_enter (some t) p = some (enter_tree t p)

-- Each pair up to the root is settled.
abbrev pub settle_all : {K : Type 0} → List (Frame K) → Tree K → Tree K
settle_all [] t = t
settle_all (f ∷ fs) t = settle_all fs (settle f t)

-- Whether the code k leads from the pair to its child t.
abbrev pub leads : {K : Type 0} → Frame K → Tree K → ℕ → Bool
leads (on_left C i E j R O) t k = holds E k && holds (outer t) k
leads (on_right C i E j L O) t k = holds E k && not (holds (outer L) k)
leads (on_outer C i E j L R) t k = not (holds E k)

-- Whether the code k leads from the root through all the frames to t.
abbrev pub leads_all : {K : Type 0} → List (Frame K) → Tree K → ℕ → Bool
leads_all [] t k = true
leads_all (f ∷ fs) t k = leads f t k && leads_all fs (plug f t) k
