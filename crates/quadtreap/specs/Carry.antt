-- The same readings and trees with other tallies.
--   carry, carry_all                       a reading and a list of readings with other tallies
--   carry_content, carry_tree, map_carry   a content, a tree and a map with other tallies
use Rattle.std.specs.Prelude.{List, [], ◌∷◌}
use Rattle.std.proofs.Math.Option.{Option, none, some}
use Rattle.quadtreap.specs.Tree.{Reading, Content, reading, box, Tree, leaf, shrink, split}

-- The reading with the tally that f gives it.
abbrev pub carry : {K M : Type 0} → (Reading K → M) → Reading K → Reading M
carry f r = record { code = r.code; priority = r.priority; tally = f r }

-- Each reading with the tally that f gives it.
abbrev pub carry_all : {K M : Type 0} → (Reading K → M) → List (Reading K) → List (Reading M)
carry_all f [] = []
carry_all f (r ∷ rs) = carry f r ∷ carry_all f rs

-- What a leaf holds, with the tally that f gives.
abbrev pub carry_content : {K M : Type 0} → (Reading K → M) → Content K → Content M
carry_content f (reading r) = reading (carry f r)
carry_content f (box I) = box I

-- The tree with the tallies that f gives.
abbrev pub carry_tree : {K M : Type 0} → (Reading K → M) → Tree K → Tree M
carry_tree f (leaf C c) = leaf C (carry_content f c)
carry_tree f (shrink C i a b) = shrink C i (carry_tree f a) (carry_tree f b)
carry_tree f (split E i a b) = split E i (carry_tree f a) (carry_tree f b)

-- The tree of a map with the tallies that f gives.
abbrev pub map_carry : {K M : Type 0} → (Reading K → M) → Option (Tree K) → Option (Tree M)
map_carry f none = none
map_carry f (some t) = some (carry_tree f t)
