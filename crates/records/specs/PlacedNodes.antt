-- A tree whose nodes have places in a table of records, and what it is for it to lie there.
--   NodeKind, PlacedNodes, pair_at                    a tree of nodes with their places
--   grown, unplaced, place_of                         the tree without places, and the place of its root
--   one, occurs                                       how often a place is a node's
--   kind_of, leaf_kind, leaf_rank, carried            the kind and the rank of a node
--   numbers_of, inner_numbers, in_record, record_of   the record of a node
--   blank                                             the record that is read past the end
--   Lies, NodesRecorded, LiesIn                       the tree lies in the table
--   Sized, Shallow                                    the depths are those of boxes
--   NodeFrame, plug, above                            a node without one of its children
--   ordered_nodes                                     a pair with its children in the order of their ranks
use Rattle.std.specs.Prelude.{◌≡◌, ℕ, ◌+◌, ◌<◌, ◌≤◌, cond, List, [], ◌∷◌, length, ◌==◌, slice_index_or, None, Some, Option as Maybe}
use Rattle.std.proofs.Math.Option.{Option, none, some}
use Rattle.records.specs.declared.record.BoxNumbers.{BoxNumbers}
use Rattle.records.specs.declared.record.Record.{Record}
use Rattle.records.specs.declared.kind.Kind.{Kind}
use Rattle.records.specs.declared.kind.Kind.TheVariants.{Reading as ReadingKind, Box as BoxKind, Shrink, Split}
use Rattle.place.specs.Boxes.{Box}
use Rattle.quadtreap.specs.Tree.{Content, reading, box, Tree, leaf, shrink, split, box_in}
use Rattle.quadtreap.specs.declared.rank.Rank.{Rank}
use Rattle.quadtreap.specs.Rank.{earlier, rank_of}
use Rattle.quadtreap.specs.Pairs.{unranked}
use Rattle.records.specs.Links.{Link}

-- A node with children is a shrink node or a split node.
pub data NodeKind : Type 0 where
  shrinks : NodeKind
  splits : NodeKind

-- Each node has its place. One with children carries a rank; a leaf has that of its reading.
pub data PlacedNodes (K : Type 0) : Type 0 where
  leaf_at : ℕ → Box → Content K → PlacedNodes K
  node_at : NodeKind → ℕ → Rank → Box → Option Box → PlacedNodes K → PlacedNodes K → PlacedNodes K

-- A shrink node and the split node that is its first child.
abbrev pub pair_at : {K : Type 0} → ℕ → ℕ → Rank → Box → Option Box → Box → PlacedNodes K → PlacedNodes K → PlacedNodes K → PlacedNodes K
pair_at s w r C i E L R O = node_at shrinks s r C i (node_at splits w r E i L R) O

-- The tree node of a kind.
abbrev pub grown : {K : Type 0} → NodeKind → Box → Option Box → Tree K → Tree K → Tree K
grown shrinks C i a b = shrink C i a b
grown splits C i a b = split C i a b

-- The tree without places.
abbrev pub unplaced : {K : Type 0} → PlacedNodes K → Tree K
unplaced (leaf_at p C c) = leaf C c
unplaced (node_at k p r C i a b) = grown k C i (unplaced a) (unplaced b)

-- The place of the root.
abbrev pub place_of : {K : Type 0} → PlacedNodes K → ℕ
place_of (leaf_at p C c) = p
place_of (node_at k p r C i a b) = p

-- Once for a place that is j, and else not.
unfoldable pub one : ℕ → ℕ → ℕ
one i j = cond (i == j) 1 0

-- How often a place is that of a node.
abbrev pub occurs : {K : Type 0} → ℕ → PlacedNodes K → ℕ
occurs j (leaf_at p C c) = one j p
occurs j (node_at k p r C i a b) = one j p + (occurs j a + occurs j b)

-- An inner box, if there is one, is at most 32 deep.
abbrev pub Shallow : Option Box → Type 0
Shallow none = Unit {0}
Shallow (some I) = I.depth ≤ 32

-- Each box is at most 32 deep.
abbrev pub Sized : {K : Type 0} → PlacedNodes K → Type 0
Sized (leaf_at p C c) = (C.depth ≤ 32) × Shallow (box_in c)
Sized (node_at k p r C i a b) = (C.depth ≤ 32) × Shallow i × Sized a × Sized b

-- The numbers that a record has of a box.
abbrev pub numbers_of : Box → BoxNumbers
numbers_of B = record { depth = B.depth; code = B.code }

-- The numbers that a record has of an inner box, or of none.
abbrev pub inner_numbers : Option Box → Maybe BoxNumbers
inner_numbers none = None
inner_numbers (some I) = Some (numbers_of I)

-- The kind that the record of a node with children has.
abbrev pub kind_of : NodeKind → Kind
kind_of shrinks = Shrink
kind_of splits = Split

-- The kind that the record of a leaf has.
abbrev pub leaf_kind : {K : Type 0} → Content K → Kind
leaf_kind (reading r) = ReadingKind
leaf_kind (box I) = BoxKind

-- The rank that a leaf carries: that of its reading.
abbrev pub leaf_rank : {K : Type 0} → Content K → Rank
leaf_rank (reading r) = rank_of r
leaf_rank (box I) = unranked

-- The rank that the root carries.
abbrev pub carried : {K : Type 0} → PlacedNodes K → Rank
carried (leaf_at p C c) = leaf_rank c
carried (node_at k p r C i a b) = r

-- The record that is read past the end of the table.
abbrev pub blank : Record
blank =
    record {
      kind = ReadingKind;
      outer = record { depth = 0; code = 0 };
      inner = None;
      first = 0;
      second = 0;
      parent = None;
      rank = unranked;
    }

-- The record of a node with a kind, an outer box, an inner box, two children, a parent and a rank.
abbrev pub in_record : Kind → Box → Option Box → ℕ → ℕ → Link → Rank → Record
in_record k C i a b p r =
    record {
      kind = k;
      outer = numbers_of C;
      inner = inner_numbers i;
      first = a;
      second = b;
      parent = p;
      rank = r;
    }

-- The record of the root under the parent p. A leaf has 65535 for its children, which are never read.
abbrev pub record_of : {K : Type 0} → Link → PlacedNodes K → Record
record_of p (leaf_at q C c) = in_record (leaf_kind c) C (box_in c) 65535 65535 p (leaf_rank c)
record_of p (node_at k q r C i a b) = in_record (kind_of k) C i (place_of a) (place_of b) p r

-- The table has the record r at the place i.
pub record Lies (recs : List Record) (i : ℕ) (r : Record) : Type 0 where
  pub within : i < length recs
  pub reads : slice_index_or recs i blank ≡ r

-- The table has the record of each node at its place, where p is the parent of the root.
abbrev pub NodesRecorded : {K : Type 0} → List Record → Link → PlacedNodes K → Type 0
NodesRecorded recs p (leaf_at q C c) = Lies recs q (record_of p (leaf_at q C c))
NodesRecorded recs p (node_at k q r C i a b) = Lies recs q (record_of p (node_at k q r C i a b)) × NodesRecorded recs (Some q) a × NodesRecorded recs (Some q) b

-- The tree lies in the table: the table has its records, and each node has a place of its own below 65535.
pub record LiesIn {K : Type 0} (recs : List Record) (t : PlacedNodes K) : Type 0 where
  pub laid : NodesRecorded recs None t
  pub once : (i : ℕ) → occurs i t ≤ 1
  pub low : (i : ℕ) → 65535 ≤ i → occurs i t ≡ 0
  pub sized : Sized t

-- A node without its first child, or without its second.
pub data NodeFrame (K : Type 0) : Type 0 where
  first : NodeKind → ℕ → Rank → Box → Option Box → PlacedNodes K → NodeFrame K
  second : NodeKind → ℕ → Rank → Box → Option Box → PlacedNodes K → NodeFrame K

-- The tree t in its frames, which go from the lowest to the one at the root.
abbrev pub plug : {K : Type 0} → List (NodeFrame K) → PlacedNodes K → PlacedNodes K
plug [] t = t
plug (first k p r C i b ∷ f) t = plug f (node_at k p r C i t b)
plug (second k p r C i a ∷ f) t = plug f (node_at k p r C i a t)

-- The place of the lowest frame: the parent of what stands in the frames, or none.
abbrev pub above : {K : Type 0} → List (NodeFrame K) → Link
above [] = None
above (first k p r C i b ∷ f) = Some p
above (second k p r C i a ∷ f) = Some p

-- A pair with no inner box has its children in the order of their ranks and takes the rank of the first; one with an inner box has no rank.
abbrev pub ordered_nodes : {K : Type 0} → ℕ → ℕ → Box → Option Box → Box → PlacedNodes K → PlacedNodes K → PlacedNodes K → PlacedNodes K
ordered_nodes s w C none E L R O = cond (earlier (carried R) (carried L)) (pair_at s w (carried R) C none E R L O) (pair_at s w (carried L) C none E L R O)
ordered_nodes s w C (some I) E L R O = pair_at s w unranked C (some I) E L R O
