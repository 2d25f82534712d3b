-- What the kinds of records are.
--   is_leaf, is_reading, is_box   a leaf, a leaf with a reading, a leaf with a box
--   is_pair, is_split             a shrink node, which is the upper node of a pair, and a split node
use Rattle.std.specs.Prelude.{Bool, true, false}
use Rattle.records.specs.declared.kind.Kind.{Kind}
use Rattle.records.specs.declared.kind.Kind.TheVariants.{Reading, Box, Shrink, Split}

-- Whether the kind is that of a leaf.
abbrev pub is_leaf : Kind → Bool
is_leaf Reading = true
is_leaf Box = true
is_leaf Shrink = false
is_leaf Split = false

-- Whether the kind is that of a leaf with a reading.
abbrev pub is_reading : Kind → Bool
is_reading Reading = true
is_reading Box = false
is_reading Shrink = false
is_reading Split = false

-- Whether the kind is that of a leaf with a box.
abbrev pub is_box : Kind → Bool
is_box Reading = false
is_box Box = true
is_box Shrink = false
is_box Split = false

-- Whether the kind is that of the shrink node of a pair.
abbrev pub is_pair : Kind → Bool
is_pair Reading = false
is_pair Box = false
is_pair Shrink = true
is_pair Split = false

-- Whether the kind is that of a split node.
abbrev pub is_split : Kind → Bool
is_split Reading = false
is_split Box = false
is_split Shrink = false
is_split Split = true
