-- Boxes: sets of places whose codes share their most significant bits.
--   Box, prefix, holds, in_box   a box, and the codes and places in it
--   cut, whole, point            the box of a depth around a code, the whole square, the box of one code
--   within                       one box contained in another
--   agree, smallest, Deepest     how many bits two codes share, and the deepest box that contains both of two boxes
--   half, lower, upper           the halves of a box
--   motor_side, root_side        how many counts a box spans
--   between                      the places of a rectangle, by its four ends
--   Formed                       a box as it is written: zeros below its depth
use Rattle.std.specs.Prelude.{◌≡◌, ℕ, zero, suc, ◌+◌, ◌-◌, ◌*◌, ◌/◌, ◌^◌, ◌<◌, ◌≤◌, min, Bool, true, cond, ◌&&◌, ◌==◌, nat_le}
use Rattle.place.specs.Codes.{code_of}

-- The k most significant of the 32 bits of the code c.
unfoldable pub prefix : ℕ → ℕ → ℕ
prefix k c = c / 2 ^ (32 - k)

-- A box is given by a depth, from 0 to 32, and a code in it.
pub record Box : Type 0 where
  pub depth : ℕ
  pub code : ℕ

-- The box of depth k that contains the code c, written with zeros below its depth.
abbrev pub cut : ℕ → ℕ → Box
cut k c = record { depth = k; code = prefix k c * 2 ^ (32 - k) }

-- The whole square.
abbrev pub whole : Box
whole = record { depth = 0; code = 0 }

-- The box of one code.
abbrev pub point : ℕ → Box
point c = record { depth = 32; code = c }

-- Whether the code c is in the box B: they share as many most significant bits as B is deep.
unfoldable pub holds : Box → ℕ → Bool
holds B c = prefix B.depth c == prefix B.depth B.code

-- Whether a place is in the box: its code is.
unfoldable pub in_box : Box → ℕ → ℕ → Bool
in_box B m r = holds B (code_of m r)

-- Whether every code of A is in B.
unfoldable pub within : Box → Box → Bool
within A B = nat_le B.depth A.depth && holds B A.code

-- How many of the n most significant bits of c and d agree before one differs.
unfoldable pub agree : ℕ → ℕ → ℕ → ℕ
agree zero c d = zero
agree (suc k) c d = cond (prefix (suc k) c == prefix (suc k) d) (suc k) (agree k c d)

-- The smallest box of A and B: as deep as their codes agree, and no deeper than either.
abbrev pub smallest : Box → Box → Box
smallest A B = cut (agree (min A.depth B.depth) A.code B.code) A.code

-- E is the deepest box that contains both A and B: it contains both, and every box that does contains E.
pub record Deepest (A B E : Box) : Type 0 where
  pub first : within A E ≡ true
  pub second : within B E ≡ true
  pub deepest : (C : Box) → within A C ≡ true → within B C ≡ true → within E C ≡ true

-- The half of E that contains the code of A.
abbrev pub half : Box → Box → Box
half E A = cut (suc E.depth) A.code

-- The half of E whose codes have a zero below E's depth.
abbrev pub lower : Box → Box
lower E = record { depth = suc E.depth; code = E.code }

-- The half of E whose codes have a one below E's depth.
abbrev pub upper : Box → Box
upper E = record { depth = suc E.depth; code = E.code + 2 ^ (32 - suc E.depth) }

-- How many motor counts a box of depth k spans.
abbrev pub motor_side : ℕ → ℕ
motor_side k = 2 ^ (16 - (k + 1) / 2)

-- How many root counts a box of depth k spans.
abbrev pub root_side : ℕ → ℕ
root_side k = 2 ^ (16 - k / 2)

-- Whether a place lies between a lowest and a highest motor count and between a lowest and a highest root count.
abbrev pub between : ℕ → ℕ → ℕ → ℕ → ℕ → ℕ → Bool
between lm hm lr hr m r = (nat_le lm m && nat_le m hm) && (nat_le lr r && nat_le r hr)

-- A box as it is written: at most 32 deep, a code of 32 bits, zeros below the depth.
pub record Formed (B : Box) : Type 0 where
  pub deep : B.depth ≤ 32
  pub small : B.code < 2 ^ 32
  pub clear : cut B.depth B.code ≡ B
