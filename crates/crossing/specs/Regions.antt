-- Sets of places, and how a region of places lies to the inner and the outer set of a shape.
--   Places, beyond                 a set of places, and the places that are not in it
--   meets, misses, held, crosses   how a region lies to a shape
--   box_at, crossings              every box, and how many of them cross
--   Found                          a place of a region that is in a set
use Rattle.std.specs.Prelude.{◌≡◌, ℕ, ◌-◌, ◌*◌, ◌^◌, ◌<◌, Bool, true, not, ◌&&◌}
use Rattle.place.specs.Boxes.{Box, in_box}
use Rattle.crossing.specs.Counting.{sum_below, count_below, any_below}

-- A set of places: a test of a motor count and a root count, each below 2 ^ 16.
abbrev pub Places : Type 0
Places = ℕ → ℕ → Bool

-- The places that are not in the set.
abbrev pub beyond : Places → Places
beyond s m r = not (s m r)

-- Whether some place of the region is in the set.
unfoldable pub meets : Places → Places → Bool
meets region s = any_below (2 ^ 16) (λ m. any_below (2 ^ 16) (λ r. region m r && s m r))

-- A region misses a shape when none of its places is in the inner set.
unfoldable pub misses : Places → Places → Bool
misses region inner = not (meets region inner)

-- A region is held when all of its places are in the outer set.
unfoldable pub held : Places → Places → Bool
held region outer = not (meets region (beyond outer))

-- A region crosses a shape when it neither misses nor is held.
unfoldable pub crosses : Places → Places → Places → Bool
crosses region inner outer = not (misses region inner) && not (held region outer)

-- The box of depth k whose codes begin with the k bits of t.
abbrev pub box_at : ℕ → ℕ → Box
box_at k t = record { depth = k; code = t * 2 ^ (32 - k) }

-- How many boxes cross a shape, of all depths and all boxes of each depth.
unfoldable pub crossings : Places → Places → ℕ
crossings inner outer = sum_below 33 (λ k. count_below (2 ^ k) (λ t. crosses (in_box (box_at k t)) inner outer))

-- A place of the region that is in the set.
pub record Found (region s : Places) : Type 0 where
  pub motor : ℕ
  pub root : ℕ
  pub motor_lt : motor < 2 ^ 16
  pub root_lt : root < 2 ^ 16
  pub in_region : region motor root ≡ true
  pub in_set : s motor root ≡ true
