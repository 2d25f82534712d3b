-- The tests of a disc by its nearest and its farthest place, which compute, and that they are the defined ones.
use Rattle.std.proofs.Common.{◌≡◌, ℕ, ◌+◌, ◌-◌, ◌*◌, ◌/◌, ◌%◌, ◌^◌, ◌<◌, ltb, leb, List, sym, refl, ap, ◌∙◌, subst, arith, pow_pos}
use native.Mathlib.Nat.{mul-mod_left}
use Rattle.place.specs.Codes.{motor_of, root_of}
use Rattle.place.specs.Boxes.{prefix, Box, in_box, motor_side, root_side, between, Formed}
use Rattle.place.proofs.SideLaws.{last_motor, last_root, box_places}
use Rattle.tally.specs.Sums.{zero_sum, sum_joined}
use Rattle.tally.specs.declared.sum.Sum.{Sum}
use Rattle.crossing.specs.Discs.{within, gap_to, reach_to}
use Rattle.crossing.proofs.RegionLaws.{misses_same, held_same}
use Rattle.crossing.proofs.DiscLaws.{disc_misses, disc_holds}
use Rattle.quadtreap.specs.Tree.{Reading, tree_of}
use Rattle.quadtreap.specs.Rank.{Valid, in_rank_order}
use Rattle.quadtreap.specs.Walk.{Tests, Agree, asked, map_walk}
use Rattle.quadtreap.proofs.WalkLaws.{same_tests}
use Rattle.figures.specs.Figures.{disc_walk}

-- the four ends of a box
abbrev low_motor : Box → ℕ
low_motor B = motor_of B.code

abbrev high_motor : Box → ℕ
high_motor B = motor_of B.code + (motor_side B.depth - 1)

abbrev low_root : Box → ℕ
low_root B = root_of B.code

abbrev high_root : Box → ℕ
high_root B = root_of B.code + (root_side B.depth - 1)

-- The ends of a box as it is written.
module _ (B : Box) (f : Formed B) where
  clear : B.code % 2 ^ (32 - B.depth) ≡ 0
  clear =
      subst (λ (c : ℕ). c % 2 ^ (32 - B.depth) ≡ 0) (ap (λ (A : Box). A.code) f.clear)
      (mul-mod_left (prefix B.depth B.code) (2 ^ (32 - B.depth)))

  motors : (high_motor B < 2 ^ 16) × (high_motor B + 1 ≡ low_motor B + motor_side B.depth)
  motors = omega (arith, last_motor B.depth B.code f.deep f.small clear, pow_pos (16 - (B.depth + 1) / 2))

  roots : (high_root B < 2 ^ 16) × (high_root B + 1 ≡ low_root B + root_side B.depth)
  roots = omega (arith, last_root B.depth B.code f.deep f.small clear, pow_pos (16 - B.depth / 2))

  places : (x y : ℕ) → x < 2 ^ 16 → y < 2 ^ 16 → in_box B x y ≡ between (low_motor B) (high_motor B) (low_root B) (high_root B) x y
  places x y hx hy =
      sym
      (box_places B.depth B.code f.deep f.small clear (low_motor B) (high_motor B) (low_root B) (high_root B) x y refl motors.1 refl roots.1 hx
      hy)

-- A disc with the centre (m, n) and the radii r and R.
module _ (m n r R : ℕ) where
  -- the tests by squares
  abbrev pub closed : Tests
  closed =
      record {
        misses = λ B. ltb (r * r) (gap_to m (low_motor B) (high_motor B) * gap_to m (low_motor B) (high_motor B) + gap_to n (low_root B) (high_root B) * gap_to n (low_root B) (high_root B));
        held = λ B. leb (reach_to m (low_motor B) (high_motor B) * reach_to m (low_motor B) (high_motor B) + reach_to n (low_root B) (high_root B) * reach_to n (low_root B) (high_root B)) (R * R);
        has = λ c. within m n r (motor_of c) (root_of c);
      }

  closed_agrees : Agree (asked (within m n r) (within m n R)) closed
  closed_agrees = record { misses = missed; held = holds; has = λ c _. refl }
    where
      missed : (B : Box) → Formed B → (asked (within m n r) (within m n R)).misses B ≡ closed.misses B
      missed B f =
          misses_same (in_box B) (between (low_motor B) (high_motor B) (low_root B) (high_root B)) (within m n r) (places B f)
          ∙ disc_misses m n r (low_motor B) (high_motor B) (low_root B) (high_root B) (omega arith) (omega arith) (motors B f).0 (roots B f).0

      holds : (B : Box) → Formed B → (asked (within m n r) (within m n R)).held B ≡ closed.held B
      holds B f =
          held_same (in_box B) (between (low_motor B) (high_motor B) (low_root B) (high_root B)) (within m n R) (places B f)
          ∙ disc_holds m n R (low_motor B) (high_motor B) (low_root B) (high_root B) (omega arith) (omega arith) (motors B f).0 (roots B f).0

  -- the walk, which computes with these tests
  pub by_squares : (rs : List (Reading Sum)) → Valid (in_rank_order rs) → disc_walk rs m n r R ≡ map_walk sum_joined zero_sum closed (tree_of (in_rank_order rs))
  by_squares rs v = same_tests sum_joined zero_sum (asked (within m n r) (within m n R)) closed closed_agrees (in_rank_order rs) v
