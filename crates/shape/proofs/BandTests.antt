-- Intervals that overlap, places between ends, and so rectangles that meet or are held.
use Rattle.std.proofs.Common.{rules, ◌≡◌, ℕ, ◌^◌, ◌<◌, ◌≤◌, max, Bool, true, not, ◌&&◌, leb, Decides, ap, arith}
use Rattle.std.proofs.lemmas.Bool.{and_parts, and_from, leb-true, le-leb}
use Rattle.std.proofs.lemmas.Bool.Decides.{same_from_decides}
use Rattle.place.specs.Boxes.{between}
use Rattle.place.proofs.SideLaws.{between_parts, parts_between}
use Rattle.place.specs.Values.{in_interval, overlap, inside, Widened, in_rectangle}
use Rattle.place.specs.declared.interval.Interval.{Interval}
use Rattle.place.specs.declared.rectangle.Rectangle.{Rectangle}
use Rattle.crossing.specs.Regions.{meets, misses, held, Found}
use Rattle.shape.specs.Shapes.{band_outer}
use Rattle.shape.specs.declared.band.Band.{Band}
use Rattle.crossing.proofs.RegionLaws.{found, meets_found, held_means}

-- no count of an interval is above its highest
at_most : (i : Interval) (c : ℕ) → in_interval i c ≡ true → c ≤ i.highest
at_most i c e = search rules

-- two intervals overlap exactly where the higher of their lowest counts is in both
first_of_both : (i j : Interval) → overlap i j ≡ true → in_interval i (max i.lowest j.lowest) ≡ true
first_of_both i j e = search (rules, i.ends)

second_of_both : (i j : Interval) → overlap i j ≡ true → in_interval j (max i.lowest j.lowest) ≡ true
second_of_both i j e = search (rules, j.ends)

shared : (i j : Interval) (c : ℕ) → in_interval i c ≡ true → in_interval j c ≡ true → overlap i j ≡ true
shared i j c d e = search rules

-- All places between the first four ends are between the others exactly where the ends are. Between the others there may be no place.
module _ (lm hm lr hr bm tm br tr : ℕ) (motors : lm ≤ hm) (roots : lr ≤ hr) (motor-fits : hm < 2 ^ 16) (root-fits : hr < 2 ^ 16) where
  abbrev ends_between : Bool
  ends_between = (leb bm lm && leb hm tm) && (leb br lr && leb hr tr)

  pub held_between : held (between lm hm lr hr) (between bm tm br tr) ≡ ends_between
  held_between =
      same_from_decides (held (between lm hm lr hr) (between bm tm br tr)) ends_between (held_means (between lm hm lr hr) (between bm tm br tr)) decides
    where
      decides : Decides ends_between ((m r : ℕ) → m < 2 ^ 16 → r < 2 ^ 16 → between lm hm lr hr m r ≡ true → between bm tm br tr m r ≡ true)
      decides = (
        (λ e m r _ _ b.
            let q = and_parts (leb bm lm && leb hm tm) (leb br lr && leb hr tr) e in
            let u = and_parts (leb bm lm) (leb hm tm) q.0 in
            let v = and_parts (leb br lr) (leb hr tr) q.1 in
            let p = between_parts lm hm lr hr m r b in
            parts_between bm tm br tr m r (omega (arith, leb-true bm lm u.0, leb-true hm tm u.1, leb-true br lr v.0, leb-true hr tr v.1))),
        (λ all.
            let low = between_parts bm tm br tr lm lr (all lm lr (omega arith) (omega arith) (parts_between lm hm lr hr lm lr (omega arith))) in
            let high = between_parts bm tm br tr hm hr (all hm hr motor-fits root-fits (parts_between lm hm lr hr hm hr (omega arith))) in
            and_from (leb bm lm && leb hm tm) (leb br lr && leb hr tr)
            (and_from (leb bm lm) (leb hm tm) (le-leb bm lm low.0) (le-leb hm tm high.1))
            (and_from (leb br lr) (leb hr tr) (le-leb br lr low.2) (le-leb hr tr high.3))),
      )

-- Two rectangles.
module _ (a b : Rectangle) where
  abbrev overlaps : Bool
  overlaps = overlap a.motors b.motors && overlap a.roots b.roots

  abbrev within : Bool
  within = inside a.motors b.motors && inside a.roots b.roots

  -- they meet exactly where both intervals overlap
  pub misses_by : misses (in_rectangle a) (in_rectangle b) ≡ not overlaps
  unfolding misses
  misses_by = ap not (same_from_decides (meets (in_rectangle a) (in_rectangle b)) overlaps (found (in_rectangle a) (in_rectangle b), meets_found (in_rectangle a) (in_rectangle b)) decides)
    where
      decides : Decides overlaps (Found (in_rectangle a) (in_rectangle b))
      decides = (
        (λ e.
            let p = and_parts (overlap a.motors b.motors) (overlap a.roots b.roots) e in
            let m = first_of_both a.motors b.motors p.0 in
            let r = first_of_both a.roots b.roots p.1 in
            record {
              motor = max a.motors.lowest b.motors.lowest;
              root = max a.roots.lowest b.roots.lowest;
              motor_lt = omega (arith, at_most a.motors _ m);
              root_lt = omega (arith, at_most a.roots _ r);
              in_region = and_from _ _ m r;
              in_set = and_from _ _ (second_of_both a.motors b.motors p.0) (second_of_both a.roots b.roots p.1);
            }),
        (λ f.
            let p = and_parts (in_interval a.motors f.motor) (in_interval a.roots f.root) f.in_region in
            let q = and_parts (in_interval b.motors f.motor) (in_interval b.roots f.root) f.in_set in
            and_from _ _ (shared a.motors b.motors f.motor p.0 q.0) (shared a.roots b.roots f.root p.1 q.1)),
      )

  -- all of a is in b exactly where both intervals lie within
  pub held_by : held (in_rectangle a) (in_rectangle b) ≡ within
  held_by =
      held_between a.motors.lowest a.motors.highest a.roots.lowest a.roots.highest b.motors.lowest b.motors.highest b.roots.lowest b.roots.highest
      a.motors.ends a.roots.ends a.motors.fits a.roots.fits

-- a rectangle widened by a band's margin has the places of the band's outer set
pub outer_is : (b : Band) (w : Rectangle) → Widened b.rectangle.motors b.margin w.motors × Widened b.rectangle.roots b.margin w.roots → in_rectangle w ≡ band_outer b
outer_is b w h = cc
