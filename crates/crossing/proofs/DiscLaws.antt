-- A rectangle lies to a disc as its nearest and its farthest place do.
use Rattle.std.proofs.Common.{◌≡◌, ℕ, ◌+◌, ◌-◌, ◌*◌, ◌^◌, ◌<◌, ◌≤◌, min, max, true, ltb, leb, sym, ◌∙◌, subst, ap₂, inl, inr, add-le-add, le_trans, arith}
use Rattle.std.proofs.lemmas.Bool.{cases_lt, leb-true, lt-ltb, le-ltb, le-leb, lt-leb, not_from_true, not_from_false}
use Rattle.place.specs.Boxes.{between}
use Rattle.place.proofs.SideLaws.{between_parts, parts_between}
use Rattle.crossing.specs.Regions.{Places, beyond, meets, misses, held, Found}
use Rattle.crossing.specs.Discs.{apart, within, gap_to, reach_to}
use Rattle.crossing.specs.Laws.{DiscMisses, DiscHolds}
use Rattle.crossing.proofs.SquareLaws.{square_le}
use Rattle.crossing.proofs.RegionLaws.{meets_found, misses_means, held_means}

-- the squared distance to a place grows with the distances along the axes
squares_le : (u v x y : ℕ) → u ≤ x → v ≤ y → u * u + v * v ≤ x * x + y * y
squares_le u v x y h k = add-le-add (square_le u x h) (square_le v y k)

-- the nearest count of an interval, and the farthest
nearest : (c lo hi : ℕ) → lo ≤ hi → (y : ℕ) × (lo ≤ y) × (y ≤ hi) × (apart y c ≡ gap_to c lo hi)
nearest c lo hi h = (min (max c lo) hi, omega arith, omega arith, omega arith)

farthest : (c lo hi : ℕ) → lo ≤ hi → (y : ℕ) × (lo ≤ y) × (y ≤ hi) × (apart y c ≡ reach_to c lo hi)
farthest c lo hi h =
    elim (cases_lt (c - lo) (hi - c)) [ inl l ↦ (hi, omega arith, omega arith, omega arith) | inr l ↦ (lo, omega arith, omega arith, omega arith) ]

-- A rectangle and a disc.
module _ (cm cr radius lm hm lr hr : ℕ) (motors : lm ≤ hm) (roots : lr ≤ hr) (motor-fits : hm < 2 ^ 16) (root-fits : hr < 2 ^ 16) where
  abbrev region : Places
  region = between lm hm lr hr

  -- a place of the rectangle at two distances from the centre, in a set
  at_distance : (s : Places) (gm gr : ℕ) → (y : ℕ) × (lm ≤ y) × (y ≤ hm) × (apart y cm ≡ gm) → (y : ℕ) × (lr ≤ y) × (y ≤ hr) × (apart y cr ≡ gr)
      → ((m r : ℕ) → apart m cm * apart m cm + apart r cr * apart r cr ≡ gm * gm + gr * gr → s m r ≡ true) → Found region s
  at_distance s gm gr m r h =
      record {
        motor = m.0;
        root = r.0;
        motor_lt = let l = m.2 in omega arith;
        root_lt = let l = r.2 in omega arith;
        in_region = parts_between lm hm lr hr m.0 r.0 (m.1, m.2, r.1, r.2);
        in_set = h m.0 r.0 (ap₂ (λ (x y : ℕ). x * x + y * y) m.3 r.3);
      }

  abbrev gaps : ℕ
  gaps = gap_to cm lm hm * gap_to cm lm hm + gap_to cr lr hr * gap_to cr lr hr

  abbrev reaches : ℕ
  reaches = reach_to cm lm hm * reach_to cm lm hm + reach_to cr lr hr * reach_to cr lr hr

  gaps_least : (m r : ℕ) → region m r ≡ true → gaps ≤ apart m cm * apart m cm + apart r cr * apart r cr
  gaps_least m r e =
      let b = between_parts lm hm lr hr m r e in
      squares_le (gap_to cm lm hm) (gap_to cr lr hr) (apart m cm) (apart r cr) (omega arith) (omega arith)

  reaches_most : (m r : ℕ) → region m r ≡ true → apart m cm * apart m cm + apart r cr * apart r cr ≤ reaches
  reaches_most m r e =
      let b = between_parts lm hm lr hr m r e in
      squares_le (apart m cm) (apart r cr) (reach_to cm lm hm) (reach_to cr lr hr) (omega arith) (omega arith)

  pub misses_by : misses region (within cm cr radius) ≡ ltb (radius * radius) gaps
  unfolding misses within
  misses_by =
      elim (cases_lt (radius * radius) gaps) [
        | inl l ↦ (misses_means region (within cm cr radius)).1 (λ f. none f l) ∙ sym (lt-ltb (radius * radius) gaps l)
        | inr l ↦ not_from_true (meets region (within cm cr radius)) (meets_found region (within cm cr radius) (here l)) ∙ sym (le-ltb (radius * radius) gaps l)
      ]
    where
      none : Found region (within cm cr radius) → radius * radius < gaps → ⊥
      none f l = clash (gaps_least f.motor f.root f.in_region) (leb-true _ _ f.in_set) l
        where
          clash : {x y z : ℕ} → x ≤ y → y ≤ z → z < x → ⊥
          clash p q r = omega arith

      here : gaps ≤ radius * radius → Found region (within cm cr radius)
      here l =
          at_distance (within cm cr radius) (gap_to cm lm hm) (gap_to cr lr hr) (nearest cm lm hm motors) (nearest cr lr hr roots)
          (λ m r e. le-leb _ _ (subst (λ (x : ℕ). x ≤ radius * radius) (sym e) l))

  pub held_by : held region (within cm cr radius) ≡ leb reaches (radius * radius)
  unfolding held within
  held_by =
      elim (cases_lt (radius * radius) reaches) [
        | inl l ↦ not_from_true (meets region (beyond (within cm cr radius))) (meets_found region (beyond (within cm cr radius)) (here l)) ∙ sym (lt-leb reaches (radius * radius) l)
        | inr l ↦ (held_means region (within cm cr radius)).1 (λ m r _ _ e. all m r e l) ∙ sym (le-leb reaches (radius * radius) l)
      ]
    where
      all : (m r : ℕ) → region m r ≡ true → reaches ≤ radius * radius → within cm cr radius m r ≡ true
      all m r e l = le-leb _ _ (le_trans (reaches_most m r e) l)

      here : radius * radius < reaches → Found region (beyond (within cm cr radius))
      here l =
          at_distance (beyond (within cm cr radius)) (reach_to cm lm hm) (reach_to cr lr hr) (farthest cm lm hm motors) (farthest cr lr hr roots)
          (λ m r e. not_from_false _ (lt-leb _ _ (subst (λ (x : ℕ). radius * radius < x) (sym e) l)))

pub disc_misses : DiscMisses
disc_misses = misses_by

pub disc_holds : DiscHolds
disc_holds = held_by
