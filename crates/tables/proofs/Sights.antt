-- The tests of a shape on the rectangle of a box, and on boxes as they are written.
use Rattle.std.proofs.Common.{◌≡◌, ℕ, min, cond, refl, ap, ◌∙◌, arith}
use Rattle.place.specs.declared.rectangle.Rectangle.{Rectangle}
use Rattle.records.specs.declared.record.Record.{Record}
use Rattle.tables.specs.declared.walk.Sight.TheVariants.{Misses, Held}
use Rattle.place.specs.Boxes.{Box, cut, in_box, Formed}
use Rattle.place.specs.Values.{in_rectangle, Covers}
use Rattle.crossing.specs.Regions.{Places, misses, held}
use Rattle.quadtreap.specs.Walk.{asked, Agree}
use Rattle.tables.specs.Walks.{numbered, crossed, seen}
use Rattle.crossing.proofs.RegionLaws.{misses_same, held_same}

-- how a node lies to a shape, by the tests of the shape on the rectangle of its box
pub seen_in : (A : Box) (r : Record) (t : Rectangle) (inner outer : Places) → Covers A t → A ≡ cut (min r.outer.depth 32) r.outer.code
    → seen (numbered inner outer) r ≡ cond (misses (in_rectangle t) inner) Misses (cond (held (in_rectangle t) outer) Held (crossed (numbered inner outer) r))
seen_in A r t inner outer covers is =
    rw (← is, ← misses_same (in_rectangle t) (in_box A) inner covers.places, ← held_same (in_rectangle t) (in_box A) outer covers.places)

-- a box as it is written is the one that its two numbers make
numbers_are : (B : Box) → Formed B → cut (min B.depth 32) B.code ≡ B
numbers_are B f = let d : min B.depth 32 ≡ B.depth = (let h = f.deep in omega arith) in ap (λ (k : ℕ). cut k B.code) d ∙ f.clear

pub numbered_agree : (inner outer : Places) → Agree (numbered inner outer) (asked inner outer)
numbered_agree inner outer =
    record {
      misses = λ B f. ap (λ (X : Box). misses (in_box X) inner) (numbers_are B f);
      held = λ B f. ap (λ (X : Box). held (in_box X) outer) (numbers_are B f);
      has = λ c l. refl;
    }
