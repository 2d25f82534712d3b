-- The tests of a shape tell the truth about boxes.
use Rattle.std.proofs.Common.{◌≡◌, ℕ, ◌^◌, ◌<◌, Bool, true, false, refl, ap, ◌∙◌, inl, inr}
use Rattle.std.proofs.lemmas.Bool.{cases_Bool}
use Rattle.place.specs.Codes.{motor_of, root_of}
use Rattle.place.specs.Boxes.{Box, holds, in_box, Formed}
use Rattle.crossing.specs.Regions.{Places}
use Rattle.quadtreap.specs.Walk.{Tests, asked, Subset}
use Rattle.place.proofs.SideLaws.{code_of_lem, motor_lt, root_lt}
use Rattle.crossing.proofs.RegionLaws.{misses_means, held_means}

-- What is told is true of the codes in the inner and in the outer set.
pub record Truthful (q : Tests) (inner outer : ℕ → Bool) : Type 0 where
  pub part : (c : ℕ) → c < 2 ^ 32 → inner c ≡ true → outer c ≡ true
  pub missed : (B : Box) (c : ℕ) → Formed B → c < 2 ^ 32 → q.misses B ≡ true → holds B c ≡ true → inner c ≡ false
  pub held : (B : Box) (c : ℕ) → Formed B → c < 2 ^ 32 → q.held B ≡ true → holds B c ≡ true → outer c ≡ true
  pub has : (c : ℕ) → c < 2 ^ 32 → q.has c ≡ inner c

-- the codes of the places in a set
abbrev pub codes_in : Places → ℕ → Bool
codes_in s c = s (motor_of c) (root_of c)

-- the place of a code of a box is in the box
in_box_lem : (B : Box) (c : ℕ) → c < 2 ^ 32 → holds B c ≡ true → in_box B (motor_of c) (root_of c) ≡ true
unfolding in_box
in_box_lem B c l h = ap (holds B) (code_of_lem c l) ∙ h

pub asked_truthful : (inner outer : Places) → Subset inner outer → Truthful (asked inner outer) (codes_in inner) (codes_in outer)
asked_truthful inner outer sub =
    record {
      part = λ c l h. sub (motor_of c) (root_of c) (motor_lt c) (root_lt c) h;
      missed = missed;
      held = λ B c f l h i. (held_means (in_box B) outer).0 h (motor_of c) (root_of c) (motor_lt c) (root_lt c) (in_box_lem B c l i);
      has = λ c l. refl;
    }
  where
    missed : (B : Box) (c : ℕ) → Formed B → c < 2 ^ 32 → (asked inner outer).misses B ≡ true → holds B c ≡ true → codes_in inner c ≡ false
    missed B c f l h i =
        elim (cases_Bool (codes_in inner c)) [
          | inl e ↦
              absurd
              ((misses_means (in_box B) inner).0 h
              (record { motor = motor_of c; root = root_of c; motor_lt = motor_lt c; root_lt = root_lt c; in_region = in_box_lem B c l i; in_set = e }))
          | inr e ↦ e
        ]
