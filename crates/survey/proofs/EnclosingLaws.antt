-- The smallest box of a list of codes, by one code more.
use Rattle.std.proofs.Common.{◌≡◌, ℕ, true, List, [], ◌∷◌, ◌++◌, Some, refl}
use mathlib.Core.Path.{subst⁻¹}
use Rattle.std.proofs.lemmas.List.Elements.{All-nil, All-cons, All-head, All-push, All-pop}
use Rattle.place.specs.Boxes.{Box, point, holds, within, Deepest}
use Rattle.place.proofs.BoxLaws.{true_holds, within_parts, within_holds, point_within}
use Rattle.survey.specs.Enclosing.{Encloses}

-- a box that contains the box of a code contains that code
pub within_point : (C : Box) (c : ℕ) → within (point c) C ≡ true → holds C c ≡ true
within_point C c h = true_holds C c (within_parts (point c) C h).1

-- the box of the first code
pub encloses_one : (c : ℕ) (B : Box) → B ≡ point c → Encloses (c ∷ []) B
encloses_one c B e =
    subst⁻¹ (λ (A : Box). Encloses (c ∷ []) A) e
    record {
      each = All-cons (λ x. holds (point c) x ≡ true) c [] (true_holds (point c) c refl) (All-nil (λ x. holds (point c) x ≡ true));
      least = λ C deep all. point_within C c deep (All-head (λ x. holds C x ≡ true) c [] all);
    }

-- one code more
pub encloses_more : (codes : List ℕ) (c : ℕ) (B E : Box) → Encloses codes B → Deepest B (point c) E → Encloses (codes ++ c ∷ []) E
encloses_more codes c B E g d =
    record {
      each = All-push (λ x. holds E x ≡ true) codes c (λ k x h. within_holds B E _ d.first (g.each k x h)) (within_point E c d.second);
      least = λ C deep all.
          let parts = All-pop (λ x. holds C x ≡ true) (codes ++ c ∷ []) codes (Some c) refl all in
          d.deepest C (g.least C deep parts.0) (point_within C c deep parts.1);
    }
