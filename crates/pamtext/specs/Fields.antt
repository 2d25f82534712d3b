-- Numbers written one after another.
--   separated   numbers in decimal, with commas between them
--   Within      numbers of which none passes the largest for its place
--   Spells      a text that is numbers within their largest, separated
--   Numbers     the numbers that a text spells, or none
use Rattle.std.specs.Prelude.{◌≡◌, ℕ, ◌≤◌, List, [], ◌∷◌, ◌++◌, Some, None, decimal, Option}
use Rattle.std.specs.List.{flat_map}

-- The first number in decimal, and each other one after a comma.
abbrev pub separated : List ℕ → List ℕ
separated [] = []
separated (n ∷ ns) = decimal n ++ flat_map (λ m. 44 ∷ decimal m) ns

-- There is one number for each place, and none is larger than the largest for its place.
abbrev pub Within : List ℕ → List ℕ → Type 0
Within [] [] = Unit {0}
Within [] (n ∷ ns) = ⊥
Within (m ∷ ms) [] = ⊥
Within (m ∷ ms) (n ∷ ns) = (n ≤ m) × Within ms ns

-- The text bs is the numbers ns, separated, and each is within its largest.
pub record Spells (largest bs ns : List ℕ) : Type 0 where
  pub within : Within largest ns
  pub text : bs ≡ separated ns

-- The answer is the numbers that the text spells, or none where it spells none.
abbrev pub Numbers : List ℕ → List ℕ → Option (List ℕ) → Type 0
Numbers largest text (Some ns) = Spells largest text ns
Numbers largest text None = (ns : List ℕ) → Spells largest text ns → ⊥
