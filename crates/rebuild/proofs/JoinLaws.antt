-- A tally joined to the readings one after another.
use Rattle.std.proofs.Common.{◌≡◌, ℕ, zero, suc, ◌+◌, ◌<◌, List, [], ◌∷◌, map, length, set, get_or, refl, ap, sym, ◌∙◌, arith}
use Rattle.quadtreap.specs.Tree.{Reading}
use Rattle.quadtreap.specs.Carry.{carry, carry_all}
use Rattle.replay.specs.Weights.{Weighed}
use Rattle.rebuild.specs.declared.node.Live.{Live}
use Rattle.rebuild.specs.Trees.{reading_of}

-- the first n readings with the tallies that f gives them, and the others as they are
abbrev pub carry_first : (Reading Weighed → Weighed) → ℕ → List (Reading Weighed) → List (Reading Weighed)
carry_first f n [] = []
carry_first f zero (r ∷ rs) = r ∷ rs
carry_first f (suc n) (r ∷ rs) = carry f r ∷ carry_first f n rs

-- none are carried at first
pub carry_none : (f : Reading Weighed → Weighed) (rs : List (Reading Weighed)) → carry_first f 0 rs ≡ rs
carry_none f [] = refl
carry_none f (r ∷ rs) = refl

-- and all at last
pub carry_last : (f : Reading Weighed → Weighed) (n : ℕ) (rs : List (Reading Weighed)) → n ≡ length rs → carry_first f n rs ≡ carry_all f rs
carry_last f n [] h = refl
carry_last f zero (r ∷ rs) h = absurd (let z : ⊥ = omega (arith, h) in z)
carry_last f (suc n) (r ∷ rs) h = ap (λ (qs : List (Reading Weighed)). carry f r ∷ qs) (carry_last f n rs (omega (arith, h)))

-- the next is carried where the one there is
set_carried : (f : Reading Weighed → Weighed) (i : ℕ) (rs : List (Reading Weighed)) (d : Reading Weighed) → i < length rs
    → set (carry_first f i rs) i (carry f (get_or (carry_first f i rs) i d)) ≡ carry_first f (suc i) rs
set_carried f i [] d h = absurd (let z : ⊥ = omega (arith, h) in z)
set_carried f zero (r ∷ rs) d h = ap (λ (qs : List (Reading Weighed)). carry f r ∷ qs) (sym (carry_none f rs))
set_carried f (suc i) (r ∷ rs) d h = ap (λ (qs : List (Reading Weighed)). carry f r ∷ qs) (set_carried f i rs d (omega (arith, h)))

-- what is set in a list of live ones is set in that of their readings
map_set : (xs : List Live) (i : ℕ) (y : Live) → map reading_of (set xs i y) ≡ set (map reading_of xs) i (reading_of y)
map_set [] i y = refl
map_set (x ∷ xs) zero y = refl
map_set (x ∷ xs) (suc i) y = ap (λ (qs : List (Reading Weighed)). reading_of x ∷ qs) (map_set xs i y)

-- and what stands there is its reading
map_get : (xs : List Live) (i : ℕ) (d : Live) → reading_of (get_or xs i d) ≡ get_or (map reading_of xs) i (reading_of d)
map_get [] i d = refl
map_get (x ∷ xs) zero d = refl
map_get (x ∷ xs) (suc i) d = map_get xs i d

-- as many are carried as there are
length_carried : (f : Reading Weighed → Weighed) (i : ℕ) (rs : List (Reading Weighed)) → length (carry_first f i rs) ≡ length rs
length_carried f i [] = refl
length_carried f zero (r ∷ rs) = refl
length_carried f (suc i) (r ∷ rs) = ap suc (length_carried f i rs)

-- one more is carried
pub carry_next : (f : Reading Weighed → Weighed) (i : ℕ) (xs : List Live) (rs : List (Reading Weighed)) (d y : Live)
    → map reading_of xs ≡ carry_first f i rs → i < length rs → reading_of y ≡ carry f (reading_of (get_or xs i d))
    → map reading_of (set xs i y) ≡ carry_first f (i + 1) rs
carry_next f i xs rs d y done small made =
    let next : i + 1 ≡ suc i = omega arith in
    map_set xs i y
    ∙ ap (λ (q : Reading Weighed). set (map reading_of xs) i q) (made ∙ ap (carry f) (map_get xs i d))
    ∙ ap (λ (qs : List (Reading Weighed)). set qs i (carry f (get_or qs i (reading_of d)))) done
    ∙ set_carried f i rs (reading_of d) small
    ∙ ap (λ (n : ℕ). carry_first f n rs) (sym next)
