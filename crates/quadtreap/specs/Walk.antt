-- The walk over a tree that tallies a shape, and what its answer is.
--   Tests, asked, Agree            what is asked of boxes and codes, the tests of a shape, and tests that answer alike
--   Joins, tally_of, map_tally     a commutative kind of tally, and the tally of a node and of a map
--   Answer, answer                 a tally and an expanded count
--   met, taken, both               what a node answers
--   walk, map_walk                 the walk over a tree and over a map
--   Subset, is_in, every, joined   one set of places in another, and the join over the readings in a set
--   Selects                        a set of places between the inner and the outer set
--   visit, Visits                  a walk with trees that wait, and its steps
use Rattle.std.specs.Prelude.{◌≡◌, ℕ, suc, ◌+◌, ◌^◌, ◌<◌, Bool, true, false, cond, List, [], ◌∷◌}
use Rattle.std.proofs.Math.Option.{Option, none, some}
use Rattle.std.specs.List.{AllByRecursion}
use Rattle.place.specs.Codes.{motor_of, root_of}
use Rattle.place.specs.Boxes.{Box, in_box, Formed}
use Rattle.crossing.specs.Regions.{Places, misses, held}
use Rattle.quadtreap.specs.Tree.{Reading, Content, reading, box, Tree, leaf, shrink, split, outer}
use Rattle.quadtreap.specs.Cells.{total}

-- What a walk asks: whether a box misses, whether it is held, and whether the inner set has the place of a code.
pub record Tests : Type 0 where
  pub misses : Box → Bool
  pub held : Box → Bool
  pub has : ℕ → Bool

-- The tests of the shape with the inner and the outer set of places.
abbrev pub asked : Places → Places → Tests
asked inner outer =
    record {
      misses = λ B. misses (in_box B) inner;
      held = λ B. held (in_box B) outer;
      has = λ c. inner (motor_of c) (root_of c);
    }

-- Two tests answer alike on every box as it is written and on every code of 32 bits.
pub record Agree (p q : Tests) : Type 0 where
  pub misses : (B : Box) → Formed B → p.misses B ≡ q.misses B
  pub held : (B : Box) → Formed B → p.held B ≡ q.held B
  pub has : (c : ℕ) → c < 2 ^ 32 → p.has c ≡ q.has c

-- The join is associative and commutative, and the neutral tally changes nothing.
pub record Joins {K : Type 0} (join : K → K → K) (e : K) : Type 0 where
  pub assoc : (a b c : K) → join (join a b) c ≡ join a (join b c)
  pub comm : (a b : K) → join a b ≡ join b a
  pub neutral : (a : K) → join e a ≡ a

-- The tally of a node: the tallies of the readings under it, joined, where e is the neutral tally.
abbrev pub tally_of : {K : Type 0} → (K → K → K) → K → Tree K → K
tally_of join e t = total join e (λ r. r.tally) t

-- The tally of a map, neutral where it has no reading.
abbrev pub map_tally : {K : Type 0} → (K → K → K) → K → Option (Tree K) → K
map_tally join e none = e
map_tally join e (some t) = tally_of join e t

-- An answer is a tally and the number of nodes that were expanded.
pub record Answer (K : Type 0) : Type 0 where
  pub tally : K
  pub expanded : ℕ

-- The answer of a tally and a number.
abbrev pub answer : {K : Type 0} → K → ℕ → Answer K
answer t n = record { tally = t; expanded = n }

-- What a node with the outer box C answers: neutral if the box misses, else the node's own tally if it is held, else what is found below.
abbrev pub met : {K : Type 0} → K → Tests → Box → K → Answer K → Answer K
met e q C own below = cond (q.misses C) (answer e 0) (cond (q.held C) (answer own 0) below)

-- What is found at a leaf: its reading's tally, if it has a reading and the inner set has its place, and else neutral.
abbrev pub taken : {K : Type 0} → K → Tests → Content K → K
taken e q (reading r) = cond (q.has r.code) r.tally e
taken e q (box I) = e

-- The answer of a node that is expanded: the tallies of its two children joined, and one more node expanded.
abbrev pub both : {K : Type 0} → (K → K → K) → Answer K → Answer K → Answer K
both join x y = answer (join x.tally y.tally) (suc (x.expanded + y.expanded))

-- The walk from a node.
abbrev pub walk : {K : Type 0} → (K → K → K) → K → Tests → Tree K → Answer K
walk join e q (leaf C c) = met e q C (tally_of join e (leaf C c)) (answer (taken e q c) 0)
walk join e q (shrink C i a b) = met e q C (tally_of join e (shrink C i a b)) (both join (walk join e q a) (walk join e q b))
walk join e q (split E i a b) = met e q E (tally_of join e (split E i a b)) (both join (walk join e q a) (walk join e q b))

-- The walk of a map, neutral and 0 where it has no reading.
abbrev pub map_walk : {K : Type 0} → (K → K → K) → K → Tests → Option (Tree K) → Answer K
map_walk join e q none = answer e 0
map_walk join e q (some t) = walk join e q t

-- Every place of the one set is in the other.
abbrev pub Subset : Places → Places → Type 0
Subset s t = (m r : ℕ) → m < 2 ^ 16 → r < 2 ^ 16 → s m r ≡ true → t m r ≡ true

-- Whether the place of the reading is in the set.
abbrev pub is_in : {K : Type 0} → Places → Reading K → Bool
is_in s r = s (motor_of r.code) (root_of r.code)

-- Every reading.
abbrev pub every : {K : Type 0} → Reading K → Bool
every r = true

-- The join over those of the listed readings that pass the test, each once.
abbrev pub joined : {K : Type 0} → (K → K → K) → K → (Reading K → Bool) → List (Reading K) → K
joined join e s [] = e
joined join e s (r ∷ rs) = cond (s r) (join r.tally (joined join e s rs)) (joined join e s rs)

-- The set s has each of the listed readings that is in the inner set, and none that is outside the outer set.
abbrev pub Selects : {K : Type 0} → Places → Places → Places → List (Reading K) → Type 0
Selects inner outer s rs = AllByRecursion (λ r. (is_in inner r ≡ true → is_in s r ≡ true) × (is_in s r ≡ true → is_in outer r ≡ true)) rs

-- An answer so far, and then the walks of the trees that wait.
abbrev pub visit : {K : Type 0} → (K → K → K) → K → Tests → Answer K → List (Tree K) → Answer K
visit join e q x [] = x
visit join e q x (t ∷ ts) =
    let w : Answer _ = walk join e q t in
    visit join e q (answer (join x.tally w.tally) (x.expanded + w.expanded)) ts

-- Each step of a walk with trees that wait: the first tree is passed over, or its tally is joined, or it is expanded into its two children.
pub record Visits {K : Type 0} (join : K → K → K) (e : K) (q : Tests) : Type 0 where
  pub start : (t : Tree K) → visit join e q (answer e 0) (t ∷ []) ≡ walk join e q t
  pub misses : (x : Answer K) (t : Tree K) (ts : List (Tree K)) → q.misses (outer t) ≡ true → visit join e q x (t ∷ ts) ≡ visit join e q x ts
  pub held : (x : Answer K) (t : Tree K) (ts : List (Tree K)) → q.misses (outer t) ≡ false → q.held (outer t) ≡ true
      → visit join e q x (t ∷ ts) ≡ visit join e q (answer (join x.tally (tally_of join e t)) x.expanded) ts
  pub leaves : (x : Answer K) (C : Box) (c : Content K) (ts : List (Tree K)) → q.misses C ≡ false → q.held C ≡ false
      → visit join e q x (leaf C c ∷ ts) ≡ visit join e q (answer (join x.tally (taken e q c)) x.expanded) ts
  pub shrinks : (x : Answer K) (C : Box) (i : Option Box) (a b : Tree K) (ts : List (Tree K)) → q.misses C ≡ false → q.held C ≡ false
      → visit join e q x (shrink C i a b ∷ ts) ≡ visit join e q (answer x.tally (suc x.expanded)) (a ∷ b ∷ ts)
  pub splits : (x : Answer K) (E : Box) (i : Option Box) (a b : Tree K) (ts : List (Tree K)) → q.misses E ≡ false → q.held E ≡ false
      → visit join e q x (split E i a b ∷ ts) ≡ visit join e q (answer x.tally (suc x.expanded)) (a ∷ b ∷ ts)
