-- What an iterator that gives known items gives next.
use Rattle.std.proofs.Common.{◌≡◌, List, [], ◌∷◌, Some, None, Option, sym, refl, ap}
use Rattle.std.specs.Iterator.{AlwaysYields}

module _ {S A B : Type 0} (steps : S → Option A → S → Type 0) (v : A → B) (s t : S) where
  -- What comes next is the first of the items that are left.
  pub next_of : (x : A) (left : List B) → AlwaysYields steps v s left → steps s (Some x) t → (ys : List B) × (left ≡ v x ∷ ys) × AlwaysYields steps v t ys
  next_of x [] comes step = absurd (comes x t step)
  next_of x (y ∷ ys) comes step = let first = comes.1 x t step in (ys, ap (λ z. z ∷ ys) (sym first.0), first.1)

  -- Where nothing comes, no item is left.
  pub none_of : (left : List B) → AlwaysYields steps v s left → steps s None t → left ≡ []
  none_of [] comes step = refl
  none_of (y ∷ ys) comes step = absurd (comes.0 t step)
