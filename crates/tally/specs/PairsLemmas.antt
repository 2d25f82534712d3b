-- Pairs obey the laws that both of their parts obey.
use Rattle.std.specs.Prelude.{◌≡◌}
use Rattle.tally.specs.declared.pair.Pair.{Pair}
use Rattle.tally.specs.Pairs.{pair_neutral, pair_joined}

module _ {A B : Type 0} (e : A) (f : A → A → A) (d : B) (g : B → B → B) where
  -- Pairs may be joined in either order.
  pub pair_commutative : ((x y : A) → f x y ≡ f y x) → ((x y : B) → g x y ≡ g y x) → (x y : Pair A B) → pair_joined f g x y ≡ pair_joined f g y x
  pair_commutative p q x y = rw (p x.first y.first, q x.second y.second)

  -- Pairs may be joined in any grouping.
  pub pair_associative : ((x y z : A) → f (f x y) z ≡ f x (f y z)) → ((x y z : B) → g (g x y) z ≡ g x (g y z)) → (x y z : Pair A B) → pair_joined f g (pair_joined f g x y) z ≡ pair_joined f g x (pair_joined f g y z)
  pair_associative p q x y z = rw (p x.first y.first z.first, q x.second y.second z.second)

  -- The neutral pair changes no pair.
  pub pair_neutral_left : ((x : A) → f e x ≡ x) → ((x : B) → g d x ≡ x) → (x : Pair A B) → pair_joined f g (pair_neutral e d) x ≡ x
  pair_neutral_left p q x = rw (p x.first, q x.second)
