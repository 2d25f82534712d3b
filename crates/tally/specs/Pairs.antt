-- How pairs of tallies are joined.
--   pair_neutral, pair_joined   the neutral pair, and two pairs joined
use Rattle.tally.specs.declared.pair.Pair.{Pair}

-- The neutral pair is made of the neutral values of its parts.
abbrev pub pair_neutral : {A B : Type 0} → A → B → Pair A B
pair_neutral x y = record { first = x; second = y }

-- Two pairs are joined part by part.
abbrev pub pair_joined : {A B : Type 0} → (A → A → A) → (B → B → B) → Pair A B → Pair A B → Pair A B
pair_joined f g x y = record { first = f x.first y.first; second = g x.second y.second }
