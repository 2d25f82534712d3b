-- Links between records.
--   Link   the place of a node, or none
use Rattle.std.specs.Prelude.{ℕ, Option}

-- The place of a node, or none.
abbrev pub Link : Type 0
Link = Option ℕ
