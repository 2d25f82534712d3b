-- The height of a map.
use Rattle.std.proofs.Common.{◌≡◌, ℕ, sym, ap, ◌∙◌}
use Rattle.std.specs.Prelude.{None, Some}
use Rattle.quadtreap.specs.Tree.{map_height}
use Rattle.records.specs.Heights.{Heights as NodeHeights}
use Rattle.tables.specs.Heights.{Heights}
use Rattle.tables.specs.Stands.{State, map_tree}
use Rattle.tables.proofs.Finds.{none_of, held, held_tree, held_lain, held_top, held_few}

module _ {K : Type 0} (join : K → K → K) (e : K) (s : State K) where
  pub height_empty : s.root ≡ None → Heights join e s 0
  height_empty is cs st =
      ap map_height (sym (ap map_tree (none_of 0 st.placed (sym st.top ∙ is))) ∙ st.tree)

  pub height_held : (root r : ℕ) → s.root ≡ Some root → NodeHeights K s.records root s.places r → Heights join e s r
  height_held root r far told cs st =
      told (held 0 join e s _ st root far) (held_lain 0 join e s _ st root far).kept (held_top 0 join e s _ st root far) (held_few 0 join e s _ st root far)
      ∙ ap map_height (sym (held_tree 0 join e s _ st root far))
