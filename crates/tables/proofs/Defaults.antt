-- Reads that agree at one default agree at every one.
use Rattle.std.proofs.Common.{◌≡◌, ℕ, List, length, get_or, sym, ◌∙◌, inl, inr, arith}
use Rattle.std.proofs.lemmas.List.{get_or_default, get_or_past}
use Rattle.std.proofs.lemmas.Bool.{cases_lt}

pub any_default : {X : Type 0} (xs ys : List X) (j : ℕ) (e d : X) → length xs ≡ length ys → get_or xs j e ≡ get_or ys j e → get_or xs j d ≡ get_or ys j d
any_default xs ys j e d long same =
    elim (cases_lt j (length xs)) [
      | inl l ↦ get_or_default xs j d e l ∙ same ∙ get_or_default ys j e d (omega arith)
      | inr l ↦ get_or_past xs j d l ∙ sym (get_or_past ys j d (omega arith))
    ]
