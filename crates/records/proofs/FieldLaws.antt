-- Records of which a field is written where they lie.
use Rattle.std.proofs.Common.{◌≡◌, ℕ, List, length, set, ap, ◌∙◌, subst, inl, inr, get_or-set_other, get_or-set_same, sym}
use lib.Seq.{set_out, set-set}
use Rattle.std.proofs.lemmas.Bool.{cases_eq, cases_lt}
use Rattle.quadtreap.specs.declared.rank.Rank.{Rank}
use Rattle.records.specs.declared.record.Record.{Record}
use Rattle.records.specs.PlacedNodes.{blank}
use Rattle.records.specs.Writes.{at, with_rank, with_first, with_second}

-- a record has the rank that it was given last, whether or not it was given the same before
pub rank_again : (t : List Record) (s f : ℕ) (q : Rank) → with_rank (at (set t s (with_rank (at t s) q)) f) q ≡ with_rank (at t f) q
rank_again t s f q =
    elim (cases_eq f s) [
      | inr far ↦ ap (λ r. with_rank r q) (get_or-set_other t s f _ blank far)
      | inl same ↦
          elim (cases_lt s (length t)) [
            | inl within ↦ subst (λ i. with_rank (at (set t s (with_rank (at t s) q)) i) q ≡ with_rank (at t i) q) (sym same) (ap (λ r. with_rank r q) (get_or-set_same t s _ blank within))
            | inr past ↦ ap (λ (u : List Record). with_rank (at u f) q) (set_out t s _ past)
          ]
    ]

-- a record that was written whole, and then given two children, is one that was written with them
pub children_again : (t : List Record) (f x y : ℕ) (v : Record) → set (set t f v) f (with_second (with_first (at (set t f v) f) x) y) ≡ set t f (with_first (with_second v y) x)
children_again t f x y v =
    set-set t f v _
    ∙ elim (cases_lt f (length t)) [
      | inl within ↦ ap (λ r. set t f (with_second (with_first r x) y)) (get_or-set_same t f v blank within)
      | inr past ↦ set_out t f _ past ∙ sym (set_out t f _ past)
    ]
