-- The way of a code down the table.
use Rattle.std.proofs.Common.{◌≡◌, ℕ, zero, suc, Bool, true, false, cond, List, sym, refl, ap, ◌∙◌, subst}
use Rattle.records.specs.declared.record.Record.{Record}
use Rattle.place.specs.Boxes.{holds}
use Rattle.records.specs.Kinds.{is_leaf}
use Rattle.records.specs.Writes.{at, box_of, descended}

-- the code k leads from the node at i to its first child
abbrev pub to_first : List Record → ℕ → ℕ → Bool
to_first t i k = holds (box_of (at t (at t i).first).outer) k

pub stops : (n : ℕ) (t : List Record) (i k : ℕ) → is_leaf (at t i).kind ≡ true → descended n t i k ≡ i
stops zero t i k low = refl
stops (suc n) t i k low =
    ap (λ b. cond b i (cond (to_first t i k) (descended n t (at t i).first k) (descended n t (at t i).second k))) low

turns : (n : ℕ) (t : List Record) (i k : ℕ) → is_leaf (at t i).kind ≡ false → descended (suc n) t i k ≡ cond (to_first t i k) (descended n t (at t i).first k) (descended n t (at t i).second k)
turns n t i k high =
    ap (λ b. cond b i (cond (to_first t i k) (descended n t (at t i).first k) (descended n t (at t i).second k))) high

pub goes_first : (n : ℕ) (t : List Record) (i k : ℕ) → is_leaf (at t i).kind ≡ false → to_first t i k ≡ true → descended (suc n) t i k ≡ descended n t (at t i).first k
goes_first n t i k high e = turns n t i k high ∙ ap (λ b. cond b (descended n t (at t i).first k) (descended n t (at t i).second k)) e

pub goes_second : (n : ℕ) (t : List Record) (i k : ℕ) → is_leaf (at t i).kind ≡ false → to_first t i k ≡ false → descended (suc n) t i k ≡ descended n t (at t i).second k
goes_second n t i k high e = turns n t i k high ∙ ap (λ b. cond b (descended n t (at t i).first k) (descended n t (at t i).second k)) e

-- one run of the loop: r and s are what it reads
module _ (t : List Record) (i k : ℕ) (r s : Record) (b : Bool) (is : r ≡ at t i) (high : is_leaf r.kind ≡ false) (is' : s ≡ at t r.first) (tells : b ≡ holds (box_of s.outer) k) where
  tested : to_first t i k ≡ b
  tested = ap (λ (v : Record). holds (box_of (at t v.first).outer) k) (sym is) ∙ ap (λ (v : Record). holds (box_of v.outer) k) (sym is') ∙ sym tells

  high' : is_leaf (at t i).kind ≡ false
  high' = subst (λ (v : Record). is_leaf v.kind ≡ false) is high

  pub turns_first : (m n j : ℕ) → m ≡ suc n → b ≡ true → j ≡ r.first → descended n t j k ≡ descended m t i k
  turns_first m n j more e to =
      ap (λ (u : ℕ). descended n t u k) (to ∙ ap (λ (v : Record). v.first) is) ∙ sym (ap (λ (u : ℕ). descended u t i k) more ∙ goes_first n t i k high' (tested ∙ e))

  pub turns_second : (m n j : ℕ) → m ≡ suc n → b ≡ false → j ≡ r.second → descended n t j k ≡ descended m t i k
  turns_second m n j more e to =
      ap (λ (u : ℕ). descended n t u k) (to ∙ ap (λ (v : Record). v.second) is) ∙ sym (ap (λ (u : ℕ). descended u t i k) more ∙ goes_second n t i k high' (tested ∙ e))
