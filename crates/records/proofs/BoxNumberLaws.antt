-- The box of two stored numbers is the one with the bits below its depth cleared.
use Rattle.std.proofs.Common.{◌≡◌, ℕ, zero, suc, ◌/◌, ◌^◌, ◌≤◌, min, cond, eqb, refl, ap, ◌∙◌, arith}
use Rattle.place.specs.Boxes.{prefix, cut, point, holds, agree, smallest}
use Rattle.place.proofs.BoxLaws.{prefix_cut, cut_eq, holds_cut, agree_le}

-- A depth past 32 takes no more bits than 32 does.
prefix_past : (d c : ℕ) → prefix (min d 32) c ≡ prefix d c
unfolding prefix
prefix_past d c = ap (λ (n : ℕ). c / 2 ^ n) (omega arith)

pub holds_cleared : (d c x : ℕ) → holds (cut (min d 32) c) x ≡ holds (record { depth = d; code = c }) x
unfolding holds
holds_cleared d c x =
    holds_cut (min d 32) c x ∙ ap (λ n. eqb n (prefix (min d 32) c)) (prefix_past d x) ∙ ap (eqb (prefix d x)) (prefix_past d c)

agree_cleared : (n m c k : ℕ) → n ≤ m → agree n (cut m c).code k ≡ agree n c k
unfolding agree
agree_cleared zero m c k h = refl
agree_cleared (suc n) m c k h =
    ap (λ v. cond (eqb v (prefix (suc n) k)) (suc n) (agree n (cut m c).code k)) (prefix_cut (suc n) m c h)
    ∙ ap (λ v. cond (eqb (prefix (suc n) c) (prefix (suc n) k)) (suc n) v) (agree_cleared n m c k (omega arith))

pub smallest_cleared : (d c k : ℕ) → smallest (cut (min d 32) c) (point k) ≡ smallest (record { depth = d; code = c }) (point k)
smallest_cleared d c k =
    let n : ℕ = min d 32 in
    let twice : min n 32 ≡ n = omega arith in
    let few = agree_le n c k in
    ap (λ m. cut (agree m (cut n c).code k) (cut n c).code) twice
    ∙ ap (λ m. cut m (cut n c).code) (agree_cleared n n c k (omega arith))
    ∙ cut_eq (agree n c k) (cut n c).code c (prefix_cut (agree n c k) n c few)
