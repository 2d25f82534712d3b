-- The two numbers of a half.
use Rattle.std.proofs.Common.{◌≡◌, ℕ, suc, ◌+◌, ◌-◌, ◌*◌, ◌/◌, ◌^◌, min, ap, ◌∙◌, arith}
use Rattle.place.specs.Boxes.{Box, prefix, cut, point, half}

-- a depth above 32 leaves as many bits as 32 does
shifts : (d : ℕ) → 32 - min d 32 ≡ 32 - d
shifts d = omega arith

-- and so the code of its cut is the same
codes_are : (d c : ℕ) → (cut (min d 32) c).code ≡ (cut d c).code
unfolding prefix
codes_are d c = ap (λ (k : ℕ). c / 2 ^ k * 2 ^ k) (shifts d)

-- the box of a half's two numbers
pub half_is : (E B : Box) (d c k : ℕ) → d ≡ E.depth + 1 → B ≡ cut (min d 32) c → k ≡ B.code
    → ◌≡◌ {A = Box} (record { depth = d; code = k }) (half E (point c))
half_is E B d c k deep made is =
    let s : d ≡ suc E.depth = omega (arith, deep) in
    let n : k ≡ (cut d c).code = is ∙ ap (λ (X : Box). X.code) made ∙ codes_are d c in
    ap (λ (x : ℕ). record { depth = d; code = x }) n ∙ ap (λ (x : ℕ). cut x c) s
