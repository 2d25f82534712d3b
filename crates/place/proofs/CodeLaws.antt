-- What a code's most significant bits say of the place.
use Rattle.std.proofs.Common.{◌≡◌, ℕ, zero, suc, ◌+◌, ◌/◌, ◌%◌, ◌^◌, ◌<◌, sym, refl, ap, ◌∙◌, ap₂, arith, shr-shr}
use Rattle.place.specs.Codes.{interleave, odd_bits, even_bits}

-- half of a number of n + 1 bits has n
pub half_lt : (n m : ℕ) → m < 2 ^ suc n → m / 2 < 2 ^ n
half_lt n m h = omega arith

-- a shift by j + 2 is a shift by 2 and then by j
pub shift_two : (c j : ℕ) → c / 2 ^ suc (suc j) ≡ c / 4 / 2 ^ j
shift_two c j = sym (shr-shr c 2 j ∙ ap (λ (x : ℕ). c / 2 ^ x) (two_up j))
  where
    two_up : (j : ℕ) → 2 + j ≡ suc (suc j)
    two_up j = omega arith

pub shift_one : (c j : ℕ) → c / 2 ^ suc j ≡ c / 2 / 2 ^ j
shift_one c j = sym (shr-shr c 1 j ∙ ap (λ (x : ℕ). c / 2 ^ x) (one_up j))
  where
    one_up : (j : ℕ) → 1 + j ≡ suc j
    one_up j = omega arith

pub half_up : (j : ℕ) → suc (suc j) / 2 ≡ suc (j / 2)
half_up j = omega arith

-- a code of two more bits, shifted
pub shift_code : (n j m r : ℕ) → interleave (suc n) m r / 2 ^ suc (suc j) ≡ interleave n (m / 2) (r / 2) / 2 ^ j
unfolding interleave
shift_code n j m r =
    shift_two (interleave (suc n) m r) j
    ∙ ap (λ (x : ℕ). x / 2 ^ j) (let e : interleave (suc n) m r / 4 ≡ interleave n (m / 2) (r / 2) = omega arith in e)

pub shift_count : (m j : ℕ) → m / 2 ^ (suc (suc j) / 2) ≡ m / 2 / 2 ^ (j / 2)
shift_count m j = ap (λ (x : ℕ). m / 2 ^ x) (half_up j) ∙ shift_one m (j / 2)

-- two codes agree above their j low bits only where the counts agree above theirs
pub shared : (n j m r m' r' : ℕ) → m < 2 ^ n → r < 2 ^ n → m' < 2 ^ n → r' < 2 ^ n
    → interleave n m r / 2 ^ j ≡ interleave n m' r' / 2 ^ j
    → (m / 2 ^ (j / 2) ≡ m' / 2 ^ (j / 2)) × (r / 2 ^ (suc j / 2) ≡ r' / 2 ^ (suc j / 2))
unfolding interleave
shared zero j m r m' r' hm hr hm' hr' e =
    let em : m ≡ m' = omega arith in
    let er : r ≡ r' = omega arith in
    (ap (λ (x : ℕ). x / 2 ^ (j / 2)) em, ap (λ (x : ℕ). x / 2 ^ (suc j / 2)) er)
shared (suc n) zero m r m' r' hm hr hm' hr' e =
    let x : interleave n (m / 2) (r / 2) / 2 ^ 0 ≡ interleave n (m' / 2) (r' / 2) / 2 ^ 0 = omega arith in
    let i = shared n zero (m / 2) (r / 2) (m' / 2) (r' / 2) (half_lt n m hm) (half_lt n r hr) (half_lt n m' hm') (half_lt n r' hr') x in
    omega arith
shared (suc n) (suc zero) m r m' r' hm hr hm' hr' e =
    let x : interleave n (m / 2) (r / 2) / 2 ^ 0 ≡ interleave n (m' / 2) (r' / 2) / 2 ^ 0 = omega arith in
    let i = shared n zero (m / 2) (r / 2) (m' / 2) (r' / 2) (half_lt n m hm) (half_lt n r hr) (half_lt n m' hm') (half_lt n r' hr') x in
    omega arith
shared (suc n) (suc (suc j)) m r m' r' hm hr hm' hr' e =
    let i =
    shared n j (m / 2) (r / 2) (m' / 2) (r' / 2) (half_lt n m hm) (half_lt n r hr) (half_lt n m' hm') (half_lt n r' hr')
    (sym (shift_code n j m r) ∙ e ∙ shift_code n j m' r') in
    (shift_count m j ∙ i.0 ∙ sym (shift_count m' j), shift_count r (suc j) ∙ i.1 ∙ sym (shift_count r' (suc j)))

-- and wherever they do
pub shares : (n j m r m' r' : ℕ) → m < 2 ^ n → r < 2 ^ n → m' < 2 ^ n → r' < 2 ^ n
    → m / 2 ^ (j / 2) ≡ m' / 2 ^ (j / 2) → r / 2 ^ (suc j / 2) ≡ r' / 2 ^ (suc j / 2)
    → interleave n m r / 2 ^ j ≡ interleave n m' r' / 2 ^ j
unfolding interleave
shares zero j m r m' r' hm hr hm' hr' em er = refl
shares (suc n) zero m r m' r' hm hr hm' hr' em er =
    let e : m ≡ m' = omega arith in
    let d : r ≡ r' = omega arith in
    ap₂ (λ (x y : ℕ). interleave (suc n) x y / 1) e d
shares (suc n) (suc zero) m r m' r' hm hr hm' hr' em er =
    let e : m ≡ m' = omega arith in
    let d : r / 2 ≡ r' / 2 = omega arith in
    let x : interleave n (m / 2) (r / 2) ≡ interleave n (m' / 2) (r' / 2) = ap₂ (λ (x y : ℕ). interleave n (x / 2) y) e d in
    omega arith
shares (suc n) (suc (suc j)) m r m' r' hm hr hm' hr' em er =
    shift_code n j m r
    ∙ shares n j (m / 2) (r / 2) (m' / 2) (r' / 2) (half_lt n m hm) (half_lt n r hr) (half_lt n m' hm') (half_lt n r' hr')
    (sym (shift_count m j) ∙ em ∙ shift_count m' j)
    (sym (shift_count r (suc j)) ∙ er ∙ shift_count r' (suc j))
    ∙ sym (shift_code n j m' r')

-- a code of n bits each
pub interleave_lt : (n m r : ℕ) → interleave n m r < 4 ^ n
unfolding interleave
interleave_lt zero m r = omega arith
interleave_lt (suc n) m r = let i = interleave_lt n (m / 2) (r / 2) in omega arith

pub odd_lt : (n c : ℕ) → odd_bits n c < 2 ^ n
unfolding odd_bits
odd_lt zero c = omega arith
odd_lt (suc n) c = let i = odd_lt n (c / 4) in omega arith

pub even_lt : (n c : ℕ) → even_bits n c < 2 ^ n
unfolding even_bits
even_lt zero c = omega arith
even_lt (suc n) c = let i = even_lt n (c / 4) in omega arith

-- the code of the place that a code has
pub again : (n c : ℕ) → c < 4 ^ n → interleave n (odd_bits n c) (even_bits n c) ≡ c
unfolding interleave odd_bits even_bits
again zero c h = omega arith
again (suc n) c h =
    let i = again n (c / 4) (let q : c / 4 < 4 ^ n = omega arith in q) in
    let a : odd_bits (suc n) c / 2 ≡ odd_bits n (c / 4) = omega arith in
    let b : even_bits (suc n) c / 2 ≡ even_bits n (c / 4) = omega arith in
    let x : interleave n (odd_bits (suc n) c / 2) (even_bits (suc n) c / 2) ≡ interleave n (odd_bits n (c / 4)) (even_bits n (c / 4)) =
    ap₂ (λ (x y : ℕ). interleave n x y) a b in
    omega arith

-- the place of a code that a place has
pub odd_interleave : (n m r : ℕ) → m < 2 ^ n → odd_bits n (interleave n m r) ≡ m
unfolding interleave odd_bits
odd_interleave zero m r h = omega arith
odd_interleave (suc n) m r h =
    let i = odd_interleave n (m / 2) (r / 2) (half_lt n m h) in
    let a : interleave (suc n) m r / 4 ≡ interleave n (m / 2) (r / 2) = omega arith in
    let x : odd_bits n (interleave (suc n) m r / 4) ≡ odd_bits n (interleave n (m / 2) (r / 2)) = ap (λ (x : ℕ). odd_bits n x) a in
    omega arith

pub even_interleave : (n m r : ℕ) → r < 2 ^ n → even_bits n (interleave n m r) ≡ r
unfolding interleave even_bits
even_interleave zero m r h = omega arith
even_interleave (suc n) m r h =
    let i = even_interleave n (m / 2) (r / 2) (half_lt n r h) in
    let a : interleave (suc n) m r / 4 ≡ interleave n (m / 2) (r / 2) = omega arith in
    let x : even_bits n (interleave (suc n) m r / 4) ≡ even_bits n (interleave n (m / 2) (r / 2)) = ap (λ (x : ℕ). even_bits n x) a in
    omega arith

-- the bits of a code
pub odd_bit : (n i m r : ℕ) → i < n → interleave n m r / 2 ^ (i + i + 1) % 2 ≡ m / 2 ^ i % 2
unfolding interleave
odd_bit zero i m r h = omega arith
odd_bit (suc n) zero m r h = omega arith
odd_bit (suc n) (suc i) m r h =
    ap (λ (x : ℕ). interleave (suc n) m r / 2 ^ x % 2) (let e : suc i + suc i + 1 ≡ suc (suc (i + i + 1)) = omega arith in e)
    ∙ ap (λ (x : ℕ). x % 2) (shift_code n (i + i + 1) m r)
    ∙ odd_bit n i (m / 2) (r / 2) (let q : i < n = omega arith in q)
    ∙ ap (λ (x : ℕ). x % 2) (sym (shift_one m i))

pub even_bit : (n i m r : ℕ) → i < n → interleave n m r / 2 ^ (i + i) % 2 ≡ r / 2 ^ i % 2
unfolding interleave
even_bit zero i m r h = omega arith
even_bit (suc n) zero m r h = omega arith
even_bit (suc n) (suc i) m r h =
    ap (λ (x : ℕ). interleave (suc n) m r / 2 ^ x % 2) (let e : suc i + suc i ≡ suc (suc (i + i)) = omega arith in e)
    ∙ ap (λ (x : ℕ). x % 2) (shift_code n (i + i) m r)
    ∙ even_bit n i (m / 2) (r / 2) (let q : i < n = omega arith in q)
    ∙ ap (λ (x : ℕ). x % 2) (sym (shift_one r i))
