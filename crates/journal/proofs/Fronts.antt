-- The first bytes of a list, and the number that they spell.
use Rattle.std.proofs.Common.{◌≡◌, ℕ, zero, suc, ◌<◌, List, [], ◌∷◌, ◌++◌, get_or, take, drop, take-append-drop, arith}

-- What is taken of bytes are bytes.
pub bytes_taken : (k : ℕ) (bs : List ℕ) → ((i : ℕ) → get_or bs i 0 < 256) → (i : ℕ) → get_or (take k bs) i 0 < 256
bytes_taken zero bs h i = omega arith
bytes_taken (suc k) [] h i = omega arith
bytes_taken (suc k) (b ∷ bs) h zero = h 0
bytes_taken (suc k) (b ∷ bs) h (suc i) = bytes_taken k bs (λ j. h (suc j)) i

-- Bytes begin with what their first bytes are.
pub begins : {first left : List ℕ} (k : ℕ) (bs front : List ℕ) → first ≡ take k bs → left ≡ drop k bs → front ≡ first → bs ≡ front ++ left
begins k bs front taken left is = let parts = take-append-drop k bs in cc
