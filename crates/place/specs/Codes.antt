-- Codes of places. A place is a motor count and a root count, each below 2 ^ 16.
--   interleave, code_of   the code of a place
--   odd_bits, even_bits   every second bit of a code
--   motor_of, root_of     the place of a code
--   Interleaved           which bit of a code is which bit of the place
use Rattle.std.specs.Prelude.{◌≡◌, ℕ, zero, suc, ◌+◌, ◌*◌, ◌/◌, ◌%◌, ◌^◌, ◌<◌}

-- The lowest n bits of m and r, interleaved: the bits of m at the odd places and those of r at the even ones.
unfoldable pub interleave : ℕ → ℕ → ℕ → ℕ
interleave zero m r = 0
interleave (suc n) m r = interleave n (m / 2) (r / 2) * 4 + (m % 2 * 2 + r % 2)

-- The code of the place with the motor count m and the root count r.
unfoldable pub code_of : ℕ → ℕ → ℕ
code_of m r = interleave 16 m r

-- The number whose n bits are the bits of c at the odd places.
unfoldable pub odd_bits : ℕ → ℕ → ℕ
odd_bits zero c = 0
odd_bits (suc n) c = odd_bits n (c / 4) * 2 + c / 2 % 2

-- The number whose n bits are the bits of c at the even places.
unfoldable pub even_bits : ℕ → ℕ → ℕ
even_bits zero c = 0
even_bits (suc n) c = even_bits n (c / 4) * 2 + c % 2

-- The motor count of the place with the code c.
unfoldable pub motor_of : ℕ → ℕ
motor_of c = odd_bits 16 c

-- The root count of the place with the code c.
unfoldable pub root_of : ℕ → ℕ
root_of c = even_bits 16 c

-- Bit i of the motor count m is bit 2 i + 1 of the code c, and bit i of the root count r is bit 2 i.
abbrev pub Interleaved : ℕ → ℕ → ℕ → Type 0
Interleaved m r c = (i : ℕ) → i < 16 → (c / 2 ^ (2 * i + 1) % 2 ≡ m / 2 ^ i % 2) × (c / 2 ^ (2 * i) % 2 ≡ r / 2 ^ i % 2)
