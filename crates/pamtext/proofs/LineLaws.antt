-- White space around a line, and the byte that ends it.
use Rattle.std.proofs.Common.{◌≡◌, ℕ, zero, suc, ◌-◌, ◌<◌, ◌≤◌, true, false, List, [], ◌∷◌, ◌++◌, reverse, length, get_or, take, drop, sym, refl, ap, ◌∙◌, arith}
use mathlib.Core.List.{reverse-append, reverse-reverse}
use Rattle.std.specs.Char.{is_ascii_whitespace}
use Rattle.std.proofs.lemmas.List.{take-append-drop, length-reverse, length-drop, length-take, get_or-reverse, drop_at}
use Rattle.pamtext.specs.Lines.{after_white, trimmed}

-- Where the first m bytes are white space and the next is not, the text from m on is left.
white_before : (m : ℕ) (bs : List ℕ) → ((i : ℕ) → i < m → is_ascii_whitespace (get_or bs i 0) ≡ true)
    → (m < length bs → is_ascii_whitespace (get_or bs m 0) ≡ false) → after_white bs ≡ drop m bs
unfolding after_white
white_before zero [] white stops = refl
white_before zero (b ∷ bs) white stops = let stop : is_ascii_whitespace b ≡ false = stops (omega arith) in rw stop
white_before (suc m) [] white stops = refl
white_before (suc m) (b ∷ bs) white stops =
    let first : is_ascii_whitespace b ≡ true = white 0 (omega arith) in
    rw first (white_before m bs (λ i h. white (suc i) (omega arith)) (λ h. stops (omega arith)))

-- Where all bytes from n on are white space and the one before is not, the first n bytes are left.
module _ (n : ℕ) (bs : List ℕ) (inside : n ≤ length bs) (white : (i : ℕ) → n ≤ i → i < length bs → is_ascii_whitespace (get_or bs i 0) ≡ true)
    (stops : 0 < n → is_ascii_whitespace (get_or bs (n - 1) 0) ≡ false) where
  -- From the other end, the byte before is the first that is not white space.
  stops_behind : length bs - n < length (reverse bs) → is_ascii_whitespace (get_or (reverse bs) (length bs - n) 0) ≡ false
  stops_behind h =
      let some : 0 < n = omega (arith, length-reverse bs) in
      let place : length bs - 1 - (length bs - n) ≡ n - 1 = omega arith in
      rw (get_or-reverse bs (length bs - n) 0 (omega arith), place) (stops some)

  behind : after_white (reverse bs) ≡ drop (length bs - n) (reverse bs)
  behind =
      white_before (length bs - n) (reverse bs)
      (λ i h. rw (get_or-reverse bs i 0 (omega arith)) (white (length bs - 1 - i) (omega arith) (omega arith))) stops_behind

  halves : reverse bs ≡ reverse (drop n bs) ++ reverse (take n bs)
  halves = ap reverse (sym (take-append-drop n bs)) ∙ reverse-append (take n bs) (drop n bs)

  white_behind : reverse (after_white (reverse bs)) ≡ take n bs
  white_behind =
      ap reverse
      (behind ∙ ap (drop (length bs - n)) halves
      ∙ drop_at (reverse (drop n bs)) (reverse (take n bs)) (length bs - n) (length-reverse (drop n bs) ∙ length-drop n bs))
      ∙ reverse-reverse (take n bs)

-- What is left of a line between white space at both ends is the trimmed line.
pub trims : (m : ℕ) (bs t : List ℕ) → t ≡ take (length t) (drop m bs)
    → ((i : ℕ) → i < m → is_ascii_whitespace (get_or bs i 0) ≡ true)
    → (m < length bs → is_ascii_whitespace (get_or bs m 0) ≡ false)
    → ((i : ℕ) → length t ≤ i → i < length (drop m bs) → is_ascii_whitespace (get_or (drop m bs) i 0) ≡ true)
    → (0 < length t → is_ascii_whitespace (get_or (drop m bs) (length t - 1) 0) ≡ false)
    → t ≡ trimmed bs
trims m bs t is front stops end ends =
    let short : length t ≤ length (drop m bs) = omega (arith, ap length is ∙ length-take (length t) (drop m bs)) in
    is ∙ sym (ap (λ x. reverse (after_white (reverse x))) (white_before m bs front stops) ∙ white_behind (length t) (drop m bs) short end ends)
