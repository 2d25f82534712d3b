-- The smallest box by the leading zeros of an exclusive or, and the halves of a box.
use Rattle.std.proofs.Common.{◌≡◌, ℕ, suc, ◌+◌, ◌-◌, ◌*◌, ◌/◌, ◌^◌, ◌<◌, ◌≤◌, min, true, eqb, ◌⊎◌, sym, refl, ap, ◌∙◌, subst, inl, inr, arith}
use mathlib.Core.Path.{subst₃}
use native.Mathlib.Nat.{div-eq_of_lt, pow-succ'}
use lib.Bits.{bit_xor, xor_self, xor_assoc, xor_zero_l, xor_zero_r, xor_lt, xor_shr}
use lib.Count.{count_leading_zeros, leading_top}
use Rattle.std.proofs.lemmas.Nat.{pow_pos, le-div, shl-shr}
use Rattle.std.proofs.lemmas.Bool.{cases_eq, cases_lt, eq-eqb, ne_eqb}
use Rattle.place.specs.Boxes.{prefix, Box, cut, point, holds, agree, smallest, Deepest, half, lower, upper}
use Rattle.place.proofs.BoxLaws.{Parting, Separate, parts, parting_only, prefix_mono, prefix_cut, prefix_step, cut_eq, Lies, halves, holds_true, agree_le, agree_same, agree_most, smallest_left, smallest_right, smallest_least, prefix_root}

pub xor_eq : (a b : ℕ) → bit_xor a b ≡ 0 → a ≡ b
xor_eq a b e = sym (xor_zero_r a) ∙ ap (bit_xor a) (sym e) ∙ sym (xor_assoc a a b) ∙ ap (λ n. bit_xor n b) (xor_self a) ∙ xor_zero_l b

pub parting_xor : (c d : ℕ) → c < 2 ^ 32 → d < 2 ^ 32 → (c ≡ d → ⊥) → Parting (count_leading_zeros 32 (bit_xor c d)) c d
unfolding prefix
parting_xor c d h k n =
    let x : ℕ = bit_xor c d in
    let pos : 0 < x = elim (cases_eq x 0) [ inl e ↦ absurd (n (xor_eq c d e)) | inr m ↦ omega arith ] in
    let top = leading_top 32 x pos (xor_lt 32 c d h k) in
    let j : ℕ = top.0 in
    let lz : ℕ = count_leading_zeros 32 x in
    let sum : lz + suc j ≡ 32 = top.1 in
    let one : 32 - lz ≡ suc j = omega arith in
    let two : 32 - suc lz ≡ j = omega arith in
    let shr : (i : ℕ) → x / 2 ^ i ≡ bit_xor (c / 2 ^ i) (d / 2 ^ i) = xor_shr c d in
    record {
      same = subst (λ (i : ℕ). c / 2 ^ i ≡ d / 2 ^ i) (sym one) (xor_eq (c / 2 ^ suc j) (d / 2 ^ suc j) (sym (shr (suc j)) ∙ div-eq_of_lt top.3));
      differ = λ e.
          let e' : c / 2 ^ j ≡ d / 2 ^ j = subst (λ (i : ℕ). c / 2 ^ i ≡ d / 2 ^ i) two e in
          let z : x / 2 ^ j ≡ 0 = shr j ∙ ap (λ m. bit_xor m (d / 2 ^ j)) e' ∙ xor_self (d / 2 ^ j) in
          let low = top.2 in
          let up : 1 ≤ x / 2 ^ j = le-div 1 x (2 ^ j) (pow_pos j) (omega arith) in
          omega arith;
      low = omega arith;
    }

pub smallest_xor : (A B : Box) → A.code < 2 ^ 32 → B.code < 2 ^ 32 → Separate A B → smallest A B ≡ cut (count_leading_zeros 32 (bit_xor A.code B.code)) A.code
smallest_xor A B h k s =
    let differ : A.code ≡ B.code → ⊥ = λ e. s.apart (ap (prefix (min A.depth B.depth)) e) in
    ap (λ (n : ℕ). cut n A.code)
    (parting_only (smallest A B).depth (count_leading_zeros 32 (bit_xor A.code B.code)) A.code B.code (parts A B s) (parting_xor A.code B.code h k differ))

-- the test of a box, by the same
pub holds_xor : (B : Box) (c : ℕ) → holds B c ≡ eqb (bit_xor c B.code / 2 ^ (32 - B.depth)) 0
unfolding holds prefix
holds_xor B c =
    let i : ℕ = 32 - B.depth in
    elim (cases_eq (c / 2 ^ i) (B.code / 2 ^ i)) [
      | inl e ↦ eq-eqb _ _ e ∙ sym (eq-eqb _ _ (xor_shr c B.code i ∙ ap (λ m. bit_xor m (B.code / 2 ^ i)) e ∙ xor_self (B.code / 2 ^ i)))
      | inr n ↦ ne_eqb _ _ n ∙ sym (ne_eqb _ _ (λ z. n (xor_eq (c / 2 ^ i) (B.code / 2 ^ i) (sym (xor_shr c B.code i) ∙ z))))
    ]

abbrev boxed : ℕ → ℕ → Box
boxed d v = record { depth = d; code = v }

-- A box of depth k below 32, and its halves.
module _ (k c : ℕ) (h : k < 32) where
  abbrev B : Box
  B = cut k c

  abbrev u : ℕ
  u = prefix k c

  abbrev w : ℕ
  w = 2 ^ (32 - suc k)

  twice : 2 ^ (32 - k) ≡ 2 * w
  twice = let e : 32 - k ≡ suc (32 - suc k) = omega arith in ap (λ (n : ℕ). 2 ^ n) e ∙ pow-succ' 2 (32 - suc k)

  even : B.code ≡ (2 * u) * w
  even = ap (λ (n : ℕ). u * n) twice ∙ (let m : (a b : ℕ) → a * (2 * b) ≡ (2 * a) * b = λ a b. omega arith in m u w)

  odd : (upper B).code ≡ (2 * u + 1) * w
  odd = ap (λ (n : ℕ). n + w) even ∙ (let m : (a b : ℕ) → (2 * a) * b + b ≡ (2 * a + 1) * b = λ a b. omega arith in m u w)

  low_bits : prefix (suc k) B.code ≡ 2 * u
  unfolding prefix
  low_bits = ap (λ (n : ℕ). n / w) even ∙ shl-shr (2 * u) (32 - suc k)

  high_bits : prefix (suc k) (upper B).code ≡ 2 * u + 1
  unfolding prefix
  high_bits = ap (λ (n : ℕ). n / w) odd ∙ shl-shr (2 * u + 1) (32 - suc k)

  pub halves_part : Parting k B.code (upper B).code
  halves_part =
      record {
        same = prefix_step k B.code h ∙ ap (λ (n : ℕ). n / 2) low_bits ∙ (let m : (n : ℕ) → 2 * n / 2 ≡ (2 * n + 1) / 2 = λ n. omega arith in m u)
            ∙ sym (ap (λ (n : ℕ). n / 2) high_bits) ∙ sym (prefix_step k (upper B).code h);
        differ = λ e. omega (arith, low_bits, high_bits, e);
        low = h;
      }

  pub lower_cut : cut (suc k) B.code ≡ lower B
  lower_cut = ap (boxed (suc k)) (ap (λ (n : ℕ). n * w) low_bits ∙ sym even)

  pub upper_cut : cut (suc k) (upper B).code ≡ upper B
  upper_cut = ap (boxed (suc k)) (ap (λ (n : ℕ). n * w) high_bits ∙ sym odd)

  -- a code of a box lies in one of its two halves
  pub in_halves : (x : ℕ) → Lies (holds B x) (holds (lower B) x) (holds (upper B) x)
  in_halves x =
      subst₃ (λ (E H G : Box). Lies (holds E x) (holds H x) (holds G x)) (cut_eq k B.code c (prefix_cut k k c (omega arith))) lower_cut upper_cut
      (halves k B.code (upper B).code halves_part x)

  -- the half that contains x
  pub half_low : (x : ℕ) → holds (lower B) x ≡ true → half B (point x) ≡ lower B
  half_low x e = cut_eq (suc k) x B.code (holds_true (lower B) x e) ∙ lower_cut

  pub half_high : (x : ℕ) → holds (upper B) x ≡ true → half B (point x) ≡ upper B
  half_high x e = cut_eq (suc k) x (upper B).code (holds_true (upper B) x e) ∙ upper_cut

no_bits : count_leading_zeros 32 0 ≡ 32
unfolding count_leading_zeros
no_bits = refl

-- how many bits agree, by the leading zeros: m is the smaller of n and their number
pub agree_xor : (n c d : ℕ) → n ≤ 32 → c < 2 ^ 32 → d < 2 ^ 32 → (m : ℕ) → m ≤ n → m ≤ count_leading_zeros 32 (bit_xor c d) → (m ≡ n) ⊎ (m ≡ count_leading_zeros 32 (bit_xor c d)) → agree n c d ≡ m
agree_xor n c d small hc hd m low low' is =
    let top = agree_le n c d in
    elim (cases_eq c d) [
      | inl e ↦
          let all : n ≤ agree n c d = agree_most n c d n (omega arith) (ap (prefix n) e) in
          let z : bit_xor c d ≡ 0 = ap (bit_xor c) (sym e) ∙ xor_self c in
          let lz : count_leading_zeros 32 (bit_xor c d) ≡ 32 = ap (count_leading_zeros 32) z ∙ no_bits in
          elim is [ inl a ↦ omega arith | inr a ↦ omega arith ]
      | inr ne ↦
          let p = parting_xor c d hc hd ne in
          let lz : ℕ = count_leading_zeros 32 (bit_xor c d) in
          let root : prefix 0 c ≡ prefix 0 d = prefix_mono 0 lz c d (omega arith) p.same in
          elim is [
            | inl a ↦
                let all : n ≤ agree n c d = agree_most n c d n (omega arith) (prefix_mono n lz c d (omega arith) p.same) in
                omega arith
            | inr a ↦
                let least : lz ≤ agree n c d = agree_most n c d lz (omega arith) p.same in
                let most : agree n c d ≤ lz =
                elim (cases_lt lz (agree n c d)) [ inl more ↦ absurd (p.differ (prefix_mono (suc lz) (agree n c d) c d more (agree_same n c d root))) | inr less ↦ less ] in
                omega arith
          ]
    ]

-- the smallest box of a box and a code, by the leading zeros
pub smallest_shared : (A : Box) (c : ℕ) → A.depth ≤ 32 → A.code < 2 ^ 32 → c < 2 ^ 32
    → smallest A (point c) ≡ cut (min A.depth (count_leading_zeros 32 (bit_xor A.code c))) A.code
smallest_shared A c deep ha hc =
    let lz : ℕ = count_leading_zeros 32 (bit_xor A.code c) in
    let is : (min A.depth lz ≡ min A.depth 32) ⊎ (min A.depth lz ≡ lz) =
    elim (cases_lt A.depth lz) [ inl l ↦ inl (omega arith) | inr l ↦ inr (omega arith) ] in
    ap (λ (k : ℕ). cut k A.code) (agree_xor (min A.depth 32) A.code c (omega arith) ha hc (min A.depth lz) (omega arith) (omega arith) is)

-- the smallest box of two is the deepest that contains both
pub smallest_deepest : (A B : Box) → A.code < 2 ^ 32 → B.code < 2 ^ 32 → Deepest A B (smallest A B)
smallest_deepest A B ha hb =
    record {
      first = smallest_left A B;
      second = smallest_right A B (prefix_root A.code ha ∙ sym (prefix_root B.code hb));
      deepest = smallest_least A B;
    }
