-- A word and the number that it is in decimal.
use Rattle.std.proofs.Common.{◌≡◌, ℕ, ◌^◌, ◌<◌, ◌≤◌, Bool, true, false, List, length, get_or, Some, None, Ok, Err, decimal, Option, Result, MatchOption, Decides, sym, refl, ap, ◌∙◌, inl, inr, arith}
use mathlib.Core.Bool.{false≢true}
use Rattle.std.specs.Bool.{then_some}
use Rattle.std.specs.Result.{result_ok}
use Rattle.std.specs.Str.Parse.{AllDigits, digits_value, ParsesUnsigned}
use Rattle.std.proofs.lemmas.Fmt.{decimal_digit, first_decimal, digits_decimal, decimal-digits_value}
use Rattle.std.proofs.lemmas.Bool.{cases_lt}
use Rattle.std.proofs.lemmas.Str.Parse.{IsNumeralModel, numerals_by_value, tells_digits, parse_plain, not_in_digits}
use Rattle.std.proofs.lemmas.Result.{OkIff-at_ok}
use Rattle.pamtext.specs.Numbers.{Number}

-- The words of the library for digits and their value.
pub own : IsNumeralModel (AllDigits 10) (digits_value 10)
own = numerals_by_value (AllDigits 10) tells_digits

-- A decimal has no byte that is not a digit.
pub only_digits : (n c : ℕ) → n < 2 ^ 64 → (c < 48) → (i : ℕ) → i < length (decimal n) → get_or (decimal n) i 0 ≡ c → ⊥
only_digits n c small low = not_in_digits own (decimal n) c (digits_decimal own n small) (λ h. let z : ⊥ = omega arith in z)

-- A decimal of more than one digit does not begin with a zero.
pub no_leading_zero : (n : ℕ) → n < 2 ^ 64 → 1 < length (decimal n) → get_or (decimal n) 0 0 ≡ 48 → ⊥
no_leading_zero n small long zero =
    elim (cases_lt n 10) [
      | inl one ↦ omega (arith, ap length (decimal_digit n one))
      | inr more ↦ omega (arith, first_decimal n (omega arith) small)
    ]

-- A word without sign and leading zeros from which a number was read is that number in decimal.
pub is_decimal : {E : Type 0} (word : List ℕ) (n : ℕ) (r : Result ℕ E) → ParsesUnsigned 32 10 word r → r ≡ Ok n
    → (get_or word 0 0 ≡ 43 → ⊥) → (1 < length word → get_or word 0 0 ≡ 48 → ⊥) → word ≡ decimal n
is_decimal word n r h ok plus zeros =
    let read = OkIff-at_ok r _ (digits_value 10 word) n (parse_plain own 32 word r h plus) ok in
    let one : get_or word 0 0 ≡ 48 → length word ≡ 1 = λ z. elim (cases_lt 1 (length word)) [ inl long ↦ absurd (zeros long z) | inr short ↦ omega (arith, read.0.1) ] in
    sym (decimal-digits_value own word read.0.0 read.0.1 one (omega (arith, read.0.2))) ∙ ap decimal (sym read.1)

-- What was read is there if it is kept as the number that is there.
pub read_of : {E : Type 0} (r : Result ℕ E) (n : ℕ) → Some n ≡ result_ok r → r ≡ Ok n
read_of (Ok m) n e = let same : m ≡ n = cc in ap Ok same
read_of (Err x) n e = cc

-- A number is kept just where it does not pass the largest.
kept_by : (largest : ℕ) (word : List ℕ) (n : ℕ) (r : Option ℕ) (b : Bool) → Decides b (n ≤ largest) → r ≡ then_some b n
    → ((m : ℕ) → m ≤ largest → word ≡ decimal m → Some n ≡ Some m) → word ≡ decimal n → Number largest word r
kept_by largest word n r true decides e reads spells = rw e (decides.0 refl, spells)
kept_by largest word n r false decides e reads spells =
    rw e (λ m h is. let same : m ≡ n = (let found = reads m h is in cc) in false≢true (decides.1 (rw same at h)))

-- The number that was read, if it is kept, is that of the word.
pub kept : {P : ℕ → Bool → Type 0} (largest : ℕ) (word : List ℕ) (o r : Option ℕ) → ((n : ℕ) (b : Bool) → P n b → Decides b (n ≤ largest))
    → MatchOption o (r ≡ None) (λ n. (b : Bool) × P n b × (r ≡ then_some b n))
    → ((n : ℕ) → n ≤ largest → word ≡ decimal n → o ≡ Some n) → ((n : ℕ) → Some n ≡ o → word ≡ decimal n) → Number largest word r
kept largest word None r decides filtered reads spells = rw filtered (λ n h e. let none = reads n h e in cc)
kept largest word (Some n) r decides filtered reads spells =
    kept_by largest word n r filtered.0 (decides n filtered.0 filtered.1) filtered.2 reads (spells n refl)
