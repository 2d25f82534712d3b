-- Fields are read one after another.
use Rattle.std.proofs.Common.{◌≡◌, ℕ, suc, ◌+◌, ◌^◌, ◌<◌, ◌≤◌, eqb, false, ◌==◌, List, [], ◌∷◌, ◌++◌, length, get_or, take, drop, set, map, Some, None, decimal, Option, sym, refl, ap, ◌∙◌, append_assoc, append-nil, arith, Bor}
use Rattle.std.specs.Iterator.{AlwaysYields}
use Rattle.std.specs.List.{All, slice_split, join_with_byte}
use Rattle.std.proofs.lemmas.Bool.{ne_eqb}
use Rattle.std.proofs.lemmas.List.{take_more_set, take_all, drop_more, drop_all}
use Rattle.std.proofs.lemmas.List.Elements.{All-nil, All-cons}
use Rattle.std.proofs.lemmas.List.Splits.{slice_split_none, slice_split_at, join_with_byte-slice_split}
use Rattle.pamtext.specs.Fields.{separated, Within, Spells}
use Rattle.pamtext.proofs.NumberLaws.{only_digits}
use Rattle.pamtext.proofs.Yielding.{next_of, none_of}

-- Decimals, joined by commas, are numbers separated.
joined : (ns : List ℕ) → join_with_byte 44 (map decimal ns) ≡ separated ns
joined [] = refl
joined (n ∷ []) = sym (append-nil (decimal n))
joined (n ∷ m ∷ ns) = ap (λ x. decimal n ++ (44 ∷ x)) (joined (m ∷ ns))

-- No byte is a comma.
lacks : (bs : List ℕ) → ((i : ℕ) → i < length bs → get_or bs i 0 ≡ 44 → ⊥) → All (λ b. eqb b 44 ≡ false) bs
lacks [] h = All-nil (λ b. eqb b 44 ≡ false)
lacks (b ∷ bs) h = All-cons (λ x. eqb x 44 ≡ false) b bs (ne_eqb b 44 (h 0 (omega arith))) (lacks bs (λ i l. h (suc i) (omega arith)))

-- Numbers that are separated are cut at the commas into their decimals.
parted : (m : ℕ) (ms : List ℕ) (n : ℕ) (ns : List ℕ) → ((i : ℕ) → get_or (m ∷ ms) i 0 < 2 ^ 64) → Within (m ∷ ms) (n ∷ ns)
    → slice_split (λ b. b == 44) (separated (n ∷ ns)) ≡ map decimal (n ∷ ns)
parted m ms n [] small within =
    ap (slice_split (λ b. b == 44)) (append-nil (decimal n))
    ∙ slice_split_none (λ b. b == 44) (decimal n) (lacks (decimal n) (only_digits n 44 (omega (arith, within.0, small 0)) (omega arith)))
parted m [] n (k ∷ ns) small within = absurd within.1
parted m (m' ∷ ms) n (k ∷ ns) small within =
    slice_split_at (λ b. b == 44) (decimal n) 44 (separated (k ∷ ns)) (lacks (decimal n) (only_digits n 44 (omega (arith, within.0, small 0)) (omega arith))) refl
    ∙ ap (λ x. decimal n ∷ x) (parted m' ms k ns (λ i. small (suc i)) within.1)

-- The words are the decimals of numbers within their largest.
record Fields (largest : List ℕ) (words : List (List ℕ)) (ns : List ℕ) : Type 0 where
  within : Within largest ns
  spelled : words ≡ map decimal ns

-- The first word is the first number, and the others are the others.
one : {m : ℕ} {ms : List ℕ} {w : List ℕ} {ws : List (List ℕ)} (ns : List ℕ) → Fields (m ∷ ms) (w ∷ ws) ns
    → ((n : ℕ) × (n ≤ m) × (w ≡ decimal n)) × ((ks : List ℕ) × Fields ms ws ks)
one [] f = absurd f.within
one (n ∷ ns) f = let e = f.spelled in ((n, f.within.0, cc), (ns, record { within = f.within.1; spelled = cc }))

-- There is a word for each largest number.
wordless : {m : ℕ} {ms : List ℕ} (ns : List ℕ) → Fields (m ∷ ms) [] ns → ⊥
wordless [] f = f.within
wordless (n ∷ ns) f = let e = f.spelled in cc

-- There is no other word.
beyond : {w : List ℕ} {ws : List (List ℕ)} (ns : List ℕ) → Fields [] (w ∷ ws) ns → ⊥
beyond [] f = let e = f.spelled in cc
beyond (n ∷ ns) f = f.within

-- Where numbers are asked for, a text that spells them is cut into their decimals.
words_of : (largest ns : List ℕ) → 0 < length largest → ((i : ℕ) → get_or largest i 0 < 2 ^ 64) → Within largest ns
    → slice_split (λ b. b == 44) (separated ns) ≡ map decimal ns
words_of [] ns some small within = absurd (omega arith)
words_of (m ∷ ms) [] some small within = absurd within
words_of (m ∷ ms) (n ∷ ns) some small within = parted m ms n ns small within

-- After i fields: whatever fields the words that come are, all fields are those that were read and these, and the whole text spells fields only if those words are some.
pub record Read {S : Type 0} (steps : S → Option (Bor (List ℕ)) → S → Type 0) (s : S) (largest text : List ℕ) (i : ℕ) (numbers : List ℕ) : Type 0 where
  left : List (List ℕ)
  comes : AlwaysYields steps (λ x. x.now) s left
  onward : (ns : List ℕ) → Fields (drop i largest) left ns → Spells largest text (take i numbers ++ ns)
  back : (ns : List ℕ) → Spells largest text ns → (ms : List ℕ) × Fields (drop i largest) left ms

-- At first all fields are to come.
pub read_none : {S : Type 0} {steps : S → Option (Bor (List ℕ)) → S → Type 0} {s : S} {largest text : List ℕ} (numbers : List ℕ)
    → 0 < length largest → ((i : ℕ) → get_or largest i 0 < 2 ^ 64) → AlwaysYields steps (λ x. x.now) s (slice_split (λ b. b == 44) text)
    → Read steps s largest text 0 numbers
read_none {largest = largest} {text = text} numbers some small comes = record {
  left = slice_split (λ b. b == 44) text;
  comes = comes;
  onward = λ ns f. record { within = f.within; text = sym (join_with_byte-slice_split 44 text) ∙ ap (join_with_byte 44) f.spelled ∙ joined ns };
  back = λ ns s. (ns, record { within = s.within; spelled = ap (slice_split (λ b. b == 44)) s.text ∙ words_of largest ns some small s.within });
}

module _ {S : Type 0} {steps : S → Option (Bor (List ℕ)) → S → Type 0} {s : S} {largest text : List ℕ} {i : ℕ} {numbers : List ℕ}
    (read : Read steps s largest text i numbers) (t : S) where
  here : i < length largest → drop i largest ≡ get_or largest i 0 ∷ drop (i + 1) largest
  here inside = drop_more largest i 0 inside

  -- No word comes where one is asked for.
  pub no_word : i < length largest → steps s None t → (ns : List ℕ) → Spells largest text ns → ⊥
  no_word inside step ns spells =
      let none = none_of steps (λ x. x.now) s t read.left read.comes step in
      let left = read.back ns spells in
      wordless left.0 (rw (here inside, none) at left.1)

  -- No word comes where none is asked for.
  pub reads_all : length largest ≤ i → length numbers ≤ i → steps s None t → Spells largest text numbers
  reads_all all filled step =
      let none = none_of steps (λ x. x.now) s t read.left read.comes step in
      let whole = read.onward [] (rw (drop_all i largest all, none) (record { within = tt; spelled = refl })) in
      rw (append-nil, take_all i numbers filled) at whole

  module _ (word : Bor (List ℕ)) (step : steps s (Some word) t) where
    first : (ys : List (List ℕ)) × (read.left ≡ word.now ∷ ys) × AlwaysYields steps (λ x. x.now) t ys
    first = next_of steps (λ x. x.now) s t word read.left read.comes step

    -- A word comes where none is asked for.
    pub too_many : length largest ≤ i → (ns : List ℕ) → Spells largest text ns → ⊥
    too_many all ns spells = let left = read.back ns spells in beyond left.0 (rw (drop_all i largest all, first.1) at left.1)

    module _ (inside : i < length largest) where
      -- The word that comes is no number that fits.
      pub no_number : ((n : ℕ) → n ≤ get_or largest i 0 → word.now ≡ decimal n → ⊥) → (ns : List ℕ) → Spells largest text ns → ⊥
      no_number none ns spells =
          let left = read.back ns spells in
          let number = (one left.0 (rw (here inside, first.1) at left.1)).0 in
          none number.0 number.1 number.2

      -- One field more was read.
      pub reads_more : (n : ℕ) → i < length numbers → n ≤ get_or largest i 0 → word.now ≡ decimal n → Read steps t largest text (i + 1) (set numbers i n)
      reads_more n room fits is = record {
        left = first.0;
        comes = first.2;
        onward = λ ns f.
            let field : Fields (get_or largest i 0 ∷ drop (i + 1) largest) (word.now ∷ first.0) (n ∷ ns) =
            record { within = (fits, f.within); spelled = let e = f.spelled in cc } in
            rw (take_more_set numbers i n room, append_assoc) (read.onward (n ∷ ns) (rw (here inside, first.1) field));
        back = λ ns spells. let left = read.back ns spells in (one left.0 (rw (here inside, first.1) at left.1)).1;
      }
