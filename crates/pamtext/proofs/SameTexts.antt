-- A text says one record only.
use Rattle.std.proofs.Common.{◌≡◌, ℕ, suc, ◌^◌, ◌<◌, cond, eqb, List, [], ◌∷◌, ◌++◌, length, get_or, Some, None, decimal, sym, refl, ap, ◌∙◌, append_assoc, append-nil, arith, length-append, rules}
use Rattle.std.specs.List.{flat_map}
use Rattle.std.proofs.lemmas.Fmt.{decimal_injective}
use Rattle.journal.specs.Layout.{letter, Fits}
use Rattle.journal.specs.declared.entry.Entry.{Entry}
use Rattle.journal.specs.declared.entry.Entry.TheVariants.{Enter, Again, Strike, Disc, Band, Height}
use Rattle.pamtext.specs.Fields.{separated}
use Rattle.pamtext.specs.Texts.{numbers, after_blank, text_of, Says, OneReading}
use Rattle.pamtext.proofs.NumberLaws.{only_digits}

-- The record of a letter and of numbers. Where there is none, the answer does not matter.
rebuilt : ℕ → List ℕ → Entry
rebuilt c ns =
    cond (eqb c 65) (Enter (get_or ns 0 0) (get_or ns 1 0) (get_or ns 2 0) (get_or ns 3 0) (get_or ns 4 0) (get_or ns 5 0))
    (cond (eqb c 71) (Again (get_or ns 0 0) (get_or ns 1 0) (get_or ns 2 0) (get_or ns 3 0))
    (cond (eqb c 83) (Strike (get_or ns 0 0) (get_or ns 1 0))
    (cond (eqb c 68) (Disc (get_or ns 0 0) (get_or ns 1 0) (get_or ns 2 0) (get_or ns 3 0))
    (cond (eqb c 66) (Band (get_or ns 0 0) (get_or ns 1 0) (get_or ns 2 0) (get_or ns 3 0) (get_or ns 4 0)) Height))))

-- Letter and numbers say which record it is.
rebuilds : (e : Entry) → rebuilt (letter e) (numbers e) ≡ e
unfolding rebuilt
rebuilds (Enter motor motor_time root root_time priority weight) = refl
rebuilds (Again motor root time weight) = refl
rebuilds (Strike motor root) = refl
rebuilds (Disc motor root inner outer) = refl
rebuilds (Band lowest_motor highest_motor lowest_root highest_root margin) = refl
rebuilds Height = refl

-- Numbers of which each has at most 64 bits.
abbrev Small : List ℕ → Type 0
Small [] = Unit {0}
Small (n ∷ ns) = (n < 2 ^ 64) × Small ns

-- The numbers of a record that fits have fewer bits.
small : (e : Entry) → Fits e → Small (numbers e)
small (Enter motor motor_time root root_time priority weight) h = search rules
small (Again motor root time weight) h = search rules
small (Strike motor root) h = search rules
small (Disc motor root inner outer) h = search rules
small (Band lowest_motor highest_motor lowest_root highest_root margin) h = search rules
small Height h = tt

-- A text is cut at its first byte c in one way only.
cut_same : (c : ℕ) (xs us ys vs : List ℕ) → ((i : ℕ) → i < length xs → get_or xs i 0 ≡ c → ⊥) → ((i : ℕ) → i < length us → get_or us i 0 ≡ c → ⊥)
    → xs ++ (c ∷ ys) ≡ us ++ (c ∷ vs) → (xs ≡ us) × (ys ≡ vs)
cut_same c [] [] ys vs p q e = (refl, cc)
cut_same c [] (u ∷ us) ys vs p q e = absurd (q 0 (omega arith) (cc))
cut_same c (x ∷ xs) [] ys vs p q e = absurd (p 0 (omega arith) (cc))
cut_same c (x ∷ xs) (u ∷ us) ys vs p q e =
    let rest : xs ++ (c ∷ ys) ≡ us ++ (c ∷ vs) = cc in
    let same = cut_same c xs us ys vs (λ i h. p (suc i) (omega arith)) (λ i h. q (suc i) (omega arith)) rest in
    let front = same.0 in
    (cc, same.1)

-- Each number followed by a comma.
abbrev ended : List ℕ → List ℕ
ended ns = flat_map (λ n. decimal n ++ (44 ∷ [])) ns

-- With a comma at the end, each number is followed by one.
ends : (n : ℕ) (ns : List ℕ) → separated (n ∷ ns) ++ (44 ∷ []) ≡ ended (n ∷ ns)
ends n [] = simp append-nil
ends n (m ∷ ns) =
    append_assoc (decimal n) (44 ∷ separated (m ∷ ns)) (44 ∷ [])
    ∙ ap (λ x. decimal n ++ (44 ∷ x)) (ends m ns)
    ∙ sym (append_assoc (decimal n) (44 ∷ []) (ended (m ∷ ns)))

-- Numbers are said by their text.
same_ended : (ns ms : List ℕ) → Small ns → Small ms → ended ns ≡ ended ms → ns ≡ ms
same_ended [] [] p q e = refl
same_ended [] (m ∷ ms) p q e = absurd (omega (arith, simp length-append at (ap length e)))
same_ended (n ∷ ns) [] p q e = absurd (omega (arith, simp length-append at (ap length e)))
same_ended (n ∷ ns) (m ∷ ms) p q e =
    let cut =
    cut_same 44 (decimal n) (decimal m) (ended ns) (ended ms) (only_digits n 44 p.0 (omega arith)) (only_digits m 44 q.0 (omega arith))
    (sym (append_assoc (decimal n) (44 ∷ []) (ended ns)) ∙ e ∙ append_assoc (decimal m) (44 ∷ []) (ended ms)) in
    let first = decimal_injective n m p.0 q.0 cut.0 in
    let others = same_ended ns ms p.1 q.1 cut.1 in
    cc

-- What follows the letter says the numbers.
same_numbers : (ns ms : List ℕ) → Small ns → Small ms → after_blank ns ≡ after_blank ms → ns ≡ ms
same_numbers [] [] p q e = refl
same_numbers [] (m ∷ ms) p q e = absurd (omega (arith, ap length e))
same_numbers (n ∷ ns) [] p q e = absurd (omega (arith, ap length e))
same_numbers (n ∷ ns) (m ∷ ms) p q e =
    let texts : separated (n ∷ ns) ≡ separated (m ∷ ms) = cc in
    same_ended (n ∷ ns) (m ∷ ms) p q (sym (ends n ns) ∙ ap (λ x. x ++ (44 ∷ [])) texts ∙ ends m ms)

-- Two records of which a text is the text are one.
pub same_record : (bs : List ℕ) (e f : Entry) → Says bs e → Says bs f → e ≡ f
same_record bs e f p q =
    let texts : text_of e ≡ text_of f = sym p.text ∙ q.text in
    let letters : letter e ≡ letter f = cc in
    let all = same_numbers (numbers e) (numbers f) (small e p.fits) (small f q.fits) (let after : after_blank (numbers e) ≡ after_blank (numbers f) = cc in after) in
    let first = rebuilds e in
    let second = rebuilds f in
    cc

pub one_reading : OneReading
one_reading bs None None p q = refl
one_reading bs None (Some f) p q = absurd (p f q)
one_reading bs (Some e) None p q = absurd (q e p)
one_reading bs (Some e) (Some f) p q = ap (λ x. Some x) (same_record bs e f p q)
