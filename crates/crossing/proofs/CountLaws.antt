-- Sums and counts over the numbers below a bound.
use Rattle.std.proofs.Common.{◌≡◌, ℕ, zero, suc, ◌+◌, ◌*◌, ◌/◌, ◌%◌, ◌<◌, ◌≤◌, Bool, true, false, not, ◌&&◌, ◌||◌, eqb, ◌⊎◌, sym, refl, ap, ◌∙◌, ap₂, inl, inr, arith}
use lib.Arith.{digits_lt, digits_div, digits_mod}
use Rattle.std.proofs.lemmas.Bool.{cases_eq, cases_Bool, eq-eqb, ne_eqb, and_parts, or_cases, or_left, or_right, true≢false, not-true}
use Rattle.crossing.specs.Counting.{sum_below, count_below, any_below, one_if}

pub sum_le : (n : ℕ) (f g : ℕ → ℕ) → ((i : ℕ) → i < n → f i ≤ g i) → sum_below n f ≤ sum_below n g
unfolding sum_below
sum_le zero f g h = omega arith
sum_le (suc n) f g h =
    let i = sum_le n f g (λ i l. h i (let q : i < suc n = omega arith in q)) in
    let j : f n ≤ g n = h n (let q : n < suc n = omega arith in q) in
    omega arith

pub any_some : (n : ℕ) (p : ℕ → Bool) → any_below n p ≡ true → (i : ℕ) × (i < n) × (p i ≡ true)
unfolding any_below
any_some zero p h = absurd (true≢false (sym h))
any_some (suc n) p h = go (any_some n p) (or_cases (any_below n p) (p n) h)
  where
    go : (any_below n p ≡ true → (i : ℕ) × (i < n) × (p i ≡ true)) → (any_below n p ≡ true) ⊎ (p n ≡ true)
        → (i : ℕ) × (i < suc n) × (p i ≡ true)
    go f (inl e) = let r = f e in (r.0, (let l = r.1 in omega arith), r.2)
    go f (inr e) = (n, omega arith, e)

pub some_any : (n : ℕ) (p : ℕ → Bool) (i : ℕ) → i < n → p i ≡ true → any_below n p ≡ true
unfolding any_below
some_any zero p i l e = absurd (let q : ⊥ = omega arith in q)
some_any (suc n) p i l e = go (some_any n p i) (cases_eq i n)
  where
    go : (i < n → p i ≡ true → any_below n p ≡ true) → (i ≡ n) ⊎ (i ≡ n → ⊥) → (any_below n p || p n) ≡ true
    go f (inl d) = or_right (any_below n p) (p n) (ap p (sym d) ∙ e)
    go f (inr d) = or_left (any_below n p) (p n) (f (let q : i < n = omega arith in q) e)

-- yes counts once
pub one_or_none : (b : Bool) → one_if b ≤ 1
one_or_none true = omega arith
one_or_none false = omega arith

-- the test p, but for the number v
without : ℕ → (ℕ → Bool) → ℕ → Bool
without v p t = p t && not (eqb t v)

without_other : (v t : ℕ) (p : ℕ → Bool) → (t ≡ v → ⊥) → without v p t ≡ p t
unfolding without
without_other v t p d = ap (λ (b : Bool). p t && not b) (ne_eqb t v d) ∙ and_true (p t)
  where
    and_true : (b : Bool) → (b && true) ≡ b
    and_true true = refl
    and_true false = refl

-- one number fewer counts at most one less
remove_past : (n v : ℕ) (p : ℕ → Bool) → n ≤ v → count_below n p ≤ count_below n (without v p)
unfolding count_below sum_below
remove_past zero v p h = omega arith
remove_past (suc n) v p h =
    let i = remove_past n v p (let q : n ≤ v = omega arith in q) in
    let d : n ≡ v → ⊥ = λ e. (let q : ⊥ = omega arith in q) in
    let e : one_if (without v p n) ≡ one_if (p n) = ap one_if (without_other v n p d) in
    omega arith

remove_one : (n v : ℕ) (p : ℕ → Bool) → count_below n p ≤ count_below n (without v p) + 1
unfolding count_below sum_below
remove_one zero v p = omega arith
remove_one (suc n) v p = go (remove_one n v p) (cases_eq n v)
  where
    go : count_below n p ≤ count_below n (without v p) + 1 → (n ≡ v) ⊎ (n ≡ v → ⊥) → count_below (suc n) p ≤ count_below (suc n) (without v p) + 1
    go f (inl e) =
        let i = remove_past n v p (let q : n ≤ v = omega arith in q) in
        let j = one_or_none (p n) in
        omega arith
    go f (inr d) =
        let e : one_if (without v p n) ≡ one_if (p n) = ap one_if (without_other v n p d) in
        omega arith

pub count_none : (n : ℕ) (p : ℕ → Bool) → ((t : ℕ) → t < n → p t ≡ true → ⊥) → count_below n p ≡ 0
unfolding count_below sum_below
count_none zero p h = refl
count_none (suc n) p h =
    let i = count_none n p (λ t l. h t (let q : t < suc n = omega arith in q)) in
    let j : one_if (p n) ≡ 0 = go (cases_Bool (p n)) in
    omega arith
  where
    go : (p n ≡ true) ⊎ (p n ≡ false) → one_if (p n) ≡ 0
    go (inl e) = absurd (h n (omega arith) e)
    go (inr e) = ap one_if e

-- where each number that passes is one of g 0 .. g (k - 1), at most k pass
pub covered : (k n : ℕ) (p : ℕ → Bool) (g : ℕ → ℕ) → ((t : ℕ) → t < n → p t ≡ true → (i : ℕ) × (i < k) × (t ≡ g i)) → count_below n p ≤ k
unfolding without
covered zero n p g h =
    let e = count_none n p (λ t l e. let r = h t l e in let q = r.1 in let z : ⊥ = omega arith in z) in
    omega arith
covered (suc k) n p g h =
    let i = covered k n (without (g k) p) g step in
    let j = remove_one n (g k) p in
    omega arith
  where
    step : (t : ℕ) → t < n → without (g k) p t ≡ true → (i : ℕ) × (i < k) × (t ≡ g i)
    step t l e = go (h t l w.0)
      where
        w : (p t ≡ true) × (not (eqb t (g k)) ≡ true)
        w = and_parts (p t) (not (eqb t (g k))) e

        apart_from : t ≡ g k → ⊥
        apart_from d = true≢false (sym (eq-eqb t (g k) d) ∙ not-true (eqb t (g k)) w.1)

        go : (i : ℕ) × (i < suc k) × (t ≡ g i) → (i : ℕ) × (i < k) × (t ≡ g i)
        go r = pick (cases_eq r.0 k)
          where
            pick : (r.0 ≡ k) ⊎ (r.0 ≡ k → ⊥) → (i : ℕ) × (i < k) × (t ≡ g i)
            pick (inl d) = absurd (apart_from (r.2 ∙ ap g d))
            pick (inr d) = (r.0, (let q = r.1 in omega arith), r.2)

-- where each number that passes is one of f i l with i < a and l < b, at most a * b pass
pub covered_pairs : (a b n : ℕ) (p : ℕ → Bool) (f : ℕ → ℕ → ℕ)
    → ((t : ℕ) → t < n → p t ≡ true → (i : ℕ) × ((l : ℕ) × (i < a) × (l < b) × (t ≡ f i l)))
    → count_below n p ≤ a * b
covered_pairs a b n p f h = covered (a * b) n p (λ x. f (x / b) (x % b)) step
  where
    step : (t : ℕ) → t < n → p t ≡ true → (x : ℕ) × (x < a * b) × (t ≡ f (x / b) (x % b))
    step t l e =
        let r = h t l e in
        let i = r.0 in
        let j = r.1.0 in (
          i * b + j,
          digits_lt r.1.1 r.1.2,
          r.1.3 ∙ sym (ap₂ f (digits_div i r.1.2) (digits_mod i r.1.2)),
        )

-- a sum of n numbers that are at most b
pub sum_under : (n b : ℕ) (f : ℕ → ℕ) → ((i : ℕ) → f i ≤ b) → sum_below n f ≤ n * b
unfolding sum_below
sum_under zero b f h = omega arith
sum_under (suc n) b f h = let i = sum_under n b f h in let j : f n ≤ b = h n in omega arith
