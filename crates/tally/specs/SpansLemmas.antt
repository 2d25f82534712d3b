-- Spans obey the laws of a kind.
use Rattle.std.specs.Prelude.{◌≡◌, ℕ, ◌≤◌, min, max, refl}
use Rattle.std.proofs.Common.{ap, sym, ◌∙◌, arith}
use Rattle.tally.specs.declared.span.Span.{Span}
use Rattle.tally.specs.declared.span.Span.TheVariants.{Empty, Times}
use Rattle.tally.specs.Spans.{span_joined}

-- The lesser of two numbers is not above the greater.
ordered : (a b : ℕ) → min a b ≤ max a b
ordered a b = omega arith

-- The first time of two joined spans is the lesser of their first times.
low : (a b c d : ℕ) → a ≤ b → c ≤ d → min (min a c) (max b d) ≡ min a c
low a b c d p q = omega arith

-- The last time of two joined spans is the greater of their last times.
high : (a b c d : ℕ) → a ≤ b → c ≤ d → max (min a c) (max b d) ≡ max b d
high a b c d p q = omega arith

-- The least of three numbers does not depend on the grouping.
least_of_three : (a b c : ℕ) → min (min a b) c ≡ min a (min b c)
least_of_three a b c = omega arith

-- The greatest of three numbers does not depend on the grouping.
greatest_of_three : (a b c : ℕ) → max (max a b) c ≡ max a (max b c)
greatest_of_three a b c = omega arith

-- The first time of three joined spans does not depend on the grouping.
least : (a b c d e f : ℕ) → a ≤ b → c ≤ d → e ≤ f → min (min (min a c) (max b d)) e ≡ min a (min (min c e) (max d f))
least a b c d e f p q r = ap (λ n. min n e) (low a b c d p q) ∙ least_of_three a c e ∙ ap (min a) (sym (low c d e f q r))

-- The last time of three joined spans does not depend on the grouping.
greatest : (a b c d e f : ℕ) → a ≤ b → c ≤ d → e ≤ f → max (max (min a c) (max b d)) f ≡ max b (max (min c e) (max d f))
greatest a b c d e f p q r = ap (λ n. max n f) (high a b c d p q) ∙ greatest_of_three b d f ∙ ap (max b) (sym (high c d e f q r))

-- Three joined spans are the same in either grouping, as they stand.
pub join_associative : (x y z : Span) → span_joined (span_joined x y) z ≡ span_joined x (span_joined y z)
join_associative Empty y z = refl
join_associative (Times a b) Empty z = refl
join_associative (Times a b) (Times c d) Empty = refl
join_associative (Times a b) (Times c d) (Times e f) =
    ap
    (λ n. Times n (max (max (min (min a b) (min c d)) (max (max a b) (max c d))) (max e f)))
    (least (min a b) (max a b) (min c d) (max c d) (min e f) (max e f) (ordered a b) (ordered c d) (ordered e f))
    ∙ ap
    (Times (min (min a b) (min (min (min c d) (min e f)) (max (max c d) (max e f)))))
    (greatest (min a b) (max a b) (min c d) (max c d) (min e f) (max e f) (ordered a b) (ordered c d) (ordered e f))

-- Two joined spans are the same in either order.
pub join_commutative : (x y : Span) → span_joined x y ≡ span_joined y x
join_commutative Empty Empty = refl
join_commutative Empty (Times c d) = refl
join_commutative (Times a b) Empty = refl
join_commutative (Times a b) (Times c d) =
    let first : min (min a b) (min c d) ≡ min (min c d) (min a b) = omega arith in
    let last : max (max a b) (max c d) ≡ max (max c d) (max a b) = omega arith in
    cc

-- The empty span changes no span.
pub empty_joined : (x : Span) → span_joined Empty x ≡ x
empty_joined x = refl
