-- The times that a span covers, and how spans are joined.
--   times_in, earliest, latest   the first and the last time of a span
--   combined, lesser, greater    of two times that may be absent
--   span_joined                  two spans joined
use Rattle.std.specs.Prelude.{ℕ, min, max, Some, None, Option, option_map}
use Rattle.tally.specs.declared.span.Span.{Span}
use Rattle.tally.specs.declared.span.Span.TheVariants.{Empty, Times}

-- The first and the last time of a span, or none where it is empty: the lesser and the greater of its two, whichever way round they stand.
abbrev pub times_in : Span → Option (ℕ × ℕ)
times_in Empty = None
times_in (Times a b) = Some (min a b, max a b)

-- The first time of a span.
abbrev pub earliest : Span → Option ℕ
earliest s = option_map (λ times. times.0) (times_in s)

-- The last time of a span.
abbrev pub latest : Span → Option ℕ
latest s = option_map (λ times. times.1) (times_in s)

-- Two times made into one by f, or the one that is there.
abbrev pub combined : (ℕ → ℕ → ℕ) → Option ℕ → Option ℕ → Option ℕ
combined f None y = y
combined f (Some a) None = Some a
combined f (Some a) (Some b) = Some (f a b)

-- The lesser of two times, or the one that is there.
abbrev pub lesser : Option ℕ → Option ℕ → Option ℕ
lesser = combined min

-- The greater of two times, or the one that is there.
abbrev pub greater : Option ℕ → Option ℕ → Option ℕ
greater = combined max

-- Two spans are joined into the least and the greatest of their times, and an empty one leaves the other as it stands.
abbrev pub span_joined : Span → Span → Span
span_joined Empty y = y
span_joined (Times a b) Empty = Times a b
span_joined (Times a b) (Times c d) = Times (min (min a b) (min c d)) (max (max a b) (max c d))
