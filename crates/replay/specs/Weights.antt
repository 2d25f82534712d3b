-- The tally of a journal: the sum of the weights beside the span of the times.
--   Weighed           the kind of tally
--   joined, neutral   its join and its neutral value
--   weighed           the tally of one weight at one time
use Rattle.std.specs.Prelude.{ℕ}
use Rattle.tally.specs.declared.sum.Sum.{Sum}
use Rattle.tally.specs.declared.span.Span.{Span}
use Rattle.tally.specs.declared.span.Span.TheVariants.{Empty, Times}
use Rattle.tally.specs.declared.pair.Pair.{Pair}
use Rattle.tally.specs.Sums.{zero_sum, sum_of, sum_joined}
use Rattle.tally.specs.Spans.{span_joined}
use Rattle.tally.specs.Pairs.{pair_neutral, pair_joined}

-- A sum beside a span.
abbrev pub Weighed : Type 0
Weighed = Pair Sum Span

-- Both parts are joined as sums and as spans are.
abbrev pub joined : Weighed → Weighed → Weighed
joined = pair_joined sum_joined span_joined

-- The sum of nothing beside the empty span.
abbrev pub neutral : Weighed
neutral = pair_neutral zero_sum Empty

-- The sum of the weight, and the span of the one time.
abbrev pub weighed : ℕ → ℕ → Weighed
weighed weight time = record { first = sum_of weight; second = Times time time }
