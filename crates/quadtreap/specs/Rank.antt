-- Rank, lists of readings in rank order, and the tree of a set of readings.
--   earlier, rank_of, before         which rank and which reading comes first
--   Ranked, Valid                    lists in rank order; lists of codes of 32 bits that all differ
--   put, in_rank_order               a reading put at its rank, and a list brought into rank order
--   tree_of_set                      the tree of a set of readings
--   other, without                   the readings with other codes
--   Among, Alike                     the members of a list, and lists with the same members
use Rattle.std.specs.Prelude.{◌≡◌, ℕ, ◌^◌, ◌<◌, Bool, true, cond, not, ◌&&◌, ◌||◌, ◌⊎◌, List, [], ◌∷◌, filter, ◌==◌, ◌≢◌, nat_lt}
use Rattle.std.proofs.Math.Option.{Option}
use Rattle.std.specs.List.{AllByRecursion}
use Rattle.quadtreap.specs.declared.rank.Rank.{Rank}
use Rattle.quadtreap.specs.Tree.{Reading, Tree, tree_of}

-- Whether one rank comes before another: the smaller priority first, and at equal priority the smaller code.
unfoldable pub earlier : Rank → Rank → Bool
earlier a b = nat_lt a.priority b.priority || (a.priority == b.priority && nat_lt a.code b.code)

-- The rank of a reading.
abbrev pub rank_of : {K : Type 0} → Reading K → Rank
rank_of r = record { priority = r.priority; code = r.code }

-- Whether p ranks before q.
unfoldable pub before : {K : Type 0} → Reading K → Reading K → Bool
before p q = earlier (rank_of p) (rank_of q)

-- The list is in rank order: each reading ranks before all that follow.
abbrev pub Ranked : {K : Type 0} → List (Reading K) → Type 0
Ranked [] = Unit {0}
Ranked (q ∷ qs) = AllByRecursion (λ r. before q r ≡ true) qs × Ranked qs

-- The codes have 32 bits, and no two are the same.
abbrev pub Valid : {K : Type 0} → List (Reading K) → Type 0
Valid [] = Unit {0}
Valid (q ∷ qs) = (q.code < 2 ^ 32) × AllByRecursion (λ r. q.code ≢ r.code) qs × Valid qs

-- The list in rank order with p put at its rank.
abbrev pub put : {K : Type 0} → Reading K → List (Reading K) → List (Reading K)
put p [] = p ∷ []
put p (q ∷ qs) = cond (before p q) (p ∷ q ∷ qs) (q ∷ put p qs)

-- The readings in rank order.
abbrev pub in_rank_order : {K : Type 0} → List (Reading K) → List (Reading K)
in_rank_order [] = []
in_rank_order (r ∷ rs) = put r (in_rank_order rs)

-- The tree of a set of readings, listed in any order: insertion in rank order.
abbrev pub tree_of_set : {K : Type 0} → List (Reading K) → Option (Tree K)
tree_of_set rs = tree_of (in_rank_order rs)

-- Whether the reading has another code than k.
abbrev pub other : {K : Type 0} → ℕ → Reading K → Bool
other k r = not (k == r.code)

-- The readings with other codes than k.
abbrev pub without : {K : Type 0} → ℕ → List (Reading K) → List (Reading K)
without k qs = filter (other k) qs

-- The reading r, with its code, its priority and its tally, is a member of the list.
abbrev pub Among : {K : Type 0} → Reading K → List (Reading K) → Type 0
Among r [] = ⊥
Among r (q ∷ qs) = (q ≡ r) ⊎ Among r qs

-- The two lists have the same members.
abbrev pub Alike : {K : Type 0} → List (Reading K) → List (Reading K) → Type 0
Alike {K} xs ys = (r : Reading K) → (Among r xs → Among r ys) × (Among r ys → Among r xs)
