-- What the functions make of a table, for any contents of it.
--   at, Write, write, wrote                                                        one record read, and records written one after another
--   with_first, .., with_rank                                                      a record with one part changed
--   box_of, half_numbers, content_numbers                                          the boxes of a record
--   leaf_record, node_record                                                       new records
--   renamed, relinked                                                              a node names another child
--   promoted_left, promoted_outer                                                  a child pair rises
--   ranked, swapped, no_inner, ordered_in                                          the rank of a pair and the order of its children
--   made_by, earlier_in, Rise, risen, settled_outside, .., settled_in              one step of the rise
--   descended                                                                      the way of a code down
--   joined_in, planted, first_planted                                              a new reading
--   least_in, above_leaves_in, replaced_in, freed_in, raised_outer, child_toward   what a step of a strike asks and does
--   Sink, sinks, sunk_right, sunk_left, sunk_pair, sunk_in, followed, struck_in    the steps of a strike
use Rattle.std.specs.Prelude.{ℕ, zero, suc, min, Bool, true, false, cond, List, [], ◌∷◌, ◌==◌, slice_index_or, slice_set, Option, None, Some}
use Rattle.std.specs.Option.{is_none, unwrap_or}
use Rattle.records.specs.declared.record.BoxNumbers.{BoxNumbers}
use Rattle.records.specs.declared.record.Record.{Record}
use Rattle.records.specs.declared.kind.Kind.{Kind}
use Rattle.records.specs.declared.kind.Kind.TheVariants.{Reading as ReadingKind, Box as BoxKind, Shrink, Split}
use Rattle.records.specs.declared.places.FourPlaces.{FourPlaces}
use Rattle.records.specs.declared.places.Sinking.{Sinking}
use Rattle.records.specs.declared.places.Sinking.TheVariants.{On, Done, Lost}
use Rattle.place.specs.Boxes.{Box, cut, whole, point, holds, smallest}
use Rattle.quadtreap.specs.declared.rank.Rank.{Rank}
use Rattle.quadtreap.specs.Rank.{earlier}
use Rattle.quadtreap.specs.Pairs.{unranked}
use Rattle.records.specs.Links.{Link}
use Rattle.records.specs.Kinds.{is_leaf, is_reading, is_pair, is_split}
use Rattle.records.specs.PlacedNodes.{blank, numbers_of}

-- The record at a place, blank past the end.
abbrev pub at : List Record → ℕ → Record
at t i = slice_index_or t i blank

-- A record to be written, and its place.
pub record Write : Type 0 where
  pub place : ℕ
  pub value : Record

-- The record r is to be written at i.
abbrev pub write : ℕ → Record → Write
write i r = record { place = i; value = r }

-- The table after some writes, one after another.
abbrev pub wrote : List Write → List Record → List Record
wrote [] t = t
wrote (w ∷ ws) t = wrote ws (slice_set t w.place w.value)

-- The record with the first child a.
abbrev pub with_first : Record → ℕ → Record
with_first r a = record { kind = r.kind; outer = r.outer; inner = r.inner; first = a; second = r.second; parent = r.parent; rank = r.rank }

-- The record with the second child b.
abbrev pub with_second : Record → ℕ → Record
with_second r b = record { kind = r.kind; outer = r.outer; inner = r.inner; first = r.first; second = b; parent = r.parent; rank = r.rank }

-- The record with the parent p, or with none.
abbrev pub with_parent : Record → Link → Record
with_parent r p = record { kind = r.kind; outer = r.outer; inner = r.inner; first = r.first; second = r.second; parent = p; rank = r.rank }

-- The record with the outer box c.
abbrev pub with_outer : Record → BoxNumbers → Record
with_outer r c = record { kind = r.kind; outer = c; inner = r.inner; first = r.first; second = r.second; parent = r.parent; rank = r.rank }

-- The record with the inner box c, or with none.
abbrev pub with_inner : Record → Option BoxNumbers → Record
with_inner r c = record { kind = r.kind; outer = r.outer; inner = c; first = r.first; second = r.second; parent = r.parent; rank = r.rank }

-- The record with the rank q.
abbrev pub with_rank : Record → Rank → Record
with_rank r q = record { kind = r.kind; outer = r.outer; inner = r.inner; first = r.first; second = r.second; parent = r.parent; rank = q }

-- The record with the child y in place of x: as its first child where x was that, and else as its second.
abbrev pub renamed : Record → ℕ → ℕ → Record
renamed r x y = cond (r.first == x) (with_first r y) (with_second r y)

-- The node at p, if there is one, names y where it named x.
abbrev pub relinked : List Record → Link → ℕ → ℕ → List Record
relinked t None x y = t
relinked t (Some p) x y = slice_set t p (renamed (at t p) x y)

-- The left child of the pair at x rises over it: it takes the place, the outer box and the parent of the pair, which becomes its outer child, and the pair takes the outer child of the left child as its left child.
abbrev pub promoted_left : List Record → ℕ → List Record
promoted_left t x =
    let rx : Record = at t x in
    let rw : Record = at t rx.first in
    let ry : Record = at t rw.first in
    let inner_box : BoxNumbers = (at t ry.first).outer in
    let ro : Record = at t ry.second in
    wrote
    (write x (with_parent (with_inner (with_rank rx unranked) (Some inner_box)) (Some rw.first))
    ∷ write rx.first (with_first (with_inner (with_rank rw unranked) (Some inner_box)) ry.second)
    ∷ write rw.first (with_parent (with_second (with_outer ry rx.outer) x) rx.parent)
    ∷ write ry.second (with_parent ro (Some rx.first))
    ∷ [])
    (relinked t rx.parent x rw.first)

-- The outer child of the pair at s rises over it: it takes the place, the inner box and the parent of the pair, which becomes its left child, and the pair takes the left child of the outer child as its outer child.
abbrev pub promoted_outer : List Record → ℕ → List Record
promoted_outer t s =
    let rs : Record = at t s in
    let rx : Record = at t rs.second in
    let rw : Record = at t rx.first in
    let rl : Record = at t rw.first in
    wrote
    (write s (with_parent (with_second (with_outer rs rl.outer) rw.first) (Some rx.first))
    ∷ write rs.second (with_parent (with_inner rx rs.inner) rs.parent)
    ∷ write rx.first (with_first (with_inner rw rs.inner) s)
    ∷ write rw.first (with_parent rl (Some s))
    ∷ [])
    (relinked t rs.parent s rs.second)

-- The pair at s takes the rank q, in both its records.
abbrev pub ranked : List Record → ℕ → Rank → List Record
ranked t s q =
    let rs : Record = at t s in
    let rw : Record = at t rs.first in
    wrote (write s (with_rank rs q) ∷ write rs.first (with_rank rw q) ∷ []) t

-- Left and right of the pair at s change places, and the pair takes the rank of the new left.
abbrev pub swapped : List Record → ℕ → List Record
swapped t s =
    let rs : Record = at t s in
    let rw : Record = at t rs.first in
    let rb : Record = at t rw.second in
    wrote
    (write s (with_rank rs rb.rank)
    ∷ write rs.first (with_first (with_second (with_rank rw rb.rank) rw.first) rw.second)
    ∷ [])
    t

-- Whether a record has no inner box.
abbrev pub no_inner : Record → Bool
no_inner r = is_none r.inner

-- The pair at s has its left and right child in the order of their ranks where it has no inner box, and is ranked.
abbrev pub ordered_in : List Record → ℕ → List Record
ordered_in t s =
    let rs : Record = at t s in
    let rw : Record = at t rs.first in
    let ra : Record = at t rw.first in
    let rb : Record = at t rw.second in
    cond (no_inner rs) (cond (earlier rb.rank ra.rank) (swapped t s) (ranked t s ra.rank)) (ranked t s unranked)

-- The record of the right child of a pair, whose rank is that of the reading by which the pair was made.
abbrev pub made_by : List Record → Record → Record
made_by t r = at t (at t r.first).second

-- Whether the node at a is a pair, made earlier than the one at b if that is a pair.
abbrev pub earlier_in : List Record → ℕ → ℕ → Bool
earlier_in t a b =
    cond (is_pair (at t a).kind) (cond (is_pair (at t b).kind) (earlier (made_by t (at t a)).rank (made_by t (at t b)).rank) true) false

-- What a step up ends in: the table, the pair that is in its place, and the pair that it rose over, or none.
pub record Rise : Type 0 where
  pub table : List Record
  pub top : ℕ
  pub low : Link

-- A step up that ends in the table t, with the pair x in its place, over the pair y or over none.
abbrev pub risen : List Record → ℕ → Link → Rise
risen t x y = record { table = t; top = x; low = y }

-- One step up from the pair at s, an outer child of the pair at x: it rises over that if it was made earlier.
abbrev pub settled_outside : List Record → ℕ → ℕ → Rise
settled_outside t s x = cond (earlier_in t s x) (risen (ordered_in (promoted_outer t x) s) s (Some x)) (risen t x None)

-- One step up from the pair at s, under the split node of the pair at x: it rises over that if it is its left child and was made earlier, and the pair on top is ordered. Under a split node of no pair nothing changes.
abbrev pub settled_inside : List Record → ℕ → Bool → Link → Rise
settled_inside t s is_left None = risen t s None
settled_inside t s is_left (Some x) =
    cond is_left (cond (earlier_in t s x) (risen (ordered_in (promoted_left t x) s) s (Some x)) (risen (ordered_in t x) x None)) (risen (ordered_in t x) x None)

-- One step up from the pair at s under its parent, if it has one.
abbrev pub settled_under : List Record → ℕ → Link → Rise
settled_under t s None = risen t s None
settled_under t s (Some p) =
    let rp : Record = at t p in
    cond (is_split rp.kind) (settled_inside t s (rp.first == s) rp.parent) (settled_outside t s p)

-- One step up from the pair at s: it rises over the pair above it if it was made earlier, and the pair on top is ordered.
abbrev pub settled_in : List Record → ℕ → Rise
settled_in t s = settled_under t s (at t s).parent

-- The box of two numbers of a record.
abbrev pub box_of : BoxNumbers → Box
box_of c = record { depth = c.depth; code = c.code }

-- Where the code k leads from the node at i, in n steps at most: to the first child if its outer box holds the code, and else to the second.
abbrev pub descended : ℕ → List Record → ℕ → ℕ → ℕ
descended zero t i k = i
descended (suc n) t i k =
    let r : Record = at t i in
    cond (is_leaf r.kind) i (cond (holds (box_of (at t r.first).outer) k) (descended n t r.first k) (descended n t r.second k))

-- The numbers of the half of e that contains the code c. The box of one code is its own half.
abbrev pub half_numbers : Box → ℕ → BoxNumbers
half_numbers e c = numbers_of (cut (min (suc e.depth) 32) c)

-- What a leaf holds, as a box: the place of its reading, or its inner box.
abbrev pub content_numbers : Record → BoxNumbers
content_numbers r =
    let place : BoxNumbers = record { depth = 32; code = r.rank.code } in
    cond (is_reading r.kind) place (unwrap_or r.inner place)

-- The record of a leaf.
abbrev pub leaf_record : Kind → BoxNumbers → Option BoxNumbers → Link → Rank → Record
leaf_record k outer inner p q = record { kind = k; outer = outer; inner = inner; first = 65535; second = 65535; parent = p; rank = q }

-- The record of a node with children, and with no rank yet.
abbrev pub node_record : Kind → BoxNumbers → Option BoxNumbers → ℕ → ℕ → Link → Record
node_record k outer inner a b p = record { kind = k; outer = outer; inner = inner; first = a; second = b; parent = p; rank = unranked }

-- The leaf at i becomes the left child of a new pair on e, at the places n. A new reading with the rank q is the right child.
abbrev pub joined_in : List Record → ℕ → Box → Rank → FourPlaces → List Record
joined_in t i e q n =
    let ri : Record = at t i in
    wrote
    (write i (with_parent (with_outer ri (half_numbers e (content_numbers ri).code)) (Some n.split))
    ∷ write n.reading (leaf_record ReadingKind (half_numbers e q.code) None (Some n.split) q)
    ∷ write n.outer (leaf_record BoxKind ri.outer (Some (numbers_of e)) (Some n.shrink) unranked)
    ∷ write n.split (node_record Split (numbers_of e) ri.inner i n.reading (Some n.shrink))
    ∷ write n.shrink (node_record Shrink ri.outer ri.inner n.split n.outer ri.parent)
    ∷ [])
    (relinked t ri.parent i n.shrink)

-- The leaf at i becomes a pair over what it held and a new reading with the rank q, in the order of their ranks.
abbrev pub planted : List Record → ℕ → Rank → FourPlaces → List Record
planted t i q n = ordered_in (joined_in t i (smallest (box_of (content_numbers (at t i))) (point q.code)) q n) n.shrink

-- The leaf of the only reading, which has the rank q, is written at i, over the whole square.
abbrev pub first_planted : List Record → ℕ → Rank → List Record
first_planted t i q = slice_set t i (leaf_record ReadingKind (numbers_of whole) None None q)

-- Whether the node at a is a pair, and made first of the three.
abbrev pub least_in : List Record → ℕ → ℕ → ℕ → Bool
least_in t a b c = cond (earlier_in t a b) (earlier_in t a c) false

-- Whether no child of the pair at s is a pair.
abbrev pub above_leaves_in : List Record → ℕ → Bool
above_leaves_in t s =
    let rs : Record = at t s in
    let rw : Record = at t rs.first in
    cond (is_leaf (at t rw.first).kind) (cond (is_leaf (at t rw.second).kind) (is_leaf (at t rs.second).kind) false) false

-- The leaf at i takes the place of the pair at s.
abbrev pub replaced_in : List Record → ℕ → ℕ → List Record
replaced_in t s i =
    let rs : Record = at t s in
    wrote (write i (with_parent (with_outer (at t i) rs.outer) rs.parent) ∷ []) (relinked t rs.parent s i)

-- What a step down ends in: the table, and the node to go on with, or the leaf that stays and the places that are free, or that no reading has the code.
pub record Sink : Type 0 where
  pub table : List Record
  pub ends : Sinking

-- A step down that ends in the table t and the answer e.
abbrev pub sinks : List Record → Sinking → Sink
sinks t e = record { table = t; ends = e }

-- The places of the pair at s whose leaf at i goes.
abbrev pub freed_in : List Record → ℕ → ℕ → FourPlaces
freed_in t s i = let rs : Record = at t s in record { shrink = s; split = rs.first; reading = i; outer = rs.second }

-- The outer child rises over the pair at s, and takes the rank of the node at i if there is no inner box.
abbrev pub raised_outer : List Record → ℕ → ℕ → List Record
raised_outer t s i =
    let rs : Record = at t s in
    let ri : Record = at t i in
    cond (no_inner rs) (ranked (promoted_outer t s) rs.second ri.rank) (ranked (promoted_outer t s) rs.second unranked)

-- A step down where the struck reading is the first of the right child.
abbrev pub sunk_right : List Record → ℕ → Sink
sunk_right t s =
    let rs : Record = at t s in
    let rw : Record = at t rs.first in
    cond (above_leaves_in t s) (sinks (replaced_in t s rw.first) (Done rw.first (freed_in t s rw.second)))
    (cond (least_in t rw.first rw.second rs.second) (sinks (promoted_left t s) (On s))
    (cond (least_in t rs.second rw.first rw.second) (sinks (raised_outer t s rw.first) (On s)) (sinks t (On rw.second))))

-- A step down where the struck reading is the first of the left child, and there is no inner box.
abbrev pub sunk_left : List Record → ℕ → Sink
sunk_left t s =
    let rs : Record = at t s in
    let rw : Record = at t rs.first in
    cond (above_leaves_in t s) (sinks (replaced_in t s rw.second) (Done rw.second (freed_in t s rw.first)))
    (cond (least_in t rw.second rw.first rs.second) (sinks (promoted_left (swapped t s) s) (On s))
    (cond (least_in t rs.second rw.first rw.second) (sinks (raised_outer t s rw.second) (On s)) (sinks (swapped t s) (On rw.first))))

-- The child of the pair at s in which the code k lies.
abbrev pub child_toward : List Record → ℕ → ℕ → ℕ
child_toward t s k =
    let rs : Record = at t s in
    let rw : Record = at t rs.first in
    cond (holds (box_of rw.outer) k) (cond (holds (box_of (at t rw.first).outer) k) rw.first rw.second) rs.second

-- One step down from the pair at s, for the code k.
abbrev pub sunk_pair : List Record → ℕ → ℕ → Sink
sunk_pair t s k =
    let rs : Record = at t s in
    let rw : Record = at t rs.first in
    cond (k == (at t rw.second).rank.code) (sunk_right t s)
    (cond (no_inner rs) (cond (k == (at t rw.first).rank.code) (sunk_left t s) (sinks t (On (child_toward t s k)))) (sinks t (On (child_toward t s k))))

-- One step down from the node at s, for the code k. A leaf has no reading with the code.
abbrev pub sunk_in : List Record → ℕ → ℕ → Sink
sunk_in t s k = cond (is_pair (at t s).kind) (sunk_pair t s k) (sinks t Lost)

-- After a step that ends in e, the function f goes on where there is more to do.
abbrev pub followed : (List Record → ℕ → Sink) → List Record → Sinking → Sink
followed f t (On s) = f t s
followed f t (Done i n) = sinks t (Done i n)
followed f t Lost = sinks t Lost

-- At most n steps down from the node at s, for the code k.
abbrev pub struck_in : ℕ → List Record → ℕ → ℕ → Sink
struck_in zero t s k = sinks t (On s)
struck_in (suc n) t s k = followed (λ t' s'. struck_in n t' s' k) (sunk_in t s k).table (sunk_in t s k).ends
