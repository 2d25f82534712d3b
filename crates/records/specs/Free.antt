-- The free places: those never used, and the chain of those given back.
--   next, left_of, left_after    the next free place, and the free places after it is taken
--   four_taken, four_left        the same of four places
--   linked, given_back           the table and the free places after a place is given back
--   four_linked, four_given      the same of four places
--   among, unused, free_at       how often a place is free
--   Chain, FreeIn                the free places of a table
--   Opens, TakesOne, TakesFour   what it is to take a free place
--   GivesOne, GivesFour          what it is to give a place back
use Rattle.std.specs.Prelude.{◌≡◌, ℕ, suc, ◌+◌, ◌<◌, ◌≤◌, min, cond, List, [], ◌∷◌, length, nat_le, slice_set, None, Some}
use Rattle.std.specs.Option.{unwrap_or}
use Rattle.records.specs.declared.record.Record.{Record}
use Rattle.records.specs.declared.places.FourPlaces.{FourPlaces}
use Rattle.records.specs.declared.places.FreePlaces.{FreePlaces}
use Rattle.records.specs.Links.{Link}
use Rattle.records.specs.PlacedNodes.{one}
use Rattle.records.specs.Writes.{at, with_parent}
use Rattle.records.specs.PlacedPairs.{four}
use Rattle.records.specs.Elsewhere.{Elsewhere}

-- The next free place: the one given back last, or the first that was never used.
abbrev pub next : FreePlaces → ℕ
next f = unwrap_or f.freed f.fresh

-- The free places once the next one is taken, where `fresh` is the first that was never used.
abbrev pub left_of : List Record → ℕ → Link → FreePlaces
left_of recs fresh None = record { fresh = min (fresh + 1) 65535; freed = None }
left_of recs fresh (Some p) = record { fresh = fresh; freed = (at recs p).parent }

-- The free places once the next one is taken.
abbrev pub left_after : List Record → FreePlaces → FreePlaces
left_after recs f = left_of recs f.fresh f.freed

-- Four free places, taken one after the other.
abbrev pub four_taken : List Record → FreePlaces → FourPlaces
four_taken recs f =
    let f1 : FreePlaces = left_after recs f in
    let f2 : FreePlaces = left_after recs f1 in
    let f3 : FreePlaces = left_after recs f2 in
    record { shrink = next f; split = next f1; reading = next f2; outer = next f3 }

-- The free places once four are taken.
abbrev pub four_left : List Record → FreePlaces → FreePlaces
four_left recs f = left_after recs (left_after recs (left_after recs (left_after recs f)))

-- The table once the place i is given back: its record has the place that was given back before as its parent.
abbrev pub linked : List Record → FreePlaces → ℕ → List Record
linked recs f i = slice_set recs i (with_parent (at recs i) f.freed)

-- The free places once the place i is given back.
abbrev pub given_back : FreePlaces → ℕ → FreePlaces
given_back f i = record { fresh = f.fresh; freed = Some i }

-- The table once four places are given back, the outer one first.
abbrev pub four_linked : List Record → FreePlaces → FourPlaces → List Record
four_linked recs f n =
    linked (linked (linked (linked recs f n.outer) (given_back f n.outer) n.reading) (given_back f n.reading) n.split) (given_back f n.split) n.shrink

-- The free places once four are given back.
abbrev pub four_given : FreePlaces → FourPlaces → FreePlaces
four_given f n = given_back f n.shrink

-- How often a place is in a list.
abbrev pub among : ℕ → List ℕ → ℕ
among i [] = 0
among i (p ∷ ps) = one i p + among i ps

-- Once for a place that was never used.
abbrev pub unused : ℕ → ℕ → ℕ
unused fresh i = cond {A = ℕ} (nat_le fresh i) 1 0

-- How often a place is free, where spare are the places given back.
abbrev pub free_at : FreePlaces → List ℕ → ℕ → ℕ
free_at f spare i = among i spare + unused f.fresh i

-- The places given back, from the last to the first: the record of each has the next as its parent.
abbrev pub Chain : List Record → Link → List ℕ → Type 0
Chain recs head [] = head ≡ None
Chain recs head (p ∷ ps) = (head ≡ Some p) × Chain recs (at recs p).parent ps

-- The free places among the first N of the table: the chain of those given back, and those never used.
pub record FreeIn (N : ℕ) (recs : List Record) (f : FreePlaces) (spare : List ℕ) : Type 0 where
  pub chain : Chain recs f.freed spare
  pub inside : (j : ℕ) → N ≤ j → among j spare ≡ 0
  pub fits : f.fresh ≤ N
  pub room : N ≤ length recs
  pub small : N < 65535

-- Nothing is used: each of the first N places is free, whatever the table holds.
abbrev pub Opens : FreePlaces → Type 0
Opens f = (N : ℕ) (recs : List Record) → N ≤ length recs → N < 65535 → FreeIn N recs f [] × ((j : ℕ) → free_at f [] j ≡ 1)

-- The place i was free and is not any more; all else that was free still is.
pub record TakesOne (N : ℕ) (recs : List Record) (f : FreePlaces) (spare : List ℕ) (i : ℕ) (g : FreePlaces) : Type 0 where
  pub left : List ℕ
  pub free : FreeIn N recs g left
  pub places : (j : ℕ) → free_at f spare j ≡ one j i + free_at g left j
  pub count : g.fresh + length spare ≡ suc (f.fresh + length left)
  pub below : i < N

-- The same of four places.
pub record TakesFour (N : ℕ) (recs : List Record) (f : FreePlaces) (spare : List ℕ) (n : FourPlaces) (g : FreePlaces) : Type 0 where
  pub left : List ℕ
  pub free : FreeIn N recs g left
  pub places : (j : ℕ) → free_at f spare j ≡ four j n + free_at g left j
  pub count : g.fresh + length spare ≡ 4 + (f.fresh + length left)
  pub shrink : n.shrink < N
  pub split : n.split < N
  pub reading : n.reading < N
  pub outer : n.outer < N

-- The place i is free again, is the next one taken, and once it is taken the free places are as they were. Nothing else changed.
pub record GivesOne (N : ℕ) (recs recs' : List Record) (f : FreePlaces) (spare : List ℕ) (i : ℕ) (g : FreePlaces) : Type 0 where
  pub free : FreeIn N recs' g (i ∷ spare)
  pub places : (j : ℕ) → free_at g (i ∷ spare) j ≡ one j i + free_at f spare j
  pub served : next g ≡ i
  pub back : left_after recs' g ≡ f
  pub same : Elsewhere (λ j. one j i) recs recs'

-- Four places are free again, and are the next four taken. Nothing else changed.
pub record GivesFour (N : ℕ) (recs recs' : List Record) (f : FreePlaces) (spare : List ℕ) (n : FourPlaces) (g : FreePlaces) : Type 0 where
  pub free : FreeIn N recs' g (n.shrink ∷ n.split ∷ n.reading ∷ n.outer ∷ spare)
  pub places : (j : ℕ) → free_at g (n.shrink ∷ n.split ∷ n.reading ∷ n.outer ∷ spare) j ≡ four j n + free_at f spare j
  pub served : four_taken recs' g ≡ n
  pub back : four_left recs' g ≡ f
  pub same : Elsewhere (λ j. four j n) recs recs'
