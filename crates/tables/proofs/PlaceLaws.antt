-- Each place of a map is a node's or free, and what stays where the records stay.
use Rattle.std.proofs.Common.{◌≡◌, ℕ, ◌+◌, ◌≤◌, cond, List, sym, ap, subst, inl, inr, arith, None}
use Rattle.std.proofs.lemmas.Bool.{cases_lt, le-leb}
use Rattle.records.specs.declared.record.Record.{Record}
use Rattle.records.specs.declared.places.FreePlaces.{FreePlaces}
use Rattle.quadtreap.specs.Tree.{Reading}
use Rattle.records.specs.PlacedNodes.{PlacedNodes, occurs, LiesIn}
use Rattle.records.specs.Elsewhere.{Elsewhere}
use Rattle.records.specs.Free.{unused, free_at, FreeIn}
use Rattle.tables.specs.Stands.{State, Stands, in_tree}
use Rattle.records.proofs.FrameLaws.{same_nodes}
use Rattle.records.proofs.FreeLaws.{chain_on}

-- the free places stay where their records stay
pub free_on : (used : ℕ → ℕ) (N : ℕ) (recs recs' : List Record) → Elsewhere used recs recs' → (f : FreePlaces) (spare : List ℕ) → ((j : ℕ) → used j + free_at f spare j ≤ 1) → FreeIn N recs f spare → FreeIn N recs' f spare
free_on used N recs recs' same f spare apart h = record {
  chain = chain_on used recs recs' same f.freed spare (λ j z. let a = apart j in omega arith) h.chain;
  inside = h.inside;
  fits = h.fits;
  room = subst (λ n. N ≤ n) (sym same.long) h.room;
  small = h.small;
}

-- past the first N places each is free once
pub free_past : (N : ℕ) (recs : List Record) (f : FreePlaces) (spare : List ℕ) → FreeIn N recs f spare → (j : ℕ) → N ≤ j → free_at f spare j ≡ 1
free_past N recs f spare h j far =
    let a = h.inside j far in
    let b = h.fits in
    let c : unused f.fresh j ≡ 1 = ap (λ b. cond {A = ℕ} b 1 0) (le-leb f.fresh j (omega arith)) in
    omega arith

-- what lies in a table stays where its records stay
pub kept_on : {K : Type 0} (used : ℕ → ℕ) (recs recs' : List Record) → Elsewhere used recs recs' → (t : PlacedNodes K) → ((j : ℕ) → 1 ≤ occurs j t → used j ≡ 0) → LiesIn recs t → LiesIn recs' t
kept_on used recs recs' same t off h = record {
  laid = same_nodes recs recs' same.long None t (λ j z. same.reads j (off j z)) h.laid;
  once = h.once;
  low = h.low;
  sized = h.sized;
}

pub place_once : {K : Type 0} (join : K → K → K) (e : K) (s : State K) (rs : List (Reading K)) (st : Stands join e s rs) (j : ℕ) → in_tree j st.placed + free_at s.free st.spare j ≡ 1
place_once join e s rs st j =
    elim (cases_lt j s.places) [
      | inl l ↦ st.each j l
      | inr l ↦ let a = st.past j l in let b = free_past s.places s.records s.free st.spare st.free j l in omega arith
    ]
