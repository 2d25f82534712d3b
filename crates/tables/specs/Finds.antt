-- What the look for the leaf of a reading answers.
--   LeafOf   the leaf that holds the reading with a code
--   Lacks    no live reading has the code
use Rattle.std.specs.Prelude.{◌≡◌, ℕ, true, List, Some}
use Rattle.std.proofs.Math.Option.{none}
use Rattle.records.specs.declared.record.Record.{Record}
use Rattle.quadtreap.specs.Find.{lookup}
use Rattle.records.specs.Kinds.{is_reading}
use Rattle.records.specs.Writes.{at}
use Rattle.records.specs.Promises.{Descends}
use Rattle.tables.specs.Calls.{Call, roll}
use Rattle.tables.specs.Stands.{State, Stands}

-- The code k leads to the place i, where the record q of a reading with that code lies.
pub record LeafOf {K : Type 0} (s : State K) (k i : ℕ) (q : Record) : Type 0 where
  pub root : ℕ
  pub held : s.root ≡ Some root
  pub leads : Descends K s.records root k s.places i
  pub lies : q ≡ at s.records i
  pub kind : is_reading q.kind ≡ true
  pub code : q.rank.code ≡ k

-- Whatever calls came before, no live reading has the code k.
abbrev pub Lacks : {K : Type 0} → (K → K → K) → K → State K → ℕ → Type 0
Lacks {K} join e s k = (cs : List (Call K)) → Stands join e s (roll join s.places cs) → lookup k (roll join s.places cs) ≡ none
