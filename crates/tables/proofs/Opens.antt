-- An empty map stands.
use Rattle.std.proofs.Common.{◌≡◌, ℕ, min, List, [], length, refl, arith}
use Rattle.std.specs.Prelude.{None}
use mathlib.Core.Option.{none}
use Rattle.records.specs.declared.record.Record.{Record}
use Rattle.records.specs.declared.places.FreePlaces.{FreePlaces}
use Rattle.records.specs.Free.{Opens}
use Rattle.tables.specs.Stands.{state, Stands}

pub opens : {K : Type 0} (join : K → K → K) (e : K) (recs : List Record) (ts : List K) (N : ℕ) (f : FreePlaces) → N ≡ min (min (length recs) (length ts)) 65533 → Opens f
    → Stands join e (state recs ts N None 0 f) []
opens join e recs ts N f is none_used =
    let all = none_used N recs (omega arith) (omega arith) in
    record {
      size = is;
      valid = tt;
      ranked = tt;
      count = refl;
      placed = none;
      tree = refl;
      lies = tt;
      top = refl;
      spare = [];
      free = all.0;
      each = λ i h. let a = all.1 i in omega arith;
      past = λ i h. refl;
      used = let z = (none_used 0 recs (omega arith) (omega arith)).0.fits in omega arith;
    }
