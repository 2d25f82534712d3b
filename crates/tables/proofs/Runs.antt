-- The turns of a walk, one by one.
use Rattle.std.proofs.Common.{◌≡◌, ℕ, zero, suc, ◌+◌, ◌-◌, ◌<◌, ◌≤◌, List, sym, refl, ap, ◌∙◌, arith}
use Rattle.records.specs.declared.record.Record.{Record}
use Rattle.tables.specs.declared.walk.Sight.{Sight}
use Rattle.tables.specs.declared.walk.Sight.TheVariants.{Misses, Held, Crosses}
use Rattle.tables.specs.declared.walk.Position.TheVariants.{Finished}
use Rattle.tables.specs.declared.walk.Tallied.{Tallied}
use Rattle.tables.specs.declared.walk.Spot.{Spot}
use Rattle.quadtreap.specs.Walk.{Tests}
use Rattle.tables.specs.Walks.{arrived, turned, ran}

-- a node that the walk comes down to expands one node at most
pub arrived_few : {K : Type 0} (join : K → K → K) (i : ℕ) (r : Record) (k : K) (x : Tallied K) (v : Sight) → (arrived join i r k x v).found.expanded ≤ x.expanded + 1
arrived_few join i r k x Misses = omega arith
arrived_few join i r k x Held = omega arith
arrived_few join i r k x Crosses = omega arith

module _ {K : Type 0} (join : K → K → K) (e : K) (q : Tests) (recs : List Record) (ts : List K) where
  -- a finished walk finds nothing more
  pub stops : (n : ℕ) (s : Spot K) → s.position ≡ Finished → ran join e q recs ts n s ≡ s.found
  stops zero s is = refl
  stops (suc n) s is = ap (λ p. ran join e q recs ts n (turned join e q recs ts s.found p)) is ∙ stops n (record { position = Finished; found = s.found }) refl

  -- one turn of the loop
  pub turns : (n i : ℕ) (s s' : Spot K) → i < n → s' ≡ turned join e q recs ts s.found s.position → ran join e q recs ts (n - (i + 1)) s' ≡ ran join e q recs ts (n - i) s
  turns n i s s' some is =
      let left : n - i ≡ suc (n - (i + 1)) = omega arith in
      ap (ran join e q recs ts (n - (i + 1))) is ∙ sym (ap (λ (m : ℕ). ran join e q recs ts m s) left)
