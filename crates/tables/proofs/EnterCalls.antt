-- Entering: what each of its ways serves.
use Rattle.std.proofs.Common.{◌≡◌, ℕ, suc, ◌+◌, ◌/◌, ◌^◌, ◌<◌, Bool, true, false, cond, ◌&&◌, eqb, leb, List, [], length, set, Ok, Err, sym, refl, ap, ◌∙◌, subst, arith, get_or-set_other}
use Rattle.std.specs.Prelude.{None, Some}
use mathlib.Core.Option.{none, some}
use Rattle.std.proofs.lemmas.Bool.{eq-eqb, eqb-true, leb-false, and_parts}
use Rattle.records.specs.declared.record.Record.{Record}
use Rattle.tables.specs.declared.fault.MapFault.TheVariants.{Taken, Full}
use Rattle.records.specs.declared.places.FourPlaces.{FourPlaces}
use Rattle.records.specs.declared.places.FreePlaces.{FreePlaces}
use Rattle.place.specs.Boxes.{Box}
use Rattle.quadtreap.specs.Tree.{Reading, Content, reading, box}
use Rattle.quadtreap.specs.Rank.{put}
use Rattle.quadtreap.specs.Find.{of_code, lookup}
use Rattle.tables.specs.Calls.{Reply, Call, enters, is_some, present, full, reads, next, roll, reply}
use Rattle.records.specs.Links.{Link}
use Rattle.records.specs.Kinds.{is_reading}
use Rattle.records.specs.PlacedNodes.{leaf_at, record_of}
use Rattle.records.specs.Writes.{at, planted}
use Rattle.records.specs.Promises.{Descends}
use Rattle.records.specs.Free.{next as next_free, four_taken, four_left}
use Rattle.tables.specs.Stands.{State, state, Stands, Serves, Keeps, started, grown_tables, grown}
use Rattle.tables.specs.Totals.{Tables, tables, mended, raised}
use Rattle.tables.proofs.Finds.{none_found, found, lacks_other}
use Rattle.tables.proofs.Firsts.{no_readings, stands_first, first_below}
use Rattle.tables.proofs.Enters.{stands_entered, records_past, tallies_past}

module _ {K : Type 0} (join : K → K → K) (e : K) where
  -- the state in parts, each as the calls on the way answered it
  pub grown_by : (s : State K) (i k priority : ℕ) (v : K) (recs : List Record) (ts : List K) (top : ℕ) (taken : FourPlaces × FreePlaces)
      → tables recs ts top ≡ grown_tables join e s.places s.records s.tallies i k priority v taken.0 → taken ≡ (four_taken s.records s.free, four_left s.records s.free)
      → state recs ts s.places (Some top) (s.live + 1) taken.1 ≡ grown join e s i k priority v
  grown_by s i k priority v recs ts top taken run four =
      let all : tables recs ts top ≡ grown_tables join e s.places s.records s.tallies i k priority v (four_taken s.records s.free) =
      run ∙ ap (λ (x : FourPlaces × FreePlaces). grown_tables join e s.places s.records s.tallies i k priority v x.0) four in
      ap (λ (t : Tables K). state t.records t.tallies s.places (Some t.top) (s.live + 1) taken.1) all
      ∙ ap (λ (x : FourPlaces × FreePlaces). let t : Tables K = grown_tables join e s.places s.records s.tallies i k priority v (four_taken s.records s.free) in state t.records t.tallies s.places (Some t.top) (s.live + 1) x.1) four

  -- a call that is refused
  pub refused : (s : State K) (cs : List (Call K)) (c : Call K) (r : Reply) → Stands join e s (roll join s.places cs)
      → next join s.places c (roll join s.places cs) ≡ roll join s.places cs → r ≡ reply s.places c (roll join s.places cs) → Serves join e s s c cs r
  refused s cs c r st same told =
      record {
        stands = subst (Stands join e s) (sym same) st;
        answer = told;
        places = refl;
        records_past = λ i d far. refl;
        tallies_past = λ i d far. refl;
        unchanged = λ h. refl;
      }

  module _ (k priority : ℕ) (v : K) where
    abbrev call : Call K
    call = enters k priority v

    -- the full map, by the number live
    full_is : (s : State K) (rs : List (Reading K)) (b : Bool) → Stands join e s rs → leb ((s.places + 3) / 4) s.live ≡ b → full s.places rs ≡ b
    full_is s rs b st h = ap (leb ((s.places + 3) / 4)) (sym st.count) ∙ h

    serves_taken : (s : State K) (cs : List (Call K)) → Stands join e s (roll join s.places cs) → present k (roll join s.places cs) ≡ true → Serves join e s s call cs (Err Taken)
    serves_taken s cs st there =
        let rs : List (Reading K) = roll join s.places cs in
        refused s cs call (Err Taken) st
        (ap (λ b. cond b rs (cond (full s.places rs) rs (put (reads k priority v) rs))) there)
        (ap (λ b. cond b (Err Taken) (cond (full s.places rs) (Err Full) (Ok (suc (length rs))))) (sym there))

    serves_full : (s : State K) (cs : List (Call K)) → Stands join e s (roll join s.places cs) → present k (roll join s.places cs) ≡ false
        → full s.places (roll join s.places cs) ≡ true → Serves join e s s call cs (Err Full)
    serves_full s cs st gone all =
        let rs : List (Reading K) = roll join s.places cs in
        refused s cs call (Err Full) st
        (ap (λ b. cond b rs (cond (full s.places rs) rs (put (reads k priority v) rs))) gone ∙ ap (λ b. cond b rs (put (reads k priority v) rs)) all)
        (ap (λ b. cond b (Err Full) (Ok (suc (length rs)))) (sym all) ∙ ap (λ b. cond b (Err Taken) (cond (full s.places rs) (Err Full) (Ok (suc (length rs))))) (sym gone))

    -- what a call that is accepted leaves on the roll, and answers
    accepted_roll : (N : ℕ) (rs : List (Reading K)) → present k rs ≡ false → full N rs ≡ false → next join N call rs ≡ put (reads k priority v) rs
    accepted_roll N rs gone room =
        ap (λ b. cond b rs (cond (full N rs) rs (put (reads k priority v) rs))) gone ∙ ap (λ b. cond b rs (put (reads k priority v) rs)) room

    accepted_reply : (N : ℕ) (rs : List (Reading K)) → present k rs ≡ false → full N rs ≡ false → reply N call rs ≡ Ok (suc (length rs))
    accepted_reply N rs gone room =
        ap (λ b. cond b (Err Taken) (cond (full N rs) (Err Full) (Ok (suc (length rs))))) gone ∙ ap (λ b. cond b (Err Full) (Ok (suc (length rs)))) room

    pub keeps_full_empty : (s : State K) → s.root ≡ None → leb ((s.places + 3) / 4) s.live ≡ true → Keeps join e s s call (Err Full)
    keeps_full_empty s is all cs st =
        serves_full s cs st (ap is_some (none_found k join e s _ st is)) (full_is s _ true st all)

    pub keeps_first : (s : State K) → s.root ≡ None → leb ((s.places + 3) / 4) s.live ≡ false → k < 2 ^ 32 → Keeps join e s (started s k priority v) call (Ok 1)
    keeps_first s is room small cs st =
        let rs : List (Reading K) = roll join s.places cs in
        let some_room : 0 < s.places = omega (arith, leb-false ((s.places + 3) / 4) s.live room) in
        let gone : present k rs ≡ false = ap is_some (none_found k join e s _ st is) in
        let open' : full s.places rs ≡ false = full_is s rs false st room in
        let empty : rs ≡ [] = no_readings join e k priority v s rs st is small some_room in
        let below = first_below join e k priority v s rs st is small some_room in
        record {
          stands =
              subst (Stands join e (started s k priority v)) (ap (put (reads k priority v)) (sym empty) ∙ sym (accepted_roll s.places rs gone open'))
              (stands_first join e k priority v s rs st is small some_room);
          answer = ap (λ (l : List (Reading K)). Ok (suc (length l))) (sym empty) ∙ sym (accepted_reply s.places rs gone open');
          places = refl;
          records_past = λ j d h. get_or-set_other s.records (next_free s.free) j _ d (λ z. let q : ⊥ = omega arith in q);
          tallies_past = λ j d h. get_or-set_other s.tallies (next_free s.free) j _ d (λ z. let q : ⊥ = omega arith in q);
          unchanged = λ h. absurd (mathlib.Core.Bool.false≢true h);
        }

    -- the leaf of the reading with the code
    own_content : (c : Content K) (p : Link) (i : ℕ) (C : Box) (q : Record) → q ≡ record_of p (leaf_at i C c) → is_reading q.kind ≡ true → q.rank.code ≡ k → is_some (of_code k c) ≡ true
    own_content (reading r) p i C q is kind code =
        ap (λ b. is_some (cond b (some r) none)) (eq-eqb k r.code (sym code ∙ ap (λ (x : Record). x.rank.code) is))
    own_content (box I) p i C q is kind code = absurd (mathlib.Core.Bool.false≢true (sym (ap (λ (x : Record). is_reading x.kind) is) ∙ kind))

    module _ (s : State K) (i : ℕ) (q : Record) (root : ℕ) (far : s.root ≡ Some root) (down : Descends K s.records root k s.places i) (is : q ≡ at s.records i) where
      pub keeps_taken : (is_reading q.kind && eqb q.rank.code k) ≡ true → Keeps join e s s call (Err Taken)
      keeps_taken own cs st =
          let f = found k join e s _ st root far i down in
          let parts = and_parts (is_reading q.kind) (eqb q.rank.code k) own in
          serves_taken s cs st
          (ap is_some (sym f.tells) ∙ own_content f.content _ i f.box q (is ∙ f.lies) parts.0 (eqb-true q.rank.code k parts.1))

      pub keeps_full : (is_reading q.kind && eqb q.rank.code k) ≡ false → leb ((s.places + 3) / 4) s.live ≡ true → Keeps join e s s call (Err Full)
      keeps_full other all cs st = serves_full s cs st (ap is_some (lacks_other join e s k root i q far down is other cs st)) (full_is s _ true st all)

      pub keeps_entered : (is_reading q.kind && eqb q.rank.code k) ≡ false → leb ((s.places + 3) / 4) s.live ≡ false → k < 2 ^ 32
          → (m : ℕ) → m ≡ s.live + 1 → (s' : State K) → s' ≡ grown join e s i k priority v → Keeps join e s s' call (Ok m)
      keeps_entered other open' small m live s' new cs st =
          let rs : List (Reading K) = roll join s.places cs in
          let gone : lookup k rs ≡ none = lacks_other join e s k root i q far down is other cs st in
          let few : length rs < (s.places + 3) / 4 = let c = st.count in omega (arith, leb-false ((s.places + 3) / 4) s.live open') in
          let still : full s.places rs ≡ false = full_is s rs false st open' in
          subst (λ (u : State K). Serves join e s u call cs (Ok m)) (sym new)
          record {
            stands =
                subst (Stands join e (grown join e s i k priority v)) (sym (accepted_roll s.places rs (ap is_some gone) still))
                (stands_entered join e k priority v s rs st root far i down gone small few);
            answer = ap Ok (live ∙ (let c = st.count in let z : s.live + 1 ≡ suc (length rs) = omega arith in z)) ∙ sym (accepted_reply s.places rs (ap is_some gone) still);
            places = refl;
            records_past = records_past join e k priority v s rs st root far i down gone small few;
            tallies_past = tallies_past join e k priority v s rs st root far i down gone small few;
            unchanged = λ h. absurd (mathlib.Core.Bool.false≢true h);
          }

-- both tables, as the calls on the way answered them
pub grown_run : {K : Type 0} (join : K → K → K) (e : K) (N i k priority : ℕ) (v z : K) (recs recs1 : List Record) (ts ts1 ts2 : List K) (n : FourPlaces) (t : Tables K)
    → recs1 ≡ planted recs i (record { priority = priority; code = k }) n → ts1 ≡ set ts n.reading v → z ≡ e → ts2 ≡ set ts1 n.outer z → t ≡ raised join e N recs1 (mended join e recs1 (Some n.shrink) ts2) n.shrink
    → t ≡ grown_tables join e N recs ts i k priority v n
grown_run {K} join e N i k priority v z recs recs1 ts ts1 ts2 n t er e1 ez e2 et =
    et ∙ ap (λ (l : List Record). raised join e N l (mended join e l (Some n.shrink) ts2) n.shrink) er
    ∙ ap (λ (l : List K). raised join e N (planted recs i (record { priority = priority; code = k }) n) (mended join e (planted recs i (record { priority = priority; code = k }) n) (Some n.shrink) l) n.shrink)
    (e2 ∙ ap (λ (x : K). set ts1 n.outer x) ez ∙ ap (λ (l : List K). set l n.outer e) e1)
