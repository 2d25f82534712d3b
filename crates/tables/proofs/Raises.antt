-- The whole rise: the plan, and the entries of all its nodes.
use Rattle.std.proofs.Common.{◌≡◌, ℕ, zero, suc, ◌+◌, ◌-◌, ◌<◌, ◌≤◌, cond, List, [], ◌∷◌, length, sym, refl, ap, ◌∙◌, subst, arith, Some, None, true, false}
use Rattle.std.specs.Option.{is_none}
use Rattle.records.specs.declared.record.Record.{Record}
use Rattle.records.specs.Links.{Link}
use Rattle.records.specs.PlacedNodes.{PlacedNodes, leaf_at, node_at, place_of, occurs, LiesIn, NodesRecorded, record_of, above}
use Rattle.records.specs.Writes.{at, Rise, settled_in}
use Rattle.records.specs.PlacedPairs.{PlacedPairs, nodes_of, top_place, PairFrame, on_left_at, on_right_at, on_outer_at, put_in, put_in_all, node_frames, settled_at, settled_all, risen_over}
use Rattle.tables.specs.Totals.{Totals, mended, Tables, tables, raised}
use Rattle.records.specs.Elsewhere.{Elsewhere}
use Rattle.records.proofs.FrameLaws.{root_lies, occurs_around, occurs_plug, LiesAmong}
use Rattle.records.proofs.SettleLaws.{settles}
use Rattle.records.proofs.PairLaws.{nodes_frames, lies_whole}
use Rattle.records.proofs.CountLaws.{places_settle}
use Rattle.records.proofs.ElsewhereLaws.{off_settle}
use Rattle.tables.proofs.Climbs.{Beside}
use Rattle.tables.proofs.Mends.{Beyond, alike, onward, Steps, steps_on, mended_both}

module _ {K : Type 0} (join : K → K → K) (e : K) where
  abbrev run : ℕ → List Record → List K → ℕ → Tables K
  run n recs ts s = raised join e n recs ts s

  pub stops : (n : ℕ) (recs : List Record) (ts : List K) (s : ℕ) → is_none (at recs s).parent ≡ true → run n recs ts s ≡ tables recs ts s
  stops zero recs ts s is = refl
  stops (suc n) recs ts s is =
      let v : Rise = settled_in recs s in
      ap (λ b. cond b (tables recs ts s) (run n v.table (mended_both join e v.table v.top v.low ts) v.top)) is

  pub goes : (n : ℕ) (recs : List Record) (ts : List K) (s : ℕ) → is_none (at recs s).parent ≡ false
      → run (suc n) recs ts s ≡ run n (settled_in recs s).table (mended_both join e (settled_in recs s).table (settled_in recs s).top (settled_in recs s).low ts) (settled_in recs s).top
  goes n recs ts s far =
      let v : Rise = settled_in recs s in
      ap (λ b. cond b (tables recs ts s) (run n v.table (mended_both join e v.table v.top v.low ts) v.top)) far

  -- one turn of the loop, with d behind it
  pub turns : (n d : ℕ) (recs recs' : List Record) (ts ts1 ts2 : List K) (s top : ℕ) (low : Link) (r : Record) → d < n → r ≡ at recs s → is_none r.parent ≡ false → recs' ≡ (settled_in recs s).table → top ≡ (settled_in recs s).top → low ≡ (settled_in recs s).low
      → ts1 ≡ mended join e recs' low ts → ts2 ≡ mended join e recs' (Some top) ts1 → run (n - (d + 1)) recs' ts2 top ≡ run (n - d) recs ts s
  turns n d recs recs' ts ts1 ts2 s top low r go is far er et el e1 e2 =
      let left : n - d ≡ suc (n - (d + 1)) = omega arith in
      let m : ℕ = n - (d + 1) in
      ap (λ (l : List K). run m recs' l top) (e2 ∙ ap (mended join e recs' (Some top)) e1)
      ∙ ap (λ (l : List Record). run m l (mended_both join e l top low ts) top) er
      ∙ ap (λ (p : ℕ). run m (settled_in recs s).table (mended_both join e (settled_in recs s).table p low ts) p) et
      ∙ ap (λ p. run m (settled_in recs s).table (mended_both join e (settled_in recs s).table (settled_in recs s).top p ts) (settled_in recs s).top) el
      ∙ sym (goes m recs ts s (ap (λ (v : Record). is_none v.parent) (sym is) ∙ far)) ∙ ap (λ (k : ℕ). run k recs ts s) (sym left)

  root_parent : (p : Link) (t : PlacedNodes K) → (record_of p t).parent ≡ p
  root_parent p (leaf_at q C c) = refl
  root_parent p (node_at k q r C g a b) = refl

  parent_is : (recs : List Record) (p : Link) (t : PlacedNodes K) → NodesRecorded recs p t → (at recs (place_of t)).parent ≡ p
  parent_is recs p t h = ap (λ (v : Record). v.parent) (root_lies recs p t h).reads ∙ root_parent p t

  has_parent : (g : PairFrame K) (gs : List (PairFrame K)) → is_none (above (node_frames (g ∷ gs))) ≡ false
  has_parent (on_left_at s w r C i E R O) gs = refl
  has_parent (on_right_at s w r C i E L O) gs = refl
  has_parent (on_outer_at s w r C i E L R) gs = refl

  in_path : (gs : List (PairFrame K)) (t : PlacedPairs K) (j : ℕ) → occurs j (nodes_of (put_in_all gs t)) ≡ occurs j (nodes_of t) + occurs_around j (node_frames gs)
  in_path gs t j = ap (occurs j) (nodes_frames gs t) ∙ occurs_plug (node_frames gs) (nodes_of t) j

  pub record Raised (recs : List Record) (ts : List K) (gs : List (PairFrame K)) (t : PlacedPairs K) (v : Tables K) : Type 0 where
    pub kept : LiesIn v.records (nodes_of (settled_all gs t))
    pub top : v.top ≡ top_place (settled_all gs t)
    pub totals : Totals join e v.tallies (nodes_of (settled_all gs t))
    pub places : (j : ℕ) → occurs j (nodes_of (settled_all gs t)) ≡ occurs j (nodes_of (put_in_all gs t))
    pub elsewhere : Elsewhere (λ j. occurs j (nodes_of (put_in_all gs t))) recs v.records
    pub beyond : Beyond join e (λ j. occurs j (nodes_of (put_in_all gs t))) ts v.tallies

  pub raises : (n : ℕ) (gs : List (PairFrame K)) (t : PlacedPairs K) (recs : List Record) (ts : List K) → LiesAmong recs (node_frames gs) (nodes_of t) → length gs ≤ n → Totals join e ts (nodes_of t) → Beside join e ts (node_frames gs)
      → Raised recs ts gs t (run n recs ts (top_place t))
  raises n [] t recs ts h few tot bes =
      subst (Raised recs ts [] t) (sym (stops n recs ts (top_place t) (ap is_none (parent_is recs None (nodes_of t) h.laid))))
      record {
        kept = lies_whole recs [] t h;
        top = refl;
        totals = tot;
        places = λ j. refl;
        elsewhere = Rattle.records.proofs.ElsewhereLaws.same _ recs;
        beyond = alike join e _ ts;
      }
  raises zero (g ∷ gs) t recs ts h few tot bes = absurd (omega arith)
  raises (suc n) (g ∷ gs) t recs ts h few tot bes =
      let far : is_none (at recs (top_place t)).parent ≡ false = ap is_none (parent_is recs (above (node_frames (g ∷ gs))) (nodes_of t) h.laid) ∙ has_parent g gs in
      let m = settles recs gs g t h in
      let v : Rise = settled_in recs (top_place t) in
      let u : PlacedPairs K = settled_at g t in
      let st : Steps join e ts (mended_both join e v.table (top_place u) (risen_over g t) ts) gs u = steps_on join e recs v.table gs g t ts h m.focus tot bes in
      let ts2 : List K = mended_both join e v.table (top_place u) (risen_over g t) ts in
      let on : Raised v.table ts2 gs u (run n v.table ts2 (top_place u)) = raises n gs u v.table ts2 m.focus (omega arith) st.totals st.beside in
      let turn : run (suc n) recs ts (top_place t) ≡ run n v.table ts2 (top_place u) =
      goes n recs ts (top_place t) far
      ∙ ap (λ (k : ℕ). run n v.table (mended_both join e v.table k v.low ts) k) m.top
      ∙ ap (λ k. run n v.table (mended_both join e v.table (top_place u) k ts) (top_place u)) m.low in
      let all : (j : ℕ) → occurs j (nodes_of (put_in_all gs u)) ≡ occurs j (nodes_of (put_in_all gs (put_in g t))) = λ j. let a = in_path gs u j in let b = in_path gs (put_in g t) j in let c = places_settle g t j in omega arith in
      let wide : (j : ℕ) → occurs j (nodes_of (put_in_all gs (put_in g t))) ≡ occurs j (nodes_of t) + occurs_around j (node_frames (g ∷ gs)) = λ j. in_path (g ∷ gs) t j in
      subst (Raised recs ts (g ∷ gs) t) (sym turn)
      record {
        kept = on.kept;
        top = on.top;
        totals = on.totals;
        places = λ j. on.places j ∙ all j;
        elsewhere = Rattle.records.proofs.ElsewhereLaws.onward _ _ recs v.table _ (λ j z. let a = all j in omega arith)
            (Rattle.records.proofs.ElsewhereLaws.wider _ _ recs v.table (λ j z. let a = wide j in omega arith) (off_settle recs gs g t h)) on.elsewhere;
        beyond = onward join e _ _ _ ts ts2 _ (λ j z. let a = all j in let b = in_path gs u j in omega arith) (λ j z. let a = all j in omega arith) st.beyond on.beyond;
      }
