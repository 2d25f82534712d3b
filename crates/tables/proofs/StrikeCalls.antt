-- The call strike: what it promises, from what it reads and writes.
use Rattle.std.proofs.Common.{◌≡◌, ℕ, ◌-◌, Bool, true, false, cond, ◌≢◌, List, [], ◌∷◌, length, Ok, Err, sym, refl, ap, ◌∙◌, subst, arith}
use Rattle.std.specs.Option.{unwrap_or}
use Rattle.std.specs.Prelude.{Some}
use mathlib.Core.Option.{none, some}
use Rattle.std.proofs.lemmas.Bool.{eq-eqb, false≢true}
use Rattle.std.specs.Option.{is_none}
use Rattle.records.specs.declared.record.Record.{Record}
use Rattle.records.specs.declared.places.FourPlaces.{FourPlaces}
use Rattle.records.specs.declared.places.Sinking.{Sinking}
use Rattle.records.specs.declared.places.Sinking.TheVariants.{On, Done, Lost}
use Rattle.tables.specs.declared.fault.MapFault.TheVariants.{Absent}
use Rattle.place.specs.Boxes.{Box}
use Rattle.quadtreap.specs.Tree.{Reading, Content, reading, box}
use Rattle.quadtreap.specs.Rank.{without}
use Rattle.quadtreap.specs.Strike.{is_only}
use Rattle.quadtreap.specs.Find.{of_code, lookup}
use Rattle.tables.specs.Calls.{Reply, Call, strikes, is_some, present, roll}
use Rattle.records.specs.Kinds.{is_reading}
use Rattle.records.specs.Links.{Link}
use Rattle.records.specs.PlacedNodes.{leaf_at, LiesIn, record_of, above}
use Rattle.records.specs.Writes.{Sink, struck_in}
use Rattle.records.specs.PlacedPairs.{PlacedPairs, placed_leaf, placed_pair, nodes_of, tree_in, PairFrame, on_left_at, on_right_at, on_outer_at, put_in_all, node_frames}
use Rattle.records.specs.StrikeMoves.{is_leaf_at}
use Rattle.tables.specs.Finds.{LeafOf, Lacks}
use Rattle.tables.specs.Stands.{State, state, Stands, Serves, Keeps}
use Rattle.tables.specs.Removal.{struck_state, emptied_state}
use Rattle.records.proofs.FrameLaws.{LiesAmong}
use Rattle.records.proofs.PairLaws.{lies_among}
use Rattle.tables.proofs.Finds.{Found, held, held_lain, held_top, found}
use Rattle.tables.proofs.StrikeStates.{without_absent, stands_emptied_state, emptied_state_past, last_live, stands_struck, struck_live, records_past, tallies_past, ends_is, v, i, n, after}

-- what a removal answers
abbrev pub is_done : Sinking → Bool
is_done (On s) = false
is_done (Done i n) = true
is_done Lost = false

abbrev leaf_in : Sinking → ℕ
leaf_in (On s) = s
leaf_in (Done i n) = i
leaf_in Lost = 0

abbrev places_in : FourPlaces → Sinking → FourPlaces
places_in d (On s) = d
places_in d (Done i n) = n
places_in d Lost = d

module _ {K : Type 0} (join : K → K → K) (e : K) (k : ℕ) where
  -- no reading has the code
  absent : (s : State K) (cs : List (Call K)) → Stands join e s (roll join s.places cs) → lookup k (roll join s.places cs) ≡ none → Serves join e s s (strikes k) cs (Err Absent)
  absent s cs st lacks =
      let rs : List (Reading K) = roll join s.places cs in
      let gone : present k rs ≡ false = ap is_some lacks in
      record {
        stands = subst (Stands join e s) (sym (without_absent k rs lacks)) st;
        answer = ap (λ b. cond b (Ok (length (without k rs))) (Err Absent)) (sym gone);
        places = refl;
        records_past = λ i d far. refl;
        tallies_past = λ i d far. refl;
        unchanged = λ h. refl;
      }

  pub keeps_absent : (s : State K) → Lacks join e s k → Keeps join e s s (strikes k) (Err Absent)
  keeps_absent s gone cs st = absent s cs st (gone cs st)

  -- what the leaf holds is a reading with the code
  this_content : (c : Content K) (p : Link) (i : ℕ) (C : Box) (q : Record) → q ≡ record_of p (leaf_at i C c) → is_reading q.kind ≡ true → q.rank.code ≡ k → (r : Reading K) × (c ≡ reading r) × (k ≡ r.code)
  this_content (reading r) p i C q is kind code = (r, refl, sym code ∙ ap (λ (x : Record). x.rank.code) is)
  this_content (box I) p i C q is kind code = absurd (mathlib.Core.Bool.false≢true (sym (ap (λ (x : Record). is_reading x.kind) is) ∙ kind))

  -- a leaf under another node is not the only one
  stays_pair : (gs : List (PairFrame K)) (t : PlacedPairs K) → is_leaf_at t ≡ false → is_leaf_at (put_in_all gs t) ≡ false
  stays_pair [] t h = h
  stays_pair (on_left_at s w r C i E R O ∷ gs) t h = stays_pair gs (placed_pair s w r C i E t R O) refl
  stays_pair (on_right_at s w r C i E L O ∷ gs) t h = stays_pair gs (placed_pair s w r C i E L t O) refl
  stays_pair (on_outer_at s w r C i E L R ∷ gs) t h = stays_pair gs (placed_pair s w r C i E L R t) refl

  pair_not_only : (t : PlacedPairs K) → is_leaf_at t ≡ false → is_only (tree_in t) k ≡ false
  pair_not_only (placed_leaf p C c) h = absurd (false≢true (sym h))
  pair_not_only (placed_pair s w r C i E L R O) h = refl

  not_only : (gs : List (PairFrame K)) (t : PlacedPairs K) → is_none (above (node_frames gs)) ≡ false → is_only (tree_in (put_in_all gs t)) k ≡ false
  not_only [] t up = absurd (false≢true (sym up))
  not_only (on_left_at s w r C i E R O ∷ gs) t up = pair_not_only _ (stays_pair gs (placed_pair s w r C i E t R O) refl)
  not_only (on_right_at s w r C i E L O ∷ gs) t up = pair_not_only _ (stays_pair gs (placed_pair s w r C i E L t O) refl)
  not_only (on_outer_at s w r C i E L R ∷ gs) t up = pair_not_only _ (stays_pair gs (placed_pair s w r C i E L R t) refl)

  -- a leaf under no other node is all
  alone : (recs : List Record) (gs : List (PairFrame K)) (t : PlacedPairs K) → LiesAmong recs (node_frames gs) (nodes_of t) → is_none (above (node_frames gs)) ≡ true → t ≡ put_in_all gs t
  alone recs [] t h up = refl
  alone recs (on_left_at s w r C i E R O ∷ gs) t h up = absurd (false≢true up)
  alone recs (on_right_at s w r C i E L O ∷ gs) t h up = absurd (false≢true up)
  alone recs (on_outer_at s w r C i E L R ∷ gs) t h up = absurd (false≢true up)

  module _ (s : State K) (i₀ : ℕ) (q : Record) (l : LeafOf s k i₀ q) where
    abbrev root : ℕ
    root = l.root

    far : s.root ≡ Some root
    far = l.held

    module _ (cs : List (Call K)) (st : Stands join e s (roll join s.places cs)) where
      abbrev rs : List (Reading K)
      rs = roll join s.places cs

      f : Found k s rs (held k join e s rs st root far) i₀
      f = found k join e s rs st root far i₀ l.leads

      this : (r : Reading K) × (f.content ≡ reading r) × (k ≡ r.code)
      this = this_content f.content _ i₀ f.box q (l.lies ∙ f.lies) l.kind l.code

      here : present k rs ≡ true
      here =
          ap is_some (sym f.tells ∙ ap (of_code k) this.1 ∙ ap (λ b. cond b (some this.0) none) (eq-eqb k this.0.code this.2))

      parent : q.parent ≡ above (node_frames f.path)
      parent = ap (λ (x : Record). x.parent) (l.lies ∙ f.lies)

      told : (m : ℕ) → m ≡ length (without k rs) → Ok m ≡ cond (present k rs) (Ok (length (without k rs))) (Err Absent)
      told m is' = ap Ok is' ∙ ap (λ b. cond b (Ok (length (without k rs))) (Err Absent)) (sym here)

      only_leaf : is_none q.parent ≡ true → placed_leaf i₀ f.box (reading this.0) ≡ held k join e s rs st root far
      only_leaf up =
          let kept : LiesIn s.records (nodes_of (put_in_all f.path (placed_leaf i₀ f.box f.content))) = subst (λ u. LiesIn s.records (nodes_of u)) (sym f.whole) (held_lain k join e s rs st root far).kept in
          ap (placed_leaf i₀ f.box) (sym this.1)
          ∙ alone s.records f.path (placed_leaf i₀ f.box f.content) (lies_among s.records f.path (placed_leaf i₀ f.box f.content) kept) (ap is_none (sym parent) ∙ up)
          ∙ f.whole

      serves_last : is_none q.parent ≡ true → (m : ℕ) → m ≡ s.live - 1 → Serves join e s (emptied_state s i₀) (strikes k) cs (Ok m)
      serves_last up m live =
          let lone = only_leaf up in
          record {
            stands = stands_emptied_state join e k s rs st root far i₀ f.box this.0 lone this.2;
            answer = told m (live ∙ last_live join e k s rs st root far i₀ f.box this.0 lone this.2);
            places = refl;
            records_past = emptied_state_past join e k s rs st root far i₀ f.box this.0 lone this.2;
            tallies_past = λ j d h. refl;
            unchanged = λ h. absurd (false≢true h);
          }

      several : is_none q.parent ≡ false → is_only (tree_in (held k join e s rs st root far)) k ≡ false
      several up = subst (λ u. is_only (tree_in u) k ≡ false) f.whole (not_only f.path (placed_leaf i₀ f.box f.content) (ap is_none (sym parent) ∙ up))

      module _ (up : is_none q.parent ≡ false) where
        abbrev end : Sink
        end = v join e k s rs st root far here (several up)

        end_is : struck_in s.places s.records root k ≡ end
        end_is = ap (λ m. struck_in s.places s.records m k) (held_top k join e s rs st root far)

        ends_done : (struck_in s.places s.records root k).ends ≡ Done (i join e k s rs st root far here (several up)) (n join e k s rs st root far here (several up))
        ends_done = ap (λ (w : Sink). w.ends) end_is ∙ ends_is join e k s rs st root far here (several up)

        serves_struck : (m : ℕ) → m ≡ s.live - 1 → Serves join e s (after join e k s rs st root far here (several up)) (strikes k) cs (Ok m)
        serves_struck m live =
            record {
              stands = stands_struck join e k s rs st root far here (several up);
              answer = told m (live ∙ struck_live join e k s rs st root far here (several up));
              places = refl;
              records_past = records_past join e k s rs st root far here (several up);
              tallies_past = tallies_past join e k s rs st root far here (several up);
              unchanged = λ h. absurd (false≢true h);
            }

        after_is : (recs : List Record) (l : ℕ) (m : FourPlaces) → recs ≡ (struck_in s.places s.records root k).table → Done l m ≡ (struck_in s.places s.records root k).ends
            → struck_state join e (state recs s.tallies s.places s.root s.live s.free) l m ≡ after join e k s rs st root far here (several up)
        after_is recs l m table ends =
            let told' = ends ∙ ends_done in
            let at_table : recs ≡ end.table = table ∙ ap (λ (w : Sink). w.table) end_is in
            ap (λ (w : List Record). struck_state join e (state w s.tallies s.places s.root s.live s.free) l m) at_table
            ∙ ap (λ (w : ℕ). struck_state join e (state end.table s.tallies s.places s.root s.live s.free) w m) (ap leaf_in told')
            ∙ ap (struck_state join e (state end.table s.tallies s.places s.root s.live s.free) (i join e k s rs st root far here (several up))) (ap (places_in m) told')

    same_root : (root' : ℕ) → s.root ≡ Some root' → root' ≡ root
    same_root root' here = ap (λ o. unwrap_or o 0) (sym here ∙ far)

    pub keeps_last : is_none q.parent ≡ true → (m : ℕ) → m ≡ s.live - 1 → (s' : State K) → s' ≡ emptied_state s i₀ → Keeps join e s s' (strikes k) (Ok m)
    keeps_last up m live s' new cs st = subst (λ (u : State K). Serves join e s u (strikes k) cs (Ok m)) (sym new) (serves_last cs st up m live)

    pub keeps_struck : is_none q.parent ≡ false → (root' : ℕ) → s.root ≡ Some root' → (recs : List Record) (l : ℕ) (p : FourPlaces) → recs ≡ (struck_in s.places s.records root' k).table → Done l p ≡ (struck_in s.places s.records root' k).ends
        → (m : ℕ) → m ≡ s.live - 1 → (s' : State K) → s' ≡ struck_state join e (state recs s.tallies s.places s.root s.live s.free) l p → Keeps join e s s' (strikes k) (Ok m)
    keeps_struck up root' here' recs l p table ends m live s' new cs st =
        let same = same_root root' here' in
        subst (λ (u : State K). Serves join e s u (strikes k) cs (Ok m)) (sym (new ∙ after_is cs st up recs l p (table ∙ ap (λ (m : ℕ). (struck_in s.places s.records m k).table) same) (ends ∙ ap (λ (m : ℕ). (struck_in s.places s.records m k).ends) same))) (serves_struck cs st up m live)

    -- a live reading is never missed, so the other answers never come
    pub keeps_never : is_none q.parent ≡ false → (root' : ℕ) → s.root ≡ Some root' → (r : Sinking) → r ≡ (struck_in s.places s.records root' k).ends → is_done r ≡ false → (s' : State K) (a : Reply) → Keeps join e s s' (strikes k) a
    keeps_never up root' here' r ends other s' a cs st =
        absurd (false≢true (sym other ∙ ap is_done (ends ∙ ap (λ (m : ℕ). (struck_in s.places s.records m k).ends) (same_root root' here') ∙ ends_done cs st up)))
