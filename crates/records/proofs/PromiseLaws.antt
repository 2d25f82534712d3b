-- The promises, from what the functions do to the table.
use Rattle.std.proofs.Common.{◌≡◌, ℕ, ◌+◌, ◌≤◌, List, ◌∷◌, sym, refl, ap, subst, arith, length-set, get_or-set_other, get_or-set_same}
use Rattle.records.specs.declared.record.Record.{Record}
use Rattle.records.specs.declared.places.FourPlaces.{FourPlaces}
use Rattle.quadtreap.specs.declared.rank.Rank.{Rank}
use Rattle.quadtreap.specs.Rank.{rank_of}
use Rattle.records.specs.Links.{Link}
use Rattle.records.specs.PlacedNodes.{splits, node_at, one, occurs, blank, LiesIn}
use Rattle.records.specs.Writes.{promoted_left, promoted_outer, ordered_in, settled_in, descended, planted, first_planted}
use Rattle.records.specs.PlacedPairs.{placed_leaf, placed_pair, nodes_of, top_place, put_in_all, node_frames, ordered_at, planted_at, Free, four}
use Rattle.records.specs.Elsewhere.{Elsewhere}
use Rattle.records.specs.Promises.{LeftRises, OuterRises, Orders, Descends, PlantedFirst, PlantsFirst, Plants, Rises, Settles}
use Rattle.records.proofs.FrameLaws.{one_le, one_not, differ, touched, occurs_around, LiesAmong}
use Rattle.records.proofs.PromoteLaws.{rises_left, rises_outer, orders}
use Rattle.records.proofs.SettleLaws.{nodes_ordered, settles}
use Rattle.records.proofs.PairLaws.{tree_ordered, tree_settle, ranks_settle, lies_among, lies_whole}
use Rattle.records.proofs.DescendLaws.{descends_whole}
use Rattle.records.proofs.PlantLaws.{new_writes, plants, tree_plant, ranks_plant, place_plant}
use Rattle.records.proofs.CountLaws.{places_settle, places_plant}
use Rattle.records.proofs.ElsewhereLaws.{wider, whole_used, same_whole, off_left, off_outer, off_ordered, off_settle, off_plant}

pub left_rises : (K : Type 0) (recs : List Record) (x : ℕ) → LeftRises K recs (promoted_left recs x) x
left_rises K recs x gs w y v r q C E B F i k A D o R O h =
    record {
      kept =
          lies_whole (promoted_left recs x) gs _
          (rises_left recs (node_frames gs) x w y r q C E B i k (node_at splits v q F k (nodes_of A) (nodes_of D)) (nodes_of o) (nodes_of R) (nodes_of O) (lies_among recs gs _ h));
      tree = refl;
      same = same_whole gs _ recs _ (off_left recs (node_frames gs) x w y r q C E B i k (node_at splits v q F k (nodes_of A) (nodes_of D)) (nodes_of o) (nodes_of R) (nodes_of O) (lies_among recs gs _ h));
    }

pub outer_rises : (K : Type 0) (recs : List Record) (s : ℕ) → OuterRises K recs (promoted_outer recs s) s
outer_rises K recs s gs w x v r q C E B F i k L R A D o h =
    record {
      kept =
          lies_whole (promoted_outer recs s) gs _
          (rises_outer recs (node_frames gs) s x v r q C B F i k (node_at splits w r E i (nodes_of L) (nodes_of R)) (nodes_of A) (nodes_of D) (nodes_of o) (lies_among recs gs _ h));
      tree = refl;
      same = same_whole gs _ recs _ (off_outer recs (node_frames gs) s x v r q C B F i k (node_at splits w r E i (nodes_of L) (nodes_of R)) (nodes_of A) (nodes_of D) (nodes_of o) (lies_among recs gs _ h));
    }

pub is_ordered : (K : Type 0) (recs : List Record) (s : ℕ) → Orders K recs (ordered_in recs s) s
is_ordered K recs s gs w r C E i L R O hl hr h =
    record {
      kept =
          lies_whole (ordered_in recs s) gs (ordered_at s w C i E L R O)
          (subst (LiesAmong (ordered_in recs s) (node_frames gs)) (sym (nodes_ordered s w C i E L R O)) (orders recs (node_frames gs) s w r C i E (nodes_of L) (nodes_of R) (nodes_of O) (lies_among recs gs _ h)));
      tree = tree_ordered s w r C i E L R O hl hr;
      same = same_whole gs (placed_pair s w r C i E L R O) recs _ (off_ordered recs (node_frames gs) s w r C i E (nodes_of L) (nodes_of R) (nodes_of O) (lies_among recs gs _ h));
    }

pub is_reached : (K : Type 0) (recs : List Record) (root k n : ℕ) → Descends K recs root k n (descended n recs root k)
is_reached K recs root k n t h at few = subst (λ j. Rattle.records.specs.PlacedPairs.Reaches t k (descended n recs j k)) (sym at) (descends_whole recs k n t h few)

pub settled : (K : Type 0) (recs : List Record) (s : ℕ) → Settles K recs (settled_in recs s).table s (settled_in recs s).top (settled_in recs s).low
settled K recs s gs g t hg ht at h =
    let m = settles recs gs g t (lies_among recs (g ∷ gs) t h) in
    subst (λ j. Rises recs (settled_in recs j).table gs g t (settled_in recs j).top (settled_in recs j).low) (sym at)
    record {
      kept = lies_whole (settled_in recs (top_place t)).table gs _ m.focus;
      tree = tree_settle g t hg ht;
      right = ranks_settle g t hg ht;
      at_top = m.top;
      below = m.low;
      places = places_settle g t;
      same = same_whole (g ∷ gs) t recs _ (off_settle recs gs g t (lies_among recs (g ∷ gs) t h));
    }

pub is_planted : (K : Type 0) (recs : List Record) (i : ℕ) (q : Rank) (n : FourPlaces) → Plants K recs (planted recs i q n) i q n
is_planted K recs i q n gs C c p is h free small =
    let f = lies_among recs gs (placed_leaf i C c) h in
    let whole : (j : ℕ) → occurs j (nodes_of (put_in_all gs (placed_leaf i C c))) ≡ occurs j (nodes_of (placed_leaf i C c)) + occurs_around j (node_frames gs) = whole_used gs (placed_leaf i C c) in
    let near : Free recs (placed_leaf i C c) n =
    record { shrink = free.shrink; split = free.split; reading = free.reading; outer = free.outer; low = free.low; apart = λ j. let q = free.apart j in let e = whole j in omega arith } in
    let e : planted recs i (rank_of p) n ≡ planted recs i q n = ap (λ a. planted recs i a n) is in
    let new : (j : ℕ) → touched j (new_writes recs (node_frames gs) i C p n c) + occurs_around j (node_frames gs) ≤ 1 = λ j. let q = free.apart j in let e = whole j in omega arith in
    let used : ℕ → ℕ = λ j. four j n + occurs j (nodes_of (put_in_all gs (placed_leaf i C c))) in
    record {
      kept = subst (λ t. LiesIn t (nodes_of (put_in_all gs (planted_at n i C c p)))) e
          (lies_whole (planted recs i (rank_of p) n) gs (planted_at n i C c p) (plants recs (node_frames gs) i C p n c f near new small));
      tree = tree_plant n i C c p;
      right = ranks_plant n i C c p;
      top = place_plant n i C c p;
      places = places_plant n i C c p;
      same = subst (Elsewhere used recs) e
          (wider used (λ j. four j n + (one j i + occurs_around j (node_frames gs))) recs _ (λ j z. let q = whole j in omega arith) (off_plant recs (node_frames gs) i C p n c f near new small));
    }

pub is_planted_first : (K : Type 0) (recs : List Record) (i : ℕ) (q : Rank) → PlantsFirst K recs (first_planted recs i q) i q
is_planted_first K recs i q p is within low =
    subst (λ a. PlantedFirst recs (first_planted recs i a) i p) is
    record {
      kept = record {
        laid = record { within = simp length-set within; reads = get_or-set_same recs i _ blank within };
        once = λ j. one_le j i;
        low = λ j u. one_not j i (λ e. omega arith);
        sized = (omega arith, tt);
      };
      tree = refl;
      right = tt;
      same = record { long = length-set recs i _; reads = λ j u. get_or-set_other recs i j _ blank (differ j i u) };
    }

-- the same of a table that is known to be what the function makes of another
pub left_lifts : (K : Type 0) (recs exit : List Record) (x : ℕ) → exit ≡ promoted_left recs x → LeftRises K recs exit x
left_lifts K recs exit x e = subst (λ t. LeftRises K recs t x) (sym e) (left_rises K recs x)

pub outer_lifts : (K : Type 0) (recs exit : List Record) (s : ℕ) → exit ≡ promoted_outer recs s → OuterRises K recs exit s
outer_lifts K recs exit s e = subst (λ t. OuterRises K recs t s) (sym e) (outer_rises K recs s)

pub ordered_lifts : (K : Type 0) (recs exit : List Record) (s : ℕ) → exit ≡ ordered_in recs s → Orders K recs exit s
ordered_lifts K recs exit s e = subst (λ t. Orders K recs t s) (sym e) (is_ordered K recs s)

pub descend_lifts : (K : Type 0) (recs : List Record) (root k n i : ℕ) → i ≡ descended n recs root k → Descends K recs root k n i
descend_lifts K recs root k n i e = subst (Descends K recs root k n) (sym e) (is_reached K recs root k n)

pub plant_lifts : (K : Type 0) (recs exit : List Record) (i : ℕ) (q : Rank) (n : FourPlaces) → exit ≡ planted recs i q n → Plants K recs exit i q n
plant_lifts K recs exit i q n e = subst (λ t. Plants K recs t i q n) (sym e) (is_planted K recs i q n)

pub plant_first_lifts : (K : Type 0) (recs exit : List Record) (i : ℕ) (q : Rank) → exit ≡ first_planted recs i q → PlantsFirst K recs exit i q
plant_first_lifts K recs exit i q e = subst (λ t. PlantsFirst K recs t i q) (sym e) (is_planted_first K recs i q)

pub settle_lifts : (K : Type 0) (recs exit : List Record) (s top : ℕ) (low : Link) → exit ≡ (settled_in recs s).table → top ≡ (settled_in recs s).top → low ≡ (settled_in recs s).low → Settles K recs exit s top low
settle_lifts K recs exit s top low e e' e'' =
    subst (λ t. Settles K recs t s top low) (sym e)
    (subst (λ t. Settles K recs (settled_in recs s).table s t low) (sym e')
    (subst (λ t. Settles K recs (settled_in recs s).table s (settled_in recs s).top t) (sym e'') (settled K recs s)))
