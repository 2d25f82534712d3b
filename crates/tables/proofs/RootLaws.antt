-- The way up by the parents, to the root.
use Rattle.std.proofs.Common.{◌≡◌, ℕ, zero, suc, ◌+◌, ◌-◌, ◌<◌, ◌≤◌, List, [], ◌∷◌, length, sym, refl, ap, ◌∙◌, arith, None, Some}
use Rattle.records.specs.declared.record.Record.{Record}
use Rattle.records.specs.Links.{Link}
use Rattle.records.specs.PlacedNodes.{PlacedNodes, leaf_at, node_at, place_of, record_of, NodeFrame, first, second, plug, above}
use Rattle.records.specs.Writes.{at}
use Rattle.tables.specs.Removal.{up_or, root_above}
use Rattle.records.proofs.FrameLaws.{root_lies, LiesAmong, up_first, up_second}

-- a node without a parent is the root
pub stops : (recs : List Record) (n i : ℕ) → (at recs i).parent ≡ None → root_above n recs i ≡ i
stops recs zero i is = refl
stops recs (suc n) i is = ap (up_or i (root_above n recs)) is

goes : (recs : List Record) (n i p : ℕ) → (at recs i).parent ≡ Some p → root_above (suc n) recs i ≡ root_above n recs p
goes recs n i p is = ap (up_or i (root_above n recs)) is

-- one turn of the loop, with d behind it: r is what it reads
pub turns : (recs : List Record) (n d i up : ℕ) (r : Record) → d < n → r ≡ at recs i → r.parent ≡ Some up → root_above (n - (d + 1)) recs up ≡ root_above (n - d) recs i
turns recs n d i up r go is has =
    let left : n - d ≡ suc (n - (d + 1)) = omega arith in
    sym (goes recs (n - (d + 1)) i up (ap (λ (v : Record). v.parent) (sym is) ∙ has)) ∙ ap (λ (m : ℕ). root_above m recs i) (sym left)

module _ {K : Type 0} (recs : List Record) where
  root_parent : (p : Link) (t : PlacedNodes K) → (record_of p t).parent ≡ p
  root_parent p (leaf_at q C c) = refl
  root_parent p (node_at k q r C g a b) = refl

  pub parent_is : (f : List (NodeFrame K)) (t : PlacedNodes K) → LiesAmong recs f t → (at recs (place_of t)).parent ≡ above f
  parent_is f t h = ap (λ (v : Record). v.parent) (root_lies recs (above f) t h.laid).reads ∙ root_parent (above f) t

  pub tops : (n : ℕ) (f : List (NodeFrame K)) (t : PlacedNodes K) → LiesAmong recs f t → length f ≤ n → root_above n recs (place_of t) ≡ place_of (plug f t)
  tops n [] t h few = stops recs n (place_of t) (parent_is [] t h)
  tops zero (first k p r C g b ∷ f) t h few = absurd (omega arith)
  tops zero (second k p r C g a ∷ f) t h few = absurd (omega arith)
  tops (suc n) (first k p r C g b ∷ f) t h few =
      goes recs n (place_of t) p (parent_is (first k p r C g b ∷ f) t h)
      ∙ tops n f (node_at k p r C g t b) (up_first recs f k p r C g t b h) (omega arith)
  tops (suc n) (second k p r C g a ∷ f) t h few =
      goes recs n (place_of t) p (parent_is (second k p r C g a ∷ f) t h)
      ∙ tops n f (node_at k p r C g a t) (up_second recs f k p r C g a t h) (omega arith)
