-- A leaf takes the place of its pair.
use Rattle.std.proofs.Common.{◌≡◌, ℕ, ◌+◌, ◌≤◌, List, [], ◌∷◌, sym, subst, arith}
use mathlib.Core.Option.{Option}
use Rattle.records.specs.declared.record.Record.{Record}
use Rattle.place.specs.Boxes.{Box}
use Rattle.quadtreap.specs.Tree.{Content, box_in}
use Rattle.quadtreap.specs.declared.rank.Rank.{Rank}
use Rattle.records.specs.Links.{Link}
use Rattle.records.specs.PlacedNodes.{PlacedNodes, leaf_at, pair_at, one, occurs, Shallow, record_of, Lies, NodeFrame, above}
use Rattle.records.specs.Writes.{Write, write, wrote, relinked, replaced_in}
use Rattle.records.specs.Elsewhere.{Elsewhere}
use Rattle.records.proofs.FrameLaws.{touched, here, occurs_around, LiesAmong}
use Rattle.records.proofs.WriteLaws.{written, holds_on}
use Rattle.records.proofs.ElsewhereLaws.{used_by, by_relinking}

module _ {K : Type 0} (recs : List Record) (f : List (NodeFrame K)) (s w : ℕ) (r : Rank) (C : Box) (i : Option Box) (E : Box) (L R O : PlacedNodes K) (h : LiesAmong recs f (pair_at s w r C i E L R O))
    (q : Link) (j : ℕ) (B : Box) (c : Content K) (lies : Lies recs j (record_of q (leaf_at j B c))) (inside : (x : ℕ) → one x j ≤ occurs x (pair_at s w r C i E L R O)) (deep : Shallow (box_in c)) where
  abbrev pub replace_writes : List Write
  replace_writes = write j (record_of (above f) (leaf_at j C c)) ∷ []

  pub replace_computes : replaced_in recs s j ≡ wrote replace_writes (relinked recs (above f) s j)
  replace_computes = let e1 = h.laid.0.reads in let e2 = lies.reads in simp (e1, e2)

  replace_apart : (x : ℕ) → touched x replace_writes + occurs_around x f ≤ 1
  replace_apart x = let n = h.once x in let z = inside x in omega arith

  pub replaces : LiesAmong (replaced_in recs s j) f (leaf_at j C c)
  replaces =
      subst (λ t. LiesAmong t f (leaf_at j C c)) (sym replace_computes)
      record {
        laid = written recs f s j replace_writes replace_apart j _ here lies.within;
        around = holds_on recs f s j replace_writes replace_apart (λ x. let n = h.once x in omega arith) h.around;
        once = λ x. let n = h.once x in let z = inside x in omega arith;
        low = λ x u. let n = h.low x u in let z = inside x in omega arith;
        sized = (h.sized.0, deep);
        framed = h.framed;
      }

  pub off_replaced : Elsewhere (used_by f (pair_at s w r C i E L R O)) recs (replaced_in recs s j)
  off_replaced =
      subst (Elsewhere (used_by f (pair_at s w r C i E L R O)) recs) (sym replace_computes) (by_relinking _ recs f s j replace_writes (λ x z. let i = inside x in omega arith))
