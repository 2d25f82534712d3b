-- Bytes and the zeros after them.
use Rattle.std.proofs.Common.{◌≡◌, ℕ, ◌+◌, ◌-◌, ◌≤◌, List, ◌++◌, length, take, drop, replicate, sym, refl, ap, ◌∙◌, append_assoc, arith, length-append}
use Rattle.std.proofs.lemmas.List.{take_at, drop_at, drop-drop, take-append-drop, drop-replicate, length-replicate}
use Rattle.std.proofs.lemmas.Slice.{take-put_mid}
use borrow.Rule.Slice.PartMut.{put_mid}
use Rattle.journal.specs.Padded.{Holds}

-- The first bytes of an array, as many as it holds, are those that it holds.
pub held_front : {bs t : List ℕ} {len : ℕ} (n : ℕ) → Holds n bs len t → take len bs ≡ t
held_front {bs} {t} {len} n h = ap (take len) h.text ∙ take_at t (replicate (n - length t) 0) len (sym h.count)

-- Zeros stand behind what an array holds.
zeros_behind : {bs t : List ℕ} {len : ℕ} (n : ℕ) → Holds n bs len t → drop len bs ≡ replicate (n - len) 0
zeros_behind {bs} {t} {len} n h =
    ap (drop len) h.text ∙ drop_at t (replicate (n - length t) 0) len (sym h.count) ∙ ap (λ m. replicate (n - m) 0) (sym h.count)

-- Bytes are written over the first zeros of an array, as many as are written over.
module _ {n len k : ℕ} {bs : List ℕ} (more : List ℕ) (room : len + length more ≤ n) (as_many : k ≡ length more) (h : Holds n bs len (take len bs)) where
  -- Then they stand behind what was held before.
  pub written : take (len + length more) (put_mid len k bs more) ≡ take len bs ++ more
  written =
      let long : length bs ≡ length (take len bs) + (n - length (take len bs)) = ap length h.text ∙ length-append (take len bs) _ ∙ ap (λ m. length (take len bs) + m) (length-replicate _ 0) in
      take-put_mid len k bs more (len + length more) refl (omega (arith, long, h.count))

  -- Then the array holds both, and zeros.
  pub held_more : Holds n (put_mid len k bs more) (len + length more) (take (len + length more) (put_mid len k bs more))
  held_more =
      let count : len + length more ≡ length (take len bs ++ more) = omega (arith, h.count, length-append (take len bs) more) in
      let left : drop k (drop len bs) ≡ replicate (n - length (take len bs ++ more)) 0 =
      ap (drop k) (zeros_behind n h) ∙ drop-replicate k (n - len) 0 ∙ ap (λ m. replicate m 0) (omega (arith, as_many, count)) in
      rw written record {
        fits = omega (arith, count);
        count = count;
        text = ap (λ x. take len bs ++ (more ++ x)) left ∙ sym (append_assoc (take len bs) more _);
      }

-- An array that has the bytes of another up to a place, then more, and then those of the other again, is the other with more written over it there.
pub written_over : (len start end : ℕ) (bs cs more : List ℕ) → start ≡ len → end ≡ len + length more → drop start cs ≡ more ++ drop end bs → take start cs ≡ take start bs → cs ≡ put_mid len (length more) bs more
written_over len start end bs cs more s e behind before =
    sym (take-append-drop start cs)
    ∙ ap (λ x. x ++ drop start cs) before
    ∙ ap (λ x. take start bs ++ x) behind
    ∙ ap (λ m. take m bs ++ (more ++ drop end bs)) s
    ∙ ap (λ x. take len bs ++ (more ++ x)) (ap (λ m. drop m bs) e ∙ sym (drop-drop (length more) len bs))

-- A piece and what is written behind it are written one after the other.
pub then_more : (u : List ℕ) {v w x a : List ℕ} (b : List ℕ) → v ≡ u ++ x → x ≡ a → w ≡ v ++ b → w ≡ u ++ (a ++ b)
then_more u {a = a} b e is f = f ∙ ap (λ y. y ++ b) (e ∙ ap (λ y. u ++ y) is) ∙ append_assoc u a b

-- A last piece is written.
pub then_last : (v : List ℕ) {w x b : List ℕ} → w ≡ v ++ x → x ≡ b → w ≡ v ++ b
then_last v e is = e ∙ ap (λ y. v ++ y) is
