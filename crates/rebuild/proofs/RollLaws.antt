-- What the calls of a list do, on its readings.
use Rattle.std.proofs.Common.{◌≡◌, ℕ, suc, ◌+◌, Bool, true, false, cond, List, [], ◌∷◌, map, filter, length, refl, ap, sym, ◌∙◌, inl, inr, arith, Ok, Err}
use Rattle.std.specs.Prelude.{◌==◌}
use Rattle.std.specs.List.{insert, position_or_len}
use Rattle.std.proofs.lemmas.Bool.{cases_Bool, both_ways}
use Rattle.quadtreap.specs.Tree.{Reading}
use Rattle.quadtreap.specs.Rank.{before, put, other, without}
use Rattle.std.proofs.Math.Option.{some}
use Rattle.quadtreap.specs.Find.{lookup}
use Rattle.tables.specs.Calls.{is_some, present, full, enters, strikes}
use Rattle.tables.specs.declared.fault.MapFault.TheVariants.{Absent}
use Rattle.replay.specs.Weights.{Weighed}
use Rattle.rebuild.specs.declared.node.Live.{Live}
use Rattle.rebuild.specs.Trees.{reading_of}
use Rattle.rebuild.specs.Rolls.{comes_after, Called}

-- what is put one place further on stands behind the first
insert_later : (r new : Live) (rs : List Live) (n : ℕ) → insert (r ∷ rs) (1 + n) new ≡ r ∷ insert rs n new
insert_later r new rs n = let more : 1 + n ≡ suc n = omega arith in ap (λ (k : ℕ). insert (r ∷ rs) k new) more

-- a reading put at its rank stands before the first that ranks after it
pub put_is : (new : Live) (rs : List Live) → map reading_of (insert rs (position_or_len (comes_after new.rank) rs) new) ≡ put (reading_of new) (map reading_of rs)
unfolding before
put_is new [] = refl
put_is new (r ∷ rs) =
    elim (cases_Bool (comes_after new.rank r)) [
      | inl first ↦ rw first refl
      | inr later ↦ rw later
          (ap (map reading_of) (insert_later r new rs (position_or_len (comes_after new.rank) rs))
          ∙ ap (λ (qs : List (Reading Weighed)). reading_of r ∷ qs) (put_is new rs))
    ]

-- the readings with other codes
pub without_is : (k : ℕ) (rs : List Live) → map reading_of (filter (λ (r : Live). other k (reading_of r)) rs) ≡ without k (map reading_of rs)
without_is k [] = refl
without_is k (r ∷ rs) =
    elim (cases_Bool (other k (reading_of r))) [
      | inl stays ↦ rw stays (ap (λ (qs : List (Reading Weighed)). reading_of r ∷ qs) (without_is k rs))
      | inr goes ↦ rw goes (without_is k rs)
    ]

-- where no reading has the code, none goes
pub without_absent : (k : ℕ) (rs : List (Reading Weighed)) → present k rs ≡ false → without k rs ≡ rs
without_absent k [] h = refl
without_absent k (r ∷ rs) h =
    elim (cases_Bool (k == r.code)) [
      | inl is ↦ absurd (both_ways (present k (r ∷ rs)) h (ap (λ (b : Bool). is_some (cond b (some r) (lookup k rs))) is))
      | inr not-is ↦ rw not-is (ap (λ (qs : List (Reading Weighed)). r ∷ qs) (without_absent k rs (sym (ap (λ (b : Bool). is_some (cond b (some r) (lookup k rs))) not-is) ∙ h)))
    ]

-- one more reading is one more
length_put : (p : Reading Weighed) (rs : List (Reading Weighed)) → length (put p rs) ≡ suc (length rs)
length_put p [] = refl
length_put p (r ∷ rs) = elim (cases_Bool (before p r)) [ inl first ↦ rw first refl | inr later ↦ rw later (ap suc (length_put p rs)) ]

-- a reading that is put on the list
pub entered : (N n i : ℕ) (new : Live) (rs rs' : List Live) → present new.rank.code (map reading_of rs) ≡ false → full N (map reading_of rs) ≡ false
    → i ≡ position_or_len (comes_after new.rank) rs → rs' ≡ insert rs i new → n ≡ length (map reading_of rs')
    → Called N (enters new.rank.code new.rank.priority new.tally) (map reading_of rs) (map reading_of rs') (Ok n)
entered N n i new rs rs' gone room at made count =
    let old : List (Reading Weighed) = map reading_of rs in
    let is : map reading_of rs' ≡ put (reading_of new) old =
    ap (map reading_of) (made ∙ ap (λ (k : ℕ). insert rs k new) at) ∙ put_is new rs in
    record {
      answer = rw (gone, room) (ap Ok (count ∙ ap length is ∙ length_put (reading_of new) old));
      live = rw (gone, room) is;
    }

-- a reading that is taken off the list
pub taken_off : (N n k : ℕ) (rs rs' : List Live) → present k (map reading_of rs) ≡ true
    → rs' ≡ filter (λ (r : Live). other k (reading_of r)) rs → n ≡ length (map reading_of rs')
    → Called N (strikes k) (map reading_of rs) (map reading_of rs') (Ok n)
taken_off N n k rs rs' there made count =
    let is : map reading_of rs' ≡ without k (map reading_of rs) = ap (map reading_of) made ∙ without_is k rs in
    record {
      answer = rw there (ap Ok (count ∙ ap length is));
      live = is;
    }

-- a strike that is refused
pub not_there : (N k : ℕ) (rs : List Live) → present k (map reading_of rs) ≡ false → Called N (strikes k) (map reading_of rs) (map reading_of rs) (Err Absent)
not_there N k rs gone = record {
  answer = rw gone refl;
  live = sym (without_absent k (map reading_of rs) gone);
}
