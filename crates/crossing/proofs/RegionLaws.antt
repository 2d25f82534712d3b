-- What the tests of a region say of its places.
use Rattle.std.proofs.Common.{◌≡◌, ℕ, ◌^◌, ◌<◌, true, false, not, ◌&&◌, ◌⊎◌, sym, ap, ◌∙◌, inl, inr}
use Rattle.std.proofs.lemmas.Bool.{cases_Bool, and_from, and_parts, not_from_true, not_from_false, not-true, not-false, both_ways}
use Rattle.std.proofs.lemmas.Bool.Decides.{same_from_decides}
use Rattle.crossing.specs.Counting.{any_below}
use Rattle.crossing.specs.Regions.{Places, beyond, meets, misses, held, crosses, Found}
use Rattle.crossing.specs.Laws.{MissesMeans, HeldMeans, CrossesMeans}
use Rattle.crossing.proofs.CountLaws.{any_some, some_any}

-- a search over places finds exactly what is there
pub found : (region s : Places) → meets region s ≡ true → Found region s
unfolding meets
found region s h =
    let u = any_some (2 ^ 16) (λ m. any_below (2 ^ 16) (λ r. region m r && s m r)) h in
    let v = any_some (2 ^ 16) (λ r. region u.0 r && s u.0 r) u.2 in
    let w = and_parts (region u.0 v.0) (s u.0 v.0) v.2 in
    record { motor = u.0; root = v.0; motor_lt = u.1; root_lt = v.1; in_region = w.0; in_set = w.1 }

pub meets_found : (region s : Places) → Found region s → meets region s ≡ true
unfolding meets
meets_found region s f =
    some_any (2 ^ 16) (λ m. any_below (2 ^ 16) (λ r. region m r && s m r)) f.motor f.motor_lt
    (some_any (2 ^ 16) (λ r. region f.motor r && s f.motor r) f.root f.root_lt
    (and_from (region f.motor f.root) (s f.motor f.root) f.in_region f.in_set))

pub misses_means : MissesMeans
unfolding misses
misses_means region inner = (
  (λ e f. both_ways (meets region inner) (not-true (meets region inner) e) (meets_found region inner f)),
  (λ g. not_from_false (meets region inner) (none (cases_Bool (meets region inner)) g)),
)
  where
    none : (meets region inner ≡ true) ⊎ (meets region inner ≡ false) → (Found region inner → ⊥) → meets region inner ≡ false
    none (inl e) g = absurd (g (found region inner e))
    none (inr e) g = e

pub held_means : HeldMeans
unfolding held
held_means region outer = (to, from)
  where
    to : not (meets region (beyond outer)) ≡ true → (m r : ℕ) → m < 2 ^ 16 → r < 2 ^ 16 → region m r ≡ true → outer m r ≡ true
    to e m r hm hr b = pick (cases_Bool (outer m r))
      where
        pick : (outer m r ≡ true) ⊎ (outer m r ≡ false) → outer m r ≡ true
        pick (inl d) = d
        pick (inr d) =
            absurd
            (both_ways (meets region (beyond outer)) (not-true (meets region (beyond outer)) e)
            (meets_found region (beyond outer)
            (record { motor = m; root = r; motor_lt = hm; root_lt = hr; in_region = b; in_set = not_from_false (outer m r) d })))

    from : ((m r : ℕ) → m < 2 ^ 16 → r < 2 ^ 16 → region m r ≡ true → outer m r ≡ true) → not (meets region (beyond outer)) ≡ true
    from g = not_from_false (meets region (beyond outer)) (none (cases_Bool (meets region (beyond outer))))
      where
        none : (meets region (beyond outer) ≡ true) ⊎ (meets region (beyond outer) ≡ false) → meets region (beyond outer) ≡ false
        none (inl e) =
            let f = found region (beyond outer) e in
            absurd (both_ways (outer f.motor f.root) (not-true (outer f.motor f.root) f.in_set) (g f.motor f.root f.motor_lt f.root_lt f.in_region))
        none (inr e) = e

pub crosses_means : CrossesMeans
unfolding crosses misses held
crosses_means region inner outer = (
  (λ h.
      let w = and_parts (not (misses region inner)) (not (held region outer)) h in (
        found region inner (not-false (meets region inner) (not-true (misses region inner) w.0)),
        found region (beyond outer) (not-false (meets region (beyond outer)) (not-true (held region outer) w.1)),
      )),
  (λ f. and_from (not (misses region inner)) (not (held region outer))
      (not_from_false (misses region inner) (not_from_true (meets region inner) (meets_found region inner f.0)))
      (not_from_false (held region outer) (not_from_true (meets region (beyond outer)) (meets_found region (beyond outer) f.1)))),
)

-- regions with the same places meet the same sets
pub meets_same : (a b s : Places) → ((m r : ℕ) → m < 2 ^ 16 → r < 2 ^ 16 → a m r ≡ b m r) → meets a s ≡ meets b s
meets_same a b s h = same_from_decides (meets a s) (meets b s) (found a s, meets_found a s) ((λ e. over b a back (found b s e)), (λ f. meets_found b s (over a b h f)))
  where
    back : (m r : ℕ) → m < 2 ^ 16 → r < 2 ^ 16 → b m r ≡ a m r
    back m r hm hr = sym (h m r hm hr)

    over : (x y : Places) → ((m r : ℕ) → m < 2 ^ 16 → r < 2 ^ 16 → x m r ≡ y m r) → Found x s → Found y s
    over x y e f =
        record {
          motor = f.motor;
          root = f.root;
          motor_lt = f.motor_lt;
          root_lt = f.root_lt;
          in_region = sym (e f.motor f.root f.motor_lt f.root_lt) ∙ f.in_region;
          in_set = f.in_set;
        }

pub misses_same : (a b inner : Places) → ((m r : ℕ) → m < 2 ^ 16 → r < 2 ^ 16 → a m r ≡ b m r) → misses a inner ≡ misses b inner
unfolding misses
misses_same a b inner h = ap not (meets_same a b inner h)

pub held_same : (a b outer : Places) → ((m r : ℕ) → m < 2 ^ 16 → r < 2 ^ 16 → a m r ≡ b m r) → held a outer ≡ held b outer
unfolding held
held_same a b outer h = ap not (meets_same a b (beyond outer) h)
