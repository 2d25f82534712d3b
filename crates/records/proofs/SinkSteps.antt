-- The ways of a step down, from what it reads.
use Rattle.std.proofs.Common.{◌≡◌, ℕ, zero, suc, ◌<◌, ◌≤◌, Bool, cond, eqb, List, sym, refl, ap, ◌∙◌, arith}
use Rattle.records.specs.declared.record.Record.{Record}
use Rattle.records.specs.declared.places.FourPlaces.{FourPlaces}
use Rattle.records.specs.declared.places.Sinking.TheVariants.{On, Done, Lost}
use Rattle.records.specs.Writes.{at, no_inner, Sink, sinks, sunk_right, sunk_left, child_toward, sunk_pair, sunk_in, followed, struck_in}

abbrev pub chosen : List Record → ℕ → ℕ → Bool → Bool → Bool → Sink
chosen t s k right tree_in left = cond right (sunk_right t s) (cond tree_in (cond left (sunk_left t s) (sinks t (On (child_toward t s k)))) (sinks t (On (child_toward t s k))))

pub reads : (t : List Record) (s k : ℕ) (rs rw : Record) → at t s ≡ rs → at t rs.first ≡ rw → sunk_pair t s k ≡ chosen t s k (eqb k (at t rw.second).rank.code) (no_inner rs) (eqb k (at t rw.first).rank.code)
reads t s k rs rw is is' =
    ap (λ (u : Record). chosen t s k (eqb k (at t (at t u.first).second).rank.code) (no_inner u) (eqb k (at t (at t u.first).first).rank.code)) is
    ∙ ap (λ (v : Record). chosen t s k (eqb k (at t v.second).rank.code) (no_inner rs) (eqb k (at t v.first).rank.code)) is'

-- one run of the loop
pub run_ends : (n : ℕ) (t : List Record) (s k : ℕ) → n ≤ 0 → struck_in n t s k ≡ sinks t (On s)
run_ends zero t s k h = refl
run_ends (suc n) t s k h = absurd (omega arith)

pub run_done : (n : ℕ) (t : List Record) (s k : ℕ) (t' : List Record) (i : ℕ) (f : FourPlaces) → 0 < n → t' ≡ (sunk_in t s k).table → Done i f ≡ (sunk_in t s k).ends → sinks t' (Done i f) ≡ struck_in n t s k
run_done zero t s k t' i f h e e' = absurd (omega arith)
run_done (suc n) t s k t' i f h e e' =
    let go : List Record → ℕ → Sink = λ v u. struck_in n v u k in
    ap (λ v. followed go v (Done i f)) e ∙ ap (followed go (sunk_in t s k).table) e'

pub run_lost : (n : ℕ) (t : List Record) (s k : ℕ) (t' : List Record) → 0 < n → t' ≡ (sunk_in t s k).table → Lost ≡ (sunk_in t s k).ends → sinks t' Lost ≡ struck_in n t s k
run_lost zero t s k t' h e e' = absurd (omega arith)
run_lost (suc n) t s k t' h e e' =
    let go : List Record → ℕ → Sink = λ v u. struck_in n v u k in
    ap (λ v. followed go v Lost) e ∙ ap (followed go (sunk_in t s k).table) e'

pub run_on : (m n : ℕ) (t : List Record) (s k : ℕ) (t' : List Record) (u : ℕ) → m ≡ suc n → t' ≡ (sunk_in t s k).table → On u ≡ (sunk_in t s k).ends → struck_in n t' u k ≡ struck_in m t s k
run_on m n t s k t' u more e e' =
    let go : List Record → ℕ → Sink = λ v u. struck_in n v u k in
    ap (λ v. followed go v (On u)) e ∙ ap (followed go (sunk_in t s k).table) e' ∙ sym (ap (λ (l : ℕ). struck_in l t s k) more)
