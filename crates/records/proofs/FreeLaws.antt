-- A free place is taken, and a place is given back.
use Rattle.std.proofs.Common.{◌≡◌, ℕ, ◌+◌, ◌<◌, ◌≤◌, min, cond, List, [], ◌∷◌, length, sym, refl, ap, ◌∙◌, subst, inl, inr, arith, length-set, get_or-set_other, get_or-set_same, None, Some}
use Rattle.std.specs.Option.{unwrap_or}
use Rattle.std.proofs.lemmas.Bool.{cases_lt, cases_eq, le-leb, lt-leb}
use Rattle.records.specs.declared.record.Record.{Record}
use Rattle.records.specs.declared.places.FourPlaces.{FourPlaces}
use Rattle.records.specs.declared.places.FreePlaces.{FreePlaces}
use Rattle.records.specs.Links.{Link}
use Rattle.records.specs.PlacedNodes.{one, blank}
use Rattle.records.specs.Writes.{at, with_parent}
use Rattle.records.specs.PlacedPairs.{four}
use Rattle.records.specs.Elsewhere.{Elsewhere}
use Rattle.records.specs.Free.{next, left_of, left_after, four_taken, four_left, linked, given_back, four_linked, four_given, among, unused, free_at, Chain, FreeIn, Opens, TakesOne, TakesFour, GivesOne, GivesFour}
use Rattle.records.proofs.FrameLaws.{one_same, one_not, differ}

-- places that were never used
unused_next : (fresh j : ℕ) → unused fresh j ≡ one j fresh + unused (fresh + 1) j
unused_next fresh j =
    elim (cases_lt j fresh) [
      | inl l ↦
          let a : unused fresh j ≡ 0 = ap (λ b. cond {A = ℕ} b 1 0) (lt-leb fresh j l) in
          let b : unused (fresh + 1) j ≡ 0 = ap (λ b. cond {A = ℕ} b 1 0) (lt-leb (fresh + 1) j (omega arith)) in
          let c = one_not j fresh (λ z. omega arith) in
          omega arith
      | inr l ↦
          let a : unused fresh j ≡ 1 = ap (λ b. cond {A = ℕ} b 1 0) (le-leb fresh j l) in
          elim (cases_eq j fresh) [
            | inl is ↦
                let b : unused (fresh + 1) j ≡ 0 = ap (λ b. cond {A = ℕ} b 1 0) (lt-leb (fresh + 1) j (omega arith)) in
                let c : one j fresh ≡ 1 = subst (λ n. one j n ≡ 1) is (one_same j) in
                omega arith
            | inr far ↦
                let b : unused (fresh + 1) j ≡ 1 = ap (λ b. cond {A = ℕ} b 1 0) (le-leb (fresh + 1) j (omega arith)) in
                let c = one_not j fresh far in
                omega arith
          ]
    ]

pub opens : Opens (record { fresh = 0; freed = None })
opens N recs room small = (
  record { chain = refl; inside = λ j l. refl; fits = omega arith; room = room; small = small },
  λ j. let a : unused 0 j ≡ 1 = ap (λ b. cond {A = ℕ} b 1 0) (le-leb 0 j (omega arith)) in omega arith,
)

-- If any place is free, one is taken.
pub takes : (N : ℕ) (recs : List Record) (f : FreePlaces) (spare : List ℕ) → FreeIn N recs f spare → f.fresh < N + length spare → TakesOne N recs f spare (next f) (left_after recs f)
takes N recs f [] h some' =
    let s = h.small in
    let low : min (f.fresh + 1) 65535 ≡ f.fresh + 1 = omega arith in
    subst (λ l. TakesOne N recs f [] (unwrap_or l f.fresh) (left_of recs f.fresh l)) (sym h.chain)
    (subst (λ (n : ℕ). TakesOne N recs f [] f.fresh (record { fresh = n; freed = None })) (sym low)
    record {
      left = [];
      free = record { chain = refl; inside = h.inside; fits = omega arith; room = h.room; small = h.small };
      places = λ j. let u = unused_next f.fresh j in omega arith;
      count = omega arith;
      below = omega arith;
    })
takes N recs f (p ∷ ps) h some' =
    let o = one_same p in
    let s = h.small in
    let below' : p < N = elim (cases_lt p N) [ inl l ↦ l | inr l ↦ let z = h.inside p l in absurd (omega arith) ] in
    subst (λ l. TakesOne N recs f (p ∷ ps) (unwrap_or l f.fresh) (left_of recs f.fresh l)) (sym h.chain.0)
    record {
      left = ps;
      free = record { chain = h.chain.1; inside = λ j l. let z = h.inside j l in omega arith; fits = h.fits; room = h.room; small = h.small };
      places = λ j. omega arith;
      count = omega arith;
      below = below';
    }

-- If four places are free, four are taken.
pub takes_four : (N : ℕ) (recs : List Record) (f : FreePlaces) (spare : List ℕ) → FreeIn N recs f spare → 4 + f.fresh ≤ N + length spare → TakesFour N recs f spare (four_taken recs f) (four_left recs f)
takes_four N recs f spare h some' =
    let t1 = takes N recs f spare h (omega arith) in
    let c1 = t1.count in
    let t2 = takes N recs (left_after recs f) t1.left t1.free (omega arith) in
    let c2 = t2.count in
    let t3 = takes N recs (left_after recs (left_after recs f)) t2.left t2.free (omega arith) in
    let c3 = t3.count in
    let t4 = takes N recs (left_after recs (left_after recs (left_after recs f))) t3.left t3.free (omega arith) in
    let c4 = t4.count in
    record {
      left = t4.left;
      free = t4.free;
      places = λ j. let a = t1.places j in let b = t2.places j in let c = t3.places j in let d = t4.places j in omega arith;
      count = omega arith;
      shrink = t1.below;
      split = t2.below;
      reading = t3.below;
      outer = t4.below;
    }

-- The chain stays where its records stay.
pub chain_on : (used : ℕ → ℕ) (recs recs' : List Record) → Elsewhere used recs recs' → (head : Link) (spare : List ℕ) → ((j : ℕ) → 1 ≤ among j spare → used j ≡ 0) → Chain recs head spare → Chain recs' head spare
chain_on used recs recs' same head [] off h = h
chain_on used recs recs' same head (p ∷ ps) off h =
    let o = one_same p in (
      h.0,
      chain_on used recs recs' same (at recs' p).parent ps (λ j z. off j (omega arith)) (subst (λ (r : Record). Chain recs r.parent ps) (sym (same.reads p (off p (omega arith)))) h.1),
    )

pub linked_same : (recs : List Record) (f : FreePlaces) (i : ℕ) → Elsewhere (λ j. one j i) recs (linked recs f i)
linked_same recs f i = record { long = length-set recs i _; reads = λ j u. get_or-set_other recs i j _ blank (differ j i u) }

-- A place that is not free is given back.
pub gives : (N : ℕ) (recs : List Record) (f : FreePlaces) (spare : List ℕ) (i : ℕ) → FreeIn N recs f spare → i < N → free_at f spare i ≡ 0 → GivesOne N recs (linked recs f i) f spare i (given_back f i)
gives N recs f spare i h low busy =
    let r = h.room in
    let s = h.small in
    let within : i < length recs = omega arith in
    let recs' : List Record = linked recs f i in
    let named : (at recs' i).parent ≡ f.freed = ap (λ (v : Record). v.parent) (get_or-set_same recs i (with_parent (at recs i) f.freed) blank within) in
    let far : (j : ℕ) → 1 ≤ among j spare → one j i ≡ 0 = λ j z. one_not j i (λ e. let k = ap (λ m. among m spare) e in absurd (omega arith)) in
    record {
      free = record {
        chain = (refl, subst (λ m. Chain recs' m spare) (sym named) (chain_on _ recs recs' (linked_same recs f i) f.freed spare far h.chain));
        inside = λ j l. let z = h.inside j l in let o = one_not j i (λ e. omega arith) in omega arith;
        fits = h.fits;
        room = subst (λ n. N ≤ n) (sym (length-set recs i _)) h.room;
        small = h.small;
      };
      places = λ j. omega arith;
      served = refl;
      back = ap (λ (m : Link). record { fresh = f.fresh; freed = m }) named;
      same = linked_same recs f i;
    }

-- Two chains of the same places begin with the same place.
one_head : (a b : List Record) (x y : Link) (spare : List ℕ) → Chain a x spare → Chain b y spare → x ≡ y
one_head a b x y [] p q = p ∙ sym q
one_head a b x y (z ∷ zs) p q = p.0 ∙ sym q.0

module _ (recs : List Record) (fresh : ℕ) where
  abbrev at_head : Link → FreePlaces
  at_head q = record { fresh = fresh; freed = q }

  left_is : (q : ℕ) (q' : Link) → (at recs q).parent ≡ q' → left_after recs (at_head (Some q)) ≡ at_head q'
  left_is q q' names = ap at_head names

  -- Four places at the head of the chain are the next four.
  module _ (n : FourPlaces) (last : Link) (es : (at recs n.shrink).parent ≡ Some n.split) (ew : (at recs n.split).parent ≡ Some n.reading) (er : (at recs n.reading).parent ≡ Some n.outer) (eo : (at recs n.outer).parent ≡ last) where
    one_left : left_after recs (at_head (Some n.shrink)) ≡ at_head (Some n.split)
    one_left = left_is n.shrink (Some n.split) es

    two_left : left_after recs (left_after recs (at_head (Some n.shrink))) ≡ at_head (Some n.reading)
    two_left = ap (left_after recs) one_left ∙ left_is n.split (Some n.reading) ew

    three_left : left_after recs (left_after recs (left_after recs (at_head (Some n.shrink)))) ≡ at_head (Some n.outer)
    three_left = ap (left_after recs) two_left ∙ left_is n.reading (Some n.outer) er

    four_back : four_left recs (at_head (Some n.shrink)) ≡ at_head last
    four_back = ap (left_after recs) three_left ∙ left_is n.outer last eo

    four_served : four_taken recs (at_head (Some n.shrink)) ≡ n
    four_served =
        let F : FreePlaces → FreePlaces → FreePlaces → FourPlaces = λ f1 f2 f3. record { shrink = n.shrink; split = next f1; reading = next f2; outer = next f3 } in
        ap (λ f3. F (left_after recs (at_head (Some n.shrink))) (left_after recs (left_after recs (at_head (Some n.shrink)))) f3) three_left
        ∙ ap (λ f2. F (left_after recs (at_head (Some n.shrink))) f2 (at_head (Some n.outer))) two_left
        ∙ ap (λ f1. F f1 (at_head (Some n.reading)) (at_head (Some n.outer))) one_left

-- Four places that are not free are given back.
pub gives_four : (N : ℕ) (recs : List Record) (f : FreePlaces) (spare : List ℕ) (n : FourPlaces) → FreeIn N recs f spare → n.shrink < N → n.split < N → n.reading < N → n.outer < N
    → ((j : ℕ) → four j n + free_at f spare j ≤ 1) → GivesFour N recs (four_linked recs f n) f spare n (four_given f n)
gives_four N recs f spare n h s w r o apart =
    let small' = h.small in
    let ax = apart n.shrink in
    let aw = apart n.split in
    let ar = apart n.reading in
    let ao = apart n.outer in
    let is = one_same n.shrink in
    let iw = one_same n.split in
    let ir = one_same n.reading in
    let io = one_same n.outer in
    let f1 : FreePlaces = given_back f n.outer in
    let f2 : FreePlaces = given_back f n.reading in
    let f3 : FreePlaces = given_back f n.split in
    let t1 : List Record = linked recs f n.outer in
    let t2 : List Record = linked t1 f1 n.reading in
    let t3 : List Record = linked t2 f2 n.split in
    let g1 = gives N recs f spare n.outer h o (omega arith) in
    let g2 = gives N t1 f1 (n.outer ∷ spare) n.reading g1.free r (omega arith) in
    let g3 = gives N t2 f2 (n.reading ∷ n.outer ∷ spare) n.split g2.free w (omega arith) in
    let g4 = gives N t3 f3 (n.split ∷ n.reading ∷ n.outer ∷ spare) n.shrink g3.free s (omega arith) in
    let all = g4.free.chain in
    let recs' : List Record = four_linked recs f n in
    let last : (at recs' n.outer).parent ≡ f.freed = one_head recs' recs _ f.freed spare all.1.1.1.1 h.chain in
    record {
      free = g4.free;
      places = λ j. omega arith;
      served = four_served recs' f.fresh n f.freed all.1.0 all.1.1.0 all.1.1.1.0 last;
      back = four_back recs' f.fresh n f.freed all.1.0 all.1.1.0 all.1.1.1.0 last;
      same = record {
        long = g4.same.long ∙ g3.same.long ∙ g2.same.long ∙ g1.same.long;
        reads = λ j z. g4.same.reads j (omega arith) ∙ g3.same.reads j (omega arith) ∙ g2.same.reads j (omega arith) ∙ g1.same.reads j (omega arith);
      };
    }

-- The same of what is known to be what a function makes.
pub take_lifts : (recs : List Record) (f g : FreePlaces) → g ≡ left_after recs f → (N : ℕ) (spare : List ℕ) → FreeIn N recs f spare → f.fresh < N + length spare → TakesOne N recs f spare (next f) g
take_lifts recs f g e N spare h some' = subst (TakesOne N recs f spare (next f)) (sym e) (takes N recs f spare h some')

pub take_four_lifts : (recs : List Record) (f : FreePlaces) (r : FourPlaces × FreePlaces) → r ≡ (four_taken recs f, four_left recs f) → (N : ℕ) (spare : List ℕ) → FreeIn N recs f spare → 4 + f.fresh ≤ N + length spare → TakesFour N recs f spare r.0 r.1
take_four_lifts recs f r e N spare h some' = subst (λ (v : FourPlaces × FreePlaces). TakesFour N recs f spare v.0 v.1) (sym e) (takes_four N recs f spare h some')

pub give_lifts : (recs exit : List Record) (f g : FreePlaces) (i : ℕ) → exit ≡ linked recs f i → g ≡ given_back f i → (N : ℕ) (spare : List ℕ) → FreeIn N recs f spare → i < N → free_at f spare i ≡ 0 → GivesOne N recs exit f spare i g
give_lifts recs exit f g i e e' N spare h low busy =
    subst (λ t. GivesOne N recs t f spare i g) (sym e) (subst (GivesOne N recs (linked recs f i) f spare i) (sym e') (gives N recs f spare i h low busy))

pub give_four_lifts : (recs exit : List Record) (f g : FreePlaces) (n : FourPlaces) → exit ≡ four_linked recs f n → g ≡ four_given f n → (N : ℕ) (spare : List ℕ) → FreeIn N recs f spare → n.shrink < N → n.split < N → n.reading < N → n.outer < N
    → ((j : ℕ) → four j n + free_at f spare j ≤ 1) → GivesFour N recs exit f spare n g
give_four_lifts recs exit f g n e e' N spare h s w r o apart =
    subst (λ t. GivesFour N recs t f spare n g) (sym e) (subst (GivesFour N recs (four_linked recs f n) f spare n) (sym e') (gives_four N recs f spare n h s w r o apart))
