-- Laws of boxes.
use Rattle.std.proofs.Common.{◌≡◌, ℕ, zero, suc, ◌+◌, ◌-◌, ◌/◌, ◌^◌, ◌<◌, ◌≤◌, min, Bool, true, false, eqb, leb, ◌⊎◌, sym, refl, ap, ◌∙◌, subst, inl, inr, div-one, arith}
use Rattle.std.proofs.lemmas.Nat.{shr-shr, shl-shr, shr_split}
use Rattle.std.proofs.lemmas.Bool.Decides.{nat_tests}
use Rattle.std.proofs.lemmas.Bool.{eqb-true, eq-eqb, ne_eqb, leb-true, le-leb, and_parts, and_from, both_ways, cases_eq, cases_lt}
use native.Mathlib.Nat.{div-eq_of_lt}
use Rattle.place.specs.Boxes.{prefix, Box, cut, point, holds, within, agree, smallest, half}

prefix_up : (j k c : ℕ) → j ≤ k → prefix j c ≡ prefix k c / 2 ^ ((32 - j) - (32 - k))
unfolding prefix
prefix_up j k c h =
    let e : 32 - j ≡ (32 - k) + ((32 - j) - (32 - k)) = omega arith in
    ap (λ (n : ℕ). c / 2 ^ n) e ∙ sym (shr-shr c (32 - k) ((32 - j) - (32 - k)))

-- codes that agree in k bits agree in fewer
pub prefix_mono : (j k c d : ℕ) → j ≤ k → prefix k c ≡ prefix k d → prefix j c ≡ prefix j d
prefix_mono j k c d h e =
    prefix_up j k c h ∙ ap (λ (n : ℕ). n / 2 ^ ((32 - j) - (32 - k))) e ∙ sym (prefix_up j k d h)

pub prefix_step : (k c : ℕ) → k < 32 → prefix k c ≡ prefix (suc k) c / 2
prefix_step k c h =
    let e : (32 - k) - (32 - suc k) ≡ 1 = omega arith in
    prefix_up k (suc k) c (omega arith) ∙ ap (λ (n : ℕ). prefix (suc k) c / 2 ^ n) e

pub prefix_cut : (j k c : ℕ) → j ≤ k → prefix j (cut k c).code ≡ prefix j c
unfolding prefix
prefix_cut j k c h = prefix_mono j k (cut k c).code c h (shl-shr (c / 2 ^ (32 - k)) (32 - k))

pub cut_eq : (k c d : ℕ) → prefix k c ≡ prefix k d → cut k c ≡ cut k d
cut_eq k c d e = rw e

pub holds_cut : (k c x : ℕ) → holds (cut k c) x ≡ eqb (prefix k x) (prefix k c)
unfolding holds
holds_cut k c x = rw (prefix_cut k k c (omega arith))

pub holds_own : (k c : ℕ) → holds (cut k c) c ≡ true
holds_own k c = holds_cut k c c ∙ eq-eqb (prefix k c) (prefix k c) refl

pub agree_le : (n c d : ℕ) → agree n c d ≤ n
unfolding agree
agree_le zero c d = omega arith
agree_le (suc k) c d = let h = agree_le k c d in grind (arith, nat_tests)

pub agree_same : (n c d : ℕ) → prefix 0 c ≡ prefix 0 d → prefix (agree n c d) c ≡ prefix (agree n c d) d
unfolding agree
agree_same zero c d z = z
agree_same (suc k) c d z = let h = agree_same k c d z in grind (arith, nat_tests)

pub agree_most : (n c d j : ℕ) → j ≤ n → prefix j c ≡ prefix j d → j ≤ agree n c d
unfolding agree
agree_most zero c d j l e = l
agree_most (suc k) c d j l e =
    elim (cases_eq j (suc k)) [ inl is ↦ let e' : prefix (suc k) c ≡ prefix (suc k) d = subst (λ (n : ℕ). prefix n c ≡ prefix n d) is e in grind (arith, nat_tests) | inr no' ↦ let h = agree_most k c d j (omega arith) e in grind (arith, nat_tests) ]

-- c and d agree in k bits, and differ in the next
pub record Parting (k c d : ℕ) : Type 0 where
  pub same : prefix k c ≡ prefix k d
  pub differ : prefix (suc k) c ≡ prefix (suc k) d → ⊥
  pub low : k < 32

-- the first place where two codes differ is one
pub parting_only : (j k c d : ℕ) → Parting j c d → Parting k c d → j ≡ k
parting_only j k c d a b =
    elim (cases_lt j k) [
      | inl l ↦ absurd (a.differ (prefix_mono (suc j) k c d l b.same))
      | inr g ↦ elim (cases_lt k j) [
        | inl l ↦ absurd (b.differ (prefix_mono (suc k) j c d l a.same))
        | inr l ↦ omega arith
      ]
    ]

-- boxes that have no code in common
pub record Separate (A B : Box) : Type 0 where
  pub apart : prefix (min A.depth B.depth) A.code ≡ prefix (min A.depth B.depth) B.code → ⊥
  pub root : prefix 0 A.code ≡ prefix 0 B.code
  pub small : min A.depth B.depth ≤ 32

module _ (n c d : ℕ) (apart : prefix n c ≡ prefix n d → ⊥) (root : prefix 0 c ≡ prefix 0 d) where
  agree_less : agree n c d < n
  agree_less =
      elim (cases_eq (agree n c d) n) [
        | inl is ↦ absurd (apart (subst (λ (k : ℕ). prefix k c ≡ prefix k d) is (agree_same n c d root)))
        | inr no' ↦ omega (arith, agree_le n c d)
      ]

  agree_differ : prefix (suc (agree n c d)) c ≡ prefix (suc (agree n c d)) d → ⊥
  agree_differ e = omega (arith, agree_most n c d (suc (agree n c d)) agree_less e)

-- the smallest box of two ends where their codes part
pub smallest_is : (A B : Box) (k : ℕ) → Parting k A.code B.code → k < min A.depth B.depth → smallest A B ≡ cut k A.code
smallest_is A B k p l =
    let n : ℕ = min A.depth B.depth in
    let root = prefix_mono 0 k A.code B.code (omega arith) p.same in
    let up : k ≤ agree n A.code B.code = agree_most n A.code B.code k (omega arith) p.same in
    let is : agree n A.code B.code ≡ k =
    elim (cases_lt k (agree n A.code B.code)) [
      | inl m ↦ absurd (p.differ (prefix_mono (suc k) (agree n A.code B.code) A.code B.code m (agree_same n A.code B.code root)))
      | inr m ↦ omega arith
    ] in
    ap (λ (j : ℕ). cut j A.code) is

abbrev pub Parts : Box → Box → Type 0
Parts A B = Parting (smallest A B).depth A.code B.code

pub parting_flip : (k c d : ℕ) → Parting k c d → Parting k d c
parting_flip k c d p = record { same = sym p.same; differ = λ e. p.differ (sym e); low = p.low }

pub points_flip : (c d : ℕ) → Parts (point c) (point d) → smallest (point d) (point c) ≡ smallest (point c) (point d)
points_flip c d s =
    let k : ℕ = (smallest (point c) (point d)).depth in
    smallest_is (point d) (point c) k (parting_flip k c d s) s.low ∙ cut_eq k d c (sym s.same)

pub Parts-flip : (c d : ℕ) → Parts (point c) (point d) → Parts (point d) (point c)
Parts-flip c d s =
    subst (λ (B : Box). Parting B.depth d c) (sym (points_flip c d s)) (parting_flip (smallest (point c) (point d)).depth c d s)

pub parts : (A B : Box) → Separate A B → Parts A B
parts A B s =
    let n : ℕ = min A.depth B.depth in
    record {
      same = agree_same n A.code B.code s.root;
      differ = agree_differ n A.code B.code s.apart s.root;
      low = omega (arith, agree_less n A.code B.code s.apart s.root, s.small);
    }

-- where a code lies: outside E, in the near half or in the far one
abbrev pub Lies : Bool → Bool → Bool → Type 0
Lies e h k =
    ((e ≡ false) × (h ≡ false) × (k ≡ false)) ⊎ (((e ≡ true) × (h ≡ true) × (k ≡ false)) ⊎ ((e ≡ true) × (h ≡ false) × (k ≡ true)))

halves_of : (y a b u v : ℕ) → u ≡ y / 2 → v ≡ a / 2 → v ≡ b / 2 → (a ≡ b → ⊥) → Lies (eqb u v) (eqb y a) (eqb y b)
halves_of y a b u v p q r n =
    elim (cases_eq u v) [
      | inl is ↦ elim (cases_eq y a) [
        | inl at ↦ inr (inl (eq-eqb u v is, eq-eqb y a at, ne_eqb y b (λ e. n (sym at ∙ e))))
        | inr off ↦ inr (inr (eq-eqb u v is, ne_eqb y a off, eq-eqb y b (omega arith)))
      ]
      | inr off ↦ inl (ne_eqb u v off, ne_eqb y a (λ e. omega arith), ne_eqb y b (λ e. omega arith))
    ]

-- a code of a box lies in one of its halves
pub halves : (k c d : ℕ) → Parting k c d → (x : ℕ) → Lies (holds (cut k c) x) (holds (cut (suc k) c) x) (holds (cut (suc k) d) x)
halves k c d p x =
    rw (holds_cut k c x, holds_cut (suc k) c x, holds_cut (suc k) d x)
    (halves_of (prefix (suc k) x) (prefix (suc k) c) (prefix (suc k) d) (prefix k x) (prefix k c)
    (prefix_step k x p.low) (prefix_step k c p.low) (p.same ∙ prefix_step k d p.low) p.differ)

-- boxes are nested or have no code in common

pub holds_true : (A : Box) (x : ℕ) → holds A x ≡ true → prefix A.depth x ≡ prefix A.depth A.code
unfolding holds
holds_true A x h = eqb-true _ _ h

pub true_holds : (A : Box) (x : ℕ) → prefix A.depth x ≡ prefix A.depth A.code → holds A x ≡ true
unfolding holds
true_holds A x h = eq-eqb _ _ h

pub within_parts : (A B : Box) → within A B ≡ true → (B.depth ≤ A.depth) × (prefix B.depth A.code ≡ prefix B.depth B.code)
unfolding within
within_parts A B h =
    let p = and_parts (leb B.depth A.depth) (holds B A.code) h in (leb-true B.depth A.depth p.0, holds_true B A.code p.1)

pub parts_within : (A B : Box) → B.depth ≤ A.depth → prefix B.depth A.code ≡ prefix B.depth B.code → within A B ≡ true
unfolding within
parts_within A B l e = and_from _ _ (le-leb B.depth A.depth l) (true_holds B A.code e)

pub within_refl : (A : Box) → within A A ≡ true
within_refl A = parts_within A A (omega arith) refl

pub within_trans : (A B C : Box) → within A B ≡ true → within B C ≡ true → within A C ≡ true
within_trans A B C h k =
    let p = within_parts A B h in
    let q = within_parts B C k in
    parts_within A C (omega arith) (prefix_mono C.depth B.depth A.code B.code q.0 p.1 ∙ q.1)

pub within_holds : (A B : Box) (x : ℕ) → within A B ≡ true → holds A x ≡ true → holds B x ≡ true
within_holds A B x h k =
    let p = within_parts A B h in
    true_holds B x (prefix_mono B.depth A.depth x A.code p.0 (holds_true A x k) ∙ p.1)

pub nested : (A B : Box) (x : ℕ) → holds A x ≡ true → holds B x ≡ true → (within A B ≡ true) ⊎ (within B A ≡ true)
nested A B x h k =
    let p = holds_true A x h in
    let q = holds_true B x k in
    elim (cases_lt A.depth B.depth) [
      | inl l ↦ inr (parts_within B A (omega arith) (sym (prefix_mono A.depth B.depth x B.code (omega arith) q) ∙ p))
      | inr l ↦ inl (parts_within A B l (sym (prefix_mono B.depth A.depth x A.code l p) ∙ q))
    ]

-- the smallest box of two

pub smallest_left : (A B : Box) → within A (smallest A B) ≡ true
smallest_left A B =
    let n : ℕ = min A.depth B.depth in
    let k : ℕ = agree n A.code B.code in
    parts_within A (smallest A B) (omega (arith, agree_le n A.code B.code)) (sym (prefix_cut k k A.code (omega arith)))

pub smallest_right : (A B : Box) → prefix 0 A.code ≡ prefix 0 B.code → within B (smallest A B) ≡ true
smallest_right A B root =
    let n : ℕ = min A.depth B.depth in
    let k : ℕ = agree n A.code B.code in
    parts_within B (smallest A B) (omega (arith, agree_le n A.code B.code))
    (sym (agree_same n A.code B.code root) ∙ sym (prefix_cut k k A.code (omega arith)))

pub smallest_least : (A B C : Box) → within A C ≡ true → within B C ≡ true → within (smallest A B) C ≡ true
smallest_least A B C h k =
    let p = within_parts A C h in
    let q = within_parts B C k in
    let n : ℕ = min A.depth B.depth in
    let l : C.depth ≤ agree n A.code B.code = agree_most n A.code B.code C.depth (omega arith) (p.1 ∙ sym q.1) in
    parts_within (smallest A B) C l (prefix_cut C.depth (agree n A.code B.code) A.code l ∙ p.1)

-- boxes neither of which contains the other are separate
pub separate : (A B : Box) → within A B ≡ false → within B A ≡ false → prefix 0 A.code ≡ prefix 0 B.code → min A.depth B.depth ≤ 32 → Separate A B
separate A B h k root small =
    record {
      apart = λ e. elim (cases_lt A.depth B.depth) [
        | inl l ↦ both_ways _ k (parts_within B A (omega arith) (sym (at A.depth (omega arith) e)))
        | inr l ↦ both_ways _ h (parts_within A B l (at B.depth (omega arith) e))
      ];
      root = root;
      small = small;
    }
  where
    at : (n : ℕ) → min A.depth B.depth ≡ n → prefix (min A.depth B.depth) A.code ≡ prefix (min A.depth B.depth) B.code → prefix n A.code ≡ prefix n B.code
    at n is e = subst (λ (m : ℕ). prefix m A.code ≡ prefix m B.code) is e

pub prefix_root : (c : ℕ) → c < 2 ^ 32 → prefix 0 c ≡ 0
unfolding prefix
prefix_root c h = div-eq_of_lt h

pub prefix_whole : (c : ℕ) → prefix 32 c ≡ c
unfolding prefix
prefix_whole c = div-one c

-- two codes are separate points
pub separate_points : (c d : ℕ) → c < 2 ^ 32 → d < 2 ^ 32 → (c ≡ d → ⊥) → Separate (point c) (point d)
separate_points c d h k n =
    record {
      apart = λ e. n (sym (prefix_whole c) ∙ e ∙ prefix_whole d);
      root = prefix_root c h ∙ sym (prefix_root d k);
      small = omega arith;
    }

-- a code outside a box is separate from it
pub separate_outside : (I : Box) (c : ℕ) → I.depth ≤ 32 → I.code < 2 ^ 32 → c < 2 ^ 32 → holds I c ≡ false → Separate I (point c)
separate_outside I c l h k out =
    let is : min I.depth 32 ≡ I.depth = omega arith in
    record {
      apart = λ e. both_ways _ out (true_holds I c (sym (subst (λ (m : ℕ). prefix m I.code ≡ prefix m c) is e)));
      root = prefix_root I.code h ∙ sym (prefix_root c k);
      small = omega arith;
    }

-- the half of a box with a code of it lies in the box
pub half_within : (E : Box) (c : ℕ) → holds E c ≡ true → within (half E (point c)) E ≡ true
half_within E c h =
    let k : ℕ = E.depth in
    parts_within (half E (point c)) E (omega arith) (prefix_cut k (suc k) c (omega arith) ∙ holds_true E c h)

-- a box that contains a code contains the box of that code
pub point_within : (C : Box) (c : ℕ) → C.depth ≤ 32 → holds C c ≡ true → within (point c) C ≡ true
point_within C c deep h = parts_within (point c) C deep (holds_true C c h)

-- a box around a code of 32 bits has such a code too
pub cut_small : (k c : ℕ) → c < 2 ^ 32 → (cut k c).code < 2 ^ 32
unfolding prefix
cut_small k c h = omega (arith, shr_split c (32 - k))
