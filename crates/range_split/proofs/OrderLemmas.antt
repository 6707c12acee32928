-- Places in order.
use Rattle.std.proofs.Common.{◌≡◌, ℕ, ◌<◌, cond, List, [], ◌∷◌, ◌++◌, Bool, true, false, ◌||◌, nat_eq, nat_lt, refl, sym, ap, ◌∙◌, arith, inl, inr}
use Rattle.std.proofs.lemmas.Bool.{or_cases, eqb-true, false≢true}
use Rattle.std.proofs.lemmas.Bool.Decides.{nat_tests}
use Rattle.std.specs.Ordering.{nat_cmp, match_ordering}
use Rattle.std.specs.declared.cmp.Ordering.TheVariants.{Less, Equal, Greater}
use Rattle.std.specs.BTreeSet.{insert_key}
use Rattle.rule_check.specs.Context.{is_among}
use Rattle.range_split.specs.Places.{Above, Ascending}

pub or_left : (x y : Bool) → x ≡ true → (x || y) ≡ true
or_left true y e = refl
or_left false y e = absurd (false≢true e)

pub or_right : (x y : Bool) → y ≡ true → (x || y) ≡ true
or_right true y e = refl
or_right false y e = e

or_swap : (x y z : Bool) → (x || (y || z)) ≡ (y || (x || z))
or_swap true true z = refl
or_swap true false z = refl
or_swap false y z = refl

or_same : (x y : Bool) → (x || (x || y)) ≡ (x || y)
or_same true y = refl
or_same false y = refl

pub same_number : (n : ℕ) → nat_eq n n ≡ true
same_number n = grind (arith, nat_tests)

pub other_number : (m n : ℕ) → m < n → nat_eq m n ≡ false
other_number m n h = grind (arith, nat_tests)

pub number_other : (m n : ℕ) → n < m → nat_eq m n ≡ false
number_other m n h = grind (arith, nat_tests)

-- ---- one more place

pub inserted : (n k : ℕ) (ks : List ℕ) → is_among n (insert_key nat_cmp ks k) ≡ (nat_eq n k || is_among n ks)
inserted n k [] = refl
inserted n k (x ∷ xs) = pick (nat_lt k x) (nat_eq k x) refl (inserted n k xs)
  where
    pick : (a b : Bool) → nat_eq k x ≡ b → is_among n (insert_key nat_cmp xs k) ≡ (nat_eq n k || is_among n xs)
        → is_among n (match_ordering (cond a Less (cond b Equal Greater)) (k ∷ x ∷ xs) (x ∷ xs) (x ∷ insert_key nat_cmp xs k)) ≡ (nat_eq n k || (nat_eq n x || is_among n xs))
    pick true b e h = refl
    pick false true e h = sym (or_same (nat_eq n x) (is_among n xs)) ∙ ap (λ y. nat_eq n y || (nat_eq n x || is_among n xs)) (sym (eqb-true k x e))
    pick false false e h = ap (λ z. nat_eq n x || z) h ∙ or_swap (nat_eq n x) (nat_eq n k) (is_among n xs)

above_front : (k x : ℕ) (xs : List ℕ) → k < x → Above x xs → Above k (x ∷ xs)
above_front k x xs h a q e = elim (or_cases (nat_eq q x) (is_among q xs) e) [
  | inl g ↦ let f : q ≡ x = eqb-true q x g in omega arith
  | inr g ↦ let f : x < q = a q g in omega arith
]

above_inserted : (k x : ℕ) (xs : List ℕ) → x < k → Above x xs → Above x (insert_key nat_cmp xs k)
above_inserted k x xs h a q e = elim (or_cases (nat_eq q k) (is_among q xs) (sym (inserted q k xs) ∙ e)) [
  | inl g ↦ let f : q ≡ k = eqb-true q k g in omega arith
  | inr g ↦ a q g
]

pub ascends : (k : ℕ) (ks : List ℕ) → Ascending ks → Ascending (insert_key nat_cmp ks k)
ascends k [] a = (λ q e. absurd (false≢true e), tt)
ascends k (x ∷ xs) a = pick (nat_lt k x) (nat_eq k x) refl refl (ascends k xs a.1)
  where
    pick : (s b : Bool) → nat_lt k x ≡ s → nat_eq k x ≡ b → Ascending (insert_key nat_cmp xs k) → Ascending (match_ordering (cond s Less (cond b Equal Greater)) (k ∷ x ∷ xs) (x ∷ xs) (x ∷ insert_key nat_cmp xs k))
    pick true b f e h = let lt : k < x = grind (arith, nat_tests) in (above_front k x xs lt a.0, a)
    pick false true f e h = a
    pick false false f e h = let lt : x < k = grind (arith, nat_tests) in (above_inserted k x xs lt a.0, h)

-- ---- the last place

pub ascend_front : (is : List ℕ) (p : ℕ) → Ascending (is ++ p ∷ []) → Ascending is
ascend_front [] p a = tt
ascend_front (i ∷ is) p a = (λ q e. a.0 q (among_front is p q e), ascend_front is p a.1)
  where
    among_front : (js : List ℕ) (p q : ℕ) → is_among q js ≡ true → is_among q (js ++ p ∷ []) ≡ true
    among_front [] p q e = absurd (false≢true e)
    among_front (j ∷ js) p q e = elim (or_cases (nat_eq q j) (is_among q js) e) [
      | inl g ↦ or_left (nat_eq q j) (is_among q (js ++ p ∷ [])) g
      | inr g ↦ or_right (nat_eq q j) (is_among q (js ++ p ∷ [])) (among_front js p q g)
    ]

among_last : (is : List ℕ) (p : ℕ) → is_among p (is ++ p ∷ []) ≡ true
among_last [] p = or_left (nat_eq p p) false (same_number p)
among_last (i ∷ is) p = or_right (nat_eq p i) (is_among p (is ++ p ∷ [])) (among_last is p)

pub below_last : (is : List ℕ) (p : ℕ) → Ascending (is ++ p ∷ []) → (q : ℕ) → is_among q is ≡ true → q < p
below_last [] p a q e = absurd (false≢true e)
below_last (i ∷ is) p a q e = elim (or_cases (nat_eq q i) (is_among q is) e) [
  | inl g ↦ let f : q ≡ i = eqb-true q i g in let h : i < p = a.0 p (among_last is p) in omega arith
  | inr g ↦ below_last is p a.1 q g
]

pub among_end : (is : List ℕ) (p n : ℕ) → is_among n (is ++ p ∷ []) ≡ (is_among n is || nat_eq n p)
among_end [] p n = or_none (nat_eq n p)
  where
    or_none : (x : Bool) → (x || false) ≡ x
    or_none true = refl
    or_none false = refl
among_end (i ∷ is) p n = ap (λ z. nat_eq n i || z) (among_end is p n) ∙ or_assoc (nat_eq n i) (is_among n is) (nat_eq n p)
  where
    or_assoc : (x y z : Bool) → (x || (y || z)) ≡ ((x || y) || z)
    or_assoc true y z = refl
    or_assoc false y z = refl
