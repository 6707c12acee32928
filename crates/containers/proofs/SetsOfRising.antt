-- Sets of rising numbers.
use Rattle.std.proofs.Common.{◌≡◌, ℕ, zero, suc, ◌+◌, ◌<◌, ◌≤◌, Bool, true, false, cond, not, ◌&&◌, ◌||◌, eqb, ltb, List, [], ◌∷◌, length, map, Result, Ok, Err, is_ok, IfOk, insert, remove, refl, ap, sym, subst, ◌∙◌, arith, inl, inr}
use Rattle.std.proofs.lemmas.Bool.{ltb-true, ltb-false, ne_eqb, eqb-true, eqb-false, or_parts, cases_order, both_ways}
use Rattle.std.proofs.lemmas.List.{map-id}
use Rattle.std.specs.Ordering.{nat_cmp}
use Rattle.std.specs.Cmp.{nat_cmp_total, unsigned_tied}
use Rattle.std.specs.FinSet as sets
use Rattle.std.specs.FinSet.{from_list}
use Rattle.sequences.proofs.Places.{above_lower, below_none, has_none}
use Rattle.sequences.specs.Keys.{AllAbove, IsRising, below, has, place_of}

pub below_cases : (k y : ℕ) (ys : List ℕ) (P : ℕ → Type 0) → AllAbove y ys → (y < k → P (suc (below k ys))) → (k ≤ y → P 0) → P (below k (y ∷ ys))
below_cases k y ys P a low high =
    elim (ltb y k) as (λ b. ltb y k ≡ b → P (cond b (suc (below k ys)) (below k ys))) [
      | true ↦ λ e. low (ltb-true y k e)
      | false ↦ λ e. let h : k ≤ y = ltb-false y k e in subst P (sym (below_none k ys (lower k y ys h a))) (high h)
    ] refl
  where
    lower : (k y : ℕ) (ys : List ℕ) → k ≤ y → AllAbove y ys → AllAbove k ys
    lower k y [] h a = tt
    lower k y (z ∷ zs) h a = let q : y < z = a.0 in (omega arith, lower k y zs h a.1)

or_swap : (a b c : Bool) → (a || (b || c)) ≡ (b || (a || c))
or_swap true true c = refl
or_swap true false c = refl
or_swap false b c = refl

above_insert : (n x i : ℕ) (xs : List ℕ) → n < x → AllAbove n xs → AllAbove n (insert xs i x)
above_insert n x zero xs h a = (h, a)
above_insert n x (suc i) [] h a = (h, tt)
above_insert n x (suc i) (y ∷ ys) h a = (a.0, above_insert n x i ys h a.1)

pub has_insert : (q x i : ℕ) (xs : List ℕ) → has q (insert xs i x) ≡ (eqb q x || has q xs)
has_insert q x zero xs = refl
has_insert q x (suc i) [] = refl
has_insert q x (suc i) (y ∷ ys) = ap (λ b. eqb q y || b) (has_insert q x i ys) ∙ or_swap (eqb q y) (eqb q x) (has q ys)

pub rising_insert : (k : ℕ) (xs : List ℕ) → IsRising xs → has k xs ≡ false → IsRising (insert xs (below k xs) k)
rising_insert k [] s e = (tt, tt)
rising_insert k (y ∷ ys) s e =
    let parts = or_parts (eqb k y) (has k ys) e in
    let other = eqb-false k y parts.0 in
    below_cases k y ys (λ i. IsRising (insert (y ∷ ys) i k)) s.0
    (λ h. (above_insert y k (below k ys) ys h s.0, rising_insert k ys s.1 parts.1))
    (λ h. let q : k < y = omega (arith, other, h) in ((q, above_lower k y ys q s.0), s))

above_remove : (n i : ℕ) (xs : List ℕ) → AllAbove n xs → AllAbove n (remove xs i)
above_remove n zero [] a = tt
above_remove n (suc i) [] a = tt
above_remove n zero (y ∷ ys) a = a.1
above_remove n (suc i) (y ∷ ys) a = (a.0, above_remove n i ys a.1)

pub rising_remove : (i : ℕ) (xs : List ℕ) → IsRising xs → IsRising (remove xs i)
rising_remove zero [] s = tt
rising_remove (suc i) [] s = tt
rising_remove zero (y ∷ ys) s = s.1
rising_remove (suc i) (y ∷ ys) s = (above_remove y i ys s.0, rising_remove i ys s.1)

pub contains_has : (xs : List ℕ) (q : ℕ) → sets.contains (from_list {R = nat_cmp} xs) q ≡ has q xs
contains_has [] q = sets.contains-empty nat_cmp q
contains_has (x ∷ xs) q = sets.contains-insert nat_cmp_total _ x q ∙ (λ i. unsigned_tied q x i || contains_has xs q i)

pub insert_set : (xs : List ℕ) (i k : ℕ) → from_list {R = nat_cmp} (insert xs i k) ≡ sets.insert (from_list xs) k
insert_set xs i k =
    sets.same_set nat_cmp_total sets.nat_cmp-IsAntisymmetric _ _
    (λ q. contains_has (insert xs i k) q ∙ has_insert q k i xs ∙ sym (sets.contains-insert nat_cmp_total _ k q ∙ (λ i. unsigned_tied q k i || contains_has xs q i)))

there : (q k : ℕ) (xs : List ℕ) → has k xs ≡ true → (eqb q k || has q xs) ≡ has q xs
there q k xs e =
    elim (eqb q k) as (λ b. eqb q k ≡ b → (b || has q xs) ≡ has q xs) [
      | true ↦ λ h. sym (ap (λ n. has n xs) (eqb-true q k h) ∙ e)
      | false ↦ λ h. refl
    ] refl

pub insert_there : (xs : List ℕ) (k : ℕ) → has k xs ≡ true → sets.insert (from_list {R = nat_cmp} xs) k ≡ from_list xs
insert_there xs k e =
    sets.same_set nat_cmp_total sets.nat_cmp-IsAntisymmetric _ _
    (λ q. sets.contains-insert nat_cmp_total _ k q ∙ (λ i. unsigned_tied q k i || contains_has xs q i) ∙ there q k xs e ∙ sym (contains_has xs q))

not_there : (q k : ℕ) (xs : List ℕ) → has k xs ≡ false → (not (eqb q k) && has q xs) ≡ has q xs
not_there q k xs e =
    elim (eqb q k) as (λ b. eqb q k ≡ b → (not b && has q xs) ≡ has q xs) [
      | true ↦ λ h. sym (ap (λ n. has n xs) (eqb-true q k h) ∙ e)
      | false ↦ λ h. refl
    ] refl

removed_contains : (xs : List ℕ) (k q : ℕ) → sets.contains (sets.remove (from_list {R = nat_cmp} xs) k) q ≡ (not (eqb q k) && has q xs)
removed_contains xs k q = sets.contains-remove nat_cmp_total _ k q ∙ (λ i. not (unsigned_tied q k i) && contains_has xs q i)

pub remove_not_there : (xs : List ℕ) (k : ℕ) → has k xs ≡ false → sets.remove (from_list {R = nat_cmp} xs) k ≡ from_list xs
remove_not_there xs k e =
    sets.same_set nat_cmp_total sets.nat_cmp-IsAntisymmetric _ _
    (λ q. removed_contains xs k q ∙ not_there q k xs e ∙ sym (contains_has xs q))

first_out : (q y : ℕ) (ys : List ℕ) → AllAbove y ys → has q ys ≡ (not (eqb q y) && (eqb q y || has q ys))
first_out q y ys a =
    elim (eqb q y) as (λ b. eqb q y ≡ b → has q ys ≡ (not b && (b || has q ys))) [
      | true ↦ λ h. ap (λ n. has n ys) (eqb-true q y h) ∙ has_none y ys a
      | false ↦ λ h. refl
    ] refl

later_out : (q k y : ℕ) (b : Bool) → y < k → (eqb q y || (not (eqb q k) && b)) ≡ (not (eqb q k) && (eqb q y || b))
later_out q k y b h =
    elim (eqb q k) as (λ c. eqb q k ≡ c → (eqb q y || (not c && b)) ≡ (not c && (eqb q y || b))) [
      | true ↦ λ e. let same : q ≡ k = eqb-true q k e in rw (ne_eqb q y (omega (arith, same, h))) refl
      | false ↦ λ e. refl
    ] refl

has_remove : (q k : ℕ) (xs : List ℕ) → IsRising xs → has k xs ≡ true → has q (remove xs (below k xs)) ≡ (not (eqb q k) && has q xs)
has_remove q k [] s e = absurd (both_ways false refl e)
has_remove q k (y ∷ ys) s e =
    below_cases k y ys (λ i. has q (remove (y ∷ ys) i) ≡ (not (eqb q k) && has q (y ∷ ys))) s.0
    (λ h. ap (λ b. eqb q y || b) (has_remove q k ys s.1 (rw (ne_eqb k y (omega (arith, h))) at e)) ∙ later_out q k y (has q ys) h)
    (λ h. elim (cases_order k y) [
      | inl same ↦ first_out q y ys s.0 ∙ ap (λ n. not (eqb q n) && has q (y ∷ ys)) (sym same)
      | inr (inl less) ↦ absurd (both_ways _ (has_none k (y ∷ ys) (less, above_lower k y ys less s.0)) e)
      | inr (inr more) ↦ absurd (omega (arith, h, more))
    ])

pub remove_set : (xs : List ℕ) (k : ℕ) → IsRising xs → has k xs ≡ true → from_list {R = nat_cmp} (remove xs (below k xs)) ≡ sets.remove (from_list xs) k
remove_set xs k s e =
    sets.same_set nat_cmp_total sets.nat_cmp-IsAntisymmetric _ _
    (λ q. contains_has (remove xs (below k xs)) q ∙ has_remove q k xs s e ∙ sym (removed_contains xs k q))

pub len_rising : (xs : List ℕ) → IsRising xs → sets.len (from_list {R = nat_cmp} xs) ≡ length xs
len_rising [] s = sets.len-empty nat_cmp
len_rising (x ∷ xs) s =
    sets.len-insert nat_cmp_total (from_list xs) x
    ∙ ap (λ b. cond b (sets.len (from_list {R = nat_cmp} xs)) (sets.len (from_list {R = nat_cmp} xs) + 1)) (contains_has xs x ∙ has_none x xs s.0)
    ∙ (let e : sets.len (from_list {R = nat_cmp} xs) ≡ length xs = len_rising xs s.1 in omega (arith, e))

-- what a search tells of the place
pub is_ok-place_of : (k : ℕ) (xs : List ℕ) → is_ok (place_of k xs) ≡ has k xs
is_ok-place_of k xs = elim (has k xs) as (λ b. is_ok (cond b (Ok (below k xs)) (Err (below k xs))) ≡ b) [ true ↦ refl | false ↦ refl ]

place_in : Result ℕ ℕ → ℕ
place_in (Ok i) = i
place_in (Err i) = i

place_in-place_of : (k : ℕ) (xs : List ℕ) → place_in (place_of k xs) ≡ below k xs
unfolding place_in
place_in-place_of k xs = elim (has k xs) as (λ b. place_in (cond b (Ok (below k xs)) (Err (below k xs))) ≡ below k xs) [ true ↦ refl | false ↦ refl ]

-- what a search among rising numbers says
pub record Says (k : ℕ) (xs : List ℕ) (there : Bool) (at : ℕ) : Type 0 where
  pub has_is : has k xs ≡ there
  pub at_is : at ≡ below k xs

pub at_has : (k : ℕ) (xs : List ℕ) (r : Result ℕ ℕ) → r ≡ place_of k xs → is_ok r ≡ has k xs
at_has k xs r e = ap is_ok e ∙ is_ok-place_of k xs

pub at_ok : (k : ℕ) (xs : List ℕ) (at : ℕ) → Ok at ≡ place_of k xs → Says k xs true at
unfolding place_in
at_ok k xs at e = record { has_is = sym (at_has k xs (Ok at) e); at_is = ap place_in e ∙ place_in-place_of k xs }

pub at_err : (k : ℕ) (xs : List ℕ) (at : ℕ) → Err at ≡ place_of k xs → Says k xs false at
unfolding place_in
at_err k xs at e = record { has_is = sym (at_has k xs (Err at) e); at_is = ap place_in e ∙ place_in-place_of k xs }

-- the same where each number is its own key
says : (k : ℕ) (xs : List ℕ) (r : Result ℕ ℕ) → IsRising xs → (IsRising (map (λ n. n) xs) → r ≡ place_of k (map (λ n. n) xs)) → r ≡ place_of k xs
says k xs r s f = f (subst IsRising (sym (map-id xs)) s) ∙ ap (place_of k) (map-id xs)

pub says_has : (k : ℕ) (xs : List ℕ) (r : Result ℕ ℕ) → IsRising xs → (IsRising (map (λ n. n) xs) → r ≡ place_of k (map (λ n. n) xs)) → is_ok r ≡ has k xs
says_has k xs r s f = at_has k xs r (says k xs r s f)

pub says_ok : (k : ℕ) (xs : List ℕ) (at : ℕ) → IsRising xs → (IsRising (map (λ n. n) xs) → Ok at ≡ place_of k (map (λ n. n) xs)) → Says k xs true at
says_ok k xs at s f = at_ok k xs at (says k xs (Ok at) s f)

pub says_err : (k : ℕ) (xs : List ℕ) (at : ℕ) → IsRising xs → (IsRising (map (λ n. n) xs) → Err at ≡ place_of k (map (λ n. n) xs)) → Says k xs false at
says_err k xs at s f = at_err k xs at (says k xs (Err at) s f)

-- what a result is may be told in another way
pub is_also : {A E : Type 0} {u v : A} (r : Result A E) → IfOk r (λ s. s ≡ u) → u ≡ v → IfOk r (λ s. s ≡ v)
is_also {A} {E} {u} {v} r h e = subst (λ w. IfOk r (λ s. s ≡ w)) e h
