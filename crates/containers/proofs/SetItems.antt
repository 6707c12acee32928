-- The numbers of a set in order, and sets with the numbers of two.
use Rattle.std.proofs.Common.{◌≡◌, ℕ, ◌<◌, Bool, true, false, cond, ◌||◌, eqb, List, [], ◌∷◌, ◌++◌, insert, refl, ap, sym, subst, ◌∙◌, inl, inr}
use Rattle.std.proofs.lemmas.Bool.{eq-eqb, eqb-true, cases_order, both_ways}
use Rattle.std.specs.List.{list_any}
use Rattle.std.specs.Ordering.{nat_cmp, eq_by_cmp}
use Rattle.std.specs.Cmp.{nat_cmp_total, unsigned_tied}
use Rattle.std.specs.FinSet as std_sets
use Rattle.sequences.specs.Keys.{AllAbove, IsRising, below, has}
use Rattle.sequences.proofs.Places.{above_lower, has_none}
use Rattle.containers.specs.Rising.{with_number, rising}
use Rattle.containers.specs.Sets as sets
use Rattle.containers.specs.Sets.{items}
use Rattle.containers.proofs.SetsOfRising.{has_insert, rising_insert, contains_has}

-- two lists of rising numbers with the same numbers are one
first_there : (x : ℕ) (xs : List ℕ) → has x (x ∷ xs) ≡ true
first_there x xs = ap (λ b. b || has x xs) (eq-eqb x x refl)

no_less : (x y : ℕ) (ys : List ℕ) → x < y → AllAbove y ys → has x (y ∷ ys) ≡ false
no_less x y ys h a = has_none x (y ∷ ys) (h, above_lower x y ys h a)

others_same : (q x : ℕ) (xs ys : List ℕ) → AllAbove x xs → AllAbove x ys → has q (x ∷ xs) ≡ has q (x ∷ ys) → has q xs ≡ has q ys
others_same q x xs ys a b e =
    elim (eqb q x) as (λ t. eqb q x ≡ t → (t || has q xs) ≡ (t || has q ys) → has q xs ≡ has q ys) [
      | true ↦ λ h _. ap (λ n. has n xs) (eqb-true q x h) ∙ has_none x xs a ∙ sym (ap (λ n. has n ys) (eqb-true q x h) ∙ has_none x ys b)
      | false ↦ λ h is. is
    ] refl e

pub same_rising : (xs ys : List ℕ) → IsRising xs → IsRising ys → ((q : ℕ) → has q xs ≡ has q ys) → xs ≡ ys
same_rising [] [] s t is = refl
same_rising [] (y ∷ ys) s t is = absurd (both_ways _ (sym (is y)) (first_there y ys))
same_rising (x ∷ xs) [] s t is = absurd (both_ways _ (is x) (first_there x xs))
same_rising (x ∷ xs) (y ∷ ys) s t is = elim (cases_order x y) [
  | inl same ↦
      let a : AllAbove x ys = subst (λ k. AllAbove k ys) (sym same) t.0 in
      let rest = same_rising xs ys s.1 t.1 (λ q. others_same q x xs ys s.0 a (is q ∙ ap (λ k. has q (k ∷ ys)) (sym same))) in
      λ i. same i ∷ rest i
  | inr (inl less) ↦ absurd (both_ways _ (is x ∙ no_less x y ys less t.0) (first_there x xs))
  | inr (inr more) ↦ absurd (both_ways _ (sym (is y) ∙ no_less y x xs more s.0) (first_there y ys))
]

with_number_cases : (k : ℕ) (xs : List ℕ) (P : List ℕ → Type 0) → (has k xs ≡ true → P xs) → (has k xs ≡ false → P (insert xs (below k xs) k)) → P (with_number k xs)
with_number_cases k xs P there missing =
    elim (has k xs) as (λ b. has k xs ≡ b → P (cond b xs (insert xs (below k xs) k))) [ true ↦ there | false ↦ missing ] refl

pub rises : (xs : List ℕ) → IsRising (rising xs)
rises [] = tt
rises (x ∷ xs) = with_number_cases x (rising xs) IsRising (λ h. rises xs) (λ h. rising_insert x (rising xs) (rises xs) h)

already : (q k : ℕ) (xs : List ℕ) → has k xs ≡ true → has q xs ≡ (eqb q k || has q xs)
already q k xs e =
    elim (eqb q k) as (λ b. eqb q k ≡ b → has q xs ≡ (b || has q xs)) [
      | true ↦ λ h. ap (λ n. has n xs) (eqb-true q k h) ∙ e
      | false ↦ λ h. refl
    ] refl

pub has_rising : (q : ℕ) (xs : List ℕ) → has q (rising xs) ≡ has q xs
has_rising q [] = refl
has_rising q (x ∷ xs) =
    with_number_cases x (rising xs) (λ ys. has q ys ≡ (eqb q x || has q (rising xs)))
    (λ h. already q x (rising xs) h)
    (λ h. has_insert q x (below x (rising xs)) (rising xs))
    ∙ ap (λ b. eqb q x || b) (has_rising q xs)

any_has : (q : ℕ) (xs : List ℕ) → list_any (eq_by_cmp nat_cmp q) xs ≡ has q xs
any_has q [] = refl
any_has q (x ∷ xs) = λ i. unsigned_tied q x i || any_has q xs i

pub items_rise : (s : sets.FinSet nat_cmp) → IsRising (items s)
unfolding items
items_rise s = rises (std_sets.items s)

pub has_items : (s : sets.FinSet nat_cmp) (q : ℕ) → has q (items s) ≡ sets.contains s q
unfolding items
has_items s q = has_rising q (std_sets.items s) ∙ sym (std_sets.contains-items s q ∙ any_has q (std_sets.items s))

pub contains-items : (s : sets.FinSet nat_cmp) (q : ℕ) → sets.contains s q ≡ list_any (eq_by_cmp nat_cmp q) (items s)
contains-items s q = sym (any_has q (items s) ∙ has_items s q)

-- what a set of rising numbers gives
pub items-from_list : (xs : List ℕ) → IsRising xs → items (sets.from_list xs) ≡ xs
items-from_list xs s = same_rising _ xs (items_rise _) s (λ q. has_items _ q ∙ contains_has xs q)

pub from_list-items : (s : sets.FinSet nat_cmp) → sets.from_list (items s) ≡ s
from_list-items s = sets.same_set nat_cmp_total sets.nat_cmp-IsAntisymmetric _ _ (λ q. contains_has (items s) q ∙ has_items s q)

-- the order of two sets in a union does not matter
or_turned : (a b : Bool) → (a || b) ≡ (b || a)
or_turned true true = refl
or_turned true false = refl
or_turned false true = refl
or_turned false false = refl

pub union_turned : (s t : sets.FinSet nat_cmp) → sets.union s t ≡ sets.union t s
union_turned s t =
    sets.same_set nat_cmp_total sets.nat_cmp-IsAntisymmetric _ _
    (λ q. sets.contains-union nat_cmp_total s t q ∙ or_turned (sets.contains s q) (sets.contains t q) ∙ sym (sets.contains-union nat_cmp_total t s q))

or-false : (a : Bool) → (a || false) ≡ a
or-false true = refl
or-false false = refl

pub union_none : (s : sets.FinSet nat_cmp) → s ≡ sets.union s (sets.from_list [])
union_none s =
    sets.same_set nat_cmp_total sets.nat_cmp-IsAntisymmetric _ _
    (λ q. sym (sets.contains-union nat_cmp_total s (sets.from_list []) q ∙ ap (λ b. sets.contains s q || b) (sets.contains-empty nat_cmp q) ∙ or-false (sets.contains s q)))

or_swap : (a b c : Bool) → (a || (b || c)) ≡ (b || (a || c))
or_swap true true c = refl
or_swap true false c = refl
or_swap false b c = refl

pub union_more : (s : sets.FinSet nat_cmp) (xs : List ℕ) (k : ℕ) → sets.insert (sets.union s (sets.from_list xs)) k ≡ sets.union s (sets.from_list (xs ++ k ∷ []))
union_more s xs k =
    sets.same_set nat_cmp_total sets.nat_cmp-IsAntisymmetric _ _
    (λ q.
    sets.contains-insert nat_cmp_total (sets.union s (sets.from_list xs)) k q
    ∙ ap (λ b. eq_by_cmp nat_cmp q k || b) (sets.contains-union nat_cmp_total s (sets.from_list xs) q)
    ∙ or_swap (eq_by_cmp nat_cmp q k) (sets.contains s q) (sets.contains (sets.from_list xs) q)
    ∙ ap (λ b. sets.contains s q || b) (sym (ap (λ t. sets.contains t q) (sets.from_list_push nat_cmp_total sets.nat_cmp-IsAntisymmetric xs k) ∙ sets.contains-insert nat_cmp_total (sets.from_list xs) k q))
    ∙ sym (sets.contains-union nat_cmp_total s (sets.from_list (xs ++ k ∷ [])) q))
