-- A multiset of numbers as a value: its elements ascending, repeats counted.
use Rattle.std.specs.Prelude.{T}
use Rattle.std.specs.Coded.{Coded, coded_ℕ, coded_list}
use Rattle.std.proofs.Common.{◌≡◌, ℕ, ◌≤◌, Bool, true, false, cond, ◌&&◌, nat_le, List, [], ◌∷◌, subst, sym, inl, inr, arith}
use Rattle.std.proofs.lemmas.Bool.{le-leb}
use Rattle.std.proofs.lemmas.Bool.Decides.{leb_tells}
use mathlib.Core.HLevel.{Σ_prop_path}
use lib.Dec.{T_prop}
use base.Stored.{coded_via}

-- whether each is at least the one before, and the first at least n
abbrev pub rises_from : ℕ → List ℕ → Bool
rises_from n [] = true
rises_from n (x ∷ xs) = nat_le n x && rises_from x xs

pub record Bag : Type 0 where
  pub list : List ℕ
  pub sorted : T (rises_from 0 list)

-- with n before the first element that is at least n
abbrev pub place : ℕ → List ℕ → List ℕ
place n [] = n ∷ []
place n (x ∷ xs) = cond (nat_le n x) (n ∷ x ∷ xs) (x ∷ place n xs)

abbrev pub sorted_list : List ℕ → List ℕ
sorted_list [] = []
sorted_list (x ∷ xs) = place x (sorted_list xs)

both : (a b : Bool) → T a → T b → T (a && b)
both true b p q = q
both false b p q = absurd p

front : (a b : Bool) → T (a && b) → T a
front true b p = tt
front false b p = absurd p

back : (a b : Bool) → T (a && b) → T b
back true b p = p
back false b p = absurd p

pub tests : (n x : ℕ) → n ≤ x → T (nat_le n x)
tests n x h = subst T (sym (le-leb n x h)) tt

pub place_rises : (m n : ℕ) (xs : List ℕ) → T (nat_le m n) → T (rises_from m xs) → T (rises_from m (place n xs))
place_rises m n [] le h = both (nat_le m n) true le tt
place_rises m n (x ∷ xs) le h =
    let first = front (nat_le m x) (rises_from x xs) h in
    let rest = back (nat_le m x) (rises_from x xs) h in
    let P : Bool → Type 0 = λ b. T (rises_from m (cond b (n ∷ x ∷ xs) (x ∷ place n xs))) in
    elim (leb_tells n x) [
      | inl p ↦ subst P (sym p.0) (both (nat_le m n) _ le (both (nat_le n x) _ (tests n x p.1) rest))
      | inr q ↦ subst P (sym q.0) (both (nat_le m x) _ first (place_rises x n xs (tests x n (omega (arith, q.1))) rest))
    ]

pub list_sorted : (xs : List ℕ) → T (rises_from 0 (sorted_list xs))
list_sorted [] = tt
list_sorted (x ∷ xs) = place_rises 0 x (sorted_list xs) (tests 0 x (omega arith)) (list_sorted xs)

-- the multiset of a list's elements
unfoldable pub bag_of : List ℕ → Bag
bag_of xs = record { list = sorted_list xs; sorted = list_sorted xs }

abbrev pub no_number : Bag
no_number = record { list = []; sorted = tt }

-- with n once more
unfoldable pub added : Bag → ℕ → Bag
added b n = record { list = place n b.list; sorted = place_rises 0 n b.list (tests 0 n (omega arith)) b.sorted }

pub same_bag : (a b : Bag) → a.list ≡ b.list → a ≡ b
same_bag a b e =
    let pairs : ◌≡◌ {A = (xs : List ℕ) × T (rises_from 0 xs)} (a.list, a.sorted) (b.list, b.sorted) = Σ_prop_path (λ xs. T_prop _) e in
    λ i. record { list = (pairs i).0; sorted = (pairs i).1 }

abbrev pub code : Coded Bag
code = coded_via (coded_list coded_ℕ) (λ b. b.list) same_bag
