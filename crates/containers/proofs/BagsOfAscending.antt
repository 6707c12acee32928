-- Multisets of ascending numbers.
use Rattle.std.specs.Prelude.{T}
use Rattle.std.proofs.Common.{◌≡◌, ℕ, suc, ◌<◌, ◌≤◌, true, false, cond, ◌&&◌, nat_le, List, [], ◌∷◌, drop, map, insert, remove, refl, ap, sym, subst, ◌∙◌, arith, inl, inr}
use Rattle.std.proofs.lemmas.Bool.{le-leb, leb-true, lt-ltb}
use Rattle.std.proofs.lemmas.Bool.Decides.{leb_tells}
use Rattle.std.proofs.lemmas.List.{map-id}
use Rattle.sequences.specs.Keys.{AllFrom, IsAscending, below}
use Rattle.sequences.proofs.Counts.{from_lower, below_from}
use Rattle.containers.specs.Bag.{rises_from, place, place_rises, sorted_list, bag_of, no_number, added, same_bag, tests}

parts : (n x : ℕ) (xs : List ℕ) → T (rises_from n (x ∷ xs)) → (n ≤ x) × T (rises_from x xs)
parts n x xs h =
    elim (nat_le n x) as (λ b. nat_le n x ≡ b → T (b && rises_from x xs) → (n ≤ x) × T (rises_from x xs)) [
      | true ↦ λ e r. (leb-true n x e, r)
      | false ↦ λ e r. absurd r
    ] refl h

rises_more : (n x : ℕ) (xs : List ℕ) → n ≤ x → T (rises_from x xs) → T (rises_from n (x ∷ xs))
rises_more n x xs h r = subst (λ b. T (b && rises_from x xs)) (sym (le-leb n x h)) r

rises_lower : (m n : ℕ) (xs : List ℕ) → m ≤ n → T (rises_from n xs) → T (rises_from m xs)
rises_lower m n [] h r = tt
rises_lower m n (x ∷ xs) h r = let p = parts n x xs r in let q : n ≤ x = p.0 in rises_more m x xs (omega (arith, h, q)) p.1

all_from : (n : ℕ) (xs : List ℕ) → T (rises_from n xs) → AllFrom n xs
all_from n [] r = tt
all_from n (x ∷ xs) r = let p = parts n x xs r in (p.0, from_lower n x xs p.0 (all_from x xs p.1))

pub ascends : (n : ℕ) (xs : List ℕ) → T (rises_from n xs) → IsAscending xs
ascends n [] r = tt
ascends n (x ∷ xs) r = let p = parts n x xs r in (all_from x xs p.1, ascends x xs p.1)

place_first : (n : ℕ) (xs : List ℕ) → AllFrom n xs → place n xs ≡ n ∷ xs
place_first n [] a = refl
place_first n (x ∷ xs) a = ap (λ b. cond b (n ∷ x ∷ xs) (x ∷ place n xs)) (le-leb n x a.0)

sorted_is : (n : ℕ) (xs : List ℕ) → T (rises_from n xs) → sorted_list xs ≡ xs
sorted_is n [] r = refl
sorted_is n (x ∷ xs) r =
    let p = parts n x xs r in
    ap (place x) (sorted_is x xs p.1) ∙ place_first x xs (all_from x xs p.1)

pub list_is : (xs : List ℕ) → T (rises_from 0 xs) → (bag_of xs).list ≡ xs
unfolding bag_of
list_is xs r = sorted_is 0 xs r

pub none : bag_of [] ≡ no_number
none = same_bag _ _ (list_is [] tt)

place_at : (n : ℕ) (xs : List ℕ) → IsAscending xs → place n xs ≡ insert xs (below n xs) n
place_at n [] a = refl
place_at n (x ∷ xs) a = elim (leb_tells n x) [
  | inl p ↦
      ap (λ b. cond b (n ∷ x ∷ xs) (x ∷ place n xs)) p.0
      ∙ sym (ap (λ i. insert (x ∷ xs) i n) (below_from n (x ∷ xs) (p.1, from_lower n x xs p.1 a.0)))
  | inr p ↦
      let less : x < n = omega (arith, p.1) in
      ap (λ b. cond b (n ∷ x ∷ xs) (x ∷ place n xs)) p.0
      ∙ ap (λ ys. x ∷ ys) (place_at n xs a.1)
      ∙ sym (ap (λ b. insert (x ∷ xs) (cond b (suc (below n xs)) (below n xs)) n) (lt-ltb x n less))
]

pub insert_rises : (n : ℕ) (xs : List ℕ) → T (rises_from 0 xs) → T (rises_from 0 (insert xs (below n xs) n))
insert_rises n xs r = subst (λ ys. T (rises_from 0 ys)) (place_at n xs (ascends 0 xs r)) (place_rises 0 n xs (tests 0 n (omega arith)) r)

pub insert_bag : (n : ℕ) (xs : List ℕ) → T (rises_from 0 xs) → bag_of (insert xs (below n xs) n) ≡ added (bag_of xs) n
unfolding added
insert_bag n xs r =
    same_bag _ _
    (list_is (insert xs (below n xs) n) (insert_rises n xs r)
    ∙ sym (ap (place n) (list_is xs r) ∙ place_at n xs (ascends 0 xs r)))

pub remove_first : (xs : List ℕ) → remove xs 0 ≡ drop 1 xs
remove_first [] = refl
remove_first (x ∷ xs) = refl

pub rest_rises : (xs : List ℕ) → T (rises_from 0 xs) → T (rises_from 0 (remove xs 0))
rest_rises [] r = tt
rest_rises (x ∷ xs) r = rises_lower 0 x xs (omega arith) (parts 0 x xs r).1

-- what a count among ascending numbers says
pub counted : (k : ℕ) (xs : List ℕ) (n : ℕ) → T (rises_from 0 xs) → (IsAscending (map (λ m. m) xs) → n ≡ below k (map (λ m. m) xs)) → n ≡ below k xs
counted k xs n r f = f (subst IsAscending (sym (map-id xs)) (ascends 0 xs r)) ∙ ap (below k) (map-id xs)
