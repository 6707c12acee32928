-- Multisets of words: how often each number is among them says all.
use Rattle.std.specs.Prelude.{T}
use Rattle.std.proofs.Common.{◌≡◌, ◌≢◌, ℕ, zero, suc, ◌+◌, ◌-◌, ◌/◌, ◌<◌, ◌≤◌, Bool, true, false, ◌&&◌, List, [], ◌∷◌, length, refl, sym, ap, ◌∙◌, subst, arith, eqb, eqb-true, eq-eqb, ne_eqb, nat_le, leb-true, ⊎_elim, ◌⊎◌}
use Rattle.std.proofs.lemmas.Bool.{cond_both, cond-true, le-leb}
use Rattle.std.specs.Prelude.{slice_index, take}
use Rattle.containers.specs.Bag as bags
use Rattle.containers.specs.Bag.{bag_of, added, rises_from, place, sorted_list, same_bag, list_sorted}
use Rattle.relations.specs.Represents.{one_if}
use Rattle.op_base.proofs.CountsLemmas.{find_true}
use Rattle.op_heap.specs.Heap.{times, parent, Ordered, SizeLaw}

-- how often a number is in a list
abbrev mult : ℕ → List ℕ → ℕ
mult y [] = 0
mult y (x ∷ xs) = one_if (eqb x y) + mult y xs

mult_here : (y : ℕ) (xs : List ℕ) → 0 < mult y (y ∷ xs)
mult_here y xs = let e = ap one_if (eq-eqb y y refl) in omega (arith, e)

mult_place : (y n : ℕ) (xs : List ℕ) → mult y (place n xs) ≡ one_if (eqb n y) + mult y xs
mult_place y n [] = refl
mult_place y n (x ∷ xs) =
    let r = mult_place y n xs in
    cond_both (nat_le n x) (n ∷ x ∷ xs) (x ∷ place n xs) (λ z. mult y z ≡ one_if (eqb n y) + (one_if (eqb x y) + mult y xs)) (λ e. refl) (λ e. omega (arith, r))

mult_sorted : (y : ℕ) (xs : List ℕ) → mult y (sorted_list xs) ≡ mult y xs
mult_sorted y [] = refl
mult_sorted y (x ∷ xs) = let r = mult_sorted y xs in let p = mult_place y x (sorted_list xs) in omega (arith, r, p)

-- the first n words
times_front : (n y w : ℕ) (ws : List ℕ) → times (suc n) (w ∷ ws) y ≡ one_if (eqb w y) + times n ws y
times_front zero y w ws = refl
times_front (suc n) y w ws = let r = times_front n y w ws in omega (arith, r)

pub times_take : (n y : ℕ) (ws : List ℕ) → n ≤ length ws → times n ws y ≡ mult y (take n ws)
times_take zero y ws le = refl
times_take (suc n) y [] le = absurd (let f : ⊥ = omega (arith, le) in f)
times_take (suc n) y (w ∷ ws) le = let r = times_take n y ws (omega (arith, le)) in let f = times_front n y w ws in omega (arith, r, f)

both_of : (a b : Bool) → T (a && b) → (a ≡ true) × T b
both_of true b p = (refl, p)
both_of false b p = absurd p

none_below : (m y : ℕ) (xs : List ℕ) → T (rises_from m xs) → y < m → mult y xs ≡ 0
none_below m y [] h lt = refl
none_below m y (x ∷ xs) h lt =
    let p = both_of (nat_le m x) (rises_from x xs) h in
    let le = leb-true m x p.0 in
    let ne : x ≢ y = omega (arith, le, lt) in
    let e = ap one_if (ne_eqb x y ne) in
    let r = none_below x y xs p.1 (omega (arith, le, lt)) in omega (arith, e, r)

-- ascending lists with the same numbers as often are one
sorted_same : (m n : ℕ) (xs ys : List ℕ) → T (rises_from m xs) → T (rises_from n ys) → ((y : ℕ) → mult y xs ≡ mult y ys) → xs ≡ ys
sorted_same m n [] [] h k e = refl
sorted_same m n [] (y ∷ ys) h k e = absurd (let a = mult_here y ys in let b = e y in let f : ⊥ = omega (arith, a, b) in f)
sorted_same m n (x ∷ xs) [] h k e = absurd (let a = mult_here x xs in let b = e x in let f : ⊥ = omega (arith, a, b) in f)
sorted_same m n (x ∷ xs) (y ∷ ys) h k e =
    let p = both_of (nat_le m x) (rises_from x xs) h in
    let q = both_of (nat_le n y) (rises_from y ys) k in
    let ge : y ≤ x = ⊎_elim (λ lt. absurd (let a = mult_here x xs in let b = e x in let d = none_below y x (y ∷ ys) (again y ys q.1) lt in let f : ⊥ = omega (arith, a, b, d) in f)) (λ le. le) (let o : (x < y) ⊎ (y ≤ x) = grind arith in o) in
    let le : x ≤ y = ⊎_elim (λ lt. absurd (let a = mult_here y ys in let b = e y in let d = none_below x y (x ∷ xs) (again x xs p.1) lt in let f : ⊥ = omega (arith, a, b, d) in f)) (λ le. le) (let o : (y < x) ⊎ (x ≤ y) = grind arith in o) in
    let same : x ≡ y = omega (arith, ge, le) in
    let rest : xs ≡ ys = sorted_same x y xs ys p.1 q.1 (λ z. let a = e z in let b = ap (λ u. one_if (eqb u z)) same in omega (arith, a, b)) in
    ap (λ u. u ∷ xs) same ∙ ap (λ u. y ∷ u) rest
  where
    again : (x : ℕ) (xs : List ℕ) → T (rises_from x xs) → T (rises_from x (x ∷ xs))
    again x xs h = subst (λ b. T (b && rises_from x xs)) (sym (le-leb x x (omega arith))) h

lists_same : (xs ys : List ℕ) → ((y : ℕ) → mult y xs ≡ mult y ys) → sorted_list xs ≡ sorted_list ys
lists_same xs ys e = sorted_same 0 0 (sorted_list xs) (sorted_list ys) (list_sorted xs) (list_sorted ys) (λ y. mult_sorted y xs ∙ e y ∙ sym (mult_sorted y ys))

take_all : (xs : List ℕ) → take (length xs) xs ≡ xs
take_all [] = refl
take_all (x ∷ xs) = ap (λ y. x ∷ y) (take_all xs)

-- one more
pub added_times : (v : ℕ) (xs ws : List ℕ) → suc (length xs) ≤ length ws → ((y : ℕ) → times (suc (length xs)) ws y ≡ one_if (eqb v y) + times (length xs) xs y) → bag_of (take (suc (length xs)) ws) ≡ added (bag_of xs) v
unfolding bags.bag_of bags.added
added_times v xs ws le same =
    same_bag (bag_of (take (suc (length xs)) ws)) (added (bag_of xs) v)
    (lists_same (take (suc (length xs)) ws) (v ∷ xs)
    (λ y. let a = times_take (suc (length xs)) y ws le in
    let b = times_take (length xs) y xs (omega arith) ∙ ap (mult y) (take_all xs) in
    let c = same y in omega (arith, a, b, c)))

-- the least is first
place_least : (m : ℕ) (zs : List ℕ) → ((y : ℕ) → 0 < mult y zs → m ≤ y) → place m zs ≡ m ∷ zs
place_least m [] h = refl
place_least m (z ∷ zs) h = cond-true (nat_le m z) _ _ (le-leb m z (h z (mult_here z zs)))

first_least : (m : ℕ) (xs ys : List ℕ) → ((y : ℕ) → mult y xs ≡ one_if (eqb m y) + mult y ys) → ((y : ℕ) → 0 < mult y xs → m ≤ y) → sorted_list xs ≡ m ∷ sorted_list ys
first_least m xs ys e h =
    lists_same xs (m ∷ ys) e ∙
    place_least m (sorted_list ys) (λ y pos. let a = mult_sorted y ys in let b = e y in h y (omega (arith, pos, a, b)))

among_least : (n m : ℕ) (ws : List ℕ) → n ≤ length ws → ((i : ℕ) → i < n → m ≤ slice_index ws i) → (y : ℕ) → 0 < mult y (take n ws) → m ≤ y
among_least n m ws le least y pos =
    let a = times_take n y ws le in
    let i = find_true n (λ i. eqb (slice_index ws i) y) (omega (arith, a, pos)) in
    let e = eqb-true (slice_index ws i.0) y i.2 in
    let l = least i.0 i.1 in omega (arith, e, l)

pub taken_times : (n : ℕ) (ws us : List ℕ) → suc n ≤ length ws → n ≤ length us → ((i : ℕ) → i < suc n → slice_index ws 0 ≤ slice_index ws i) → ((y : ℕ) → times n us y + one_if (eqb (slice_index ws 0) y) ≡ times (suc n) ws y) → (bag_of (take (suc n) ws)).list ≡ slice_index ws 0 ∷ (bag_of (take n us)).list
unfolding bags.bag_of
taken_times n ws us len long least same =
    first_least (slice_index ws 0) (take (suc n) ws) (take n us)
    (λ y. let a = times_take (suc n) y ws len in let b = times_take n y us long in let c = same y in omega (arith, a, b, c))
    (among_least (suc n) (slice_index ws 0) ws len least)

pub least_first : (n : ℕ) (w : ℕ) (ws : List ℕ) → ((i : ℕ) → i < suc (length ws) → w ≤ slice_index (w ∷ ws) i) → (bag_of (w ∷ ws)).list ≡ w ∷ (bag_of ws).list
unfolding bags.bag_of
least_first n w ws least =
    first_least w (w ∷ ws) ws (λ y. refl)
    (λ y pos. among_least (suc (length ws)) w (w ∷ ws) (omega arith) least y (subst (λ z. 0 < mult y z) (sym (take_all (w ∷ ws))) pos))

-- the first word is the least
least_up : (m n : ℕ) (ws : List ℕ) → Ordered n ws → (i : ℕ) → i ≤ m → i < n → slice_index ws 0 ≤ slice_index ws i
least_up zero n ws o i im lt = let e : i ≡ 0 = omega (arith, im) in let a = ap (slice_index ws) e in omega (arith, a)
least_up (suc m) n ws o i im lt =
    ⊎_elim
    (λ z. let a = ap (slice_index ws) z in omega (arith, a))
    (λ pos. let r = least_up m n ws o (parent i) (let z : (i - 1) / 2 ≤ m = omega (arith, im, pos) in z) (let z : (i - 1) / 2 < n = omega (arith, lt) in z) in let p = o i pos lt in omega (arith, r, p))
    (let c : (i ≡ 0) ⊎ (0 < i) = grind arith in c)

pub root_least : (n : ℕ) (ws : List ℕ) → Ordered n ws → (i : ℕ) → i < n → slice_index ws 0 ≤ slice_index ws i
root_least n ws o i lt = least_up i n ws o i (omega arith) lt

length_place : (n : ℕ) (xs : List ℕ) → length (place n xs) ≡ suc (length xs)
length_place n [] = refl
length_place n (x ∷ xs) =
    let r = length_place n xs in
    cond_both (nat_le n x) (n ∷ x ∷ xs) (x ∷ place n xs) (λ z. length z ≡ suc (suc (length xs))) (λ e. refl) (λ e. ap suc r)

length_sorted : (xs : List ℕ) → length (sorted_list xs) ≡ length xs
length_sorted [] = refl
length_sorted (x ∷ xs) = length_place x (sorted_list xs) ∙ ap suc (length_sorted xs)

pub size_law : SizeLaw
unfolding bags.bag_of
size_law xs = length_sorted xs
