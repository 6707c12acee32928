-- What a program's lines tell never disagrees, and what was told stays.
use Rattle.std.proofs.Common.{◌≡◌, ℕ, Bool, true, false, nat_eq, eq-eqb, cond, List, [], ◌∷◌, ◌++◌, Option, Some, None, refl, ap, sym, subst, ◌∙◌}
use Rattle.std.specs.List.{AllByRecursion}
use Rattle.std.specs.Str.{bytes_eq}
use Rattle.std.proofs.lemmas.Bool.{eqb-true}
use Rattle.std.proofs.lemmas.Slice.Eq.{bytes_eq-Decides}
use Rattle.target_judge.specs.declared.told.Told.{Told}
use Rattle.target_judge.specs.Shape.{guard, and_then}
use Rattle.target_judge.specs.Numbers.{Numbers, number_of, tell_at, tell_number}
use Rattle.target_judge.specs.Told.{Kind, Args, Results, Given, Input, numbers_in, with_numbers, lookup, tell, Fact, tell_all, Agrees}

-- ---- numbers of one kind

abbrev or_else : Option ℕ → Option ℕ → Option ℕ
or_else None o = o
or_else (Some n) o = Some n

number_append : (x : List ℕ) (xs : Numbers) (y : List ℕ) (n : ℕ) → number_of x (xs ++ (y, n) ∷ []) ≡ or_else (number_of x xs) (cond (bytes_eq x y) (Some n) None)
number_append x [] y n = refl
number_append x (e ∷ xs) y n = by_first (bytes_eq x e.0) (number_append x xs y n)
  where
    by_first : (b : Bool) → number_of x (xs ++ (y, n) ∷ []) ≡ or_else (number_of x xs) (cond (bytes_eq x y) (Some n) None)
        → cond b (Some e.1) (number_of x (xs ++ (y, n) ∷ [])) ≡ or_else (cond b (Some e.1) (number_of x xs)) (cond (bytes_eq x y) (Some n) None)
    by_first true h = refl
    by_first false h = h

self : (x : List ℕ) → bytes_eq x x ≡ true
self x = (bytes_eq-Decides x x).1 refl

-- what is told is there afterwards
now_one : (x : List ℕ) (n : ℕ) (xs ys : Numbers) → tell_number x n xs ≡ Some ys → number_of x ys ≡ Some n
unfolding tell_number
now_one x n xs ys e = by_known (number_of x xs) refl e
  where
    by_equal : (m : ℕ) (b : Bool) → number_of x xs ≡ Some m → nat_eq m n ≡ b → guard b xs ≡ Some ys → number_of x ys ≡ Some n
    by_equal m true is same g = (let there : xs ≡ ys = cc in ap (number_of x) (sym there) ∙ is ∙ ap (λ k. Some k) (eqb-true m n same))
    by_equal m false is same g = absurd cc

    by_known : (o : Option ℕ) → number_of x xs ≡ o → tell_at o x n xs ≡ Some ys → number_of x ys ≡ Some n
    by_known None is g =
        (let there : xs ++ (x, n) ∷ [] ≡ ys = cc in
        ap (number_of x) (sym there) ∙ number_append x xs x n ∙ ap (λ o. or_else o (cond (bytes_eq x x) (Some n) None)) is ∙ ap (λ b. cond b (Some n) None) (self x))
    by_known (Some m) is g = by_equal m (nat_eq m n) is refl g

-- and what was told stays
still_one : (y x : List ℕ) (m n : ℕ) (xs ys : Numbers) → tell_number x n xs ≡ Some ys → number_of y xs ≡ Some m → number_of y ys ≡ Some m
unfolding tell_number
still_one y x m n xs ys e was = by_known (number_of x xs) e
  where
    by_equal : (b : Bool) → guard b xs ≡ Some ys → number_of y ys ≡ Some m
    by_equal true g = (let there : xs ≡ ys = cc in ap (number_of y) (sym there) ∙ was)
    by_equal false g = absurd cc

    by_known : (o : Option ℕ) → tell_at o x n xs ≡ Some ys → number_of y ys ≡ Some m
    by_known None g =
        (let there : xs ++ (x, n) ∷ [] ≡ ys = cc in
        ap (number_of y) (sym there) ∙ number_append y xs x n ∙ ap (λ o. or_else o (cond (bytes_eq y x) (Some n) None)) was)
    by_known (Some k) g = by_equal (nat_eq k n) g

abbrev AgreesOn : (List ℕ → ℕ) → Numbers → Type 0
AgreesOn f xs = (name : List ℕ) (n : ℕ) → number_of name xs ≡ Some n → f name ≡ n

-- a number of the program is always taken
agrees_one : (f : List ℕ → ℕ) (x : List ℕ) (xs : Numbers) → AgreesOn f xs → (ys : Numbers) × (tell_number x (f x) xs ≡ Some ys) × AgreesOn f ys
unfolding tell_number
agrees_one f x xs h = by_known (number_of x xs) refl
  where
    new : (name : List ℕ) (n : ℕ) (o : Option ℕ) (b : Bool) → number_of name xs ≡ o → bytes_eq name x ≡ b → or_else o (cond b (Some (f x)) None) ≡ Some n → f name ≡ n
    new name n (Some m) b is same g = (let there : m ≡ n = cc in h name m is ∙ there)
    new name n None true is same g = (let there : f x ≡ n = cc in ap f ((bytes_eq-Decides name x).0 same) ∙ there)
    new name n None false is same g = absurd cc

    by_known : (o : Option ℕ) → number_of x xs ≡ o → (ys : Numbers) × (tell_at o x (f x) xs ≡ Some ys) × AgreesOn f ys
    by_known None is = (xs ++ (x, f x) ∷ [], refl, λ name n g. new name n (number_of name xs) (bytes_eq name x) refl refl (sym (number_append name xs x (f x)) ∙ g))
    by_known (Some m) is = (xs, ap (λ b. guard b xs) (eq-eqb m (f x) (sym (h x m is))), h)

-- ---- numbers of each kind

-- one kind changes, and the others stay
one_kind : (P : Kind → Numbers → Type 0) (k j : Kind) (xs : Numbers) (t : Told) → P k xs → ((i : Kind) → P i (numbers_in i t)) → P j (numbers_in j (with_numbers k xs t))
one_kind P Args Args xs t one all = one
one_kind P Args Results xs t one all = all Results
one_kind P Args Given xs t one all = all Given
one_kind P Args Input xs t one all = all Input
one_kind P Results Args xs t one all = all Args
one_kind P Results Results xs t one all = one
one_kind P Results Given xs t one all = all Given
one_kind P Results Input xs t one all = all Input
one_kind P Given Args xs t one all = all Args
one_kind P Given Results xs t one all = all Results
one_kind P Given Given xs t one all = one
one_kind P Given Input xs t one all = all Input
one_kind P Input Args xs t one all = all Args
one_kind P Input Results xs t one all = all Results
one_kind P Input Given xs t one all = all Given
one_kind P Input Input xs t one all = one

tell_agrees : (numbers : Kind → List ℕ → ℕ) (k : Kind) (name : List ℕ) (t : Told) → Agrees numbers t → (u : Told) × (tell k name (numbers k name) t ≡ Some u) × Agrees numbers u
unfolding tell
tell_agrees numbers k name t h =
    let one = agrees_one (numbers k) name (numbers_in k t) (h k) in (
      with_numbers k one.0 t,
      ap (λ (o : Option Numbers). and_then o (λ xs. Some (with_numbers k xs t))) one.1,
      λ j. one_kind (λ i. AgreesOn (numbers i)) k j one.0 t one.2 h,
    )

-- so are all numbers that a line tells
pub all_agree : (numbers : Kind → List ℕ → ℕ) (fs : List Fact) (t : Told) → Agrees numbers t → AllByRecursion (λ x. numbers x.kind x.name ≡ x.number) fs → (u : Told) × (tell_all fs t ≡ Some u) × Agrees numbers u
all_agree numbers [] t h all = (t, refl, h)
all_agree numbers (x ∷ xs) t h all =
    let one = tell_agrees numbers x.kind x.name t h in
    let rest = all_agree numbers xs one.0 one.2 all.1 in (
      rest.0,
      ap (λ n. and_then (tell x.kind x.name n t) (tell_all xs)) (sym all.0) ∙ ap (λ (o : Option Told). and_then o (tell_all xs)) one.1 ∙ rest.1,
      rest.2,
    )

same_kind : (k : Kind) (xs : Numbers) (t : Told) → numbers_in k (with_numbers k xs t) ≡ xs
same_kind Args xs t = refl
same_kind Results xs t = refl
same_kind Given xs t = refl
same_kind Input xs t = refl

-- what is told is there afterwards
pub told_there : (k : Kind) (name : List ℕ) (n : ℕ) (t u : Told) → tell k name n t ≡ Some u → lookup k name u ≡ Some n
unfolding tell
told_there k name n t u e = by_told (tell_number name n (numbers_in k t)) refl e
  where
    by_told : (o : Option Numbers) → tell_number name n (numbers_in k t) ≡ o → and_then o (λ xs. Some (with_numbers k xs t)) ≡ Some u → lookup k name u ≡ Some n
    by_told None is g = absurd cc
    by_told (Some xs) is g =
        (let there : with_numbers k xs t ≡ u = cc in
        ap (lookup k name) (sym there) ∙ ap (number_of name) (same_kind k xs t) ∙ now_one name n (numbers_in k t) xs is)

-- and what was told stays
pub told_still : (j k : Kind) (other name : List ℕ) (m n : ℕ) (t u : Told) → tell k name n t ≡ Some u → lookup j other t ≡ Some m → lookup j other u ≡ Some m
unfolding tell
told_still j k other name m n t u e was = by_told (tell_number name n (numbers_in k t)) refl e
  where
    by_told : (o : Option Numbers) → tell_number name n (numbers_in k t) ≡ o → and_then o (λ xs. Some (with_numbers k xs t)) ≡ Some u → lookup j other u ≡ Some m
    by_told None is g = absurd cc
    by_told (Some xs) is g =
        (let there : with_numbers k xs t ≡ u = cc in
        ap (lookup j other) (sym there)
        ∙ one_kind (λ i ys. (number_of other (numbers_in i t) ≡ Some m) → number_of other ys ≡ Some m) k j xs t (still_one other name m n (numbers_in k t) xs is) (λ i h. h) was)

-- ---- nothing else stands there

one_more : (Q : List ℕ → ℕ → Type 0) (x : List ℕ) (n : ℕ) (xs ys : Numbers) → ((y : List ℕ) (m : ℕ) → number_of y xs ≡ Some m → Q y m) → Q x n → tell_number x n xs ≡ Some ys → (y : List ℕ) (m : ℕ) → number_of y ys ≡ Some m → Q y m
unfolding tell_number
one_more Q x n xs ys old new e y m there = by_known (number_of x xs) e
  where
    either : (o : Option ℕ) (b : Bool) → number_of y xs ≡ o → bytes_eq y x ≡ b → or_else o (cond b (Some n) None) ≡ Some m → Q y m
    either (Some k) b is same g = (let equal : k ≡ m = cc in old y m (is ∙ ap (λ i. Some i) equal))
    either None true is same g =
        (let equal : n ≡ m = cc in
        let name : x ≡ y = sym ((bytes_eq-Decides y x).0 same) in
        subst (λ k. Q y k) equal (subst (λ (z : List ℕ). Q z n) name new))
    either None false is same g = absurd cc

    by_equal : (b : Bool) → guard b xs ≡ Some ys → Q y m
    by_equal true g = (let same : ys ≡ xs = cc in old y m (ap (number_of y) (sym same) ∙ there))
    by_equal false g = absurd cc

    by_known : (o : Option ℕ) → tell_at o x n xs ≡ Some ys → Q y m
    by_known None g =
        (let same : xs ++ (x, n) ∷ [] ≡ ys = cc in
        either (number_of y xs) (bytes_eq y x) refl refl (sym (number_append y xs x n) ∙ ap (number_of y) same ∙ there))
    by_known (Some k) g = by_equal (nat_eq k n) g

pub only_told : (Q : Kind → List ℕ → ℕ → Type 0) (k : Kind) (name : List ℕ) (n : ℕ) (t u : Told) → ((j : Kind) (other : List ℕ) (m : ℕ) → lookup j other t ≡ Some m → Q j other m) → Q k name n → tell k name n t ≡ Some u
    → (j : Kind) (other : List ℕ) (m : ℕ) → lookup j other u ≡ Some m → Q j other m
unfolding tell
only_told Q k name n t u old new e j = by_told (tell_number name n (numbers_in k t)) refl e
  where
    by_told : (o : Option Numbers) → tell_number name n (numbers_in k t) ≡ o → and_then o (λ xs. Some (with_numbers k xs t)) ≡ Some u → (other : List ℕ) (m : ℕ) → lookup j other u ≡ Some m → Q j other m
    by_told None is g = absurd cc
    by_told (Some xs) is g = λ other m there.
        (let same : u ≡ with_numbers k xs t = cc in
        one_kind (λ i ys. (y : List ℕ) (l : ℕ) → number_of y ys ≡ Some l → Q i y l) k j xs t (one_more (Q k) name n (numbers_in k t) xs (old k) new is) old other m (sym (ap (lookup j other) same) ∙ there))
