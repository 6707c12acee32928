-- Elements of lists, and names that stand in lists.
use Rattle.std.specs.Prelude.{◌≡◌, ℕ, zero, suc, ◌⊎◌, ◌<◌, Bool, true, false, ◌||◌, List, [], ◌∷◌, ◌++◌, length, Contains}
use Rattle.std.specs.Cmp.Derive.{both_true}
use Rattle.std.specs.Str.{bytes_eq}
use Rattle.std.proofs.Common.{refl, sym, ap, ◌∙◌, subst, arith, inl, inr, ⊎_elim}
use Rattle.std.proofs.lemmas.Bool.{and_parts}
use Rattle.std.proofs.lemmas.List.Elements.{Contains-append_cases, Contains-append_right}
use Rattle.std.proofs.lemmas.Slice.Eq.{bytes_eq-Decides}
use Rattle.unfit_line.specs.Tests.{Names, all_in, is_in, same_names}

-- ---- elements

pub nothing : {A : Type 0} (x : A) → Contains [] x → ⊥
nothing x c = let l : c.0 < 0 = c.1 in let o : ⊥ = omega (arith, l) in o

pub here : {A : Type 0} (x : A) (xs : List A) → Contains (x ∷ xs) x
here x xs = (0, (let l : 0 < suc (length xs) = omega arith in l), refl)

pub behind : {A : Type 0} (x y : A) (xs : List A) → Contains xs y → Contains (x ∷ xs) y
behind x y xs c = Contains-append_right (x ∷ []) xs y c

only_one : {A : Type 0} (x y : A) → Contains (x ∷ []) y → x ≡ y
only_one x y (zero, l, e) = e
only_one x y (suc k, l, e) = absurd (let o : ⊥ = omega (arith, l) in o)

pub first_or_behind : {A : Type 0} (x y : A) (xs : List A) → Contains (x ∷ xs) y → (x ≡ y) ⊎ Contains xs y
first_or_behind x y xs c = ⊎_elim (λ d. inl (only_one x y d)) (λ d. inr d) (Contains-append_cases (x ∷ []) xs y c)

-- ---- truth values

pub or_first : (a b : Bool) → a ≡ true → (a || b) ≡ true
or_first true b e = refl
or_first false b e = absurd (let o : ⊥ = cc e in o)

pub or_second : (a b : Bool) → b ≡ true → (a || b) ≡ true
or_second true b e = refl
or_second false b e = e

pub either_of : (a b : Bool) → (a || b) ≡ true → (a ≡ true) ⊎ (b ≡ true)
either_of true b e = inl refl
either_of false b e = inr e

pub not_both : {b : Bool} → b ≡ true → b ≡ false → ⊥
not_both t f = let o : true ≡ false = sym t ∙ f in cc o

-- ---- names

pub same_name : (x : List ℕ) → bytes_eq x x ≡ true
same_name x = (bytes_eq-Decides x x).1 refl

pub name_is : (x y : List ℕ) → bytes_eq x y ≡ true → x ≡ y
name_is x y e = (bytes_eq-Decides x y).0 e

pub names_are : (xs ys : Names) → same_names xs ys ≡ true → xs ≡ ys
names_are [] [] e = refl
names_are [] (y ∷ ys) e = absurd (let o : ⊥ = cc e in o)
names_are (x ∷ xs) [] e = absurd (let o : ⊥ = cc e in o)
names_are (x ∷ xs) (y ∷ ys) e =
    let p = and_parts (bytes_eq x y) (same_names xs ys) e in
    ap (λ z. z ∷ xs) (name_is x y p.0) ∙ ap (λ z. y ∷ z) (names_are xs ys p.1)

pub names_same : (xs : Names) → same_names xs xs ≡ true
names_same [] = refl
names_same (x ∷ xs) = both_true (same_name x) (names_same xs)

-- ---- names that stand in lists

pub in_list : (x : List ℕ) (ns : Names) → Contains ns x → is_in x ns ≡ true
in_list x [] c = absurd (nothing x c)
in_list x (n ∷ ns) c =
    ⊎_elim (λ e. or_first (bytes_eq n x) (is_in x ns) (ap (λ z. bytes_eq z x) e ∙ same_name x)) (λ d. or_second (bytes_eq n x) (is_in x ns) (in_list x ns d)) (first_or_behind n x ns c)

pub of_list : (x : List ℕ) (ns : Names) → is_in x ns ≡ true → Contains ns x
of_list x [] e = absurd (let o : ⊥ = cc e in o)
of_list x (n ∷ ns) e =
    ⊎_elim (λ h. subst (λ z. Contains (n ∷ ns) z) (name_is n x h) (here n ns)) (λ h. behind n x ns (of_list x ns h)) (either_of (bytes_eq n x) (is_in x ns) e)

pub in_front : (x : List ℕ) (ns ms : Names) → is_in x ns ≡ true → is_in x (ns ++ ms) ≡ true
in_front x [] ms e = absurd (let o : ⊥ = cc e in o)
in_front x (n ∷ ns) ms e =
    ⊎_elim (λ h. or_first (bytes_eq n x) (is_in x (ns ++ ms)) h) (λ h. or_second (bytes_eq n x) (is_in x (ns ++ ms)) (in_front x ns ms h)) (either_of (bytes_eq n x) (is_in x ns) e)

pub in_back : (x : List ℕ) (ns ms : Names) → is_in x ms ≡ true → is_in x (ns ++ ms) ≡ true
in_back x [] ms e = e
in_back x (n ∷ ns) ms e = or_second (bytes_eq n x) (is_in x (ns ++ ms)) (in_back x ns ms e)

pub in_either : (x : List ℕ) (ns ms : Names) → is_in x (ns ++ ms) ≡ true → (is_in x ns ≡ true) ⊎ (is_in x ms ≡ true)
in_either x [] ms e = inr e
in_either x (n ∷ ns) ms e =
    ⊎_elim (λ h. inl (or_first (bytes_eq n x) (is_in x ns) h)) (λ h. ⊎_elim (λ k. inl (or_second (bytes_eq n x) (is_in x ns) k)) (λ k. inr k) (in_either x ns ms h)) (either_of (bytes_eq n x) (is_in x (ns ++ ms)) e)

-- each of them stands in one of two lists
pub each_in : (xs ys ns : Names) → all_in xs ys ns ≡ true → (n : List ℕ) → is_in n ns ≡ true → Contains xs n ⊎ Contains ys n
each_in xs ys [] e n h = absurd (let o : ⊥ = cc h in o)
each_in xs ys (m ∷ ms) e n h =
    let p = and_parts (is_in m xs || is_in m ys) (all_in xs ys ms) e in
    ⊎_elim (λ k. subst (λ z. Contains xs z ⊎ Contains ys z) (name_is m n k) (⊎_elim (λ l. inl (of_list m xs l)) (λ r. inr (of_list m ys r)) (either_of (is_in m xs) (is_in m ys) p.0)))
    (λ k. each_in xs ys ms p.1 n k) (either_of (bytes_eq m n) (is_in n ms) h)

pub are_in : (xs ys ns : Names) → ((n : List ℕ) → is_in n ns ≡ true → Contains xs n ⊎ Contains ys n) → all_in xs ys ns ≡ true
are_in xs ys [] h = refl
are_in xs ys (n ∷ ns) h =
    both_true (⊎_elim (λ c. or_first (is_in n xs) (is_in n ys) (in_list n xs c)) (λ c. or_second (is_in n xs) (is_in n ys) (in_list n ys c)) (h n (or_first (bytes_eq n n) (is_in n ns) (same_name n))))
    (are_in xs ys ns (λ m k. h m (or_second (bytes_eq n m) (is_in m ns) k)))
