-- What is looked up while a tree is flattened.
use Rattle.std.proofs.Common.{◌≡◌, ℕ, zero, suc, ◌<◌, ◌≤◌, ◌+◌, ◌-◌, cond, Bool, true, false, List, [], ◌∷◌, ◌++◌, take, drop, length, get_or, Option, Some, None, append_assoc, length-append, refl, ap, ◌∙◌, sym, arith}
use Rattle.std.proofs.Math.Seq.{drop-cons, take-suc}
use Rattle.nres_rules.specs.Flatten.{Scope, vars, fresh, beyond, names_of, arg_of, scoped, head_arg, tail_args}
use Rattle.nres_core.specs.Tree.{same_name}
use Rattle.nres_core.specs.declared.flat.Arg.{Arg}
use Rattle.nres_core.specs.declared.flat.Arg.TheVariants as a
use Rattle.nres_core.specs.declared.identified.IdFun.{IdFun}
use Rattle.nres_core.specs.declared.place.Named.{Named}
use Rattle.nres_flat.specs.Lookups.{or, arg_number, numbered}
use Rattle.scopes.specs.Names.{found_in}

-- ---- a name's argument

either : (b : Bool) (u : Arg) (o : Option Arg) (v : Arg) → or o (a.Num 0) ≡ v → or (cond b (Some u) o) (a.Num 0) ≡ cond b u v
either true u o v h = refl
either false u o v h = h

pub found : (s : Scope) (x : List ℕ) → or (found_in s x) (a.Num 0) ≡ arg_of s x
found [] x = refl
found (e ∷ s) x = either (same_name e.0 x) e.1 (found_in s x) (arg_of s x) (found s x)

pub some_found : (s : Scope) (x : List ℕ) {o : Option Arg} {u : Arg} → o ≡ found_in s x → o ≡ Some u → u ≡ arg_of s x
some_found s x {o = o} {u = u} h e = ap (λ o. or o (a.Num 0)) (sym e ∙ h) ∙ found s x

pub none_found : (s : Scope) (x : List ℕ) {o : Option Arg} → o ≡ found_in s x → o ≡ None → a.Num 0 ≡ arg_of s x
none_found s x {o = o} h e = ap (λ o. or o (a.Num 0)) (sym e ∙ h) ∙ found s x

-- ---- the names of a pattern

pub next_item : {A : Type 0} (xs : List A) (i : ℕ) (d : A) → i < length xs → drop i xs ≡ get_or xs i d ∷ drop (i + 1) xs
next_item xs i d h = let s : suc i ≡ i + 1 = omega arith in drop-cons xs i d h ∙ ap (λ k. get_or xs i d ∷ drop k xs) s

head_at : (us : List Arg) (i : ℕ) → head_arg (drop i us) ≡ arg_number us i
head_at [] zero = refl
head_at [] (suc i) = refl
head_at (u ∷ us) zero = refl
head_at (u ∷ us) (suc i) = head_at us i

tail_at : (us : List Arg) (i : ℕ) → tail_args (drop i us) ≡ drop (suc i) us
tail_at [] zero = refl
tail_at [] (suc i) = refl
tail_at (u ∷ us) zero = refl
tail_at (u ∷ us) (suc i) = tail_at us i

-- one more name stands for its argument
pub bound : (xs : List Named) (us : List Arg) (i : ℕ) (d : Named) {n : List ℕ} {u : Arg} (s all after : Scope) → i < length xs → n ≡ (get_or xs i d).name → u ≡ arg_number us i
    → scoped (drop i xs) (drop i us) s ≡ all → after ≡ (n, u) ∷ s → scoped (drop (i + 1) xs) (drop (i + 1) us) after ≡ all
bound xs us i d {n = n} {u = u} s all after h m k inv e =
    let s1 : suc i ≡ i + 1 = omega arith in
    let x = get_or xs i d in
    ap (λ z. scoped (drop (i + 1) xs) (drop (i + 1) us) z) (e ∙ ap (λ y. (y, u) ∷ s) m ∙ ap (λ y. (x.name, y) ∷ s) (k ∙ sym (head_at us i)))
    ∙ ap (λ z. scoped (drop (i + 1) xs) z ((x.name, head_arg (drop i us)) ∷ s)) (ap (λ k. drop k us) (sym s1) ∙ sym (tail_at us i))
    ∙ ap (λ z. scoped z (drop i us) s) (sym (next_item xs i d h))
    ∙ inv

-- ---- variables

vars_then : (ks : List ℕ) (k : ℕ) → vars (ks ++ k ∷ []) ≡ vars ks ++ a.Var k ∷ []
vars_then [] k = refl
vars_then (j ∷ ks) k = ap (λ us. a.Var j ∷ us) (vars_then ks k)

pub vars_more : (ks : List ℕ) (i d : ℕ) {us ws : List Arg} → i < length ks → us ≡ vars (take i ks) → ws ≡ us ++ a.Var (get_or ks i d) ∷ [] → ws ≡ vars (take (i + 1) ks)
vars_more ks i d h inv w =
    let s1 : suc i ≡ i + 1 = omega arith in
    w ∙ (ap (λ z. z ++ a.Var (get_or ks i d) ∷ []) inv ∙ (sym (vars_then (take i ks) (get_or ks i d)) ∙ ap vars (sym (take-suc ks i d h) ∙ ap (λ j. take j ks) s1)))

-- ---- new variables

taken : {A : Type 0} (xs : List A) (i : ℕ) (x : A) → i < length xs → x ≡ get_or xs i x → take (i + 1) xs ≡ take i xs ++ x ∷ []
taken xs i x h e = let s1 : suc i ≡ i + 1 = omega arith in ap (λ j. take j xs) (sym s1) ∙ (take-suc xs i x h ∙ ap (λ y. take i xs ++ y ∷ []) (sym e))

fresh_then : (xs : List Named) (x : Named) (k : ℕ) → fresh (xs ++ x ∷ []) k ≡ fresh xs k ++ (k + length xs) ∷ []
fresh_then [] x k = ap (λ j. j ∷ []) (omega arith)
fresh_then (y ∷ xs) x k = ap (λ js. k ∷ js) (fresh_then xs x (suc k) ∙ ap (λ j. fresh xs (suc k) ++ j ∷ []) (omega arith))

names_then : (xs : List Named) (x : Named) → names_of (xs ++ x ∷ []) ≡ names_of xs ++ x.name ∷ []
names_then [] x = refl
names_then (y ∷ xs) x = ap (λ ns. y.name ∷ ns) (names_then xs x)

names_length : (xs : List Named) → length (names_of xs) ≡ length xs
names_length [] = refl
names_length (x ∷ xs) = ap suc (names_length xs)

pub next_number : (xs : List Named) (i : ℕ) (ns : List (List ℕ)) {x : Named} {ms : List (List ℕ)} {k : ℕ} {ks : List ℕ} → i < length xs → x ≡ get_or xs i x
    → ks ≡ fresh (take i xs) (length ns) → ms ≡ ns ++ names_of (take i xs) → k ≡ length ms → ks ++ k ∷ [] ≡ fresh (take (i + 1) xs) (length ns)
next_number xs i ns {x = x} {k = k} h e f m g =
    ap (λ z. z ++ k ∷ []) f
    ∙ (ap (λ j. fresh (take i xs) (length ns) ++ j ∷ []) (g ∙ (ap length m ∙ (length-append ns (names_of (take i xs)) ∙ ap (λ j. length ns + j) (names_length (take i xs)))))
    ∙ (sym (fresh_then (take i xs) x (length ns)) ∙ ap (λ z. fresh z (length ns)) (sym (taken xs i x h e))))

pub next_name : (xs : List Named) (i : ℕ) (ns : List (List ℕ)) {x : Named} {ms : List (List ℕ)} → i < length xs → x ≡ get_or xs i x → ms ≡ ns ++ names_of (take i xs)
    → ms ++ x.name ∷ [] ≡ ns ++ names_of (take (i + 1) xs)
next_name xs i ns {x = x} h e m =
    ap (λ z. z ++ x.name ∷ []) m ∙ (append_assoc ns (names_of (take i xs)) (x.name ∷ []) ∙ ap (λ z. ns ++ z) (sym (names_then (take i xs) x) ∙ ap names_of (sym (taken xs i x h e))))

-- the number behind those of a pattern
beyond_is : (xs : List Named) (k : ℕ) → beyond xs k ≡ k + length xs
beyond_is [] k = omega arith
beyond_is (x ∷ xs) k = beyond_is xs (suc k) ∙ omega arith

pub counted : (xs : List Named) (ns : List (List ℕ)) → length (ns ++ names_of xs) ≡ beyond xs (length ns)
counted xs ns = length-append ns (names_of xs) ∙ (ap (λ j. length ns + j) (names_length xs) ∙ sym (beyond_is xs (length ns)))

-- ---- procedures

pub earlier : (fs : List IdFun) (n : ℕ) (d : IdFun) {at : ℕ} {x : List ℕ} {s after : List (List ℕ × ℕ)} → n < length fs → at ≡ length fs - 1 - n → x ≡ (get_or fs at d).name
    → s ≡ numbered (drop (length fs - n) fs) (length fs - n) → after ≡ (x, at) ∷ s → after ≡ numbered (drop (length fs - (n + 1)) fs) (length fs - (n + 1))
earlier fs n d {at = at} {x = x} {s = s} h a m inv e =
    let f = get_or fs at d in
    let i : at ≡ length fs - (n + 1) = a ∙ omega arith in
    let l : at < length fs = omega (arith, a, h) in
    let k : length fs - n ≡ at + 1 = omega (arith, a, h) in
    let k1 : length fs - n ≡ suc at = omega (arith, a, h) in
    let d : drop at fs ≡ f ∷ drop (length fs - n) fs = next_item fs at d l ∙ ap (λ j. f ∷ drop j fs) (sym k) in
    e ∙ (ap (λ z. (x, at) ∷ z) inv ∙ (ap (λ y. (y, at) ∷ numbered (drop (length fs - n) fs) (length fs - n)) m
    ∙ (ap (λ j. (f.name, at) ∷ numbered (drop (length fs - n) fs) j) k1 ∙ (ap (λ z. numbered z at) (sym d) ∙ ap (λ j. numbered (drop j fs) j) i))))
