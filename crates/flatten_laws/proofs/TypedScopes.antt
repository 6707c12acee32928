-- Scopes of flat trees that grow, and the names that they hold.
use Rattle.std.proofs.Common.{◌≡◌, ◌≢◌, ℕ, suc, ◌+◌, ◌<◌, ◌≤◌, nat_eq, ◌&&◌, Bool, true, false, cond, List, [], ◌∷◌, ◌++◌, length, length-append, append-nil, Option, Some, refl, sym, ap, ◌∙◌, subst, arith, eq-eqb}
use Rattle.std.proofs.lemmas.Bool.{eqb-true, ne_eqb}
use Rattle.nres_rules.specs.FlatTyped.{Scope, State, var_ty, arg_ty, args_ty, are_next, scope_next, binding}
use Rattle.nres_rules.specs.Flatten as fl
use Rattle.nres_rules.specs.Flatten.{arg_of, scoped, fresh, beyond, vars}
use Rattle.nres_core.specs.Tree.{same_name}
use Rattle.nres_rules.specs.Typed as td
use Rattle.nres_rules.specs.Typed.{type_in, scope_with, when, and_then, is_any}
use Rattle.nres_core.specs.declared.flat.Arg.{Arg}
use Rattle.nres_core.specs.declared.flat.Arg.TheVariants as a
use Rattle.nres_core.specs.declared.place.Named.{Named}
use Rattle.nres_core.specs.declared.ty.Ty.{Ty}
use Rattle.typing_laws.proofs.NamesLemmas.{beyond_is}

-- ---- growth

-- each variable in scope is below k
pub record Below (k : ℕ) (d : Scope) : Type 0 where
  pub by : (j : ℕ) (u : Ty) → var_ty d j ≡ Some u → j < k

-- what is in scope keeps its type in a later scope, whose variables are below m
pub record Grown (d : Scope) (k : ℕ) (d' : Scope) (m : ℕ) : Type 0 where
  pub grows : k ≤ m
  pub keeps : (j : ℕ) (u : Ty) → var_ty d j ≡ Some u → var_ty d' j ≡ Some u
  pub below : Below m d'

pub below_more : (k m : ℕ) (d : Scope) → k ≤ m → Below k d → Below m d
below_more k m d le h = record { by = λ j u e. let lt = h.by j u e in omega (arith, lt, le) }

pub stays : (d : Scope) (k m : ℕ) → k ≤ m → Below k d → Grown d k d m
stays d k m le h = record { grows = le; keeps = λ j u e. e; below = below_more k m d le h }

pub grown_on : {d d' d'' : Scope} {k m n : ℕ} → Grown d k d' m → Grown d' m d'' n → Grown d k d'' n
grown_on f g = record { grows = omega (arith, f.grows, g.grows); keeps = λ j u e. g.keeps j u (f.keeps j u e); below = g.below }

-- the scope at the start, at a number behind what has grown
pub still : {d d' : Scope} {k m : ℕ} → Below k d → Grown d k d' m → Grown d k d m
still {d} {d'} {k} {m} b g = stays d k m g.grows b

pub put_here : (k : ℕ) (u : Ty) (d : Scope) → var_ty ((k, u) ∷ d) k ≡ Some u
put_here k u d = ap (λ b. cond b (Some u) (var_ty d k)) (eq-eqb k k refl)

pub put_grown : (k : ℕ) (u : Ty) (d : Scope) → Below k d → Grown d k ((k, u) ∷ d) (suc k)
put_grown k u d h = record {
  grows = omega arith;
  keeps = λ j w e. let lt = h.by j w e in let ne : k ≢ j = omega (arith, lt) in ap (λ b. cond b (Some u) (var_ty d j)) (ne_eqb k j ne) ∙ e;
  below = record { by = λ j w e. within j w (nat_eq k j) refl e };
}
  where
    within : (j : ℕ) (w : Ty) (b : Bool) → nat_eq k j ≡ b → cond b (Some u) (var_ty d j) ≡ Some w → j < suc k
    within j w true c e = let same = eqb-true k j c in omega (arith, same)
    within j w false c e = let lt = h.by j w e in omega (arith, lt)

next_grown : (us : List Ty) (k : ℕ) (d : Scope) → Below k d → Grown d k (scope_next us k d) (k + length us)
next_grown [] k d h = stays d k (k + 0) (omega arith) h
next_grown (u ∷ us) k d h =
    let one = put_grown k u d h in
    let two = next_grown us (suc k) ((k, u) ∷ d) one.below in
    subst (λ n. Grown d k (scope_next us (suc k) ((k, u) ∷ d)) n) (omega arith) (grown_on one two)

-- ---- arguments

pub arg_keeps : {d d' : Scope} {k m : ℕ} → Grown d k d' m → (x : Arg) (u : Ty) → arg_ty d x ≡ Some u → arg_ty d' x ≡ Some u
arg_keeps g (a.Var k) u h = g.keeps k u h
arg_keeps g (a.Num n) u h = h
arg_keeps g (a.Truth b) u h = h

-- arguments of these types
abbrev pub AllHave : Scope → List Arg → List Ty → Type 0
AllHave d [] [] = Unit {0}
AllHave d (x ∷ xs) (u ∷ us) = (arg_ty d x ≡ Some u) × AllHave d xs us
AllHave d _ _ = ⊥

pub all_keep : {d d' : Scope} {k m : ℕ} → Grown d k d' m → (xs : List Arg) (us : List Ty) → AllHave d xs us → AllHave d' xs us
all_keep g [] [] h = tt
all_keep g [] (u ∷ us) h = absurd h
all_keep g (x ∷ xs) [] h = absurd h
all_keep g (x ∷ xs) (u ∷ us) h = (arg_keeps g x u h.0, all_keep g xs us h.1)

pub args_have : (d : Scope) (xs : List Arg) (us : List Ty) → AllHave d xs us → args_ty d xs ≡ Some us
args_have d [] [] h = refl
args_have d [] (u ∷ us) h = absurd h
args_have d (x ∷ xs) [] h = absurd h
args_have d (x ∷ xs) (u ∷ us) h =
    ap (λ o. and_then o (λ t. and_then (args_ty d xs) (λ ts. Some (t ∷ ts)))) h.0 ∙ ap (λ o. and_then o (λ ts. Some (u ∷ ts))) (args_have d xs us h.1)

pub last_has : (d : Scope) (xs : List Arg) (us : List Ty) (x : Arg) (u : Ty) → AllHave d xs us → arg_ty d x ≡ Some u → AllHave d (xs ++ x ∷ []) (us ++ u ∷ [])
last_has d [] [] x u h e = (e, tt)
last_has d [] (w ∷ us) x u h e = absurd h
last_has d (y ∷ xs) [] x u h e = absurd h
last_has d (y ∷ xs) (w ∷ us) x u h e = (h.0, last_has d xs us x u h.1 e)

-- ---- the variables of a pattern

-- of these types, with other variables behind them
pub vars_before : (xs : List Named) (us ws : List Ty) (k : ℕ) (d : Scope) → length xs ≡ length us → Below k d → AllHave (scope_next (us ++ ws) k d) (vars (fresh xs k)) us
vars_before [] [] ws k d e h = tt
vars_before [] (u ∷ us) ws k d e h = absurd (omega (arith, e))
vars_before (x ∷ xs) [] ws k d e h = absurd (omega (arith, e))
vars_before (x ∷ xs) (u ∷ us) ws k d e h =
    let one = put_grown k u d h in
    ((next_grown (us ++ ws) (suc k) ((k, u) ∷ d) one.below).keeps k u (put_here k u d), vars_before xs us ws (suc k) ((k, u) ∷ d) (omega (arith, e)) one.below)

pub vars_have : (xs : List Named) (us : List Ty) (k : ℕ) (d : Scope) → length xs ≡ length us → Below k d → AllHave (scope_next us k d) (vars (fresh xs k)) us
vars_have xs us k d e h = subst (λ z. AllHave (scope_next z k d) (vars (fresh xs k)) us) (append-nil us) (vars_before xs us [] k d e h)

-- one more variable
pub last_var : (xs : List Named) (us : List Ty) (w : Ty) (k : ℕ) (d : Scope) → length xs ≡ length us → var_ty (scope_next (us ++ w ∷ []) k d) (beyond xs k) ≡ Some w
last_var [] [] w k d e = put_here k w d
last_var [] (u ∷ us) w k d e = absurd (omega (arith, e))
last_var (x ∷ xs) [] w k d e = absurd (omega (arith, e))
last_var (x ∷ xs) (u ∷ us) w k d e = last_var xs us w (suc k) ((k, u) ∷ d) (omega (arith, e))

pub fresh_grown : (xs : List Named) (us : List Ty) (k : ℕ) (d : Scope) → length xs ≡ length us → Below k d → Grown d k (scope_next us k d) (beyond xs k)
fresh_grown xs us k d e h =
    let count : k + length us ≡ beyond xs k = omega (arith, beyond_is xs k, e) in
    subst (λ n. Grown d k (scope_next us k d) n) count (next_grown us k d h)

pub last_grown : (xs : List Named) (us : List Ty) (w : Ty) (k : ℕ) (d : Scope) → length xs ≡ length us → Below k d → Grown d k (scope_next (us ++ w ∷ []) k d) (suc (beyond xs k))
last_grown xs us w k d e h =
    let count : k + length (us ++ w ∷ []) ≡ suc (beyond xs k) = omega (arith, beyond_is xs k, e, length-append us (w ∷ [])) in
    subst (λ n. Grown d k (scope_next (us ++ w ∷ []) k d) n) count (next_grown (us ++ w ∷ []) k d h)

any_fresh : (xs : List Named) (k : ℕ) → is_any xs ≡ true → is_any (fresh xs k) ≡ true
any_fresh [] k h = h
any_fresh (x ∷ xs) k h = refl

next_fresh : (xs : List Named) (us : List Ty) (k : ℕ) → length xs ≡ length us → are_next (fresh xs k) us k ≡ true
next_fresh [] [] k e = refl
next_fresh [] (u ∷ us) k e = absurd (omega (arith, e))
next_fresh (x ∷ xs) [] k e = absurd (omega (arith, e))
next_fresh (x ∷ xs) (u ∷ us) k e = ap (λ b. b && are_next (fresh xs (suc k)) us (suc k)) (eq-eqb k k refl) ∙ next_fresh xs us (suc k) (omega (arith, e))

any_last : (xs : List Named) (k n : ℕ) → is_any (fresh xs k ++ n ∷ []) ≡ true
any_last [] k n = refl
any_last (x ∷ xs) k n = refl

next_last : (xs : List Named) (us : List Ty) (w : Ty) (k : ℕ) → length xs ≡ length us → are_next (fresh xs k ++ beyond xs k ∷ []) (us ++ w ∷ []) k ≡ true
next_last [] [] w k e = ap (λ b. b && true) (eq-eqb k k refl)
next_last [] (u ∷ us) w k e = absurd (omega (arith, e))
next_last (x ∷ xs) [] w k e = absurd (omega (arith, e))
next_last (x ∷ xs) (u ∷ us) w k e =
    ap (λ b. b && are_next (fresh xs (suc k) ++ beyond xs (suc k) ∷ []) (us ++ w ∷ []) (suc k)) (eq-eqb k k refl) ∙ next_last xs us w (suc k) (omega (arith, e))

given : (to : List ℕ) (us : List Ty) (d : Scope) (k n : ℕ) → is_any to ≡ true → are_next to us k ≡ true → k + length us ≡ n → binding to us d k ≡ Some (scope_next us k d, n)
given to us d k n any next e =
    ap {B = Option State} (λ b. when (b && are_next to us k) (scope_next us k d, k + length us)) any
    ∙ ap {B = Option State} (λ b. when b (scope_next us k d, k + length us)) next
    ∙ ap {B = Option State} (λ m. Some (scope_next us k d, m)) e

pub fresh_bound : (xs : List Named) (us : List Ty) (d : Scope) (k : ℕ) → is_any xs ≡ true → length xs ≡ length us → binding (fresh xs k) us d k ≡ Some (scope_next us k d, beyond xs k)
fresh_bound xs us d k any e = given (fresh xs k) us d k (beyond xs k) (any_fresh xs k any) (next_fresh xs us k e) (omega (arith, e, beyond_is xs k))

pub last_bound : (xs : List Named) (us : List Ty) (w : Ty) (d : Scope) (k : ℕ) → length xs ≡ length us
    → binding (fresh xs k ++ beyond xs k ∷ []) (us ++ w ∷ []) d k ≡ Some (scope_next (us ++ w ∷ []) k d, suc (beyond xs k))
last_bound xs us w d k e =
    given (fresh xs k ++ beyond xs k ∷ []) (us ++ w ∷ []) d k (suc (beyond xs k)) (any_last xs k (beyond xs k)) (next_last xs us w k e) (omega (arith, e, beyond_is xs k, length-append us (w ∷ [])))

pub one_bound : (u : Ty) (d : Scope) (k : ℕ) → binding (k ∷ []) (u ∷ []) d k ≡ Some ((k, u) ∷ d, suc k)
one_bound u d k = given (k ∷ []) (u ∷ []) d k (suc k) refl (ap (λ b. b && true) (eq-eqb k k refl)) (omega arith)

-- ---- names

-- the names of a tree's scope stand for arguments of their types
abbrev pub Aligned : td.Scope → fl.Scope → Scope → Type 0
Aligned [] [] d = Unit {0}
Aligned (e ∷ g) (b ∷ s) d = (b.0 ≡ e.0) × (arg_ty d b.1 ≡ Some e.1) × Aligned g s d
Aligned _ _ d = ⊥

pub aligned_on : {d d' : Scope} {k m : ℕ} → Grown d k d' m → (g : td.Scope) (s : fl.Scope) → Aligned g s d → Aligned g s d'
aligned_on h [] [] l = tt
aligned_on h [] (b ∷ s) l = absurd l
aligned_on h (e ∷ g) [] l = absurd l
aligned_on h (e ∷ g) (b ∷ s) l = (l.0, arg_keeps h b.1 e.1 l.1, aligned_on h g s l.2)

pub arg_has : (g : td.Scope) (s : fl.Scope) (d : Scope) (x : List ℕ) (u : Ty) → Aligned g s d → type_in g x ≡ Some u → arg_ty d (arg_of s x) ≡ Some u
arg_has [] [] d x u h k = absurd (cc)
arg_has [] (b ∷ s) d x u h k = absurd h
arg_has (e ∷ g) [] d x u h k = absurd h
arg_has (e ∷ g) (b ∷ s) d x u h k =
    subst (λ z. arg_ty d (cond (same_name z x) b.1 (arg_of s x)) ≡ Some u) (sym h.0)
    ((elim (same_name e.0 x) as (λ z. cond z (Some e.1) (type_in g x) ≡ Some u → arg_ty d (cond z b.1 (arg_of s x)) ≡ Some u) [
      | true ↦ λ q. h.1 ∙ q
      | false ↦ λ q. arg_has g s d x u h.2 q
    ]) k)

pub scoped_aligned : (xs : List Named) (us : List Ty) (args : List Arg) (g : td.Scope) (s : fl.Scope) (d : Scope)
    → length xs ≡ length us → AllHave d args us → Aligned g s d → Aligned (scope_with xs us g) (scoped xs args s) d
scoped_aligned [] us args g s d e h l = l
scoped_aligned (x ∷ xs) [] args g s d e h l = absurd (omega (arith, e))
scoped_aligned (x ∷ xs) (u ∷ us) [] g s d e h l = absurd h
scoped_aligned (x ∷ xs) (u ∷ us) (b ∷ args) g s d e h l = scoped_aligned xs us args _ _ d (omega (arith, e)) h.1 (refl, h.0, l)
