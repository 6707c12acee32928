-- Scopes, and the values that are seen through them.
use Rattle.std.proofs.Common.{◌≡◌, ◌≢◌, ℕ, suc, ◌<◌, ◌≤◌, true, false, cond, List, [], ◌∷◌, refl, sym, ap, ◌∙◌, subst, arith, eq-eqb}
use Rattle.std.proofs.lemmas.Bool.{ne_eqb}
use Rattle.nres_core.specs.declared.flat.Arg.{Arg}
use Rattle.nres_core.specs.declared.flat.Arg.TheVariants as a
use Rattle.nres_core.specs.declared.place.Named.{Named}
use Rattle.nres_core.specs.declared.value.Value.{Value}
use Rattle.nres_core.specs.Runs.{Runs}
use Rattle.nres_meaning.specs.Alike.{Alike}
use Rattle.nres_meaning.specs.Meaning.{Env, value_of, bound, head_of, tail_of}
use Rattle.nres_meaning.specs.FlatMeaning.{Vars, arg_value, arg_values, put, puts}
use Rattle.nres_rules.specs.Flatten.{Scope, arg_of, scoped, vars, fresh, beyond}
use Rattle.nres_core.specs.Tree.{same_name}
use Rattle.flatten_laws.specs.Environments.{arg_below, Fits, seen}

-- variables below k have what they had
pub record Holds (k : ℕ) (env g : Vars) : Type 0 where
  pub by : (j : ℕ) → j < k → g j ≡ env j

pub held : (k : ℕ) (env : Vars) → Holds k env env
held k env = record { by = λ j h. refl }

pub hold_on : (k m : ℕ) (env g h : Vars) → k ≤ m → Holds k env g → Holds m g h → Holds k env h
hold_on k m env g h le a b = record { by = λ j lt. b.by j (omega (arith, lt, le)) ∙ a.by j lt }

abbrev pub args_below : ℕ → List Arg → Type 0
args_below k [] = Unit {0}
args_below k (u ∷ us) = arg_below k u × args_below k us

pub arg_more : (k m : ℕ) (u : Arg) → k ≤ m → arg_below k u → arg_below m u
arg_more k m (a.Var j) le h = omega (arith, h)
arg_more k m (a.Num j) le h = tt
arg_more k m (a.Truth j) le h = tt

pub fits_more : (k m : ℕ) (s : Scope) → k ≤ m → Fits k s → Fits m s
fits_more k m [] le h = tt
fits_more k m (e ∷ s) le h = (arg_more k m e.1 le h.0, fits_more k m s le h.1)

pub arg_of_below : (k : ℕ) (s : Scope) (x : List ℕ) → Fits k s → arg_below k (arg_of s x)
arg_of_below k [] x h = tt
arg_of_below k (e ∷ s) x h = elim (same_name e.0 x) as (λ b. arg_below k (cond b e.1 (arg_of s x))) [ true ↦ h.0 | false ↦ arg_of_below k s x h.1 ]

pub arg_same : (k : ℕ) (env g : Vars) (u : Arg) → arg_below k u → Holds k env g → arg_value g u ≡ arg_value env u
arg_same k env g (a.Var j) lt h = h.by j lt
arg_same k env g (a.Num j) lt h = refl
arg_same k env g (a.Truth j) lt h = refl

pub args_same : (k : ℕ) (env g : Vars) (us : List Arg) → args_below k us → Holds k env g → arg_values g us ≡ arg_values env us
args_same k env g [] lt h = refl
args_same k env g (u ∷ us) lt h = λ i. arg_same k env g u lt.0 h i ∷ args_same k env g us lt.1 h i

pub seen_same : (k : ℕ) (env g : Vars) (s : Scope) → Fits k s → Holds k env g → seen s g ≡ seen s env
seen_same k env g [] lt h = refl
seen_same k env g (e ∷ s) lt h = λ i. (e.0, arg_same k env g e.1 lt.0 h i) ∷ seen_same k env g s lt.1 h i

pub value_seen : (s : Scope) (env : Vars) (x : List ℕ) → value_of (seen s env) x ≡ arg_value env (arg_of s x)
value_seen [] env x = refl
value_seen (e ∷ s) env x =
    elim (same_name e.0 x) as (λ b. cond b (arg_value env e.1) (value_of (seen s env) x) ≡ arg_value env (cond b e.1 (arg_of s x))) [
      | true ↦ refl
      | false ↦ value_seen s env x
    ]

pub put_here : (k : ℕ) (x : Value) (env : Vars) → put k x env k ≡ x
put_here k x env = ap (λ b. cond b x (env k)) (eq-eqb k k refl)

pub put_holds : (k : ℕ) (x : Value) (env : Vars) → Holds k env (put k x env)
put_holds k x env = record { by = λ j lt. let ne : j ≢ k = omega (arith, lt) in ap (λ b. cond b x (env j)) (ne_eqb j k ne) }

pub beyond_le : (xs : List Named) (k : ℕ) → k ≤ beyond xs k
beyond_le [] k = omega arith
beyond_le (x ∷ xs) k = omega (arith, beyond_le xs (suc k))

pub fresh_below : (xs : List Named) (k : ℕ) → args_below (beyond xs k) (vars (fresh xs k))
fresh_below [] k = tt
fresh_below (x ∷ xs) k = (omega (arith, beyond_le xs (suc k)), fresh_below xs (suc k))

pub scoped_fits : (k : ℕ) (xs : List Named) (us : List Arg) (s : Scope) → args_below k us → Fits k s → Fits k (scoped xs us s)
scoped_fits k [] us s h f = f
scoped_fits k (x ∷ xs) [] s h f = scoped_fits k xs [] _ tt (tt, f)
scoped_fits k (x ∷ xs) (u ∷ us) s h f = scoped_fits k xs us _ h.1 (h.0, f)

-- values that stand in arguments
pub args_seen : (xs : List Named) (us : List Arg) (s : Scope) (g : Vars) → bound xs (arg_values g us) (seen s g) ≡ seen (scoped xs us s) g
args_seen [] us s g = refl
args_seen (x ∷ xs) [] s g = args_seen xs [] ((x.name, a.Num 0) ∷ s) g
args_seen (x ∷ xs) (u ∷ us) s g = args_seen xs us ((x.name, u) ∷ s) g

-- values that were put into fresh variables
pub puts_hold : (xs : List Named) (k : ℕ) (vs : List Value) (g : Vars) → Holds k g (puts (fresh xs k) vs g)
puts_hold [] k vs g = held k g
puts_hold (x ∷ xs) k vs g = hold_on k (suc k) _ _ _ (omega arith) (put_holds k (head_of vs) g) (puts_hold xs (suc k) (tail_of vs) (put k (head_of vs) g))

pub puts_seen : (xs : List Named) (k : ℕ) (vs : List Value) (s : Scope) (g : Vars) → Fits k s → bound xs vs (seen s g) ≡ seen (scoped xs (vars (fresh xs k)) s) (puts (fresh xs k) vs g)
puts_seen [] k vs s g f = refl
puts_seen (x ∷ xs) k vs s g f =
    let g' = put k (head_of vs) g in
    let one : seen ((x.name, a.Var k) ∷ s) g' ≡ (x.name, head_of vs) ∷ seen s g = λ i. (x.name, put_here k (head_of vs) g i) ∷ seen_same k g g' s f (put_holds k (head_of vs) g) i in
    ap (bound xs (tail_of vs)) (sym one) ∙ puts_seen xs (suc k) (tail_of vs) ((x.name, a.Var k) ∷ s) g' (omega arith, fits_more k (suc k) s (omega arith) f)

-- one more name
pub with_seen : (s : Scope) (k : ℕ) (x : List ℕ) (y : Value) (g : Vars) → Fits k s → seen ((x, a.Var k) ∷ s) (put k y g) ≡ (x, y) ∷ seen s g
with_seen s k x y g f = λ i. (x, put_here k y g i) ∷ seen_same k g (put k y g) s f (put_holds k y g) i

-- what holds of the names' values as they are seen later
pub shifted : {A B : Type 0} {R : A → B → Type 0} {r : Runs B} (run : Env → Runs A) (s : Scope) (k : ℕ) (env g : Vars) → Fits k s → Holds k env g → Alike ⊥ R (run (seen s g)) r → Alike ⊥ R (run (seen s env)) r
shifted {R = R} {r = r} run s k env g fits h a = subst (λ z. Alike ⊥ R (run z) r) (seen_same k env g s fits h) a
