-- Each choice has a first one, so the path of the first choices is a path.
use Rattle.std.proofs.Common.{◌≡◌, ℕ, zero, suc, Bool, true, false, cond, nat_lt, List, [], ◌∷◌, ◌++◌, Option, Some, None, refl, arith}
use Rattle.std.proofs.lemmas.Bool.{ltb-true}
use Rattle.nres_core.specs.Runs.{Runs, Done, Failed, Over, Choose, Between, Order_of, May, first_of, first_path, Gave, Fell, Late, Gives, Fails, Overruns, sided, both, ◌>>=◌}
use Rattle.nres_core.specs.Ops.{op_runs, op_out, calc_out, truth_runs, truth_out, nat_runs, nat_out, at_line, one}
use Rattle.nres_core.specs.Tree as t
use Rattle.nres_core.specs.Tree.{Exp, Exps, Blk, Steps, Bod, same_name}
use Rattle.std.proofs.lemmas.List.Sorted.{IsPermutation-refl}
use Rattle.containers.specs.Sets as sets
use Rattle.std.specs.FinMap as maps
use Rattle.nres_core.specs.Ops.{fail_if, popped, one_of, found, least, taken}
use Rattle.target_code.specs.declared.tree.Calc.{Calc}
use Rattle.target_code.specs.declared.tree.Calc.TheVariants as c
use Rattle.nres_core.specs.declared.op.Op.{Op}
use Rattle.nres_core.specs.declared.op.Op.TheVariants as o
use Rattle.nres_meaning.specs.Meaning.{Env, turns, each, apply, exp_runs, exps_runs, blk_runs, steps_runs, bod_runs, bound, value_of, called, calls, whole_runs, head_of, tail_of, parts_out, joined_out, listed, branch, tested}
use Rattle.nres_core.specs.declared.value.Value.{Value}
use Rattle.nres_core.specs.declared.value.Value.TheVariants as v

abbrev pub Lively : {A : Type 0} → Runs A → Type 0
Lively (Done a) = Unit {0}
Lively (Failed l) = Unit {0}
Lively (Over l) = Unit {0}
Lively (Choose c k) = May c (first_of c) × ((x : Value) → Lively (k x))

pub lively_then : {A B : Type 0} (r : Runs A) (f : A → Runs B) → Lively r → ((a : A) → Lively (f a)) → Lively (r >>= f)
lively_then (Done a) f h k = k a
lively_then (Failed l) f h k = tt
lively_then (Over l) f h k = tt
lively_then (Choose c g) f h k = (h.0, λ x. lively_then (g x) f (h.1 x) k)

pub gives_first : {A : Type 0} (r : Runs A) (a : A) → Lively r → first_path r ≡ Gave a → Gives r a
gives_first (Done b) a h e = (cc)
gives_first (Failed l) a h e = (cc)
gives_first (Over l) a h e = (cc)
gives_first (Choose c k) a h e = (first_of c, h.0, gives_first (k (first_of c)) a (h.1 (first_of c)) e)

pub fails_first : {A : Type 0} (r : Runs A) (l : ℕ) → Lively r → first_path r ≡ Fell l → Fails r
fails_first (Done b) a h e = (cc)
fails_first (Failed l) a h e = tt
fails_first (Over l) a h e = (cc)
fails_first (Choose c k) a h e = (first_of c, h.0, fails_first (k (first_of c)) a (h.1 (first_of c)) e)

pub overruns_first : {A : Type 0} (r : Runs A) (l : ℕ) → Lively r → first_path r ≡ Late l → Overruns r
overruns_first (Done b) a h e = (cc)
overruns_first (Failed l) a h e = (cc)
overruns_first (Over l) a h e = tt
overruns_first (Choose c k) a h e = (first_of c, h.0, overruns_first (k (first_of c)) a (h.1 (first_of c)) e)

lively_if : {A : Type 0} (b : Bool) (x : A) → Lively (fail_if b x)
lively_if true x = tt
lively_if false x = tt

lively_at : {A : Type 0} (l : ℕ) (r : Runs A) → Lively r → Lively (at_line l r)
lively_at l (Done a) h = tt
lively_at l (Failed k) h = tt
lively_at l (Over k) h = tt
lively_at l (Choose c k) h = (h.0, λ x. lively_at l (k x) (h.1 x))

order_lively : (xs : List ℕ) (b : Bool) → Lively (cond b (Choose (Order_of xs) one) (Failed 0))
order_lively xs true = (IsPermutation-refl xs, λ x. tt)
order_lively xs false = tt

popped_lively : (xs : List ℕ) → Lively (popped xs)
popped_lively [] = tt
popped_lively (x ∷ xs) = tt

one_lively : (xs : List ℕ) → Lively (one_of xs)
one_lively [] = tt
one_lively (x ∷ xs) = ((0, omega arith, refl), λ y. tt)

found_lively : (x : Option ℕ) → Lively (found x)
found_lively None = tt
found_lively (Some n) = tt

least_lively : (xs : List ℕ) → Lively (least xs)
least_lively [] = tt
least_lively (x ∷ xs) = tt

taken_lively : (xs : List ℕ) → Lively (taken xs)
taken_lively [] = tt
taken_lively (x ∷ xs) = tt

op_lively : (op : Op) (vs : List Value) → Lively (op_out op vs)
op_lively o.Zeros (v.Nat n ∷ []) = lively_if _ _
op_lively o.Get (v.List xs ∷ v.Nat i ∷ []) = lively_if _ _
op_lively o.SetAt (v.List xs ∷ v.Nat i ∷ v.Nat x ∷ []) = lively_if _ _
op_lively o.Swap (v.List xs ∷ v.Nat i ∷ v.Nat j ∷ []) = lively_if _ _
op_lively o.Push (v.List xs ∷ v.Nat x ∷ []) = lively_if _ _
op_lively o.Pop (v.List xs ∷ []) = popped_lively xs
op_lively o.Insert (v.Set s ∷ v.Nat x ∷ []) = lively_if _ _
op_lively o.Pick (v.Set s ∷ []) = one_lively (sets.items s)
op_lively o.Union (v.Set s ∷ v.Set t ∷ []) = lively_if _ _
op_lively o.Elems (v.Set s ∷ []) = order_lively (sets.items s) _
op_lively o.Lookup (v.Map m ∷ v.Nat k ∷ []) = found_lively (maps.get m k)
op_lively o.Put (v.Map m ∷ v.Nat k ∷ v.Nat x ∷ []) = lively_if _ _
op_lively o.Keys (v.Map m ∷ []) = order_lively (maps.keys m) _
op_lively o.Add (v.Bag h ∷ v.Nat x ∷ []) = lively_if _ _
op_lively o.Minimum (v.Bag h ∷ []) = least_lively h.list
op_lively o.TakeMin (v.Bag h ∷ []) = taken_lively h.list
op_lively o.Nil [] = tt
op_lively o.Len (v.List xs ∷ []) = tt
op_lively o.CopyList (v.List xs ∷ []) = tt
op_lively o.EmptySet [] = tt
op_lively o.SizeSet (v.Set s ∷ []) = tt
op_lively o.HasSet (v.Set s ∷ v.Nat x ∷ []) = tt
op_lively o.Remove (v.Set s ∷ v.Nat x ∷ []) = tt
op_lively o.CopySet (v.Set s ∷ []) = tt
op_lively o.EmptyMap [] = tt
op_lively o.SizeMap (v.Map m ∷ []) = tt
op_lively o.HasMap (v.Map m ∷ v.Nat k ∷ []) = tt
op_lively o.Del (v.Map m ∷ v.Nat k ∷ []) = tt
op_lively o.CopyMap (v.Map m ∷ []) = tt
op_lively o.EmptyBag [] = tt
op_lively o.SizeBag (v.Bag h ∷ []) = tt
op_lively o.CopyBag (v.Bag h ∷ []) = tt
op_lively op vs = tt

calc_lively : (w : Calc) (x y : Value) → Lively (calc_out w x y)
calc_lively c.Add (v.Nat x) (v.Nat y) = lively_if _ _
calc_lively c.Sub (v.Nat x) (v.Nat y) = lively_if _ _
calc_lively c.Mul (v.Nat x) (v.Nat y) = lively_if _ _
calc_lively c.Div (v.Nat x) (v.Nat y) = lively_if _ _
calc_lively c.Mod (v.Nat x) (v.Nat y) = lively_if _ _
calc_lively c.Min (v.Nat x) (v.Nat y) = tt
calc_lively c.Max (v.Nat x) (v.Nat y) = tt
calc_lively c.Lt (v.Nat x) (v.Nat y) = tt
calc_lively c.Le (v.Nat x) (v.Nat y) = tt
calc_lively c.Eq (v.Nat x) (v.Nat y) = tt
calc_lively c.Ne (v.Nat x) (v.Nat y) = tt
calc_lively c.And (v.Bool x) (v.Bool y) = tt
calc_lively c.Or (v.Bool x) (v.Bool y) = tt
calc_lively c.Eq (v.Bool x) (v.Bool y) = tt
calc_lively w x y = tt

truth_lively : (x : Value) → Lively (truth_out x)
truth_lively (v.Bool b) = tt
truth_lively x = tt

nat_lively : (x : Value) → Lively (nat_out x)
nat_lively (v.Nat b) = tt
nat_lively x = tt

parts_lively : (x y : Value) → Lively (parts_out x y)
parts_lively (v.List xs) (v.Nat k) = lively_if _ _
parts_lively x y = tt

joined_lively : (x y : Value) (vs : List Value) → Lively (joined_out x y vs)
joined_lively (v.List xs) (v.List ys) vs = lively_if _ _
joined_lively x y vs = tt

cond_lively : {A : Type 0} (b : Bool) (r s : Runs A) → Lively r → Lively s → Lively (cond b r s)
cond_lively true r s h k = h
cond_lively false r s h k = k

branch_lively : {A : Type 0} (l : ℕ) (x : Value) (r s : Runs A) → Lively r → Lively s → Lively (branch l x r s)
branch_lively l x r s h k = lively_then (truth_runs l x) _ (lively_at l _ (truth_lively x)) (λ b. cond_lively b _ _ h k)

sided_lively : {A : Type 0} (x : Value) (r s : Runs A) → Lively r → Lively s → Lively (sided x r s)
sided_lively (v.Bool false) r s h k = k
sided_lively (v.Bool true) r s h k = h
sided_lively (v.Nat n) r s h k = h
sided_lively (v.List n) r s h k = h
sided_lively (v.Set n) r s h k = h
sided_lively (v.Map n) r s h k = h
sided_lively (v.Bag n) r s h k = h

both_lively : {A B C : Type 0} (r : Runs A) (s : Runs B) (k : A → B → Runs C) → Lively r → Lively s → ((x : A) (y : B) → Lively (k x y)) → Lively (both r s k)
both_lively r s k h j g = (tt, λ x. sided_lively x _ _ (lively_then r _ h (λ a. lively_then s _ j (λ b. g a b))) (lively_then s _ j (λ b. lively_then r _ h (λ a. g a b))))

turns_lively : (n l : ℕ) (test : List Value → Runs Bool) (body : List Value → Runs (List Value)) → ((vs : List Value) → Lively (test vs)) → ((vs : List Value) → Lively (body vs)) → (vs : List Value) → Lively (turns n l test body vs)
turns_lively zero l test body h k vs = lively_then (test vs) _ (h vs) (λ b. cond_lively b _ _ tt tt)
turns_lively (suc n) l test body h k vs = lively_then (test vs) _ (h vs) (λ b. cond_lively b _ _ (lively_then (body vs) _ (k vs) (turns_lively n l test body h k)) tt)

each_lively : (n l : ℕ) (body : ℕ → List Value → Runs (List Value)) → ((x : ℕ) (vs : List Value) → Lively (body x vs)) → (xs : List ℕ) (vs : List Value) → Lively (each n l body xs vs)
each_lively n l body h [] vs = tt
each_lively zero l body h (x ∷ xs) vs = tt
each_lively (suc n) l body h (x ∷ xs) vs = lively_then (body x vs) _ (h x vs) (each_lively n l body h xs)

apply_lively : (l : ℕ) (op : Option Op) (vs : List Value) → Lively (apply l op vs)
apply_lively l None vs = tt
apply_lively l (Some op) vs = lively_at l _ (op_lively op vs)

module _ {W : Type 0} (op_of : W → Value → Option Op) where
  mutual
    pub exp_lively : (e : Exp W) (l : ℕ) (env : Env) → Lively (exp_runs op_of e l env)
    exp_lively (t.Num p k) l env = tt
    exp_lively (t.Truth p b) l env = tt
    exp_lively (t.Var x) l env = tt
    exp_lively (t.Binary p w a b) l env = lively_then (exp_runs op_of a l env) _ (exp_lively a l env) (λ x. lively_then (exp_runs op_of b l env) _ (exp_lively b l env) (λ y. lively_at l _ (calc_lively w x y)))
    exp_lively (t.Not p a) l env = lively_then (exp_runs op_of a l env) _ (exp_lively a l env) (λ x. lively_at l _ (calc_lively c.Eq x (v.Bool false)))
    exp_lively (t.Apply p w es made) l env = lively_then (exps_runs op_of es l env) _ (exps_lively es l env) (λ vs. lively_then (apply l (op_of w (head_of vs)) vs) _ (apply_lively l (op_of w (head_of vs)) vs) (λ us. tt))

    pub exps_lively : (es : Exps W) (l : ℕ) (env : Env) → Lively (exps_runs op_of es l env)
    exps_lively t.None_left l env = tt
    exps_lively (t.Also e es) l env = lively_then (exp_runs op_of e l env) _ (exp_lively e l env) (λ x. lively_then (exps_runs op_of es l env) _ (exps_lively es l env) (λ xs. tt))

module _ {W : Type 0} (op_of : W → Value → Option Op) (n : ℕ) (call : ℕ → List ℕ → List Value → Runs (List Value)) (deep : (l : ℕ) (f : List ℕ) (vs : List Value) → Lively (call l f vs)) where
  tested_lively : (l : ℕ) (r : Runs Value) → Lively r → Lively (tested l r)
  tested_lively l r h = lively_then r _ h (λ x. branch_lively l x _ _ tt tt)

  range_lively : (l lo hi : ℕ) (b : Bool) → nat_lt lo hi ≡ b → Lively (cond b (Choose (Between lo hi) (λ z. Done (z ∷ []))) (Failed l))
  range_lively l lo hi true e = ((omega arith, ltb-true lo hi e), λ x. tt)
  range_lively l lo hi false e = tt

  mutual
    pub blk_lively : (b : Blk W) (env : Env) → Lively (blk_runs op_of n call b env)
    blk_lively (t.Returns ss p es) env = lively_then (steps_runs op_of n call ss env) _ (steps_lively ss env) (λ e. exps_lively op_of es p.line e)

    pub steps_lively : (ss : Steps W) (env : Env) → Lively (steps_runs op_of n call ss env)
    steps_lively t.No_step env = tt
    steps_lively (t.Bind xs p b ss) env = lively_then (bod_runs op_of n call b p.line env) _ (bod_lively b p.line env) (λ vs. steps_lively ss (bound xs vs env))
    steps_lively (t.Assert p e ss) env = lively_then (tested p.line (exp_runs op_of e p.line env)) _ (tested_lively p.line _ (exp_lively op_of e p.line env)) (λ x. steps_lively ss env)

    pub bod_lively : (b : Bod W) (l : ℕ) (env : Env) → Lively (bod_runs op_of n call b l env)
    bod_lively (t.Value e) l env = lively_then (exp_runs op_of e l env) _ (exp_lively op_of e l env) (λ x. tt)
    bod_lively (t.Take p w e) l env = lively_then (exp_runs op_of e l env) _ (exp_lively op_of e l env) (λ x. apply_lively l (op_of w x) (x ∷ []))
    bod_lively (t.Any p a b) l env =
        lively_then (exp_runs op_of a l env) _ (exp_lively op_of a l env) (λ x. lively_then (exp_runs op_of b l env) _ (exp_lively op_of b l env) (λ y.
        lively_then (nat_runs l x) _ (lively_at l _ (nat_lively x)) (λ lo. lively_then (nat_runs l y) _ (lively_at l _ (nat_lively y)) (λ hi. range_lively l lo hi _ refl))))
    bod_lively (t.If p e a b) l env = lively_then (exp_runs op_of e l env) _ (exp_lively op_of e l env) (λ x. branch_lively l x _ _ (blk_lively a env) (blk_lively b env))
    bod_lively (t.While p xs q es e b) l env =
        lively_then (exps_runs op_of es l env) _ (exps_lively op_of es l env) (turns_lively n l _ _ (λ vs. lively_then (exp_runs op_of e l (bound xs vs env)) _ (exp_lively op_of e l (bound xs vs env)) (λ x. lively_at l _ (truth_lively x))) (λ vs. blk_lively b (bound xs vs env)))
    bod_lively (t.Par p a b) l env = both_lively (blk_runs op_of n call a env) (blk_runs op_of n call b env) _ (blk_lively a env) (blk_lively b env) (λ xs ys. tt)
    bod_lively (t.Split p xs e ln a rn b) l env =
        lively_then (exp_runs op_of e l env) _ (exp_lively op_of e l env) (λ k. lively_then (at_line l (parts_out (value_of env xs.name) k)) _ (lively_at l _ (parts_lively (value_of env xs.name) k)) (λ q.
        both_lively (blk_runs op_of n call a ((ln.name, v.List q.0) ∷ env)) (blk_runs op_of n call b ((rn.name, v.List q.1) ∷ env)) _ (blk_lively a _) (blk_lively b _) (λ us ws. lively_at l _ (joined_lively (head_of us) (head_of ws) (tail_of us ++ tail_of ws)))))
    bod_lively (t.Either p a b) l env = (tt, λ x. sided_lively x _ _ (blk_lively a env) (blk_lively b env))
    bod_lively (t.Foreach p x s xs q es b) l env =
        lively_then (op_runs l o.Elems (value_of env s.name ∷ [])) _ (lively_at l _ (op_lively o.Elems (value_of env s.name ∷ []))) (λ us. lively_then (exps_runs op_of es l env) _ (exps_lively op_of es l env) (λ vs.
        each_lively n l _ (λ k ws. blk_lively b (bound xs ws ((x.name, v.Nat k) ∷ env))) (listed (head_of us)) vs))
    bod_lively (t.Call p f es) l env = lively_then (exps_runs op_of es l env) _ (exps_lively op_of es l env) (λ vs. deep l f.name vs)

called_lively : {W : Type 0} (f : List ℕ) (go : t.Proc W → Runs (List Value)) (r : Runs (List Value)) → Lively r → ((p : t.Proc W) → Lively (go p)) → (ps : List (t.Proc W)) → Lively (called f r go ps)
called_lively f go r h k [] = h
called_lively f go r h k (p ∷ ps) = cond_lively (same_name f p.name) _ _ (k p) (called_lively f go r h k ps)

calls_lively : {W : Type 0} (op_of : W → Value → Option Op) (ps : List (t.Proc W)) (n d l : ℕ) (f : List ℕ) (vs : List Value) → Lively (calls op_of ps n d l f vs)
calls_lively op_of ps n zero l f vs = tt
calls_lively op_of ps n (suc d) l f vs = called_lively f _ (Failed l) tt (λ p. blk_lively op_of n (calls op_of ps n d) (calls_lively op_of ps n d) p.body (bound p.params vs [])) ps

pub whole_lively : {W : Type 0} (op_of : W → Value → Option Op) (n d : ℕ) (p : t.Whole W) (us : List Value) → Lively (whole_runs op_of n d p us)
whole_lively op_of n d p us = blk_lively op_of n (calls op_of p.procs n d) (calls_lively op_of p.procs n d) p.body (bound p.params us [])
