-- What each part of a flat tree may do. A failure in it has no line.
use Rattle.std.specs.Prelude.{ℕ, zero, suc, ◌+◌, nat_eq, nat_lt, cond, List, [], ◌∷◌, ◌++◌, length}
use Rattle.target_code.specs.declared.tree.InParam.{InParam}
use Rattle.nres_core.specs.FlatTree.{Binds, Ending, Flats, FlatProc, bound_in, FlatWhole, No_bind, Calc_to, Apply_to, Assert, If, While, Par, Split, Either, Any, Call}
use Rattle.nres_core.specs.Ops.{op_runs, calc_runs, truth_runs, nat_runs}
use Rattle.nres_core.specs.Runs.{Runs, Done, Failed, Over, Choose, Side, Between, sided, both, ◌>>=◌}
use Rattle.nres_core.specs.declared.flat.Arg.{Arg}
use Rattle.nres_core.specs.declared.flat.Arg.TheVariants as a
use Rattle.nres_core.specs.declared.value.Value.{Value}
use Rattle.nres_core.specs.declared.value.Value.TheVariants as v
use Rattle.nres_meaning.specs.Meaning.{head_of, tail_of, turns, parts, joined, branch, tested}

-- a value for each variable
abbrev pub Vars : Type 0
Vars = ℕ → Value

abbrev pub arg_value : Vars → Arg → Value
arg_value env (a.Var k) = env k
arg_value env (a.Num n) = v.Nat n
arg_value env (a.Truth b) = v.Bool b

abbrev pub arg_values : Vars → List Arg → List Value
arg_values env [] = []
arg_values env (u ∷ us) = arg_value env u ∷ arg_values env us

-- a variable has a new value; each of several has its own
abbrev pub put : ℕ → Value → Vars → Vars
put k x env j = cond (nat_eq j k) x (env j)

abbrev pub puts : List ℕ → List Value → Vars → Vars
puts [] vs env = env
puts (k ∷ ks) vs env = puts ks (tail_of vs) (put k (head_of vs) env)

-- the results of a block
abbrev pub ended : Ending → Runs Vars → Runs (List Value)
ended e r = r >>= λ g. Done (arg_values g e.results)

-- n bounds the turns of each loop; a call has a meaning, from the procedure's number and the arguments
module _ (n : ℕ) (call : ℕ → List Value → Runs (List Value)) where
  -- binds, in order
  abbrev pub binds_runs : Binds → Vars → Runs Vars
  binds_runs No_bind env = Done env
  binds_runs (Calc_to p to w a b rest) env = calc_runs 0 w (arg_value env a) (arg_value env b) >>= λ x. binds_runs rest (put to x env)
  binds_runs (Apply_to p to op made us rest) env = op_runs 0 op (arg_values env us) >>= λ vs. binds_runs rest (puts to vs env)
  binds_runs (Assert p inner a rest) env = tested 0 (binds_runs inner env >>= λ g. Done (arg_value g a)) >>= λ _. binds_runs rest env
  binds_runs (If p to a x xe y ye rest) env =
      branch 0 (arg_value env a) (ended xe (binds_runs x env)) (ended ye (binds_runs y env)) >>= λ vs. binds_runs rest (puts to vs env)
  binds_runs (While p to xs us cs a x xe rest) env =
      turns n 0 (λ vs. binds_runs cs (puts xs vs env) >>= λ g. truth_runs 0 (arg_value g a)) (λ vs. ended xe (binds_runs x (puts xs vs env))) (arg_values env us)
      >>= λ vs. binds_runs rest (puts to vs env)
  binds_runs (Par p to x xe y ye rest) env =
      both (ended xe (binds_runs x env)) (ended ye (binds_runs y env)) (λ xs ys. Done (xs ++ ys)) >>= λ vs. binds_runs rest (puts to vs env)
  binds_runs (Split p to list at k x xe j y ye rest) env =
      parts 0 (env list) (arg_value env at) (λ us ws.
      both (ended xe (binds_runs x (put k (v.List us) env))) (ended ye (binds_runs y (put j (v.List ws) env))) (λ xs ys.
      joined 0 (head_of xs) (head_of ys) (tail_of xs ++ tail_of ys)))
      >>= λ vs. binds_runs rest (puts to vs env)
  binds_runs (Either p to x xe y ye rest) env =
      Choose Side (λ z. sided z (ended xe (binds_runs x env)) (ended ye (binds_runs y env))) >>= λ vs. binds_runs rest (puts to vs env)
  binds_runs (Any p to a b rest) env =
      nat_runs 0 (arg_value env a) >>= λ lo. nat_runs 0 (arg_value env b) >>= λ hi.
      cond (nat_lt lo hi) (Choose (Between lo hi) (λ z. Done z)) (Failed 0) >>= λ z. binds_runs rest (put to z env)
  binds_runs (Call p to f us rest) env = call f (arg_values env us) >>= λ vs. binds_runs rest (puts to vs env)

-- no variable has a value yet
abbrev pub no_vars : Vars
no_vars k = v.Nat 0

-- the variables of parameters, from the first of them
abbrev pub numbered : List InParam → ℕ → List ℕ
numbered [] k = []
numbered (x ∷ xs) k = k ∷ numbered xs (suc k)

-- the first variable after a procedure whose first variable is k
abbrev pub after : FlatProc → ℕ → ℕ
after p k = k + (length p.params + bound_in p.body.binds)

-- the procedure of that number, and its first variable
abbrev pub proc_at : {A : Type 0} → ℕ → A → (FlatProc → ℕ → A) → List FlatProc → ℕ → A
proc_at f none go [] k = none
proc_at zero none go (p ∷ ps) k = go p k
proc_at (suc f) none go (p ∷ ps) k = proc_at f none go ps (after p k)

-- a block on the values of parameters, whose first variable is k
abbrev pub flats_runs : ℕ → (ℕ → List Value → Runs (List Value)) → List InParam → Flats → ℕ → List Value → Runs (List Value)
flats_runs n call xs b k vs = ended b.ending (binds_runs n call b.binds (puts (numbered xs k) vs no_vars))

-- the meaning of calls, which nest at most d deep; k is the first variable of the procedures
abbrev pub flat_calls : List FlatProc → ℕ → ℕ → ℕ → ℕ → List Value → Runs (List Value)
flat_calls ps k n zero f vs = Over 0
flat_calls ps k n (suc d) f vs = proc_at f (Failed 0) (λ p j. flats_runs n (flat_calls ps k n d) p.params p.body j vs) ps k

-- the first variable of the procedures
abbrev pub after_main : FlatWhole → ℕ
after_main p = length p.params + bound_in p.body.binds

-- a flat specification on its inputs, with at most n turns of each loop and calls at most d deep
abbrev pub flat_runs : ℕ → ℕ → FlatWhole → List Value → Runs (List Value)
flat_runs n d p vs = flats_runs n (flat_calls p.procs (after_main p) n d) p.params p.body 0 vs
