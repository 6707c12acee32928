-- What each part of a specification may do. What is not of its types fails, or has the value 0.
use Rattle.std.specs.Prelude.{ℕ, zero, suc, ◌+◌, ◌^◌, nat_lt, nat_le, Bool, false, cond, List, [], ◌∷◌, ◌++◌, length, take, drop, Option, Some, None}
use Rattle.nres_core.specs.Tree as t
use Rattle.nres_core.specs.Tree.{Exp, Exps, Blk, Steps, Bod, same_name}
use Rattle.nres_core.specs.Runs.{Runs, Done, Failed, Over, Choose, Side, Between, sided, both, ◌>>=◌}
use Rattle.nres_core.specs.Ops.{op_runs, calc_runs, truth_runs, nat_runs, fail_if, at_line}
use Rattle.nres_core.specs.declared.op.Op.{Op}
use Rattle.nres_core.specs.declared.op.Op.TheVariants as o
use Rattle.target_code.specs.declared.tree.Calc.TheVariants as c
use Rattle.nres_core.specs.declared.place.Named.{Named}
use Rattle.nres_core.specs.declared.value.Value.{Value}
use Rattle.nres_core.specs.declared.value.Value.TheVariants as v

-- the first value, and the others
abbrev pub head_of : List Value → Value
head_of [] = v.Nat 0
head_of (x ∷ xs) = x

abbrev pub tail_of : List Value → List Value
tail_of [] = []
tail_of (x ∷ xs) = xs

-- a value for each name, the last bound first
abbrev pub Env : Type 0
Env = List (List ℕ × Value)

abbrev pub value_of : Env → List ℕ → Value
value_of [] x = v.Nat 0
value_of (e ∷ env) x = cond (same_name e.0 x) e.1 (value_of env x)

-- each name has its value
abbrev pub bound : List Named → List Value → Env → Env
bound [] vs env = env
bound (x ∷ xs) vs env = bound xs (tail_of vs) ((x.name, head_of vs) ∷ env)

-- at most n more turns of a loop that stands at line l
abbrev pub turns : ℕ → ℕ → (List Value → Runs Bool) → (List Value → Runs (List Value)) → List Value → Runs (List Value)
turns zero l test body vs = test vs >>= λ b. cond b (Over l) (Done vs)
turns (suc n) l test body vs = test vs >>= λ b. cond b (body vs >>= turns n l test body) (Done vs)

-- a turn for each element
abbrev pub each : ℕ → ℕ → (ℕ → List Value → Runs (List Value)) → List ℕ → List Value → Runs (List Value)
each n l body [] vs = Done vs
each zero l body (x ∷ xs) vs = Over l
each (suc n) l body (x ∷ xs) vs = body x vs >>= each n l body xs

-- the left part and the right part of a list
abbrev pub parts_out : Value → Value → Runs (List ℕ × List ℕ)
parts_out (v.List xs) (v.Nat k) = fail_if (nat_lt (length xs) k) (take k xs, drop k xs)
parts_out _ _ = Failed 0

abbrev pub parts : ℕ → Value → Value → (List ℕ → List ℕ → Runs (List Value)) → Runs (List Value)
parts l x k go = at_line l (parts_out x k) >>= λ p. go p.0 p.1

-- the joined list, and then other values
abbrev pub joined_out : Value → Value → List Value → Runs (List Value)
joined_out (v.List xs) (v.List ys) vs = fail_if (nat_le (2 ^ 32) (length xs + length ys)) (v.List (xs ++ ys) ∷ vs)
joined_out _ _ vs = Failed 0

abbrev pub joined : ℕ → Value → Value → List Value → Runs (List Value)
joined l x y vs = at_line l (joined_out x y vs)

-- one of two, by a condition
abbrev pub branch : {A : Type 0} → ℕ → Value → Runs A → Runs A → Runs A
branch l x r s = truth_runs l x >>= λ b. cond b r s

-- goes on where the condition holds
abbrev pub tested : ℕ → Runs Value → Runs (Unit {0})
tested l r = r >>= λ x. branch l x (Done tt) (Failed l)

-- the elements of a list
abbrev pub listed : Value → List ℕ
listed (v.List xs) = xs
listed _ = []

-- what a word stands for, on its arguments
abbrev pub apply : ℕ → Option Op → List Value → Runs (List Value)
apply l None vs = Failed l
apply l (Some op) vs = op_runs l op vs

-- the outcomes of expressions; W stands for an operation, which its first argument may settle
module _ {W : Type 0} (op_of : W → Value → Option Op) where
  abbrev mutual
    pub exp_runs : Exp W → ℕ → Env → Runs Value
    exp_runs (t.Num p k) l env = Done (v.Nat k)
    exp_runs (t.Truth p b) l env = Done (v.Bool b)
    exp_runs (t.Var x) l env = Done (value_of env x.name)
    exp_runs (t.Binary p w a b) l env = exp_runs a l env >>= λ x. exp_runs b l env >>= λ y. calc_runs l w x y
    exp_runs (t.Not p a) l env = exp_runs a l env >>= λ x. calc_runs l c.Eq x (v.Bool false)
    exp_runs (t.Apply p w es made) l env =
        exps_runs es l env >>= λ vs. apply l (op_of w (head_of vs)) vs >>= λ us. Done (head_of us)

    pub exps_runs : Exps W → ℕ → Env → Runs (List Value)
    exps_runs t.None_left l env = Done []
    exps_runs (t.Also e es) l env = exp_runs e l env >>= λ x. exps_runs es l env >>= λ xs. Done (x ∷ xs)

-- what blocks, steps and bodies may do; n bounds the turns of each loop; a call has a meaning, from the line of its bind, the procedure's name and the arguments
module _ {W : Type 0} (op_of : W → Value → Option Op) (n : ℕ) (call : ℕ → List ℕ → List Value → Runs (List Value)) where
  abbrev mutual
    pub blk_runs : Blk W → Env → Runs (List Value)
    blk_runs (t.Returns ss p es) env = steps_runs ss env >>= λ env'. exps_runs op_of es p.line env'

    pub steps_runs : Steps W → Env → Runs Env
    steps_runs t.No_step env = Done env
    steps_runs (t.Bind xs p b ss) env = bod_runs b p.line env >>= λ vs. steps_runs ss (bound xs vs env)
    steps_runs (t.Assert p e ss) env =
        tested p.line (exp_runs op_of e p.line env) >>= λ _. steps_runs ss env

    pub bod_runs : Bod W → ℕ → Env → Runs (List Value)
    bod_runs (t.Value e) l env = exp_runs op_of e l env >>= λ x. Done (x ∷ [])
    bod_runs (t.Take p w e) l env = exp_runs op_of e l env >>= λ x. apply l (op_of w x) (x ∷ [])
    bod_runs (t.Any p a b) l env =
        exp_runs op_of a l env >>= λ x. exp_runs op_of b l env >>= λ y. nat_runs l x >>= λ lo. nat_runs l y >>= λ hi.
        cond (nat_lt lo hi) (Choose (Between lo hi) (λ z. Done (z ∷ []))) (Failed l)
    bod_runs (t.If p e a b) l env =
        exp_runs op_of e l env >>= λ x. branch l x (blk_runs a env) (blk_runs b env)
    bod_runs (t.While p xs q es e b) l env =
        exps_runs op_of es l env
        >>= turns n l (λ vs. exp_runs op_of e l (bound xs vs env) >>= truth_runs l) (λ vs. blk_runs b (bound xs vs env))
    bod_runs (t.Par p a b) l env = both (blk_runs a env) (blk_runs b env) (λ xs ys. Done (xs ++ ys))
    bod_runs (t.Split p xs e ln a rn b) l env =
        exp_runs op_of e l env >>= λ k. parts l (value_of env xs.name) k (λ us ws.
        both (blk_runs a ((ln.name, v.List us) ∷ env)) (blk_runs b ((rn.name, v.List ws) ∷ env)) (λ xs ys.
        joined l (head_of xs) (head_of ys) (tail_of xs ++ tail_of ys)))
    bod_runs (t.Either p a b) l env = Choose Side (λ x. sided x (blk_runs a env) (blk_runs b env))
    bod_runs (t.Foreach p x s xs q es b) l env =
        op_runs l o.Elems (value_of env s.name ∷ []) >>= λ us. exps_runs op_of es l env >>= λ vs.
        each n l (λ k vs. blk_runs b (bound xs vs ((x.name, v.Nat k) ∷ env))) (listed (head_of us)) vs
    bod_runs (t.Call p f es) l env = exps_runs op_of es l env >>= call l f.name

-- the procedure of that name
abbrev pub called : {W A : Type 0} → List ℕ → A → (t.Proc W → A) → List (t.Proc W) → A
called f a go [] = a
called f a go (p ∷ ps) = cond (same_name f p.name) (go p) (called f a go ps)

-- the meaning of calls, which nest at most d deep
abbrev pub calls : {W : Type 0} → (W → Value → Option Op) → List (t.Proc W) → ℕ → ℕ → ℕ → List ℕ → List Value → Runs (List Value)
calls op_of ps n zero l f vs = Over l
calls op_of ps n (suc d) l f vs =
    called f (Failed l) (λ p. blk_runs op_of n (calls op_of ps n d) p.body (bound p.params vs [])) ps

-- a specification on its inputs, with at most n turns of each loop and calls at most d deep
abbrev pub whole_runs : {W : Type 0} → (W → Value → Option Op) → ℕ → ℕ → t.Whole W → List Value → Runs (List Value)
whole_runs op_of n d p vs = blk_runs op_of n (calls op_of p.procs n d) p.body (bound p.params vs [])
