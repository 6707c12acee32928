-- The flat tree of a specification whose words stand for operations. Variables are numbered through the whole text, in the order in which they are bound.
use Rattle.std.specs.Prelude.{ℕ, suc, List, [], ◌∷◌, ◌++◌, Option, None, cond, false}
use Rattle.target_code.specs.declared.tree.Calc.{Calc}
use Rattle.target_code.specs.declared.tree.Calc.TheVariants as c
use Rattle.target_code.specs.declared.tree.InParam.{InParam}
use Rattle.target_code.specs.declared.tree.Rep.{Rep}
use Rattle.nres_core.specs.FlatTree as f
use Rattle.nres_core.specs.FlatTree.{Binds, Ending, Flats, FlatProc, FlatWhole, ◌+++◌}
use Rattle.nres_core.specs.Mirror.{rep_of, named_params, id_blk_of, id_procs_of}
use Rattle.nres_core.specs.Tree as t
use Rattle.nres_core.specs.Tree.{Exp, Exps, Blk, Steps, Bod, same_name}
use Rattle.nres_core.specs.declared.flat.Arg.{Arg}
use Rattle.nres_core.specs.declared.flat.Arg.TheVariants as a
use Rattle.nres_core.specs.declared.identified.IdFun.{IdFun}
use Rattle.nres_core.specs.declared.identified.Identified.{Identified}
use Rattle.nres_core.specs.declared.op.Op.{Op}
use Rattle.nres_core.specs.declared.op.Op.TheVariants as o
use Rattle.nres_core.specs.declared.place.Named.{Named}
use Rattle.nres_core.specs.declared.place.Place.{Place}
use Rattle.nres_core.specs.declared.tree.Param.{Param}
use Rattle.nres_core.specs.declared.tree.Shown.{Shown}

-- what each name in scope stands for, the last bound first
abbrev pub Scope : Type 0
Scope = List (List ℕ × Arg)

abbrev pub arg_of : Scope → List ℕ → Arg
arg_of [] x = a.Num 0
arg_of (e ∷ s) x = cond (same_name e.0 x) e.1 (arg_of s x)

abbrev pub head_arg : List Arg → Arg
head_arg [] = a.Num 0
head_arg (u ∷ us) = u

abbrev pub tail_args : List Arg → List Arg
tail_args [] = []
tail_args (u ∷ us) = us

-- each name stands for its argument
abbrev pub scoped : List Named → List Arg → Scope → Scope
scoped [] us s = s
scoped (x ∷ xs) us s = scoped xs (tail_args us) ((x.name, head_arg us) ∷ s)

-- a number for each name, and what comes after them
abbrev pub fresh : List Named → ℕ → List ℕ
fresh [] k = []
fresh (x ∷ xs) k = k ∷ fresh xs (suc k)

abbrev pub beyond : List Named → ℕ → ℕ
beyond [] k = k
beyond (x ∷ xs) k = beyond xs (suc k)

abbrev pub vars : List ℕ → List Arg
vars [] = []
vars (k ∷ ks) = a.Var k ∷ vars ks

abbrev pub names_of : List Named → List (List ℕ)
names_of [] = []
names_of (x ∷ xs) = x.name ∷ names_of xs

-- the name of a variable without one: `_`
abbrev pub unnamed : List ℕ
unnamed = 95 ∷ []

abbrev pub first_name : List Named → List ℕ
first_name [] = unnamed
first_name (x ∷ xs) = x.name

-- the binds of an expression, what it stands for, the names of the variables that they bind in order, and the next number
pub record Part : Type 0 where
  pub binds : Binds
  pub arg : Arg
  pub names : List (List ℕ)
  pub next : ℕ

-- the same of several expressions, or of a block with its results
pub record Parts : Type 0 where
  pub binds : Binds
  pub args : List Arg
  pub names : List (List ℕ)
  pub next : ℕ

-- no bind
abbrev pub none : ℕ → Arg → Part
none k u = record { binds = f.No_bind; arg = u; names = []; next = k }

-- the operands' binds, left to right, and then the calculation
abbrev pub calc_part : Place → Calc → List ℕ → Part → Part → Part
calc_part p w x l r = record {
  binds = l.binds +++ (r.binds +++ f.Calc_to p r.next w l.arg r.arg f.No_bind);
  arg = a.Var r.next;
  names = l.names ++ (r.names ++ x ∷ []);
  next = suc r.next;
}

-- the arguments' binds, left to right, and then the operation
abbrev pub apply_part : Place → Op → Option Rep → List ℕ → Parts → Part
apply_part p op made x us = record {
  binds = us.binds +++ f.Apply_to p (us.next ∷ []) op made us.args f.No_bind;
  arg = a.Var us.next;
  names = us.names ++ x ∷ [];
  next = suc us.next;
}

abbrev pub also : Part → Parts → Parts
also l r = record { binds = l.binds +++ r.binds; args = l.arg ∷ r.args; names = l.names ++ r.names; next = r.next }

-- an expression whose value gets this name, from this number on; `!x` is x equal to false
abbrev mutual
  pub flat_exp : Exp Op → Scope → List ℕ → ℕ → Part
  flat_exp (t.Num p n) s x k = none k (a.Num n)
  flat_exp (t.Truth p b) s x k = none k (a.Truth b)
  flat_exp (t.Var y) s x k = none k (arg_of s y.name)
  flat_exp (t.Binary p w l r) s x k = calc_part p w x (flat_exp l s unnamed k) (flat_exp r s unnamed (flat_exp l s unnamed k).next)
  flat_exp (t.Not p l) s x k = calc_part p c.Eq x (flat_exp l s unnamed k) (none (flat_exp l s unnamed k).next (a.Truth false))
  flat_exp (t.Apply p op es made) s x k = apply_part p op (rep_of made) x (flat_exps es s k)

  pub flat_exps : Exps Op → Scope → ℕ → Parts
  flat_exps t.None_left s k = record { binds = f.No_bind; args = []; names = []; next = k }
  flat_exps (t.Also e es) s k = also (flat_exp e s unnamed k) (flat_exps es s (flat_exp e s unnamed k).next)

-- how a block with these results ends
abbrev pub ending : Place → Parts → Ending
ending p b = record { place = p; results = b.args }

-- binds, one more at the end that binds new variables for the names, and these variables
abbrev pub out : Binds → List (List ℕ) → List Named → ℕ → (List ℕ → Binds) → Parts
out bs ns xs k b = record { binds = bs +++ b (fresh xs k); args = vars (fresh xs k); names = ns ++ names_of xs; next = beyond xs k }

abbrev pub in_order : Parts → Parts → Parts
in_order l r = record { binds = l.binds +++ r.binds; args = r.args; names = l.names ++ r.names; next = r.next }

abbrev pub place_of : Blk Op → Place
place_of (t.Returns ss p es) = p

abbrev pub single : Part → Parts
single e = record { binds = e.binds; args = e.arg ∷ []; names = e.names; next = e.next }

-- an assert keeps its binds inside itself
abbrev pub asserted : Place → Part → Parts → Parts
asserted p e r = record { binds = f.Assert p e.binds e.arg r.binds; args = r.args; names = e.names ++ r.names; next = r.next }

abbrev pub if_parts : Place → List Named → Part → Place → Parts → Place → Parts → Parts
if_parts p xs e pa l pb r =
    out e.binds (e.names ++ (l.names ++ r.names)) xs r.next (λ to. f.If p to e.arg l.binds (ending pa l) r.binds (ending pb r) f.No_bind)

abbrev pub while_parts : Place → List Named → List Named → Parts → Part → Place → Parts → Parts
while_parts p xs ys us e pb b =
    out us.binds (us.names ++ (names_of ys ++ (e.names ++ b.names))) xs b.next
    (λ to. f.While p to (fresh ys us.next) us.args e.binds e.arg b.binds (ending pb b) f.No_bind)

-- a list to be split is a variable, in a typed tree
abbrev pub split_bind : Place → List ℕ → Arg → Arg → ℕ → Parts → Place → ℕ → Parts → Place → Binds
split_bind p to (a.Var k) at lv l pl rv r pr = f.Split p to k at lv l.binds (ending pl l) rv r.binds (ending pr r) f.No_bind
split_bind p to _ at lv l pl rv r pr = f.Assert p f.No_bind (a.Truth false) f.No_bind

abbrev pub any_parts : Place → List ℕ → Part → Part → Parts
any_parts p x l r = record {
  binds = l.binds +++ (r.binds +++ f.Any p r.next l.arg r.arg f.No_bind);
  args = a.Var r.next ∷ [];
  names = l.names ++ (r.names ++ x ∷ []);
  next = suc r.next;
}

-- A loop over a set: k its elements as a list, k + 1 their number; then a loop that gets one element each turn. Its index i comes last, i + 1 is
-- its test, i + 2 the element.
abbrev pub turn_binds : Place → ℕ → ℕ → Parts → Binds
turn_binds p k i turn =
    f.Apply_to p (suc (suc i) ∷ []) o.Get None (a.Var k ∷ a.Var i ∷ []) (turn.binds +++ f.Calc_to p turn.next c.Add (a.Var i) (a.Num 1) f.No_bind)

abbrev pub turn_ending : Place → Parts → Ending
turn_ending q turn = record { place = q; results = turn.args ++ a.Var turn.next ∷ [] }

abbrev pub foreach_loop : Place → List Named → List Named → ℕ → Parts → ℕ → Place → Parts → Binds
foreach_loop p xs ys k us i q turn =
    f.While p (fresh xs (suc turn.next) ++ beyond xs (suc turn.next) ∷ []) (fresh ys us.next ++ i ∷ []) (us.args ++ a.Num 0 ∷ [])
    (f.Calc_to p (suc i) c.Lt (a.Var i) (a.Var (suc k)) f.No_bind) (a.Var (suc i)) (turn_binds p k i turn) (turn_ending q turn) f.No_bind

abbrev pub foreach_parts : Place → List Named → List Named → List ℕ → Arg → ℕ → Parts → ℕ → Place → Parts → Parts
foreach_parts p xs ys x over k us i q turn = record {
  binds =
      f.Apply_to p (k ∷ []) o.Elems None (over ∷ [])
      (f.Apply_to p (suc k ∷ []) o.Len None (a.Var k ∷ [])
      (us.binds +++ foreach_loop p xs ys k us i q turn));
  args = vars (fresh xs (suc turn.next));
  names = unnamed ∷ unnamed ∷ (us.names ++ (names_of ys ++ (unnamed ∷ unnamed ∷ x ∷ (turn.names ++ (unnamed ∷ (names_of xs ++ unnamed ∷ []))))));
  next = suc (beyond xs (suc turn.next));
}

-- blocks; a procedure has this number
module _ (number : List ℕ → ℕ) where
  abbrev mutual
    pub flat_blk : Blk Op → Scope → ℕ → Parts
    flat_blk (t.Returns ss p es) s k = flat_steps ss es s k

    -- the steps and then the results
    pub flat_steps : Steps Op → Exps Op → Scope → ℕ → Parts
    flat_steps t.No_step es s k = flat_exps es s k
    flat_steps (t.Bind xs p b ss) es s k =
        in_order (flat_bod b s xs k) (flat_steps ss es (scoped xs (flat_bod b s xs k).args s) (flat_bod b s xs k).next)
    flat_steps (t.Assert p e ss) es s k = asserted p (flat_exp e s unnamed k) (flat_steps ss es s (flat_exp e s unnamed k).next)

    -- a body whose results get these names
    pub flat_bod : Bod Op → Scope → List Named → ℕ → Parts
    flat_bod (t.Value e) s xs k = single (flat_exp e s (first_name xs) k)
    flat_bod (t.Take p op e) s xs k =
        out (flat_exp e s unnamed k).binds (flat_exp e s unnamed k).names xs (flat_exp e s unnamed k).next
        (λ to. f.Apply_to p to op None ((flat_exp e s unnamed k).arg ∷ []) f.No_bind)
    flat_bod (t.If p e l r) s xs k =
        let test = flat_exp e s unnamed k in
        let left = flat_blk l s test.next in
        if_parts p xs test (place_of l) left (place_of r) (flat_blk r s left.next)
    flat_bod (t.While p ys q es e b) s xs k =
        let us = flat_exps es s k in
        let s' = scoped ys (vars (fresh ys us.next)) s in
        let test = flat_exp e s' unnamed (beyond ys us.next) in
        while_parts p xs ys us test (place_of b) (flat_blk b s' test.next)
    flat_bod (t.Any p l r) s xs k = any_parts p (first_name xs) (flat_exp l s unnamed k) (flat_exp r s unnamed (flat_exp l s unnamed k).next)
    flat_bod (t.Par p l r) s xs k =
        let left = flat_blk l s k in
        let right = flat_blk r s left.next in
        out f.No_bind (left.names ++ right.names) xs right.next (λ to. f.Par p to left.binds (ending (place_of l) left) right.binds (ending (place_of r) right) f.No_bind)
    flat_bod (t.Either p l r) s xs k =
        let left = flat_blk l s k in
        let right = flat_blk r s left.next in
        out f.No_bind (left.names ++ right.names) xs right.next (λ to. f.Either p to left.binds (ending (place_of l) left) right.binds (ending (place_of r) right) f.No_bind)
    flat_bod (t.Call p g es) s xs k =
        let us = flat_exps es s k in
        out us.binds us.names xs us.next (λ to. f.Call p to (number g.name) us.args f.No_bind)
    flat_bod (t.Split p y e ln l rn r) s xs k =
        let at = flat_exp e s unnamed k in
        let left = flat_blk l ((ln.name, a.Var at.next) ∷ s) (suc at.next) in
        let right = flat_blk r ((rn.name, a.Var left.next) ∷ s) (suc left.next) in
        out at.binds (at.names ++ (ln.name ∷ (left.names ++ (rn.name ∷ right.names)))) xs right.next
        (λ to. split_bind p to (arg_of s y.name) at.arg at.next left (place_of l) left.next right (place_of r))
    flat_bod (t.Foreach p x y ys q es b) s xs k =
        let us = flat_exps es s (suc (suc k)) in
        let i = beyond ys us.next in
        let s' = scoped ys (vars (fresh ys us.next)) ((x.name, a.Var (suc (suc i))) ∷ s) in
        let turn = flat_blk b s' (suc (suc (suc i))) in
        foreach_parts p xs ys x.name (arg_of s y.name) k us i (place_of b) turn

-- a procedure's number in text order, from 0
abbrev pub index_of : List (t.Proc Op) → List ℕ → ℕ
index_of [] x = 0
index_of (p ∷ ps) x = cond (same_name x p.name) 0 (suc (index_of ps x))

-- parameters, and a block that begins with their variables
abbrev pub entered : (List ℕ → ℕ) → List Named → Blk Op → ℕ → Parts
entered number xs b k = flat_blk number b (scoped xs (vars (fresh xs k)) []) (beyond xs k)

abbrev pub flats : Place → Parts → Flats
flats p b = record { binds = b.binds; ending = ending p b }

abbrev pub taken : List Param → List InParam
taken [] = []
taken (x ∷ xs) = record { name = x.name; rep = x.rep; kept = x.kept } ∷ taken xs

abbrev pub shown_reps : List Shown → List Rep
shown_reps [] = []
shown_reps (x ∷ xs) = x.rep ∷ shown_reps xs

abbrev pub flat_fun : (List ℕ → ℕ) → IdFun → ℕ → FlatProc
flat_fun number g k = record {
  name = g.name;
  params = taken g.params;
  shown = shown_reps g.shown;
  body = flats (place_of (id_blk_of g.body)) (entered number (named_params g.params) (id_blk_of g.body) k);
}

-- the procedures, from this number on
abbrev pub flat_funs : (List ℕ → ℕ) → List IdFun → ℕ → List FlatProc
flat_funs number [] k = []
flat_funs number (g ∷ gs) k = flat_fun number g k ∷ flat_funs number gs (entered number (named_params g.params) (id_blk_of g.body) k).next

abbrev pub fun_names : (List ℕ → ℕ) → List IdFun → ℕ → List (List ℕ)
fun_names number [] k = []
fun_names number (g ∷ gs) k =
    let b = entered number (named_params g.params) (id_blk_of g.body) k in
    names_of (named_params g.params) ++ (b.names ++ fun_names number gs b.next)

-- the flat tree of a specification
abbrev pub flat_of : Identified → FlatWhole
flat_of s =
    let number = index_of (id_procs_of s.funs) in
    let b = entered number (named_params s.params) (id_blk_of s.body) 0 in
    record {
      params = taken s.params;
      shown = shown_reps s.shown;
      body = flats (place_of (id_blk_of s.body)) b;
      names = names_of (named_params s.params) ++ (b.names ++ fun_names number s.funs b.next);
      procs = flat_funs number s.funs b.next;
    }
