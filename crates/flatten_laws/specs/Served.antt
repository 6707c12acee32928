-- What flattening wants of a tree, and what each typed tree has.
use Rattle.std.specs.Prelude.{◌≡◌, ℕ, suc, ◌+◌, length, List, [], ◌∷◌}
use Rattle.nres_core.specs.FlatTree.{bound_in}
use Rattle.nres_rules.specs.Flatten.{Scope, arg_of, beyond, entered, flat_blk, flat_bod, flat_exp, flat_exps, fresh, index_of, scoped, unnamed, vars}
use Rattle.nres_core.specs.Mirror.{named_params, id_blk_of, id_procs_of}
use Rattle.nres_core.specs.Tree as t
use Rattle.nres_core.specs.Tree.{Blk, Steps, Bod}
use Rattle.nres_core.specs.declared.flat.Arg.{Arg}
use Rattle.nres_core.specs.declared.flat.Arg.TheVariants as a
use Rattle.nres_core.specs.declared.identified.IdFun.{IdFun}
use Rattle.nres_core.specs.declared.identified.Identified.{Identified}
use Rattle.nres_core.specs.declared.op.Op.{Op}
use Rattle.nres_core.specs.declared.place.Named.{Named}
use Rattle.nres_core.specs.declared.tree.Param.{Param}

-- how many results a block has
abbrev pub count : {W : Type 0} → t.Exps W → ℕ
count t.None_left = 0
count (t.Also e es) = suc (count es)

abbrev pub results : {W : Type 0} → Blk W → ℕ
results (t.Returns ss p es) = count es

-- each `foreach` has as many starting values, results of its body and names as variables
abbrev mutual
  pub Served : Blk Op → Type 0
  Served (t.Returns ss p es) = ServedSteps ss

  pub ServedSteps : Steps Op → Type 0
  ServedSteps t.No_step = Unit {0}
  ServedSteps (t.Bind xs p b ss) = ServedBody xs b × ServedSteps ss
  ServedSteps (t.Assert p e ss) = ServedSteps ss

  pub ServedBody : List Named → Bod Op → Type 0
  ServedBody ns (t.If p e x y) = Served x × Served y
  ServedBody ns (t.While p xs q es e x) = Served x
  ServedBody ns (t.Par p x y) = Served x × Served y
  ServedBody ns (t.Split p xs e ln x rn y) = Served x × Served y
  ServedBody ns (t.Either p x y) = Served x × Served y
  ServedBody ns (t.Foreach p x y xs q es b) = (count es ≡ length xs) × (results b ≡ length xs) × (length ns ≡ length xs) × Served b
  ServedBody ns _ = Unit {0}

-- ---- lists that are split

abbrev pub IsVariable : Arg → Type 0
IsVariable (a.Var k) = Unit {0}
IsVariable (a.Num n) = ⊥
IsVariable (a.Truth b) = ⊥

-- where the names in scope stand for these arguments, each list that is split is a variable; the variables of the flat tree are numbered from k on
module _ (number : List ℕ → ℕ) where
  abbrev mutual
    pub Splits : Blk Op → Scope → ℕ → Type 0
    Splits (t.Returns ss p es) s k = StepsSplit ss s k

    pub StepsSplit : Steps Op → Scope → ℕ → Type 0
    StepsSplit t.No_step s k = Unit {0}
    StepsSplit (t.Bind xs p b ss) s k = BodySplits b s k × StepsSplit ss (scoped xs (flat_bod number b s xs k).args s) (flat_bod number b s xs k).next
    StepsSplit (t.Assert p e ss) s k = StepsSplit ss s (flat_exp e s unnamed k).next

    pub BodySplits : Bod Op → Scope → ℕ → Type 0
    BodySplits (t.Value e) s k = Unit {0}
    BodySplits (t.Take p op e) s k = Unit {0}
    BodySplits (t.Any p l r) s k = Unit {0}
    BodySplits (t.If p e l r) s k =
        let test = flat_exp e s unnamed k in
        Splits l s test.next × Splits r s (flat_blk number l s test.next).next
    BodySplits (t.While p ys q es e b) s k =
        let us = flat_exps es s k in
        let s' = scoped ys (vars (fresh ys us.next)) s in
        Splits b s' (flat_exp e s' unnamed (beyond ys us.next)).next
    BodySplits (t.Par p l r) s k = Splits l s k × Splits r s (flat_blk number l s k).next
    BodySplits (t.Split p y e ln l rn r) s k =
        let at = flat_exp e s unnamed k in
        let sl = (ln.name, a.Var at.next) ∷ s in
        let left = flat_blk number l sl (suc at.next) in
        IsVariable (arg_of s y.name) × Splits l sl (suc at.next) × Splits r ((rn.name, a.Var left.next) ∷ s) (suc left.next)
    BodySplits (t.Either p l r) s k = Splits l s k × Splits r s (flat_blk number l s k).next
    BodySplits (t.Foreach p x y ys q es b) s k =
        let us = flat_exps es s (suc (suc k)) in
        let i = beyond ys us.next in
        Splits b (scoped ys (vars (fresh ys us.next)) ((x.name, a.Var (suc (suc i))) ∷ s)) (suc (suc (suc i)))
    BodySplits (t.Call p g es) s k = Unit {0}

-- so it is in a block behind its parameters, from the variable k on
abbrev pub Numbered : (List ℕ → ℕ) → List Param → Blk Op → ℕ → Type 0
Numbered number xs b k = Splits number b (scoped (named_params xs) (vars (fresh (named_params xs) k)) []) (beyond (named_params xs) k)

-- it has as many variables as its binds bind
abbrev pub Counted : (List ℕ → ℕ) → List Param → Blk Op → ℕ → Type 0
Counted number xs b k = (entered number (named_params xs) b k).next ≡ k + (length xs + bound_in (entered number (named_params xs) b k).binds)

-- ---- whole trees

-- the procedures, from the variable k on
abbrev pub ServedFuns : (List ℕ → ℕ) → List IdFun → ℕ → Type 0
ServedFuns number [] k = Unit {0}
ServedFuns number (g ∷ gs) k =
    Served (id_blk_of g.body) × Numbered number g.params (id_blk_of g.body) k
    × ServedFuns number gs (entered number (named_params g.params) (id_blk_of g.body) k).next

pub record IsServed (p : Identified) : Type 0 where
  pub block : Served (id_blk_of p.body)
  pub numbered : Numbered (index_of (id_procs_of p.funs)) p.params (id_blk_of p.body) 0
  pub funs : ServedFuns (index_of (id_procs_of p.funs)) p.funs (entered (index_of (id_procs_of p.funs)) (named_params p.params) (id_blk_of p.body) 0).next
