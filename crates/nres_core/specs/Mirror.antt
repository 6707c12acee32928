-- The specification trees of the code as plain data.
use Rattle.std.specs.Prelude.{List, [], ◌∷◌, Option, Some, None}
use Rattle.target_code.specs.declared.tree.Rep.{Rep}
use Rattle.nres_core.specs.Tree as t
use Rattle.nres_core.specs.Tree.{Exp, Exps, Blk, Steps, Bod, Word}
use Rattle.nres_core.specs.declared.identified.IdBlock.{IdBlock}
use Rattle.nres_core.specs.declared.identified.IdBody.{IdBody}
use Rattle.nres_core.specs.declared.identified.IdBody.TheFolds.{fold-IdBlock, fold-IdStep, fold-IdBody}
use Rattle.nres_core.specs.declared.identified.IdBody.TheOpen as J
use Rattle.nres_core.specs.declared.identified.IdExpr.{IdExpr}
use Rattle.nres_core.specs.declared.identified.IdExpr.TheFolds.{fold-IdExpr}
use Rattle.nres_core.specs.declared.identified.IdExpr.TheOpen as I
use Rattle.nres_core.specs.declared.identified.IdFun.{IdFun}
use Rattle.nres_core.specs.declared.identified.IdStep.{IdStep}
use Rattle.nres_core.specs.declared.identified.Identified.{Identified}
use Rattle.nres_core.specs.declared.op.Op.{Op}
use Rattle.nres_core.specs.declared.place.Named.{Named}
use Rattle.nres_core.specs.declared.tree.Block.{Block}
use Rattle.nres_core.specs.declared.tree.Body.{Body}
use Rattle.nres_core.specs.declared.tree.Body.TheFolds.{fold-Block, fold-Step, fold-Body}
use Rattle.nres_core.specs.declared.tree.Body.TheOpen as B
use Rattle.nres_core.specs.declared.tree.Chosen.{Chosen}
use Rattle.nres_core.specs.declared.tree.Expr.{Expr}
use Rattle.nres_core.specs.declared.tree.Expr.TheFolds.{fold-Expr}
use Rattle.nres_core.specs.declared.tree.Expr.TheOpen as E
use Rattle.nres_core.specs.declared.tree.Fun.{Fun}
use Rattle.nres_core.specs.declared.tree.Param.{Param}
use Rattle.nres_core.specs.declared.tree.Spec.{Spec}
use Rattle.nres_core.specs.declared.tree.Step.{Step}

abbrev pub exps_of : {W : Type 0} → List (Exp W) → Exps W
exps_of [] = t.None_left
exps_of (e ∷ es) = t.Also e (exps_of es)

abbrev pub steps_of : {W : Type 0} → List (Steps W → Steps W) → Steps W
steps_of [] = t.No_step
steps_of (f ∷ fs) = f (steps_of fs)

-- the representation that is chosen for a constructor
abbrev pub rep_of : Option Chosen → Option Rep
rep_of None = None
rep_of (Some ch) = Some ch.rep

-- ---- specifications

abbrev pub expr_step : E.Expr-F (Exp Word) → Exp Word
expr_step (E.Num p n) = t.Num p n
expr_step (E.Truth p b) = t.Truth p b
expr_step (E.Var x) = t.Var x
expr_step (E.Binary p w a b) = t.Binary p w a b
expr_step (E.Not p a) = t.Not p a
expr_step (E.Apply p w es made) = t.Apply p (w, rep_of made) (exps_of es) made

-- an expression as plain data
abbrev pub exp_of : Expr → Exp Word
exp_of = fold-Expr (Exp Word) expr_step

abbrev pub all_exps : List Expr → Exps Word
all_exps [] = t.None_left
all_exps (e ∷ es) = t.Also (exp_of e) (all_exps es)

abbrev pub body_step : B.Body-F (Bod Word) (Steps Word → Steps Word) (Blk Word) → Bod Word
body_step (B.Value e) = t.Value (exp_of e)
body_step (B.Take p w e) = t.Take p (w, None) (exp_of e)
body_step (B.Any p a b) = t.Any p (exp_of a) (exp_of b)
body_step (B.If p e a b) = t.If p (exp_of e) a b
body_step (B.While p xs q es e b) = t.While p xs q (all_exps es) (exp_of e) b
body_step (B.Par p l r) = t.Par p l r
body_step (B.Split p xs e ln l rn r) = t.Split p xs (exp_of e) ln l rn r
body_step (B.Either p l r) = t.Either p l r
body_step (B.Foreach p x s xs q es b) = t.Foreach p x s xs q (all_exps es) b
body_step (B.Call p f es) = t.Call p f (all_exps es)

abbrev pub step_step : B.Step-F (Bod Word) (Steps Word → Steps Word) (Blk Word) → Steps Word → Steps Word
step_step (B.Bind xs p b) rest = t.Bind xs p b rest
step_step (B.Assert p e) rest = t.Assert p (exp_of e) rest

abbrev pub block_step : B.Block-F (Bod Word) (Steps Word → Steps Word) (Blk Word) → Blk Word
block_step b = t.Returns (steps_of b.steps) b.place (all_exps b.results)

-- a block, a body and a step as plain data; a step puts itself before what follows it
abbrev pub blk_of : Block → Blk Word
blk_of = fold-Block (Bod Word) (Steps Word → Steps Word) (Blk Word) body_step step_step block_step

abbrev pub bod_of : Body → Bod Word
bod_of = fold-Body (Bod Word) (Steps Word → Steps Word) (Blk Word) body_step step_step block_step

abbrev pub before : Step → Steps Word → Steps Word
before = fold-Step (Bod Word) (Steps Word → Steps Word) (Blk Word) body_step step_step block_step

abbrev pub all_steps : List Step → Steps Word
all_steps [] = t.No_step
all_steps (s ∷ ss) = before s (all_steps ss)

-- the names of parameters
abbrev pub named_params : List Param → List Named
named_params [] = []
named_params (x ∷ xs) = record { name = x.name; place = x.place } ∷ named_params xs

abbrev pub procs_of : List Fun → List (t.Proc Word)
procs_of [] = []
procs_of (f ∷ fs) = record { name = f.name; params = named_params f.params; body = blk_of f.body } ∷ procs_of fs

-- what a specification computes, as plain data
abbrev pub whole_of : Spec → t.Whole Word
whole_of s = record { params = named_params s.params; body = blk_of s.body; procs = procs_of s.funs }

-- ---- specifications whose words stand for operations

abbrev pub id_expr_step : I.IdExpr-F (Exp Op) → Exp Op
id_expr_step (I.Num p n) = t.Num p n
id_expr_step (I.Truth p b) = t.Truth p b
id_expr_step (I.Var x) = t.Var x
id_expr_step (I.Binary p w a b) = t.Binary p w a b
id_expr_step (I.Not p a) = t.Not p a
id_expr_step (I.Apply p w es made) = t.Apply p w (exps_of es) made

abbrev pub id_exp_of : IdExpr → Exp Op
id_exp_of = fold-IdExpr (Exp Op) id_expr_step

abbrev pub all_id_exps : List IdExpr → Exps Op
all_id_exps [] = t.None_left
all_id_exps (e ∷ es) = t.Also (id_exp_of e) (all_id_exps es)

abbrev pub id_body_step : J.IdBody-F (Bod Op) (Steps Op → Steps Op) (Blk Op) → Bod Op
id_body_step (J.Value e) = t.Value (id_exp_of e)
id_body_step (J.Take p w e) = t.Take p w (id_exp_of e)
id_body_step (J.Any p a b) = t.Any p (id_exp_of a) (id_exp_of b)
id_body_step (J.If p e a b) = t.If p (id_exp_of e) a b
id_body_step (J.While p xs q es e b) = t.While p xs q (all_id_exps es) (id_exp_of e) b
id_body_step (J.Par p l r) = t.Par p l r
id_body_step (J.Split p xs e ln l rn r) = t.Split p xs (id_exp_of e) ln l rn r
id_body_step (J.Either p l r) = t.Either p l r
id_body_step (J.Foreach p x s xs q es b) = t.Foreach p x s xs q (all_id_exps es) b
id_body_step (J.Call p f es) = t.Call p f (all_id_exps es)

abbrev pub id_step_step : J.IdStep-F (Bod Op) (Steps Op → Steps Op) (Blk Op) → Steps Op → Steps Op
id_step_step (J.Bind xs p b) rest = t.Bind xs p b rest
id_step_step (J.Assert p e) rest = t.Assert p (id_exp_of e) rest

abbrev pub id_block_step : J.IdBlock-F (Bod Op) (Steps Op → Steps Op) (Blk Op) → Blk Op
id_block_step b = t.Returns (steps_of b.steps) b.place (all_id_exps b.results)

abbrev pub id_blk_of : IdBlock → Blk Op
id_blk_of = fold-IdBlock (Bod Op) (Steps Op → Steps Op) (Blk Op) id_body_step id_step_step id_block_step

abbrev pub id_bod_of : IdBody → Bod Op
id_bod_of = fold-IdBody (Bod Op) (Steps Op → Steps Op) (Blk Op) id_body_step id_step_step id_block_step

abbrev pub id_before : IdStep → Steps Op → Steps Op
id_before = fold-IdStep (Bod Op) (Steps Op → Steps Op) (Blk Op) id_body_step id_step_step id_block_step

abbrev pub all_id_steps : List IdStep → Steps Op
all_id_steps [] = t.No_step
all_id_steps (s ∷ ss) = id_before s (all_id_steps ss)

abbrev pub id_procs_of : List IdFun → List (t.Proc Op)
id_procs_of [] = []
id_procs_of (f ∷ fs) = record { name = f.name; params = named_params f.params; body = id_blk_of f.body } ∷ id_procs_of fs

abbrev pub id_whole_of : Identified → t.Whole Op
id_whole_of s = record { params = named_params s.params; body = id_blk_of s.body; procs = id_procs_of s.funs }
