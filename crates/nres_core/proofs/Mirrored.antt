-- The trees of the code as plain data, constructor by constructor.
use Rattle.std.proofs.Common.{◌≡◌, List, [], ◌∷◌, map, refl, ap, ◌∙◌}
use Rattle.nres_core.specs.Mirror.{rep_of, exps_of, steps_of, exp_of, blk_of, bod_of, before, all_exps, all_steps, expr_step, body_step, step_step, block_step, id_exp_of, id_blk_of, id_bod_of, id_before, all_id_exps, all_id_steps, id_expr_step, id_body_step, id_step_step, id_block_step}
use Rattle.nres_core.specs.Mirrors as m
use Rattle.nres_core.specs.Tree.{Exp, Blk, Bod, Steps, Word}
use Rattle.nres_core.specs.Tree as t
use Rattle.nres_core.specs.declared.op.Op.{Op}
use Rattle.nres_core.specs.declared.tree.Block.{Block, roll-Block, out-Block}
use Rattle.nres_core.specs.declared.tree.Body.{Body, out-Body}
use Rattle.nres_core.specs.declared.tree.Body.TheFolds.{fold_out-Block, fold_out-Step, fold_out-Body, map-Block, map-Step, map-Body}
use Rattle.nres_core.specs.declared.tree.Body.TheOpen as O
use Rattle.nres_core.specs.declared.tree.Body.TheVariants as b
use Rattle.nres_core.specs.declared.tree.Body.TheViews as outs
use Rattle.nres_core.specs.declared.tree.Expr.{Expr, out-Expr, map-Expr}
use Rattle.nres_core.specs.declared.tree.Expr.TheFolds.{fold_out-Expr}
use Rattle.nres_core.specs.declared.tree.Expr.TheOpen.{Expr-F}
use Rattle.nres_core.specs.declared.tree.Expr.TheVariants as e
use Rattle.nres_core.specs.declared.tree.Step.{Step, out-Step}
use Rattle.nres_core.specs.declared.tree.Step.TheVariants as s
use Rattle.nres_core.specs.declared.identified.IdBlock.{IdBlock, roll-IdBlock, out-IdBlock}
use Rattle.nres_core.specs.declared.identified.IdBody.{IdBody, out-IdBody}
use Rattle.nres_core.specs.declared.identified.IdBody.TheFolds.{fold_out-IdBlock, fold_out-IdStep, fold_out-IdBody, map-IdBlock, map-IdStep, map-IdBody}
use Rattle.nres_core.specs.declared.identified.IdBody.TheOpen as OId
use Rattle.nres_core.specs.declared.identified.IdBody.TheVariants as bid
use Rattle.nres_core.specs.declared.identified.IdBody.TheViews as outsId
use Rattle.nres_core.specs.declared.identified.IdExpr.{IdExpr, out-IdExpr, map-IdExpr}
use Rattle.nres_core.specs.declared.identified.IdExpr.TheFolds.{fold_out-IdExpr}
use Rattle.nres_core.specs.declared.identified.IdExpr.TheOpen.{IdExpr-F}
use Rattle.nres_core.specs.declared.identified.IdExpr.TheVariants as eid
use Rattle.nres_core.specs.declared.identified.IdStep.{IdStep, out-IdStep}
use Rattle.nres_core.specs.declared.identified.IdStep.TheVariants as sid

-- ---- specifications

abbrev layer : Expr-F Expr → Exp Word
layer x = expr_step (map-Expr Expr (Exp Word) exp_of x)

opened : (d : Expr) (x : Expr-F Expr) → out-Expr d ≡ x → exp_of d ≡ layer x
opened d x h = fold_out-Expr (Exp Word) expr_step d ∙ ap layer h

mapped : (es : List Expr) → exps_of (map exp_of es) ≡ all_exps es
mapped [] = refl
mapped (x ∷ es) = ap (t.Also (exp_of x)) (mapped es)

stepped : (ss : List Step) → steps_of (map before ss) ≡ all_steps ss
stepped [] = refl
stepped (s ∷ ss) = ap (before s) (stepped ss)

abbrev body_layer : O.Body-F Body Step Block → Bod Word
body_layer x = body_step (map-Body Body Step Block (Bod Word) (Steps Word → Steps Word) (Blk Word) bod_of before blk_of x)

body_opened : (d : Body) (x : O.Body-F Body Step Block) → out-Body d ≡ x → bod_of d ≡ body_layer x
body_opened d x h = fold_out-Body (Bod Word) (Steps Word → Steps Word) (Blk Word) body_step step_step block_step d ∙ ap body_layer h

abbrev step_layer : O.Step-F Body Step Block → Steps Word → Steps Word
step_layer x = step_step (map-Step Body Step Block (Bod Word) (Steps Word → Steps Word) (Blk Word) bod_of before blk_of x)

step_opened : (d : Step) (x : O.Step-F Body Step Block) → out-Step d ≡ x → before d ≡ step_layer x
step_opened d x h = fold_out-Step (Bod Word) (Steps Word → Steps Word) (Blk Word) body_step step_step block_step d ∙ ap step_layer h

abbrev block_layer : O.Block-F Body Step Block → Blk Word
block_layer x = block_step (map-Block Body Step Block (Bod Word) (Steps Word → Steps Word) (Blk Word) bod_of before blk_of x)

block_opened : (d : Block) (x : O.Block-F Body Step Block) → out-Block d ≡ x → blk_of d ≡ block_layer x
block_opened d x h = fold_out-Block (Bod Word) (Steps Word → Steps Word) (Blk Word) body_step step_step block_step d ∙ ap block_layer h

pub mirrored : m.SpecMirrored
mirrored = record {
  num = λ p n. opened (e.Num p n) (Expr-F.Num p n) (e.outs-Num p n);
  truth = λ p b. opened (e.Truth p b) (Expr-F.Truth p b) (e.outs-Truth p b);
  var = λ x. opened (e.Var x) (Expr-F.Var x) (e.outs-Var x);
  binary = λ p w l r. opened (e.Binary p w l r) (Expr-F.Binary p w l r) (e.outs-Binary p w l r);
  not_ = λ p l. opened (e.Not p l) (Expr-F.Not p l) (e.outs-Not p l);
  apply = λ p w es made. opened (e.Apply p w es made) (Expr-F.Apply p w es made) (e.outs-Apply p w es made) ∙ ap (λ us. t.Apply p (w, rep_of made) us made) (mapped es);
  value = λ e. body_opened (b.Value e) (O.Value e) (outs.outs-Value e);
  take = λ p w e. body_opened (b.Take p w e) (O.Take p w e) (outs.outs-Take p w e);
  any = λ p l r. body_opened (b.Any p l r) (O.Any p l r) (outs.outs-Any p l r);
  choice = λ p e x y. body_opened (b.If p e x y) (O.If p e x y) (outs.outs-If p e x y);
  loop = λ p xs q es e x. body_opened (b.While p xs q es e x) (O.While p xs q es e x) (outs.outs-While p xs q es e x);
  pair = λ p x y. body_opened (b.Par p x y) (O.Par p x y) (outs.outs-Par p x y);
  split = λ p z e u x v y. body_opened (b.Split p z e u x v y) (O.Split p z e u x v y) (outs.outs-Split p z e u x v y);
  either = λ p x y. body_opened (b.Either p x y) (O.Either p x y) (outs.outs-Either p x y);
  each = λ p u z xs q es x. body_opened (b.Foreach p u z xs q es x) (O.Foreach p u z xs q es x) (outs.outs-Foreach p u z xs q es x);
  call = λ p f es. body_opened (b.Call p f es) (O.Call p f es) (outs.outs-Call p f es);
  bind = λ xs p b. step_opened (s.Bind xs p b) (O.Bind xs p b) (outs.outs-Bind xs p b);
  assert = λ p e. step_opened (s.Assert p e) (O.Assert p e) (outs.outs-Assert p e);
  block = λ ss p es. block_opened (roll-Block (record { steps = ss; place = p; results = es })) (record { steps = ss; place = p; results = es }) (outs.out-roll-Block (record { steps = ss; place = p; results = es })) ∙ ap (λ us. t.Returns us p (all_exps es)) (stepped ss);
}

-- ---- identified

abbrev id_layer : IdExpr-F IdExpr → Exp Op
id_layer x = id_expr_step (map-IdExpr IdExpr (Exp Op) id_exp_of x)

id_opened : (d : IdExpr) (x : IdExpr-F IdExpr) → out-IdExpr d ≡ x → id_exp_of d ≡ id_layer x
id_opened d x h = fold_out-IdExpr (Exp Op) id_expr_step d ∙ ap id_layer h

id_mapped : (es : List IdExpr) → exps_of (map id_exp_of es) ≡ all_id_exps es
id_mapped [] = refl
id_mapped (x ∷ es) = ap (t.Also (id_exp_of x)) (id_mapped es)

id_stepped : (ss : List IdStep) → steps_of (map id_before ss) ≡ all_id_steps ss
id_stepped [] = refl
id_stepped (s ∷ ss) = ap (id_before s) (id_stepped ss)

abbrev id_body_layer : OId.IdBody-F IdBody IdStep IdBlock → Bod Op
id_body_layer x = id_body_step (map-IdBody IdBody IdStep IdBlock (Bod Op) (Steps Op → Steps Op) (Blk Op) id_bod_of id_before id_blk_of x)

id_body_opened : (d : IdBody) (x : OId.IdBody-F IdBody IdStep IdBlock) → out-IdBody d ≡ x → id_bod_of d ≡ id_body_layer x
id_body_opened d x h = fold_out-IdBody (Bod Op) (Steps Op → Steps Op) (Blk Op) id_body_step id_step_step id_block_step d ∙ ap id_body_layer h

abbrev id_step_layer : OId.IdStep-F IdBody IdStep IdBlock → Steps Op → Steps Op
id_step_layer x = id_step_step (map-IdStep IdBody IdStep IdBlock (Bod Op) (Steps Op → Steps Op) (Blk Op) id_bod_of id_before id_blk_of x)

id_step_opened : (d : IdStep) (x : OId.IdStep-F IdBody IdStep IdBlock) → out-IdStep d ≡ x → id_before d ≡ id_step_layer x
id_step_opened d x h = fold_out-IdStep (Bod Op) (Steps Op → Steps Op) (Blk Op) id_body_step id_step_step id_block_step d ∙ ap id_step_layer h

abbrev id_block_layer : OId.IdBlock-F IdBody IdStep IdBlock → Blk Op
id_block_layer x = id_block_step (map-IdBlock IdBody IdStep IdBlock (Bod Op) (Steps Op → Steps Op) (Blk Op) id_bod_of id_before id_blk_of x)

id_block_opened : (d : IdBlock) (x : OId.IdBlock-F IdBody IdStep IdBlock) → out-IdBlock d ≡ x → id_blk_of d ≡ id_block_layer x
id_block_opened d x h = fold_out-IdBlock (Bod Op) (Steps Op → Steps Op) (Blk Op) id_body_step id_step_step id_block_step d ∙ ap id_block_layer h

pub id_mirrored : m.IdentifiedMirrored
id_mirrored = record {
  num = λ p n. id_opened (eid.Num p n) (IdExpr-F.Num p n) (eid.outs-Num p n);
  truth = λ p b. id_opened (eid.Truth p b) (IdExpr-F.Truth p b) (eid.outs-Truth p b);
  var = λ x. id_opened (eid.Var x) (IdExpr-F.Var x) (eid.outs-Var x);
  binary = λ p w l r. id_opened (eid.Binary p w l r) (IdExpr-F.Binary p w l r) (eid.outs-Binary p w l r);
  not_ = λ p l. id_opened (eid.Not p l) (IdExpr-F.Not p l) (eid.outs-Not p l);
  apply = λ p w es made. id_opened (eid.Apply p w es made) (IdExpr-F.Apply p w es made) (eid.outs-Apply p w es made) ∙ ap (λ us. t.Apply p w us made) (id_mapped es);
  value = λ e. id_body_opened (bid.Value e) (OId.Value e) (outsId.outs-Value e);
  take = λ p w e. id_body_opened (bid.Take p w e) (OId.Take p w e) (outsId.outs-Take p w e);
  any = λ p l r. id_body_opened (bid.Any p l r) (OId.Any p l r) (outsId.outs-Any p l r);
  choice = λ p e x y. id_body_opened (bid.If p e x y) (OId.If p e x y) (outsId.outs-If p e x y);
  loop = λ p xs q es e x. id_body_opened (bid.While p xs q es e x) (OId.While p xs q es e x) (outsId.outs-While p xs q es e x);
  pair = λ p x y. id_body_opened (bid.Par p x y) (OId.Par p x y) (outsId.outs-Par p x y);
  split = λ p z e u x v y. id_body_opened (bid.Split p z e u x v y) (OId.Split p z e u x v y) (outsId.outs-Split p z e u x v y);
  either = λ p x y. id_body_opened (bid.Either p x y) (OId.Either p x y) (outsId.outs-Either p x y);
  each = λ p u z xs q es x. id_body_opened (bid.Foreach p u z xs q es x) (OId.Foreach p u z xs q es x) (outsId.outs-Foreach p u z xs q es x);
  call = λ p f es. id_body_opened (bid.Call p f es) (OId.Call p f es) (outsId.outs-Call p f es);
  bind = λ xs p b. id_step_opened (sid.Bind xs p b) (OId.Bind xs p b) (outsId.outs-Bind xs p b);
  assert = λ p e. id_step_opened (sid.Assert p e) (OId.Assert p e) (outsId.outs-Assert p e);
  block = λ ss p es. id_block_opened (roll-IdBlock (record { steps = ss; place = p; results = es })) (record { steps = ss; place = p; results = es }) (outsId.out-roll-IdBlock (record { steps = ss; place = p; results = es })) ∙ ap (λ us. t.Returns us p (all_id_exps es)) (id_stepped ss);
}
