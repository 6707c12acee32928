-- Trees that differ in places alone from one that differs in places alone from a third.
use Rattle.std.proofs.Common.{◌≡◌, List, Option, refl, ◌∙◌, sym, subst}
use Rattle.nres_core.specs.declared.place.Named.{Named}
use Rattle.nres_core.specs.declared.place.Place.{Place}
use Rattle.nres_core.specs.declared.tree.Block.{Block, roll-Block, out-Block}
use Rattle.nres_core.specs.declared.tree.Body.{Body, out-Body}
use Rattle.nres_core.specs.declared.tree.Body.TheOpen as O
use Rattle.nres_core.specs.declared.tree.Body.TheVariants as body
use Rattle.nres_core.specs.declared.tree.Body.TheViews as outs
use Rattle.nres_core.specs.declared.tree.Chosen.{Chosen}
use Rattle.nres_core.specs.declared.tree.Expr.{Expr, out-Expr}
use Rattle.nres_core.specs.declared.tree.Expr.TheOpen.{Expr-F}
use Rattle.nres_core.specs.declared.tree.Expr.TheVariants as expr
use Rattle.nres_core.specs.declared.tree.Expr.TheVariants.{outs-Num, outs-Truth, outs-Var, outs-Not, outs-Apply, outs-Binary}
use Rattle.nres_core.specs.declared.tree.Fun.{Fun}
use Rattle.nres_core.specs.declared.tree.Param.{Param}
use Rattle.nres_core.specs.declared.tree.Shown.{Shown}
use Rattle.nres_core.specs.declared.tree.Spec.{Spec}
use Rattle.nres_core.specs.declared.tree.Step.{Step, out-Step}
use Rattle.nres_core.specs.declared.tree.Step.TheVariants as steps
use Rattle.nres_print.specs.Alike as a
use Rattle.nres_print.specs.Alike.{Each, AlikeNamed, AlikeParam, AlikeShown, AlikeChosen, AlikeExpr, AllExprs, AlikeBlock, AllSteps, AlikeStep, AlikeBody, AlikeFun, Alike}

-- ---- lists, names, and what is held

each_on : {A : Type 0} {R : A → A → Type 0} → ((x y z : A) → R x y → R y z → R x z) → {xs ys zs : List A} → Each R xs ys → Each R ys zs → Each R xs zs
each_on f a.none a.none = a.none
each_on f (a.more {x = x} {y = y} r rs) (a.more {y = z} s ss) = a.more (f x y z r s) (each_on f rs ss)

name_on : (x y z : Named) → AlikeNamed x y → AlikeNamed y z → AlikeNamed x z
name_on x y z r s = record { name = r.name ∙ s.name }

param_on : (x y z : Param) → AlikeParam x y → AlikeParam y z → AlikeParam x z
param_on x y z r s = record { name = r.name ∙ s.name; ty = r.ty ∙ s.ty; rep = r.rep ∙ s.rep; kept = r.kept ∙ s.kept }

shown_on : (x y z : Shown) → AlikeShown x y → AlikeShown y z → AlikeShown x z
shown_on x y z r s = record { ty = r.ty ∙ s.ty; rep = r.rep ∙ s.rep }

chosen_on : {x y z : Option Chosen} → AlikeChosen x y → AlikeChosen y z → AlikeChosen x z
chosen_on a.nothing a.nothing = a.nothing
chosen_on (a.chosen e) (a.chosen f) = a.chosen (e ∙ f)

-- ---- expressions

-- what is alike to an expression, by its layer
abbrev ToExpr : Expr-F Expr → Expr → Type 0
ToExpr (Expr-F.Num p n) z = (q : Place) × (z ≡ expr.Num q n)
ToExpr (Expr-F.Truth p b) z = (q : Place) × (z ≡ expr.Truth q b)
ToExpr (Expr-F.Var x) z = (y : Named) × (z ≡ expr.Var y) × AlikeNamed x y
ToExpr (Expr-F.Binary p w x y) z = (q : Place) × (u v : Expr) × (z ≡ expr.Binary q w u v) × AlikeExpr x u × AlikeExpr y v
ToExpr (Expr-F.Not p x) z = (q : Place) × (u : Expr) × (z ≡ expr.Not q u) × AlikeExpr x u
ToExpr (Expr-F.Apply p w es c) z = (q : Place) × (fs : List Expr) × (d : Option Chosen) × (z ≡ expr.Apply q w fs d) × AllExprs es fs × AlikeChosen c d

to_expr : {y z : Expr} → AlikeExpr y z → ToExpr (out-Expr y) z
to_expr {z = z} (a.numbers {p = p} {q = q} {n = n}) = subst (λ v. ToExpr v z) (sym (outs-Num p n)) (q, refl)
to_expr {z = z} (a.truths {p = p} {q = q} {b = b}) = subst (λ v. ToExpr v z) (sym (outs-Truth p b)) (q, refl)
to_expr {z = z} (a.names {x = x} {y = y} r) = subst (λ v. ToExpr v z) (sym (outs-Var x)) (y, refl, r)
to_expr {z = z} (a.binaries {p = p} {q = q} {w = w} {a = x} {b = y} {c = u} {d = v} r s) = subst (λ v. ToExpr v z) (sym (outs-Binary p w x y)) (q, u, v, refl, r, s)
to_expr {z = z} (a.nots {p = p} {q = q} {a = x} {b = u} r) = subst (λ v. ToExpr v z) (sym (outs-Not p x)) (q, u, refl, r)
to_expr {z = z} (a.applies {p = p} {q = q} {w = w} {es = es} {fs = fs} {c = c} {d = d} r s) = subst (λ v. ToExpr v z) (sym (outs-Apply p w es c)) (q, fs, d, refl, r, s)

at_expr : {y z : Expr} (v : Expr-F Expr) → out-Expr y ≡ v → AlikeExpr y z → ToExpr v z
at_expr {z = z} v e h = subst (λ v. ToExpr v z) e (to_expr h)

mutual
  expr_on : {x y z : Expr} → AlikeExpr x y → AlikeExpr y z → AlikeExpr x z
  expr_on {x = x} (a.numbers {q = q} {n = n}) h = let f = at_expr (Expr-F.Num q n) (outs-Num q n) h in subst (AlikeExpr x) (sym f.1) a.numbers
  expr_on {x = x} (a.truths {q = q} {b = b}) h = let f = at_expr (Expr-F.Truth q b) (outs-Truth q b) h in subst (AlikeExpr x) (sym f.1) a.truths
  expr_on {x = x} (a.names {x = v} {y = y} r) h = let f = at_expr (Expr-F.Var y) (outs-Var y) h in subst (AlikeExpr x) (sym f.1) (a.names (name_on v y f.0 r f.2))
  expr_on {x = x} (a.binaries {q = q} {w = w} {c = u} {d = v} r s) h =
      let f = at_expr (Expr-F.Binary q w u v) (outs-Binary q w u v) h in
      subst (AlikeExpr x) (sym f.3) (a.binaries (expr_on r f.4) (expr_on s f.5))
  expr_on {x = x} (a.nots {q = q} {b = u} r) h = let f = at_expr (Expr-F.Not q u) (outs-Not q u) h in subst (AlikeExpr x) (sym f.2) (a.nots (expr_on r f.3))
  expr_on {x = x} (a.applies {q = q} {w = w} {fs = fs} {d = d} r s) h =
      let f = at_expr (Expr-F.Apply q w fs d) (outs-Apply q w fs d) h in
      subst (AlikeExpr x) (sym f.3) (a.applies (exprs_on r f.4) (chosen_on s f.5))

  exprs_on : {xs ys zs : List Expr} → AllExprs xs ys → AllExprs ys zs → AllExprs xs zs
  exprs_on a.no_expr a.no_expr = a.no_expr
  exprs_on (a.more_exprs r rs) (a.more_exprs s ss) = a.more_exprs (expr_on r s) (exprs_on rs ss)

-- ---- blocks

-- what is alike to a block, a step or a body, by its layer
abbrev ToBlock : O.Block-F Body Step Block → Block → Type 0
ToBlock b z = (q : Place) × (us : List Step) × (fs : List Expr) × (z ≡ roll-Block (record { steps = us; place = q; results = fs })) × AllSteps b.steps us × AllExprs b.results fs

to_block : {y z : Block} → AlikeBlock y z → ToBlock (out-Block y) z
to_block {z = z} (a.blocks {p = p} {q = q} {ss = ss} {us = us} {es = es} {fs = fs} r s) =
    subst (λ v. ToBlock v z) (sym (outs.out-roll-Block (record { steps = ss; place = p; results = es }))) (q, us, fs, refl, r, s)

abbrev ToStep : O.Step-F Body Step Block → Step → Type 0
ToStep (O.Bind xs p b) z = (q : Place) × (ys : List Named) × (c : Body) × (z ≡ steps.Bind ys q c) × Each AlikeNamed xs ys × AlikeBody b c
ToStep (O.Assert p e) z = (q : Place) × (f : Expr) × (z ≡ steps.Assert q f) × AlikeExpr e f

to_step : {y z : Step} → AlikeStep y z → ToStep (out-Step y) z
to_step {z = z} (a.binds {p = p} {q = q} {xs = xs} {ys = ys} {a = b} {b = c} r s) = subst (λ v. ToStep v z) (sym (outs.outs-Bind xs p b)) (q, ys, c, refl, r, s)
to_step {z = z} (a.asserts {p = p} {q = q} {a = e} {b = f} r) = subst (λ v. ToStep v z) (sym (outs.outs-Assert p e)) (q, f, refl, r)

abbrev ToBody : O.Body-F Body Step Block → Body → Type 0
ToBody (O.Value e) z = (f : Expr) × (z ≡ body.Value f) × AlikeExpr e f
ToBody (O.Take p w e) z = (q : Place) × (f : Expr) × (z ≡ body.Take q w f) × AlikeExpr e f
ToBody (O.Any p x y) z = (q : Place) × (u v : Expr) × (z ≡ body.Any q u v) × AlikeExpr x u × AlikeExpr y v
ToBody (O.If p e x y) z = (q : Place) × (f : Expr) × (u v : Block) × (z ≡ body.If q f u v) × AlikeExpr e f × AlikeBlock x u × AlikeBlock y v
ToBody (O.While p xs s es e x) z =
    (q t : Place) × (ys : List Named) × (fs : List Expr) × (f : Expr) × (u : Block) × (z ≡ body.While q ys t fs f u)
    × Each AlikeNamed xs ys × AllExprs es fs × AlikeExpr e f × AlikeBlock x u
ToBody (O.Par p x y) z = (q : Place) × (u v : Block) × (z ≡ body.Par q u v) × AlikeBlock x u × AlikeBlock y v
ToBody (O.Split p k e m x i y) z =
    (q : Place) × (l : Named) × (f : Expr) × (n : Named) × (u : Block) × (j : Named) × (v : Block) × (z ≡ body.Split q l f n u j v)
    × AlikeNamed k l × AlikeExpr e f × AlikeNamed m n × AlikeBlock x u × AlikeNamed i j × AlikeBlock y v
ToBody (O.Either p x y) z = (q : Place) × (u v : Block) × (z ≡ body.Either q u v) × AlikeBlock x u × AlikeBlock y v
ToBody (O.Foreach p k m xs s es x) z =
    (q t : Place) × (l n : Named) × (ys : List Named) × (fs : List Expr) × (u : Block) × (z ≡ body.Foreach q l n ys t fs u)
    × AlikeNamed k l × AlikeNamed m n × Each AlikeNamed xs ys × AllExprs es fs × AlikeBlock x u
ToBody (O.Call p k es) z = (q : Place) × (l : Named) × (fs : List Expr) × (z ≡ body.Call q l fs) × AlikeNamed k l × AllExprs es fs

to_body : {y z : Body} → AlikeBody y z → ToBody (out-Body y) z
to_body {z = z} (a.values {a = e} {b = f} r) = subst (λ v. ToBody v z) (sym (outs.outs-Value e)) (f, refl, r)
to_body {z = z} (a.takes {p = p} {q = q} {w = w} {a = e} {b = f} r) = subst (λ v. ToBody v z) (sym (outs.outs-Take p w e)) (q, f, refl, r)
to_body {z = z} (a.anys {p = p} {q = q} {a = x} {b = y} {c = u} {d = v} r s) = subst (λ v. ToBody v z) (sym (outs.outs-Any p x y)) (q, u, v, refl, r, s)
to_body {z = z} (a.choices {p = p} {q = q} {a = e} {b = f} {x = x} {y = y} {z = u} {v = v} r s t) = subst (λ v. ToBody v z) (sym (outs.outs-If p e x y)) (q, f, u, v, refl, r, s, t)
to_body {z = z} (a.loops {p = p} {q = q} {s = s} {t = t} {xs = xs} {ys = ys} {es = es} {fs = fs} {a = e} {b = f} {x = x} {y = u} i j k l) =
    subst (λ v. ToBody v z) (sym (outs.outs-While p xs s es e x)) (q, t, ys, fs, f, u, refl, i, j, k, l)
to_body {z = z} (a.pairs {p = p} {q = q} {x = x} {y = y} {z = u} {v = v} r s) = subst (λ v. ToBody v z) (sym (outs.outs-Par p x y)) (q, u, v, refl, r, s)
to_body {z = z} (a.splits {p = p} {q = q} {k = k} {l = l} {m = m} {n = n} {i = i} {j = j} {a = e} {b = f} {x = x} {y = y} {z = u} {v = v} b c d g h r) =
    subst (λ v. ToBody v z) (sym (outs.outs-Split p k e m x i y)) (q, l, f, n, u, j, v, refl, b, c, d, g, h, r)
to_body {z = z} (a.eithers {p = p} {q = q} {x = x} {y = y} {z = u} {v = v} r s) = subst (λ v. ToBody v z) (sym (outs.outs-Either p x y)) (q, u, v, refl, r, s)
to_body {z = z} (a.eaches {p = p} {q = q} {s = s} {t = t} {k = k} {l = l} {m = m} {n = n} {xs = xs} {ys = ys} {es = es} {fs = fs} {x = x} {y = u} b c d g h) =
    subst (λ v. ToBody v z) (sym (outs.outs-Foreach p k m xs s es x)) (q, t, l, n, ys, fs, u, refl, b, c, d, g, h)
to_body {z = z} (a.calls {p = p} {q = q} {k = k} {l = l} {es = es} {fs = fs} r s) = subst (λ v. ToBody v z) (sym (outs.outs-Call p k es)) (q, l, fs, refl, r, s)

at_body : {y z : Body} (v : O.Body-F Body Step Block) → out-Body y ≡ v → AlikeBody y z → ToBody v z
at_body {z = z} v e h = subst (λ v. ToBody v z) e (to_body h)

mutual
  block_on : {x y z : Block} → AlikeBlock x y → AlikeBlock y z → AlikeBlock x z
  block_on {x = x} {z = z} (a.blocks {q = q} {us = us} {fs = fs} r s) h =
      let f : ToBlock (record { steps = us; place = q; results = fs }) z = subst (λ v. ToBlock v z) (outs.out-roll-Block (record { steps = us; place = q; results = fs })) (to_block h) in
      subst (AlikeBlock x) (sym f.3) (a.blocks (steps_on r f.4) (exprs_on s f.5))

  steps_on : {xs ys zs : List Step} → AllSteps xs ys → AllSteps ys zs → AllSteps xs zs
  steps_on a.no_step a.no_step = a.no_step
  steps_on (a.more_steps r rs) (a.more_steps s ss) = a.more_steps (step_on r s) (steps_on rs ss)

  step_on : {x y z : Step} → AlikeStep x y → AlikeStep y z → AlikeStep x z
  step_on {x = x} {z = z} (a.binds {q = q} {ys = ys} {b = c} r s) h =
      let f : ToStep (O.Bind ys q c) z = subst (λ v. ToStep v z) (outs.outs-Bind ys q c) (to_step h) in
      subst (AlikeStep x) (sym f.3) (a.binds (each_on name_on r f.4) (body_on s f.5))
  step_on {x = x} {z = z} (a.asserts {q = q} {b = e} r) h =
      let f : ToStep (O.Assert q e) z = subst (λ v. ToStep v z) (outs.outs-Assert q e) (to_step h) in
      subst (AlikeStep x) (sym f.2) (a.asserts (expr_on r f.3))

  body_on : {x y z : Body} → AlikeBody x y → AlikeBody y z → AlikeBody x z
  body_on {x = x} (a.values {b = e} r) h = let f = at_body (O.Value e) (outs.outs-Value e) h in subst (AlikeBody x) (sym f.1) (a.values (expr_on r f.2))
  body_on {x = x} (a.takes {q = q} {w = w} {b = e} r) h = let f = at_body (O.Take q w e) (outs.outs-Take q w e) h in subst (AlikeBody x) (sym f.2) (a.takes (expr_on r f.3))
  body_on {x = x} (a.anys {q = q} {c = u} {d = v} r s) h =
      let f = at_body (O.Any q u v) (outs.outs-Any q u v) h in
      subst (AlikeBody x) (sym f.3) (a.anys (expr_on r f.4) (expr_on s f.5))
  body_on {x = x} (a.choices {q = q} {b = e} {z = u} {v = v} r s t) h =
      let f = at_body (O.If q e u v) (outs.outs-If q e u v) h in
      subst (AlikeBody x) (sym f.4) (a.choices (expr_on r f.5) (block_on s f.6) (block_on t f.7))
  body_on {x = x} (a.loops {q = q} {t = t} {ys = ys} {fs = fs} {b = e} {y = u} i j k l) h =
      let f = at_body (O.While q ys t fs e u) (outs.outs-While q ys t fs e u) h in
      subst (AlikeBody x) (sym f.6) (a.loops (each_on name_on i f.7) (exprs_on j f.8) (expr_on k f.9) (block_on l f.10))
  body_on {x = x} (a.pairs {q = q} {z = u} {v = v} r s) h =
      let f = at_body (O.Par q u v) (outs.outs-Par q u v) h in
      subst (AlikeBody x) (sym f.3) (a.pairs (block_on r f.4) (block_on s f.5))
  body_on {x = x} (a.splits {q = q} {k = k} {l = l} {m = m} {n = n} {i = i} {j = j} {b = e} {z = u} {v = v} b c d g r s) h =
      let f = at_body (O.Split q l e n u j v) (outs.outs-Split q l e n u j v) h in
      subst (AlikeBody x) (sym f.7) (a.splits (name_on k l f.1 b f.8) (expr_on c f.9) (name_on m n f.3 d f.10) (block_on g f.11) (name_on i j f.5 r f.12) (block_on s f.13))
  body_on {x = x} (a.eithers {q = q} {z = u} {v = v} r s) h =
      let f = at_body (O.Either q u v) (outs.outs-Either q u v) h in
      subst (AlikeBody x) (sym f.3) (a.eithers (block_on r f.4) (block_on s f.5))
  body_on {x = x} (a.eaches {q = q} {t = t} {k = k} {l = l} {m = m} {n = n} {ys = ys} {fs = fs} {y = u} b c d g r) h =
      let f = at_body (O.Foreach q l n ys t fs u) (outs.outs-Foreach q l n ys t fs u) h in
      subst (AlikeBody x) (sym f.7) (a.eaches (name_on k l f.2 b f.8) (name_on m n f.3 c f.9) (each_on name_on d f.10) (exprs_on g f.11) (block_on r f.12))
  body_on {x = x} (a.calls {q = q} {k = k} {l = l} {fs = fs} r s) h =
      let f = at_body (O.Call q l fs) (outs.outs-Call q l fs) h in
      subst (AlikeBody x) (sym f.3) (a.calls (name_on k l f.1 r f.4) (exprs_on s f.5))

-- ---- whole specifications

fun_on : (x y z : Fun) → AlikeFun x y → AlikeFun y z → AlikeFun x z
fun_on x y z r s = record { name = r.name ∙ s.name; params = each_on param_on r.params s.params; shown = each_on shown_on r.shown s.shown; body = block_on r.body s.body }

pub alike_on : {p q r : Spec} → Alike p q → Alike q r → Alike p r
alike_on r s = record {
  name = r.name ∙ s.name;
  params = each_on param_on r.params s.params;
  shown = each_on shown_on r.shown s.shown;
  body = block_on r.body s.body;
  funs = each_on fun_on r.funs s.funs;
}
