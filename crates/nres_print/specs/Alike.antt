-- Trees that differ in their places alone.
use Rattle.std.specs.Prelude.{◌≡◌, ℕ, Bool, List, [], ◌∷◌, Option, Some, None}
use Rattle.target_code.specs.declared.tree.Calc.{Calc}
use Rattle.nres_core.specs.declared.place.Named.{Named}
use Rattle.nres_core.specs.declared.place.Place.{Place}
use Rattle.nres_core.specs.declared.tree.Block.{Block, roll-Block}
use Rattle.nres_core.specs.declared.tree.Body.{Body}
use Rattle.nres_core.specs.declared.tree.Body.TheVariants as body
use Rattle.nres_core.specs.declared.tree.Chosen.{Chosen}
use Rattle.nres_core.specs.declared.tree.Expr.{Expr}
use Rattle.nres_core.specs.declared.tree.Expr.TheVariants as expr
use Rattle.nres_core.specs.declared.tree.Fun.{Fun}
use Rattle.nres_core.specs.declared.tree.Param.{Param}
use Rattle.nres_core.specs.declared.tree.Shown.{Shown}
use Rattle.nres_core.specs.declared.tree.Spec.{Spec}
use Rattle.nres_core.specs.declared.tree.Step.{Step}
use Rattle.nres_core.specs.declared.tree.Step.TheVariants as steps
use Rattle.nres_print.specs.Blocks.{spec_text}

-- a relation of each member with the one in its place
pub data Each {A : Type 0} (R : A → A → Type 0) : List A → List A → Type 0 where
  none : Each R [] []
  more : {x y : A} {xs ys : List A} → R x y → Each R xs ys → Each R (x ∷ xs) (y ∷ ys)

pub record AlikeNamed (x y : Named) : Type 0 where
  pub name : x.name ≡ y.name

pub record AlikeParam (x y : Param) : Type 0 where
  pub name : x.name ≡ y.name
  pub ty : x.ty ≡ y.ty
  pub rep : x.rep ≡ y.rep
  pub kept : x.kept ≡ y.kept

pub record AlikeShown (x y : Shown) : Type 0 where
  pub ty : x.ty ≡ y.ty
  pub rep : x.rep ≡ y.rep

pub data AlikeChosen : Option Chosen → Option Chosen → Type 0 where
  nothing : AlikeChosen None None
  chosen : {c d : Chosen} → c.rep ≡ d.rep → AlikeChosen (Some c) (Some d)

mutual
  pub data AlikeExpr : Expr → Expr → Type 0 where
    numbers : {p q : Place} {n : ℕ} → AlikeExpr (expr.Num p n) (expr.Num q n)
    truths : {p q : Place} {b : Bool} → AlikeExpr (expr.Truth p b) (expr.Truth q b)
    names : {x y : Named} → AlikeNamed x y → AlikeExpr (expr.Var x) (expr.Var y)
    binaries : {p q : Place} {w : Calc} {a b c d : Expr} → AlikeExpr a c → AlikeExpr b d → AlikeExpr (expr.Binary p w a b) (expr.Binary q w c d)
    nots : {p q : Place} {a b : Expr} → AlikeExpr a b → AlikeExpr (expr.Not p a) (expr.Not q b)
    applies : {p q : Place} {w : List ℕ} {es fs : List Expr} {c d : Option Chosen}
        → AllExprs es fs → AlikeChosen c d → AlikeExpr (expr.Apply p w es c) (expr.Apply q w fs d)

  pub data AllExprs : List Expr → List Expr → Type 0 where
    no_expr : AllExprs [] []
    more_exprs : {a b : Expr} {es fs : List Expr} → AlikeExpr a b → AllExprs es fs → AllExprs (a ∷ es) (b ∷ fs)

mutual
  pub data AlikeBlock : Block → Block → Type 0 where
    blocks : {p q : Place} {ss us : List Step} {es fs : List Expr} → AllSteps ss us → AllExprs es fs
        → AlikeBlock (roll-Block (record { steps = ss; place = p; results = es })) (roll-Block (record { steps = us; place = q; results = fs }))

  pub data AllSteps : List Step → List Step → Type 0 where
    no_step : AllSteps [] []
    more_steps : {s u : Step} {ss us : List Step} → AlikeStep s u → AllSteps ss us → AllSteps (s ∷ ss) (u ∷ us)

  pub data AlikeStep : Step → Step → Type 0 where
    binds : {p q : Place} {xs ys : List Named} {a b : Body} → Each AlikeNamed xs ys → AlikeBody a b → AlikeStep (steps.Bind xs p a) (steps.Bind ys q b)
    asserts : {p q : Place} {a b : Expr} → AlikeExpr a b → AlikeStep (steps.Assert p a) (steps.Assert q b)

  pub data AlikeBody : Body → Body → Type 0 where
    values : {a b : Expr} → AlikeExpr a b → AlikeBody (body.Value a) (body.Value b)
    takes : {p q : Place} {w : List ℕ} {a b : Expr} → AlikeExpr a b → AlikeBody (body.Take p w a) (body.Take q w b)
    anys : {p q : Place} {a b c d : Expr} → AlikeExpr a c → AlikeExpr b d → AlikeBody (body.Any p a b) (body.Any q c d)
    choices : {p q : Place} {a b : Expr} {x y z v : Block} → AlikeExpr a b → AlikeBlock x z → AlikeBlock y v → AlikeBody (body.If p a x y) (body.If q b z v)
    loops : {p q s t : Place} {xs ys : List Named} {es fs : List Expr} {a b : Expr} {x y : Block}
        → Each AlikeNamed xs ys → AllExprs es fs → AlikeExpr a b → AlikeBlock x y → AlikeBody (body.While p xs s es a x) (body.While q ys t fs b y)
    pairs : {p q : Place} {x y z v : Block} → AlikeBlock x z → AlikeBlock y v → AlikeBody (body.Par p x y) (body.Par q z v)
    splits : {p q : Place} {k l m n i j : Named} {a b : Expr} {x y z v : Block}
        → AlikeNamed k l → AlikeExpr a b → AlikeNamed m n → AlikeBlock x z → AlikeNamed i j → AlikeBlock y v → AlikeBody (body.Split p k a m x i y) (body.Split q l b n z j v)
    eithers : {p q : Place} {x y z v : Block} → AlikeBlock x z → AlikeBlock y v → AlikeBody (body.Either p x y) (body.Either q z v)
    eaches : {p q s t : Place} {k l m n : Named} {xs ys : List Named} {es fs : List Expr} {x y : Block}
        → AlikeNamed k l → AlikeNamed m n → Each AlikeNamed xs ys → AllExprs es fs → AlikeBlock x y
        → AlikeBody (body.Foreach p k m xs s es x) (body.Foreach q l n ys t fs y)
    calls : {p q : Place} {k l : Named} {es fs : List Expr} → AlikeNamed k l → AllExprs es fs → AlikeBody (body.Call p k es) (body.Call q l fs)

pub record AlikeFun (f g : Fun) : Type 0 where
  pub name : f.name ≡ g.name
  pub params : Each AlikeParam f.params g.params
  pub shown : Each AlikeShown f.shown g.shown
  pub body : AlikeBlock f.body g.body

-- two specifications differ in places alone
pub record Alike (p q : Spec) : Type 0 where
  pub name : p.name ≡ q.name
  pub params : Each AlikeParam p.params q.params
  pub shown : Each AlikeShown p.shown q.shown
  pub body : AlikeBlock p.body q.body
  pub funs : Each AlikeFun p.funs q.funs

-- the text of a specification shows no place
abbrev pub NoPlaceShown : Type 0
NoPlaceShown = (p q : Spec) → Alike p q → spec_text p ≡ spec_text q
