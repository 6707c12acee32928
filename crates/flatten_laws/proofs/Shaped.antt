-- What is used of the types of a tree with operations for its words, to number the variables of its flat tree.
use Rattle.std.proofs.Common.{◌≡◌, ℕ, Bool, List, [], ◌∷◌, ◌++◌, length, Option, Some, sym, ap, ◌∙◌, subst}
use Rattle.target_code.specs.declared.tree.Calc.{Calc}
use Rattle.nres_core.specs.Tree as t
use Rattle.nres_core.specs.Tree.{Exp, Exps, Blk, Steps, Bod, Word}
use Rattle.nres_rules.specs.Typed.{Scope, type_in, scope_with, op_gives, tail_of}
use Rattle.nres_rules.specs.Types.{Profile, outcome}
use Rattle.nres_core.specs.declared.op.Op.{Op}
use Rattle.nres_core.specs.declared.place.Named.{Named}
use Rattle.nres_core.specs.declared.place.Place.{Place}
use Rattle.nres_core.specs.declared.tree.Chosen.{Chosen}
use Rattle.nres_core.specs.declared.ty.Ty.{Ty}
use Rattle.nres_core.specs.declared.ty.Ty.TheVariants as ty
use Rattle.typing_laws.specs.Derived as d
use Rattle.typing_laws.specs.Derived.{ExpIs, ExpsIs, BlkIs, StepsIs, BodIs}
use Rattle.typing_laws.specs.TypedTrees as h
use Rattle.typing_laws.proofs.TypedLemmas.{fits}
use Rattle.typing_laws.proofs.WordLemmas.{taking}

mutual
  pub data ExpHas : Scope → Exp Op → Ty → Type 0 where
    num : {g : Scope} {p : Place} {n : ℕ} → ExpHas g (t.Num p n) ty.Nat
    truth : {g : Scope} {p : Place} {b : Bool} → ExpHas g (t.Truth p b) ty.Bool
    var : {g : Scope} {x : Named} {u : Ty} → type_in g x.name ≡ Some u → ExpHas g (t.Var x) u
    binary : {g : Scope} {p : Place} {w : Calc} {a b : Exp Op} {u z : Ty} → ExpHas g a u → ExpHas g b z → ExpHas g (t.Binary p w a b) (outcome w)
    negated : {g : Scope} {p : Place} {a : Exp Op} {u : Ty} → ExpHas g a u → ExpHas g (t.Not p a) ty.Bool
    apply : {g : Scope} {p : Place} {op : Op} {es : Exps Op} {made : Option Chosen} {us : List Ty} {u : Ty} → ExpsHave g es us → ExpHas g (t.Apply p op es made) u

  pub data ExpsHave : Scope → Exps Op → List Ty → Type 0 where
    none_left : {g : Scope} → ExpsHave g t.None_left []
    also : {g : Scope} {e : Exp Op} {es : Exps Op} {u : Ty} {us : List Ty} → ExpHas g e u → ExpsHave g es us → ExpsHave g (t.Also e es) (u ∷ us)

-- blocks, steps with the results behind them, and bodies
mutual
  pub data BlkHas : Scope → Blk Op → List Ty → Type 0 where
    returns : {g : Scope} {p : Place} {ss : Steps Op} {es : Exps Op} {us : List Ty} → StepsHave g ss es us → BlkHas g (t.Returns ss p es) us

  pub data StepsHave : Scope → Steps Op → Exps Op → List Ty → Type 0 where
    ends : {g : Scope} {es : Exps Op} {us : List Ty} → ExpsHave g es us → StepsHave g t.No_step es us
    binds : {g : Scope} {xs : List Named} {p : Place} {b : Bod Op} {ss : Steps Op} {es : Exps Op} {us ws : List Ty}
        → BodHas g b ws → length xs ≡ length ws → StepsHave (scope_with xs ws g) ss es us → StepsHave g (t.Bind xs p b ss) es us
    asserts : {g : Scope} {p : Place} {e : Exp Op} {ss : Steps Op} {es : Exps Op} {us : List Ty} {u : Ty}
        → ExpHas g e u → StepsHave g ss es us → StepsHave g (t.Assert p e ss) es us

  pub data BodHas : Scope → Bod Op → List Ty → Type 0 where
    value : {g : Scope} {e : Exp Op} {u : Ty} → ExpHas g e u → BodHas g (t.Value e) (u ∷ [])
    takes : {g : Scope} {p : Place} {op : Op} {e : Exp Op} {u : Ty} → ExpHas g e u → BodHas g (t.Take p op e) (op_gives op)
    any : {g : Scope} {p : Place} {a b : Exp Op} {u z : Ty} → ExpHas g a u → ExpHas g b z → BodHas g (t.Any p a b) (ty.Nat ∷ [])
    choice : {g : Scope} {p : Place} {e : Exp Op} {a b : Blk Op} {u : Ty} {us : List Ty} → ExpHas g e u → BlkHas g a us → BlkHas g b us → BodHas g (t.If p e a b) us
    loop : {g : Scope} {p q : Place} {xs : List Named} {es : Exps Op} {e : Exp Op} {b : Blk Op} {u : Ty} {us : List Ty}
        → ExpsHave g es us → length xs ≡ length us → ExpHas (scope_with xs us g) e u → BlkHas (scope_with xs us g) b us → BodHas g (t.While p xs q es e b) us
    pair : {g : Scope} {p : Place} {a b : Blk Op} {us ws : List Ty} → BlkHas g a us → BlkHas g b ws → BodHas g (t.Par p a b) (us ++ ws)
    parts : {g : Scope} {p : Place} {z x y : Named} {e : Exp Op} {a b : Blk Op} {u : Ty} {us ws : List Ty}
        → type_in g z.name ≡ Some ty.List → ExpHas g e u → BlkHas ((x.name, ty.List) ∷ g) a us → BlkHas ((y.name, ty.List) ∷ g) b ws
        → BodHas g (t.Split p z e x a y b) (ty.List ∷ (tail_of us ++ tail_of ws))
    either : {g : Scope} {p : Place} {a b : Blk Op} {us : List Ty} → BlkHas g a us → BlkHas g b us → BodHas g (t.Either p a b) us
    each : {g : Scope} {p q : Place} {x z : Named} {xs : List Named} {es : Exps Op} {b : Blk Op} {us : List Ty}
        → ExpsHave g es us → length xs ≡ length us → BlkHas (scope_with xs us ((x.name, ty.Nat) ∷ g)) b us → BodHas g (t.Foreach p x z xs q es b) us
    calls : {g : Scope} {p : Place} {f : Named} {es : Exps Op} {us ws : List Ty} → ExpsHave g es us → BodHas g (t.Call p f es) ws

-- ---- so it is where typing refuses nothing of the tree with words

mutual
  exp_shape : {g : Scope} {e : Exp Word} {e' : Exp Op} {u : Ty} → ExpIs g e e' u → ExpHas g e' u
  exp_shape d.num = num
  exp_shape d.truth = truth
  exp_shape (d.var there) = var there
  exp_shape (d.binary l r) = binary (exp_shape l) (exp_shape r)
  exp_shape (d.negated l) = negated (exp_shape l)
  exp_shape (d.apply l w) = apply (exps_shape l)

  exps_shape : {g : Scope} {es : Exps Word} {es' : Exps Op} {us : List Ty} → ExpsIs g es es' us → ExpsHave g es' us
  exps_shape d.none_left = none_left
  exps_shape (d.also l r) = also (exp_shape l) (exps_shape r)

module _ (procs : List Profile) where
  mutual
    pub blk_shape : {g : Scope} {b : Blk Word} {b' : Blk Op} {us : List Ty} → BlkIs procs g b b' us → BlkHas g b' us
    blk_shape (d.returns l) = returns (steps_shape l)

    steps_shape : {g : Scope} {ss : Steps Word} {ss' : Steps Op} {es : Exps Word} {es' : Exps Op} {us : List Ty} → StepsIs procs g ss ss' es es' us → StepsHave g ss' es' us
    steps_shape (d.ends l) = ends (exps_shape l)
    steps_shape (d.binds l e r) = binds (bod_shape l) e.count (steps_shape r)
    steps_shape (d.asserts l r) = asserts (exp_shape l) (steps_shape r)

    bod_shape : {g : Scope} {b : Bod Word} {b' : Bod Op} {us : List Ty} → BodIs procs g b b' us → BodHas g b' us
    bod_shape (d.value l) = value (exp_shape l)
    bod_shape {g = g} (d.takes {p = p} {w = w} {op = op} {e' = e} same l) =
        subst (λ us. BodHas g (t.Take p op e) us) (ap op_gives (sym same) ∙ (taking w.0).gives) (takes (exp_shape l))
    bod_shape (d.any l r) = any (exp_shape l) (exp_shape r)
    bod_shape (d.choice l m r) = choice (exp_shape l) (blk_shape m) (blk_shape r)
    bod_shape (d.loop l e m r) = loop (exps_shape l) e.count (exp_shape m) (blk_shape r)
    bod_shape (d.pair l r) = pair (blk_shape l) (blk_shape r)
    bod_shape (d.parts z l m f r k) = parts z (exp_shape l) (blk_shape m) (blk_shape r)
    bod_shape (d.either l r) = either (blk_shape l) (blk_shape r)
    bod_shape (d.each z l e r) = each (exps_shape l) e.count (blk_shape r)
    bod_shape (d.calls there l) = calls (exps_shape l)

-- ---- and where the tree is typed

mutual
  exp_has : {g : Scope} {e : Exp Op} {u : Ty} → h.ExpHas g e u → ExpHas g e u
  exp_has h.num = num
  exp_has h.truth = truth
  exp_has (h.var there) = var there
  exp_has (h.binary shown l r) = binary (exp_has l) (exp_has r)
  exp_has (h.negated l) = negated (exp_has l)
  exp_has (h.apply l right gives) = apply (exps_have l)

  exps_have : {g : Scope} {es : Exps Op} {us : List Ty} → h.ExpsHave g es us → ExpsHave g es us
  exps_have h.none_left = none_left
  exps_have (h.also l r) = also (exp_has l) (exps_have r)

module _ (procs : List Profile) where
  mutual
    pub blk_has : {g : Scope} {b : Blk Op} {us : List Ty} → h.BlkHas procs g b us → BlkHas g b us
    blk_has (h.returns l) = returns (steps_have l)

    steps_have : {g : Scope} {ss : Steps Op} {es : Exps Op} {us : List Ty} → h.StepsHave procs g ss es us → StepsHave g ss es us
    steps_have (h.ends l) = ends (exps_have l.are)
    steps_have (h.binds {xs = xs} {ws = ws} l e r) = binds (bod_has l) (fits xs ws e).count (steps_have r)
    steps_have (h.asserts l r) = asserts (exp_has l) (steps_have r)

    bod_has : {g : Scope} {b : Bod Op} {us : List Ty} → h.BodHas procs g b us → BodHas g b us
    bod_has (h.value l) = value (exp_has l)
    bod_has (h.takes taker from l) = takes (exp_has l)
    bod_has (h.any l r) = any (exp_has l) (exp_has r)
    bod_has (h.choice l m r) = choice (exp_has l) (blk_has m) (blk_has r)
    bod_has (h.loop {xs = xs} {us = us} l e m r) = loop (exps_have l.are) (fits xs us e).count (exp_has m) (blk_has r)
    bod_has (h.pair l r) = pair (blk_has l) (blk_has r)
    bod_has (h.parts z l m f r k) = parts z (exp_has l) (blk_has m) (blk_has r)
    bod_has (h.either l r) = either (blk_has l) (blk_has r)
    bod_has (h.each {xs = xs} {us = us} z l e r) = each (exps_have l.are) (fits xs us e).count (blk_has r)
    bod_has (h.calls there l) = calls (exps_have l)
