-- What typing finds of a tree that is not refused, and of the same with operations for its words, as a derivation.
use Rattle.std.specs.Prelude.{◌≡◌, ℕ, true, false, Bool, List, [], ◌∷◌, ◌++◌, length, Option, Some, None}
use Rattle.target_code.specs.declared.tree.Calc.{Calc}
use Rattle.nres_core.specs.Mirror.{blk_of, id_blk_of, named_params}
use Rattle.nres_core.specs.Tree as t
use Rattle.nres_core.specs.Tree.{Exp, Exps, Blk, Steps, Bod, Word}
use Rattle.nres_rules.specs.Typed.{Scope, type_in, scope_with, op_gives, is_any, tail_of, begins_with_list, id_profiles}
use Rattle.nres_rules.specs.Types.{Profile, profile_at, operand, outcome, sig_of, made_fits, twice, take_type, take_op, param_types, shown_types, params_fit, shown_fit, profiles, is_among, slices_taken, slices_given}
use Rattle.nres_core.specs.declared.identified.IdFun.{IdFun}
use Rattle.nres_core.specs.declared.identified.Identified.{Identified}
use Rattle.nres_core.specs.declared.op.Op.{Op}
use Rattle.nres_core.specs.declared.place.Named.{Named}
use Rattle.nres_core.specs.declared.place.Place.{Place}
use Rattle.nres_core.specs.declared.tree.Chosen.{Chosen}
use Rattle.nres_core.specs.declared.tree.Fun.{Fun}
use Rattle.nres_core.specs.declared.tree.Param.{Param}
use Rattle.nres_core.specs.declared.tree.Shown.{Shown}
use Rattle.nres_core.specs.declared.tree.Spec.{Spec}
use Rattle.nres_core.specs.declared.ty.Ty.{Ty}
use Rattle.nres_core.specs.declared.ty.Ty.TheVariants as ty
use Rattle.typing_laws.specs.Known.{first_ty}

-- the operation of a word behind a first type, on arguments of these types, and the type of its one result
pub record WordIs (w : Word) (first : Option Ty) (us : List Ty) (made : Option Chosen) (op : Op) (u : Ty) : Type 0 where
  pub is : (sig_of w first).op ≡ Some op
  pub gives : op_gives op ≡ u ∷ []
  pub from : length (sig_of w first).from ≡ length us → us ≡ (sig_of w first).from
  pub fits : made_fits w.0 made ≡ None

-- a block's results begin with a list, if there are any
abbrev pub ListFirst : List Ty → Type 0
ListFirst us = is_any us ≡ true → begins_with_list us ≡ true

-- a pattern: as many names as there are types, and none twice
pub record Pattern (xs : List Named) (us : List Ty) : Type 0 where
  pub count : length xs ≡ length us
  pub apart : twice [] xs ≡ None

mutual
  pub data ExpIs : Scope → Exp Word → Exp Op → Ty → Type 0 where
    num : {g : Scope} {p : Place} {n : ℕ} → ExpIs g (t.Num p n) (t.Num p n) ty.Nat
    truth : {g : Scope} {p : Place} {b : Bool} → ExpIs g (t.Truth p b) (t.Truth p b) ty.Bool
    var : {g : Scope} {x : Named} {u : Ty} → type_in g x.name ≡ Some u → ExpIs g (t.Var x) (t.Var x) u
    binary : {g : Scope} {p : Place} {w : Calc} {a b : Exp Word} {a' b' : Exp Op}
        → ExpIs g a a' (operand w) → ExpIs g b b' (operand w) → ExpIs g (t.Binary p w a b) (t.Binary p w a' b') (outcome w)
    negated : {g : Scope} {p : Place} {a : Exp Word} {a' : Exp Op} → ExpIs g a a' ty.Bool → ExpIs g (t.Not p a) (t.Not p a') ty.Bool
    apply : {g : Scope} {p : Place} {w : Word} {op : Op} {es : Exps Word} {es' : Exps Op} {made : Option Chosen} {us : List Ty} {u : Ty}
        → ExpsIs g es es' us → WordIs w (first_ty us) us made op u → ExpIs g (t.Apply p w es made) (t.Apply p op es' made) u

  pub data ExpsIs : Scope → Exps Word → Exps Op → List Ty → Type 0 where
    none_left : {g : Scope} → ExpsIs g t.None_left t.None_left []
    also : {g : Scope} {e : Exp Word} {e' : Exp Op} {es : Exps Word} {es' : Exps Op} {u : Ty} {us : List Ty}
        → ExpIs g e e' u → ExpsIs g es es' us → ExpsIs g (t.Also e es) (t.Also e' es') (u ∷ us)

-- blocks, steps with the results behind them, and bodies
mutual
  pub data BlkIs (procs : List Profile) : Scope → Blk Word → Blk Op → List Ty → Type 0 where
    returns : {g : Scope} {p : Place} {ss : Steps Word} {ss' : Steps Op} {es : Exps Word} {es' : Exps Op} {us : List Ty}
        → StepsIs procs g ss ss' es es' us → BlkIs procs g (t.Returns ss p es) (t.Returns ss' p es') us

  pub data StepsIs (procs : List Profile) : Scope → Steps Word → Steps Op → Exps Word → Exps Op → List Ty → Type 0 where
    ends : {g : Scope} {es : Exps Word} {es' : Exps Op} {us : List Ty} → ExpsIs g es es' us → StepsIs procs g t.No_step t.No_step es es' us
    binds : {g : Scope} {xs : List Named} {p : Place} {b : Bod Word} {b' : Bod Op} {ss : Steps Word} {ss' : Steps Op} {es : Exps Word} {es' : Exps Op} {us ws : List Ty}
        → BodIs procs g b b' ws → Pattern xs ws → StepsIs procs (scope_with xs ws g) ss ss' es es' us
        → StepsIs procs g (t.Bind xs p b ss) (t.Bind xs p b' ss') es es' us
    asserts : {g : Scope} {p : Place} {e : Exp Word} {e' : Exp Op} {ss : Steps Word} {ss' : Steps Op} {es : Exps Word} {es' : Exps Op} {us : List Ty}
        → ExpIs g e e' ty.Bool → StepsIs procs g ss ss' es es' us → StepsIs procs g (t.Assert p e ss) (t.Assert p e' ss') es es' us

  pub data BodIs (procs : List Profile) : Scope → Bod Word → Bod Op → List Ty → Type 0 where
    value : {g : Scope} {e : Exp Word} {e' : Exp Op} {u : Ty} → ExpIs g e e' u → BodIs procs g (t.Value e) (t.Value e') (u ∷ [])
    takes : {g : Scope} {p : Place} {w : Word} {op : Op} {e : Exp Word} {e' : Exp Op}
        → take_op w.0 ≡ op → ExpIs g e e' (take_type w.0) → BodIs procs g (t.Take p w e) (t.Take p op e') (ty.Nat ∷ take_type w.0 ∷ [])
    any : {g : Scope} {p : Place} {a b : Exp Word} {a' b' : Exp Op}
        → ExpIs g a a' ty.Nat → ExpIs g b b' ty.Nat → BodIs procs g (t.Any p a b) (t.Any p a' b') (ty.Nat ∷ [])
    choice : {g : Scope} {p : Place} {e : Exp Word} {e' : Exp Op} {a b : Blk Word} {a' b' : Blk Op} {us : List Ty}
        → ExpIs g e e' ty.Bool → BlkIs procs g a a' us → BlkIs procs g b b' us → BodIs procs g (t.If p e a b) (t.If p e' a' b') us
    loop : {g : Scope} {p q : Place} {xs : List Named} {es : Exps Word} {es' : Exps Op} {e : Exp Word} {e' : Exp Op} {b : Blk Word} {b' : Blk Op} {us : List Ty}
        → ExpsIs g es es' us → Pattern xs us → ExpIs (scope_with xs us g) e e' ty.Bool → BlkIs procs (scope_with xs us g) b b' us
        → BodIs procs g (t.While p xs q es e b) (t.While p xs q es' e' b') us
    pair : {g : Scope} {p : Place} {a b : Blk Word} {a' b' : Blk Op} {us ws : List Ty}
        → BlkIs procs g a a' us → BlkIs procs g b b' ws → BodIs procs g (t.Par p a b) (t.Par p a' b') (us ++ ws)
    parts : {g : Scope} {p : Place} {z x y : Named} {e : Exp Word} {e' : Exp Op} {a b : Blk Word} {a' b' : Blk Op} {us ws : List Ty}
        → type_in g z.name ≡ Some ty.List → ExpIs g e e' ty.Nat
        → BlkIs procs ((x.name, ty.List) ∷ g) a a' us → ListFirst us → BlkIs procs ((y.name, ty.List) ∷ g) b b' ws → ListFirst ws
        → BodIs procs g (t.Split p z e x a y b) (t.Split p z e' x a' y b') (ty.List ∷ (tail_of us ++ tail_of ws))
    either : {g : Scope} {p : Place} {a b : Blk Word} {a' b' : Blk Op} {us : List Ty}
        → BlkIs procs g a a' us → BlkIs procs g b b' us → BodIs procs g (t.Either p a b) (t.Either p a' b') us
    each : {g : Scope} {p q : Place} {x z : Named} {xs : List Named} {es : Exps Word} {es' : Exps Op} {b : Blk Word} {b' : Blk Op} {us : List Ty}
        → type_in g z.name ≡ Some ty.Set → ExpsIs g es es' us → Pattern xs us → BlkIs procs (scope_with xs us ((x.name, ty.Nat) ∷ g)) b b' us
        → BodIs procs g (t.Foreach p x z xs q es b) (t.Foreach p x z xs q es' b') us
    calls : {g : Scope} {p : Place} {f : Named} {es : Exps Word} {es' : Exps Op} {h : Profile}
        → profile_at procs f.name ≡ Some h → ExpsIs g es es' h.takes → BodIs procs g (t.Call p f es) (t.Call p f es') h.gives

-- ---- whole specifications

-- the types of parameters
abbrev pub inner : List Param → Scope
inner xs = scope_with (named_params xs) (param_types xs) []

-- parameters, what is shown, and a block that gives it
pub record EnteredIs (procs : List Profile) (xs : List Param) (ys : List Shown) (b : Blk Word) (b' : Blk Op) : Type 0 where
  pub params : params_fit xs ≡ None
  pub apart : twice [] (named_params xs) ≡ None
  pub shown : shown_fit ys ≡ None
  pub block : BlkIs procs (inner xs) b b' (shown_types ys)

-- a procedure behind those of these names
pub record FunIs (procs : List Profile) (before : List (List ℕ)) (f : Fun) (g : IdFun) : Type 0 where
  pub name : g.name ≡ f.name
  pub params : g.params ≡ f.params
  pub shown : g.shown ≡ f.shown
  pub new : is_among before f.name ≡ false
  pub slices : slices_taken f.params ≡ slices_given f.shown
  pub entered : EnteredIs procs f.params f.shown (blk_of f.body) (id_blk_of g.body)

abbrev pub FunsAre : List Profile → List (List ℕ) → List Fun → List IdFun → Type 0
FunsAre procs before [] [] = Unit {0}
FunsAre procs before (f ∷ fs) (g ∷ gs) = FunIs procs before f g × FunsAre procs (f.name ∷ before) fs gs
FunsAre procs before _ _ = ⊥

pub record SpecIs (p : Spec) (q : Identified) : Type 0 where
  pub params : q.params ≡ p.params
  pub shown : q.shown ≡ p.shown
  pub entered : EnteredIs (profiles p.funs) p.params p.shown (blk_of p.body) (id_blk_of q.body)
  pub funs : FunsAre (profiles p.funs) [] p.funs q.funs
  pub profiles_same : id_profiles q.funs ≡ profiles p.funs
