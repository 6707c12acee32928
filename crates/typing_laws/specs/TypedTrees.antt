-- What a typed tree with operations for its words has, as a derivation.
use Rattle.std.specs.Prelude.{◌≡◌, ℕ, true, Bool, List, [], ◌∷◌, ◌++◌, length, Option, Some, None}
use Rattle.target_code.specs.declared.tree.Calc.{Calc}
use Rattle.nres_core.specs.Mirror.{rep_of}
use Rattle.nres_core.specs.Tree as t
use Rattle.nres_core.specs.Tree.{Exp, Exps, Blk, Steps, Bod}
use Rattle.nres_rules.specs.Typed.{Scope, type_in, scope_with, op_takes, op_gives, maker, made_right, is_shown_calc, is_any, is_taker, pattern_right, profile_of, tail_of, begins_with_list}
use Rattle.nres_rules.specs.Types.{Profile, operand, outcome}
use Rattle.nres_core.specs.declared.op.Op.{Op}
use Rattle.nres_core.specs.declared.place.Named.{Named}
use Rattle.nres_core.specs.declared.place.Place.{Place}
use Rattle.nres_core.specs.declared.tree.Chosen.{Chosen}
use Rattle.nres_core.specs.declared.ty.Ty.{Ty}
use Rattle.nres_core.specs.declared.ty.Ty.TheVariants as ty

mutual
  pub data ExpHas : Scope → Exp Op → Ty → Type 0 where
    num : {g : Scope} {p : Place} {n : ℕ} → ExpHas g (t.Num p n) ty.Nat
    truth : {g : Scope} {p : Place} {b : Bool} → ExpHas g (t.Truth p b) ty.Bool
    var : {g : Scope} {x : Named} {u : Ty} → type_in g x.name ≡ Some u → ExpHas g (t.Var x) u
    binary : {g : Scope} {p : Place} {w : Calc} {a b : Exp Op} → is_shown_calc w ≡ true → ExpHas g a (operand w) → ExpHas g b (operand w) → ExpHas g (t.Binary p w a b) (outcome w)
    negated : {g : Scope} {p : Place} {a : Exp Op} → ExpHas g a ty.Bool → ExpHas g (t.Not p a) ty.Bool
    apply : {g : Scope} {p : Place} {op : Op} {es : Exps Op} {made : Option Chosen} {u : Ty}
        → ExpsHave g es (op_takes op) → made_right (maker op) (rep_of made) ≡ true → op_gives op ≡ u ∷ [] → ExpHas g (t.Apply p op es made) u

  pub data ExpsHave : Scope → Exps Op → List Ty → Type 0 where
    none_left : {g : Scope} → ExpsHave g t.None_left []
    also : {g : Scope} {e : Exp Op} {es : Exps Op} {u : Ty} {us : List Ty} → ExpHas g e u → ExpsHave g es us → ExpsHave g (t.Also e es) (u ∷ us)

-- results: at least one
pub record ResultsHave (g : Scope) (es : Exps Op) (us : List Ty) : Type 0 where
  pub some : is_any us ≡ true
  pub are : ExpsHave g es us

-- blocks, steps with the results behind them, and bodies
mutual
  pub data BlkHas (procs : List Profile) : Scope → Blk Op → List Ty → Type 0 where
    returns : {g : Scope} {p : Place} {ss : Steps Op} {es : Exps Op} {us : List Ty} → StepsHave procs g ss es us → BlkHas procs g (t.Returns ss p es) us

  pub data StepsHave (procs : List Profile) : Scope → Steps Op → Exps Op → List Ty → Type 0 where
    ends : {g : Scope} {es : Exps Op} {us : List Ty} → ResultsHave g es us → StepsHave procs g t.No_step es us
    binds : {g : Scope} {xs : List Named} {p : Place} {b : Bod Op} {ss : Steps Op} {es : Exps Op} {us ws : List Ty}
        → BodHas procs g b ws → pattern_right xs ws ≡ true → StepsHave procs (scope_with xs ws g) ss es us → StepsHave procs g (t.Bind xs p b ss) es us
    asserts : {g : Scope} {p : Place} {e : Exp Op} {ss : Steps Op} {es : Exps Op} {us : List Ty}
        → ExpHas g e ty.Bool → StepsHave procs g ss es us → StepsHave procs g (t.Assert p e ss) es us

  pub data BodHas (procs : List Profile) : Scope → Bod Op → List Ty → Type 0 where
    value : {g : Scope} {e : Exp Op} {u : Ty} → ExpHas g e u → BodHas procs g (t.Value e) (u ∷ [])
    takes : {g : Scope} {p : Place} {op : Op} {e : Exp Op} {u : Ty} → is_taker op ≡ true → op_takes op ≡ u ∷ [] → ExpHas g e u → BodHas procs g (t.Take p op e) (op_gives op)
    any : {g : Scope} {p : Place} {a b : Exp Op} → ExpHas g a ty.Nat → ExpHas g b ty.Nat → BodHas procs g (t.Any p a b) (ty.Nat ∷ [])
    choice : {g : Scope} {p : Place} {e : Exp Op} {a b : Blk Op} {us : List Ty}
        → ExpHas g e ty.Bool → BlkHas procs g a us → BlkHas procs g b us → BodHas procs g (t.If p e a b) us
    loop : {g : Scope} {p q : Place} {xs : List Named} {es : Exps Op} {e : Exp Op} {b : Blk Op} {us : List Ty}
        → ResultsHave g es us → pattern_right xs us ≡ true → ExpHas (scope_with xs us g) e ty.Bool → BlkHas procs (scope_with xs us g) b us
        → BodHas procs g (t.While p xs q es e b) us
    pair : {g : Scope} {p : Place} {a b : Blk Op} {us ws : List Ty} → BlkHas procs g a us → BlkHas procs g b ws → BodHas procs g (t.Par p a b) (us ++ ws)
    parts : {g : Scope} {p : Place} {z x y : Named} {e : Exp Op} {a b : Blk Op} {us ws : List Ty}
        → type_in g z.name ≡ Some ty.List → ExpHas g e ty.Nat
        → BlkHas procs ((x.name, ty.List) ∷ g) a us → begins_with_list us ≡ true → BlkHas procs ((y.name, ty.List) ∷ g) b ws → begins_with_list ws ≡ true
        → BodHas procs g (t.Split p z e x a y b) (ty.List ∷ (tail_of us ++ tail_of ws))
    either : {g : Scope} {p : Place} {a b : Blk Op} {us : List Ty} → BlkHas procs g a us → BlkHas procs g b us → BodHas procs g (t.Either p a b) us
    each : {g : Scope} {p q : Place} {x z : Named} {xs : List Named} {es : Exps Op} {b : Blk Op} {us : List Ty}
        → type_in g z.name ≡ Some ty.Set → ResultsHave g es us → pattern_right xs us ≡ true → BlkHas procs (scope_with xs us ((x.name, ty.Nat) ∷ g)) b us
        → BodHas procs g (t.Foreach p x z xs q es b) us
    calls : {g : Scope} {p : Place} {f : Named} {es : Exps Op} {h : Profile} → profile_of procs f.name ≡ Some h → ExpsHave g es h.takes → BodHas procs g (t.Call p f es) h.gives
