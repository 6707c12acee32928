-- The flat parts of typed expressions are typed, and straight.
use Rattle.std.proofs.Common.{◌≡◌, ℕ, true, false, List, Some, refl, arith}
use Rattle.target_code.specs.declared.tree.Calc.{Calc}
use Rattle.target_code.specs.declared.tree.Calc.TheVariants as c
use Rattle.nres_rules.specs.FlatTyped.{Scope, Profile, calc_ty, is_straight}
use Rattle.nres_rules.specs.Flatten as fl
use Rattle.nres_rules.specs.Flatten.{flat_exp, flat_exps, arg_of, none, unnamed}
use Rattle.nres_core.specs.Mirror.{rep_of}
use Rattle.nres_core.specs.Tree as t
use Rattle.nres_core.specs.Tree.{Exp, Exps}
use Rattle.nres_rules.specs.Typed as td
use Rattle.nres_rules.specs.Typed.{op_takes, is_shown_calc}
use Rattle.nres_rules.specs.Types.{operand, outcome}
use Rattle.nres_core.specs.declared.flat.Arg.TheVariants as a
use Rattle.nres_core.specs.declared.op.Op.{Op}
use Rattle.nres_core.specs.declared.ty.Ty.{Ty}
use Rattle.nres_core.specs.declared.ty.Ty.TheVariants as ty
use Rattle.flatten_laws.proofs.TypedBinds.{straight_append}
use Rattle.flatten_laws.proofs.TypedParts.{PartTyped, PartsTyped, none_typed, calc_typed, apply_typed, also_typed}
use Rattle.flatten_laws.proofs.TypedScopes.{Below, stays, Aligned, aligned_on, arg_has}
use Rattle.typing_laws.specs.TypedTrees as has
use Rattle.typing_laws.specs.TypedTrees.{ExpHas, ExpsHave}

mutual
  pub exp_straight : (e : Exp Op) (s : fl.Scope) (x : List ℕ) (k : ℕ) → is_straight (flat_exp e s x k).binds ≡ true
  exp_straight (t.Num p n) s x k = refl
  exp_straight (t.Truth p b) s x k = refl
  exp_straight (t.Var y) s x k = refl
  exp_straight (t.Binary p w l r) s x k =
      straight_append (flat_exp l s unnamed k).binds _ (exp_straight l s unnamed k) (straight_append (flat_exp r s unnamed (flat_exp l s unnamed k).next).binds _ (exp_straight r s unnamed (flat_exp l s unnamed k).next) refl)
  exp_straight (t.Not p l) s x k = straight_append (flat_exp l s unnamed k).binds _ (exp_straight l s unnamed k) refl
  exp_straight (t.Apply p op es made) s x k = straight_append (flat_exps es s k).binds _ (exps_straight es s k) refl

  exps_straight : (es : Exps Op) (s : fl.Scope) (k : ℕ) → is_straight (flat_exps es s k).binds ≡ true
  exps_straight t.None_left s k = refl
  exps_straight (t.Also e es) s k = straight_append (flat_exp e s unnamed k).binds _ (exp_straight e s unnamed k) (exps_straight es s (flat_exp e s unnamed k).next)

-- a calculation on operands of its type
calc_is : (w : Calc) → is_shown_calc w ≡ true → calc_ty w (Some (operand w)) (Some (operand w)) ≡ Some (outcome w)
calc_is c.Add h = refl
calc_is c.Sub h = refl
calc_is c.Mul h = refl
calc_is c.Div h = refl
calc_is c.Mod h = refl
calc_is c.Min h = refl
calc_is c.Max h = refl
calc_is c.Lt h = refl
calc_is c.Le h = refl
calc_is c.Eq h = refl
calc_is c.Ne h = refl
calc_is c.And h = refl
calc_is c.Or h = refl
calc_is w h = absurd (cc)

module _ (procs : List Profile) where
  mutual
    pub exp_typed : (e : Exp Op) (g : td.Scope) (s : fl.Scope) (d : Scope) (x : List ℕ) (k : ℕ) (u : Ty) → ExpHas g e u → Aligned g s d → Below k d → PartTyped procs (flat_exp e s x k) u d k
    exp_typed (t.Num p n) g s d x k u has.num l b = none_typed procs (a.Num n) ty.Nat d k b refl
    exp_typed (t.Truth p n) g s d x k u has.truth l b = none_typed procs (a.Truth n) ty.Bool d k b refl
    exp_typed (t.Var y) g s d x k u (has.var there) l b = none_typed procs (arg_of s y.name) u d k b (arg_has g s d y.name u l there)
    exp_typed (t.Binary p w x y) g s d n k u (has.binary shown left right) l b =
        let one = exp_typed x g s d unnamed k (operand w) left l b in
        let two = exp_typed y g s one.after unnamed (flat_exp x s unnamed k).next (operand w) right (aligned_on one.grown g s l) one.grown.below in
        calc_typed procs p w n _ _ (operand w) (operand w) (outcome w) d k one two (calc_is w shown)
    exp_typed (t.Not p x) g s d n k u (has.negated left) l b =
        let one = exp_typed x g s d unnamed k ty.Bool left l b in
        let two = none_typed procs (a.Truth false) ty.Bool one.after (flat_exp x s unnamed k).next one.grown.below refl in
        calc_typed procs p c.Eq n _ _ ty.Bool ty.Bool ty.Bool d k one two refl
    exp_typed (t.Apply p op es made) g s d n k u (has.apply args right gives) l b =
        apply_typed procs p op (rep_of made) n _ u d k (exps_typed es g s d k (op_takes op) args l b) right gives

    pub exps_typed : (es : Exps Op) (g : td.Scope) (s : fl.Scope) (d : Scope) (k : ℕ) (us : List Ty) → ExpsHave g es us → Aligned g s d → Below k d → PartsTyped procs (flat_exps es s k) us d k
    exps_typed t.None_left g s d k us has.none_left l b = record { after = d; binds = refl; args = tt; grown = stays d k k (omega arith) b }
    exps_typed (t.Also e es) g s d k us (has.also {u = u} {us = ws} first others) l b =
        let one = exp_typed e g s d unnamed k u first l b in
        let two = exps_typed es g s one.after (flat_exp e s unnamed k).next ws others (aligned_on one.grown g s l) one.grown.below in
        also_typed procs _ _ u ws d k one two
