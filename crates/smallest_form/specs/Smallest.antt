-- The smallest specifications: at most a list, at most one step, which gets an element, and one number as the result.
use Rattle.std.specs.Prelude.{ℕ, true, List, [], ◌∷◌, None, codes}
use Rattle.nres_core.specs.declared.place.Place.{Place}
use Rattle.nres_core.specs.declared.tree.Block.{Block, roll-Block}
use Rattle.nres_core.specs.declared.tree.Body.TheVariants as body
use Rattle.nres_core.specs.declared.tree.Expr.{Expr}
use Rattle.nres_core.specs.declared.tree.Expr.TheVariants as expr
use Rattle.nres_core.specs.declared.tree.Param.{Param}
use Rattle.nres_core.specs.declared.tree.Shown.{Shown}
use Rattle.nres_core.specs.declared.tree.Spec.{Spec}
use Rattle.nres_core.specs.declared.tree.Step.{Step}
use Rattle.nres_core.specs.declared.tree.Step.TheVariants as steps
use Rattle.nres_core.specs.declared.ty.Ty.TheVariants as ty
use Rattle.target_code.specs.declared.tree.Rep.TheVariants as rep
use Rattle.smallest_form.specs.declared.form.Form.{Form}
use Rattle.smallest_form.specs.declared.form.Form.TheVariants as form

-- a kept list as an array
abbrev pub kept_array : List ℕ → Place → Place → Param
kept_array x p q = record { name = x; place = p; ty = ty.List; rep = rep.Array; rep_place = q; kept = true }

-- no parameter, or one, which is a kept list as an array
pub data TakesAtMostAList : List Param → Type 0 where
  nothing : TakesAtMostAList []
  a_list : (x : List ℕ) (p q : Place) → TakesAtMostAList (kept_array x p q ∷ [])

abbrev pub var : List ℕ → Place → Expr
var x p = expr.Var (record { name = x; place = p })

-- BOUND <- get LIST INDEX
pub data Gets (list bound : List ℕ) (index : ℕ) : Step → Type 0 where
  gets : (p q r s t : Place)
      → Gets list bound index
      (steps.Bind (record { name = bound; place = p } ∷ []) q (body.Value (expr.Apply r (codes "get") (var list s ∷ expr.Num t index ∷ []) None)))

-- one number is shown
abbrev pub a_number : Place → List Shown
a_number p = record { ty = ty.Nat; rep = rep.Word; rep_place = p } ∷ []

abbrev pub ends_with : List Step → Place → Expr → Block
ends_with ss p e = roll-Block (record { steps = ss; place = p; results = e ∷ [] })

-- a specification has a form: it gives a number, or the element at an index of its list, or a number behind the step that gets that element
pub data HasForm : Spec → Form → Type 0 where
  number : (name : List ℕ) (params : List Param) (o p q : Place) (k : ℕ) → TakesAtMostAList params
      → HasForm (record { name = name; params = params; shown = a_number o; body = ends_with [] p (expr.Num q k); funs = [] }) (form.Number k)
  element : (name list bound : List ℕ) (m n o p q : Place) (index : ℕ) (s : Step) → Gets list bound index s
      → HasForm (record { name = name; params = kept_array list m n ∷ []; shown = a_number o; body = ends_with (s ∷ []) p (var bound q); funs = [] }) (form.Element index)
  number_after : (name list bound : List ℕ) (m n o p q : Place) (index k : ℕ) (s : Step) → Gets list bound index s
      → HasForm (record { name = name; params = kept_array list m n ∷ []; shown = a_number o; body = ends_with (s ∷ []) p (expr.Num q k); funs = [] }) (form.NumberAfter index k)

-- it has one of these forms
abbrev pub IsSmallest : Spec → Type 0
IsSmallest p = (f : Form) × HasForm p f
