-- The form of a specification, read from its tree.
use Rattle.std.specs.Prelude.{ℕ, Bool, true, false, ◌&&◌, cond, List, [], ◌∷◌, Option, Some, None, codes}
use Rattle.std.specs.Str.{bytes_eq}
use Rattle.nres_core.specs.declared.tree.Block.{Block, out-Block}
use Rattle.nres_core.specs.declared.tree.Body.{Body, out-Body}
use Rattle.nres_core.specs.declared.tree.Body.TheOpen as B
use Rattle.nres_core.specs.declared.tree.Expr.{Expr, out-Expr}
use Rattle.nres_core.specs.declared.tree.Expr.TheOpen as E
use Rattle.nres_core.specs.declared.tree.Fun.{Fun}
use Rattle.nres_core.specs.declared.tree.Param.{Param}
use Rattle.nres_core.specs.declared.tree.Shown.{Shown}
use Rattle.nres_core.specs.declared.tree.Spec.{Spec}
use Rattle.nres_core.specs.declared.tree.Step.{Step, out-Step}
use Rattle.nres_core.specs.declared.ty.Ty.{Ty}
use Rattle.nres_core.specs.declared.ty.Ty.TheVariants as ty
use Rattle.target_code.specs.declared.tree.Rep.{Rep}
use Rattle.target_code.specs.declared.tree.Rep.TheVariants as rep
use Rattle.smallest_form.specs.declared.form.Form.{Form}
use Rattle.smallest_form.specs.declared.form.Form.TheVariants as form

abbrev pub number_in : E.Expr-F Expr → Option ℕ
number_in (E.Num p k) = Some k
number_in _ = None

abbrev pub is_named : List ℕ → E.Expr-F Expr → Bool
is_named x (E.Var y) = bytes_eq y.name x
is_named x _ = false

abbrev pub index_in : List ℕ → E.Expr-F Expr → Option ℕ
index_in list (E.Apply p w (x ∷ i ∷ []) None) = cond (bytes_eq w (codes "get") && is_named list (out-Expr x)) (number_in (out-Expr i)) None
index_in list _ = None

-- a number behind a step, or the name that it bound
abbrev pub result_in : Option ℕ → ℕ → Bool → Option Form
result_in (Some k) i b = Some (form.NumberAfter i k)
result_in None i true = Some (form.Element i)
result_in None i false = None

abbrev pub behind : Option ℕ → List ℕ → Expr → Option Form
behind None x e = None
behind (Some i) x e = result_in (number_in (out-Expr e)) i (is_named x (out-Expr e))

abbrev pub value_in : List ℕ → List ℕ → B.Body-F Body Step Block → Expr → Option Form
value_in list x (B.Value v) e = behind (index_in list (out-Expr v)) x e
value_in list x _ e = None

abbrev pub step_in : List ℕ → B.Step-F Body Step Block → Expr → Option Form
step_in list (B.Bind (x ∷ []) p b) e = value_in list x.name (out-Body b) e
step_in list _ e = None

abbrev pub number_form : Option ℕ → Option Form
number_form (Some k) = Some (form.Number k)
number_form None = None

abbrev pub is_list : Ty → Rep → Bool
is_list ty.List rep.Array = true
is_list _ _ = false

abbrev pub is_number : Ty → Rep → Bool
is_number ty.Nat rep.Word = true
is_number _ _ = false

abbrev pub takes_a_list : List Param → Bool
takes_a_list [] = true
takes_a_list (x ∷ []) = is_list x.ty x.rep && x.kept
takes_a_list _ = false

abbrev pub shows_a_number : List Shown → Bool
shows_a_number (x ∷ []) = is_number x.ty x.rep
shows_a_number _ = false

abbrev pub steps_in : List Param → List Step → Expr → Option Form
steps_in xs [] e = number_form (number_in (out-Expr e))
steps_in (x ∷ []) (s ∷ []) e = step_in x.name (out-Step s) e
steps_in _ _ e = None

abbrev pub block_in : List Param → List Step → List Expr → Option Form
block_in xs ss (e ∷ []) = steps_in xs ss e
block_in xs ss _ = None

abbrev pub has_no_funs : List Fun → Bool
has_no_funs [] = true
has_no_funs (f ∷ fs) = false

abbrev pub form_in : Spec → Option Form
form_in p =
    cond (has_no_funs p.funs && (takes_a_list p.params && shows_a_number p.shown))
    (block_in p.params (out-Block p.body).steps (out-Block p.body).results) None
