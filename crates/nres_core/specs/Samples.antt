-- A small text and its tree.
use Rattle.std.specs.Prelude.{ℕ, true, List, [], ◌∷◌, ◌++◌, None, codes}
use Rattle.target_code.specs.declared.tree.Rep.TheVariants as rep
use Rattle.nres_core.specs.Texts.{SpecText}
use Rattle.nres_core.specs.declared.place.Place.{Place}
use Rattle.nres_core.specs.declared.tree.Block.{roll-Block}
use Rattle.nres_core.specs.declared.tree.Body.{Body}
use Rattle.nres_core.specs.declared.tree.Body.TheVariants as body
use Rattle.nres_core.specs.declared.tree.Expr.{Expr}
use Rattle.nres_core.specs.declared.tree.Expr.TheVariants as expr
use Rattle.nres_core.specs.declared.tree.Param.{Param}
use Rattle.nres_core.specs.declared.tree.Shown.{Shown}
use Rattle.nres_core.specs.declared.tree.Spec.{Spec}
use Rattle.nres_core.specs.declared.tree.Step.{Step}
use Rattle.nres_core.specs.declared.tree.Step.TheVariants as steps
use Rattle.nres_core.specs.declared.ty.Ty.TheVariants as ty

-- a line, and what follows it
abbrev line : List ℕ → List ℕ → List ℕ
line bytes rest = bytes ++ 10 ∷ rest

abbrev pub at : ℕ → ℕ → Place
at l c = record { line = l; column = c }

abbrev pub first_text : List ℕ
first_text =
    line (codes "spec first (xs: list as array kept) : nat")
    (line (codes "  x <- get xs 0")
    (line (codes "  return x")
    (line (codes "end") [])))

abbrev pub var : List ℕ → Place → Expr
var x p = expr.Var (record { name = x; place = p })

abbrev first_param : Param
first_param = record { name = codes "xs"; place = at 1 13; ty = ty.List; rep = rep.Array; rep_place = at 1 25; kept = true }

abbrev first_shown : Shown
first_shown = record { ty = ty.Nat; rep = rep.Word; rep_place = at 1 39 }

abbrev pub first_word : Expr
first_word = expr.Apply (at 2 8) (codes "get") (var (codes "xs") (at 2 12) ∷ expr.Num (at 2 15) 0 ∷ []) None

abbrev pub first_body : Body
first_body = body.Value first_word

abbrev pub first_step : Step
first_step = steps.Bind (record { name = codes "x"; place = at 2 3 } ∷ []) (at 2 3) first_body

abbrev pub first_results : List Expr
first_results = var (codes "x") (at 3 10) ∷ []

abbrev pub first_tree : Spec
first_tree = record {
  name = codes "first";
  params = first_param ∷ [];
  shown = first_shown ∷ [];
  body = roll-Block (record { steps = first_step ∷ []; place = at 3 3; results = first_results });
  funs = [];
}

-- the text has this tree
abbrev pub FirstHasTree : Type 0
FirstHasTree = SpecText first_text first_tree []
