-- Small trees, typed, and their flat trees.
use Rattle.std.specs.Prelude.{◌≡◌, ℕ, true, false, List, [], ◌∷◌, None, Some, codes}
use Rattle.target_code.specs.declared.tree.Rep.TheVariants as r
use Rattle.nres_rules.specs.FlatSamples.{at, named, sum_block}
use Rattle.nres_rules.specs.FlatTyped.{variables, all_names}
use Rattle.nres_rules.specs.Flatten.{flat_of}
use Rattle.nres_core.specs.Tree as t
use Rattle.nres_core.specs.Tree.{Exp, Exps, Blk}
use Rattle.nres_rules.specs.Typed.{IsTyped}
use Rattle.nres_core.specs.declared.identified.IdBlock.{roll-IdBlock}
use Rattle.nres_core.specs.declared.identified.IdBody.TheVariants as body
use Rattle.nres_core.specs.declared.identified.IdExpr.TheVariants as expr
use Rattle.nres_core.specs.declared.identified.IdStep.TheVariants as steps
use Rattle.nres_core.specs.declared.identified.Identified.{Identified}
use Rattle.nres_core.specs.declared.op.Op.{Op}
use Rattle.nres_core.specs.declared.op.Op.TheVariants as o
use Rattle.nres_core.specs.declared.place.Place.{Place}
use Rattle.nres_core.specs.declared.ty.Ty.TheVariants as ty
use Rattle.identify_laws.specs.Binders.{blk_binders, binders}

abbrev pub here : Place
here = at 1 1

-- from a list xs: this name <- len xs, return it
abbrev pub measured : List ℕ → Identified
measured x = record {
  name = codes "measured";
  params = record { name = codes "xs"; place = here; ty = ty.List; rep = r.Vec; rep_place = here; kept = true } ∷ [];
  shown = record { ty = ty.Nat; rep = r.Word; rep_place = here } ∷ [];
  body = roll-IdBlock (record {
    steps = steps.Bind (named x here ∷ []) here (body.Value (expr.Apply here o.Len (expr.Var (named (codes "xs") here) ∷ []) None)) ∷ [];
    place = here;
    results = expr.Var (named x here) ∷ [];
  });
  funs = [];
}

-- x <- split xs at 1 left u return u right v return v end, y <- while z from 0 if false do return z end, return y
abbrev pub mixed : Blk Op
mixed =
    let var : List ℕ → Exps Op = λ x. t.Also (t.Var (named x here)) t.None_left in
    let returned : List ℕ → Blk Op = λ x. t.Returns t.No_step here (var x) in
    t.Returns
    (t.Bind (named (codes "x") here ∷ []) here
    (t.Split here (named (codes "xs") here) (t.Num here 1) (named (codes "u") here) (returned (codes "u")) (named (codes "v") here) (returned (codes "v")))
    (t.Bind (named (codes "y") here ∷ []) here (t.While here (named (codes "z") here ∷ []) here (t.Also (t.Num here 0) t.None_left) (t.Truth here false) (returned (codes "z")))
    t.No_step))
    here (var (codes "y"))

pub record Seen : Type 0 where
  -- in text order, those of a loop over a set too
  pub mixed_binders : blk_binders mixed ≡ codes "x" ∷ codes "u" ∷ codes "v" ∷ codes "y" ∷ codes "z" ∷ []
  pub sum_binders : blk_binders sum_block ≡ codes "t" ∷ codes "x" ∷ codes "a" ∷ []
  -- with a binder that is a name both are
  pub named_typed : IsTyped (measured (codes "n"))
  pub named_binders : binders (measured (codes "n")) ≡ codes "n" ∷ []
  pub named_variables : variables (flat_of (measured (codes "n"))) ≡ Some 2
  pub named_names : all_names (flat_of (measured (codes "n"))).names ≡ true
  -- with a binder that is not a name the tree is typed, and its flat tree is not
  pub bare_typed : IsTyped (measured [])
  pub bare_variables : variables (flat_of (measured [])) ≡ Some 2
  pub bare_names : all_names (flat_of (measured [])).names ≡ false
