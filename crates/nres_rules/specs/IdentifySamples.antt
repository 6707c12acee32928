-- The flat tree of the text `first`.
use Rattle.std.specs.Prelude.{true, [], ◌∷◌, None, codes}
use Rattle.target_code.specs.declared.tree.Rep.TheVariants as rep
use Rattle.nres_core.specs.FlatTree as f
use Rattle.nres_core.specs.FlatTree.{FlatWhole}
use Rattle.nres_rules.specs.Identify.{IsFlatOf}
use Rattle.nres_core.specs.Samples.{at, first_tree}
use Rattle.nres_core.specs.declared.flat.Arg.TheVariants as a
use Rattle.nres_core.specs.declared.op.Op.TheVariants as o

-- the variables are xs, which is 0, and x, which is 1
abbrev pub first_flat : FlatWhole
first_flat = record {
  params = record { name = codes "xs"; rep = rep.Array; kept = true } ∷ [];
  shown = rep.Word ∷ [];
  body = record {
    binds = f.Apply_to (at 2 8) (1 ∷ []) o.Get None (a.Var 0 ∷ a.Num 0 ∷ []) f.No_bind;
    ending = record { place = at 3 3; results = a.Var 1 ∷ [] };
  };
  names = codes "xs" ∷ codes "x" ∷ [];
  procs = [];
}

abbrev pub FirstIsFlat : Type 0
FirstIsFlat = IsFlatOf first_tree first_flat
