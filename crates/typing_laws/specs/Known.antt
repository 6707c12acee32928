-- Types and operations all of which are known.
use Rattle.std.specs.Prelude.{List, [], ◌∷◌, map, Option, Some, None}
use Rattle.nres_rules.specs.Typed.{Scope}
use Rattle.nres_rules.specs.Types.{Names}
use Rattle.nres_core.specs.declared.op.Op.{Op}
use Rattle.nres_core.specs.declared.ty.Ty.{Ty}

-- the types of names
abbrev pub some_names : Scope → Names
some_names [] = []
some_names (e ∷ g) = (e.0, Some e.1) ∷ some_names g

-- operations of words
abbrev pub some_ops : List Op → List (Option Op)
some_ops ops = map (λ op. Some op) ops

-- the type of a first argument
abbrev pub first_ty : List Ty → Option Ty
first_ty [] = None
first_ty (u ∷ us) = Some u
