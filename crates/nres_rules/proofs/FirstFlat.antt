-- The flat tree of the text `first`.
use Rattle.std.proofs.Common.{[], ◌∷◌, refl, ap, ◌∙◌}
use Rattle.std.specs.Prelude.{codes}
use Rattle.nres_rules.specs.IdentifySamples.{FirstIsFlat}
use Rattle.nres_core.specs.Samples.{at, first_tree}
use Rattle.nres_core.specs.Tree as t
use Rattle.nres_core.specs.Tree.{Exp}
use Rattle.nres_rules.specs.Types.{sig_of, made_fits}
use Rattle.nres_core.specs.declared.identified.IdExpr.TheVariants as ide
use Rattle.nres_core.specs.declared.op.Op.{Op}
use Rattle.nres_core.specs.declared.op.Op.TheVariants as o
use Rattle.nres_core.specs.declared.ty.Ty.TheVariants as ty
use Rattle.nres_core.proofs.FirstTree.{named, block_is}
use Rattle.nres_core.proofs.Mirrored.{id_mirrored}
use Rattle.nres_rules.proofs.OneBlock.{flat_by, get_steps, id_get_block, id_get_is, id_get_steps}

pub first_is_flat : FirstIsFlat
unfolding sig_of made_fits
first_is_flat =
    let x = named (codes "x") (at 2 3) in
    let y = named (codes "xs") (at 2 12) in
    let z = named (codes "x") (at 3 10) in
    flat_by (codes "first") first_tree.params first_tree.shown first_tree.body (id_get_block x y (at 2 3) (at 2 8) (at 2 15) (at 3 3) 0 (ide.Var z))
    (t.Returns (get_steps x y (at 2 3) (at 2 8) (at 2 15) (at 3 3) 0) (at 3 3) (t.Also (t.Var z) t.None_left))
    (t.Returns (id_get_steps x y (at 2 3) (at 2 8) (at 2 15) (at 3 3) 0) (at 3 3) (t.Also (t.Var z) t.None_left))
    (record { binders = ty.Nat ∷ []; words = o.Get ∷ [] })
    block_is
    (id_get_is x y (at 2 3) (at 2 8) (at 2 15) (at 3 3) 0 (ide.Var z) ∙ ap (λ (e : Exp Op). t.Returns (id_get_steps x y (at 2 3) (at 2 8) (at 2 15) (at 3 3) 0) (at 3 3) (t.Also e t.None_left)) (id_mirrored.var z))
    refl refl refl refl
