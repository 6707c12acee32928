-- Small trees, seen.
use Rattle.std.proofs.Common.{◌≡◌, ℕ, List, [], ◌∷◌, codes, None, refl, ap, ◌∙◌}
use Rattle.target_code.specs.Reserved.{reserved_words}
use Rattle.nres_rules.specs.FlatSamples.{named}
use Rattle.nres_core.specs.Mirror.{id_blk_of, all_id_exps}
use Rattle.nres_core.specs.Tree as t
use Rattle.nres_core.specs.Tree.{Blk, Exp, Exps, Bod, Steps}
use Rattle.nres_core.specs.declared.identified.IdBody.TheVariants as body
use Rattle.nres_core.specs.declared.identified.IdExpr.TheVariants as expr
use Rattle.nres_core.specs.declared.identified.IdStep.TheVariants as steps
use Rattle.nres_core.specs.declared.op.Op.{Op}
use Rattle.nres_core.specs.declared.op.Op.TheVariants as o
use Rattle.nres_core.proofs.Mirrored.{id_mirrored}
use Rattle.flatten_laws.specs.TypingSamples.{here, measured, Seen}

abbrev only : Exp Op → Exps Op
only e = t.Also e t.None_left

-- its block as plain data
abbrev plain : List ℕ → Blk Op
plain x = t.Returns (t.Bind (named x here ∷ []) here (t.Value (t.Apply here o.Len (only (t.Var (named (codes "xs") here))) None)) t.No_step) here (only (t.Var (named x here)))

plain_is : (x : List ℕ) → id_blk_of (measured x).body ≡ plain x
plain_is x =
    let xs = expr.Var (named (codes "xs") here) in
    let len = expr.Apply here o.Len (xs ∷ []) None in
    id_mirrored.block (steps.Bind (named x here ∷ []) here (body.Value len) ∷ []) here (expr.Var (named x here) ∷ [])
    ∙ ap {B = Blk Op} (λ (f : Steps Op → Steps Op). t.Returns (f t.No_step) here (all_id_exps (expr.Var (named x here) ∷ []))) (id_mirrored.bind (named x here ∷ []) here (body.Value len))
    ∙ ap (λ (b : Bod Op). t.Returns (t.Bind (named x here ∷ []) here b t.No_step) here (all_id_exps (expr.Var (named x here) ∷ []))) (id_mirrored.value len)
    ∙ ap (λ (e : Exp Op). t.Returns (t.Bind (named x here ∷ []) here (t.Value e) t.No_step) here (all_id_exps (expr.Var (named x here) ∷ []))) (id_mirrored.apply here o.Len (xs ∷ []) None)
    ∙ ap (λ (e : Exp Op). t.Returns (t.Bind (named x here ∷ []) here (t.Value (t.Apply here o.Len (only e) None)) t.No_step) here (all_id_exps (expr.Var (named x here) ∷ []))) (id_mirrored.var (named (codes "xs") here))
    ∙ ap (λ (e : Exp Op). t.Returns (t.Bind (named x here ∷ []) here (t.Value (t.Apply here o.Len (only (t.Var (named (codes "xs") here))) None)) t.No_step) here (only e)) (id_mirrored.var (named x here))

pub seen : Seen
unfolding reserved_words
seen = record {
  mixed_binders = refl;
  sum_binders = refl;
  named_typed = rw (plain_is (codes "n")) refl;
  named_binders = rw (plain_is (codes "n")) refl;
  named_variables = rw (plain_is (codes "n")) refl;
  named_names = rw (plain_is (codes "n")) refl;
  bare_typed = rw (plain_is []) refl;
  bare_variables = rw (plain_is []) refl;
  bare_names = rw (plain_is []) refl;
}
