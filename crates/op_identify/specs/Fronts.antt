-- What stands in front of a tree whose words are replaced one after another.
use Rattle.std.specs.Prelude.{◌≡◌, List, [], ◌∷◌}
use Rattle.nres_rules.specs.Identify.{FunIdentifies, id_blk, id_steps}
use Rattle.nres_core.specs.Mirror.{blk_of, id_exp_of, id_before}
use Rattle.nres_core.specs.Tree as t
use Rattle.nres_core.specs.Tree.{Exps, Steps, Word}
use Rattle.nres_core.specs.declared.identified.IdExpr.{IdExpr}
use Rattle.nres_core.specs.declared.identified.IdFun.{IdFun}
use Rattle.nres_core.specs.declared.identified.IdStep.{IdStep}
use Rattle.nres_core.specs.declared.op.Op.{Op}
use Rattle.nres_core.specs.declared.tree.Fun.{Fun}

-- these expressions, and then others
abbrev pub also_exps : List IdExpr → Exps Op → Exps Op
also_exps [] rest = rest
also_exps (e ∷ es) rest = t.Also (id_exp_of e) (also_exps es rest)

abbrev pub behind_exps : List IdExpr → Exps Op × List Op → Exps Op × List Op
behind_exps es rest = (also_exps es rest.0, rest.1)

-- these steps, and then others
abbrev pub also_steps : List IdStep → Steps Op → Steps Op
also_steps [] rest = rest
also_steps (s ∷ ss) rest = id_before s (also_steps ss rest)

abbrev pub behind_steps : List IdStep → Steps Op × List Op → Steps Op × List Op
behind_steps ss rest = (also_steps ss rest.0, rest.1)

-- a step that puts itself before what follows it has become another, and left these operations
abbrev pub Continues : (Steps Word → Steps Word) → List Op → (Steps Op → Steps Op) → List Op → Type 0
Continues before ops after left = (rest : Steps Word) → id_steps (before rest) ops ≡ (after (id_steps rest left).0, (id_steps rest left).1)

-- procedures with their words replaced by the first of these operations, and the operations that are left
abbrev pub FunsBegin : List Fun → List Op → List IdFun → List Op → Type 0
FunsBegin [] ops [] left = left ≡ ops
FunsBegin (f ∷ fs) ops (g ∷ gs) left = FunIdentifies f ops g × FunsBegin fs (id_blk (blk_of f.body) ops).1 gs left
FunsBegin [] ops (g ∷ gs) left = ⊥
FunsBegin (f ∷ fs) ops [] left = ⊥
