-- The names that are bound in the blocks of a tree.
use Rattle.std.specs.Prelude.{◌≡◌, ℕ, true, List, [], ◌∷◌, ◌++◌}
use Rattle.nres_rules.specs.FlatTyped.{all_names}
use Rattle.nres_rules.specs.Flatten.{names_of}
use Rattle.nres_core.specs.Mirror.{id_blk_of}
use Rattle.nres_core.specs.Tree as t
use Rattle.nres_core.specs.Tree.{Blk, Steps, Bod}
use Rattle.nres_core.specs.declared.identified.IdFun.{IdFun}
use Rattle.nres_core.specs.declared.identified.Identified.{Identified}
use Rattle.nres_core.specs.declared.op.Op.{Op}

-- in text order: by steps, loops and splits
abbrev mutual
  pub blk_binders : Blk Op → List (List ℕ)
  blk_binders (t.Returns ss p es) = steps_binders ss

  pub steps_binders : Steps Op → List (List ℕ)
  steps_binders t.No_step = []
  steps_binders (t.Bind xs p b ss) = names_of xs ++ (bod_binders b ++ steps_binders ss)
  steps_binders (t.Assert p e ss) = steps_binders ss

  pub bod_binders : Bod Op → List (List ℕ)
  bod_binders (t.Value e) = []
  bod_binders (t.Take p op e) = []
  bod_binders (t.Any p l r) = []
  bod_binders (t.If p e l r) = blk_binders l ++ blk_binders r
  bod_binders (t.While p ys q es e b) = names_of ys ++ blk_binders b
  bod_binders (t.Par p l r) = blk_binders l ++ blk_binders r
  bod_binders (t.Split p y e ln l rn r) = ln.name ∷ (blk_binders l ++ (rn.name ∷ blk_binders r))
  bod_binders (t.Either p l r) = blk_binders l ++ blk_binders r
  bod_binders (t.Foreach p x y ys q es b) = x.name ∷ (names_of ys ++ blk_binders b)
  bod_binders (t.Call p g es) = []

-- those of the procedures' blocks
abbrev pub funs_binders : List IdFun → List (List ℕ)
funs_binders [] = []
funs_binders (g ∷ gs) = blk_binders (id_blk_of g.body) ++ funs_binders gs

abbrev pub binders : Identified → List (List ℕ)
binders p = blk_binders (id_blk_of p.body) ++ funs_binders p.funs

-- each is a name
abbrev pub BindersNamed : Identified → Type 0
BindersNamed p = all_names (binders p) ≡ true
