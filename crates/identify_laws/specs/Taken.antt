-- Trees in which an element is taken out by `pop` or `take_min` alone, as each text's tree is.
use Rattle.std.specs.Prelude.{◌≡◌, true, List, [], ◌∷◌}
use Rattle.nres_core.specs.Mirror.{blk_of}
use Rattle.nres_core.specs.Tree as t
use Rattle.nres_core.specs.Tree.{Blk, Steps, Bod, Word}
use Rattle.nres_core.specs.Vocabulary.{is_take_word}
use Rattle.nres_core.specs.declared.tree.Fun.{Fun}
use Rattle.nres_core.specs.declared.tree.Spec.{Spec}

abbrev mutual
  pub Takes : Blk Word → Type 0
  Takes (t.Returns ss p es) = StepsTake ss

  pub StepsTake : Steps Word → Type 0
  StepsTake t.No_step = Unit {0}
  StepsTake (t.Bind xs p b ss) = BodyTakes b × StepsTake ss
  StepsTake (t.Assert p e ss) = StepsTake ss

  pub BodyTakes : Bod Word → Type 0
  BodyTakes (t.Take p w e) = is_take_word w.0 ≡ true
  BodyTakes (t.If p e x y) = Takes x × Takes y
  BodyTakes (t.While p xs q es e x) = Takes x
  BodyTakes (t.Par p x y) = Takes x × Takes y
  BodyTakes (t.Split p xs e ln x rn y) = Takes x × Takes y
  BodyTakes (t.Either p x y) = Takes x × Takes y
  BodyTakes (t.Foreach p x y xs q es b) = Takes b
  BodyTakes _ = Unit {0}

abbrev pub FunsTake : List Fun → Type 0
FunsTake [] = Unit {0}
FunsTake (f ∷ fs) = Takes (blk_of f.body) × FunsTake fs

abbrev pub SpecTakes : Spec → Type 0
SpecTakes p = Takes (blk_of p.body) × FunsTake p.funs
