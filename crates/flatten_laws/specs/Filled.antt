-- Trees whose loops over sets have variables and values for them, as each typed tree's have.
use Rattle.std.specs.Prelude.{List, [], ◌∷◌}
use Rattle.nres_core.specs.Mirror.{id_blk_of}
use Rattle.nres_core.specs.Tree as t
use Rattle.nres_core.specs.Tree.{Exps, Blk, Steps, Bod}
use Rattle.nres_core.specs.declared.identified.IdFun.{IdFun}
use Rattle.nres_core.specs.declared.identified.Identified.{Identified}
use Rattle.nres_core.specs.declared.op.Op.{Op}
use Rattle.nres_core.specs.declared.place.Named.{Named}

-- at least one
abbrev pub SomeName : List Named → Type 0
SomeName [] = ⊥
SomeName (x ∷ xs) = Unit {0}

abbrev pub SomeExp : Exps Op → Type 0
SomeExp t.None_left = ⊥
SomeExp (t.Also e es) = Unit {0}

abbrev pub SomeResult : Blk Op → Type 0
SomeResult (t.Returns ss p es) = SomeExp es

-- each `foreach` has a variable, a starting value and a result of its body, and binds a name
abbrev mutual
  pub Filled : Blk Op → Type 0
  Filled (t.Returns ss p es) = FilledSteps ss

  pub FilledSteps : Steps Op → Type 0
  FilledSteps t.No_step = Unit {0}
  FilledSteps (t.Bind xs p b ss) = FilledBody xs b × FilledSteps ss
  FilledSteps (t.Assert p e ss) = FilledSteps ss

  pub FilledBody : List Named → Bod Op → Type 0
  FilledBody ns (t.Value e) = Unit {0}
  FilledBody ns (t.Take p op e) = Unit {0}
  FilledBody ns (t.Any p x y) = Unit {0}
  FilledBody ns (t.If p e x y) = Filled x × Filled y
  FilledBody ns (t.While p xs q es e x) = Filled x
  FilledBody ns (t.Par p x y) = Filled x × Filled y
  FilledBody ns (t.Split p z e ln x rn y) = Filled x × Filled y
  FilledBody ns (t.Either p x y) = Filled x × Filled y
  FilledBody ns (t.Foreach p x z xs q es b) = SomeName ns × SomeName xs × SomeExp es × SomeResult b × Filled b
  FilledBody ns (t.Call p g es) = Unit {0}

abbrev pub FilledFuns : List IdFun → Type 0
FilledFuns [] = Unit {0}
FilledFuns (g ∷ gs) = Filled (id_blk_of g.body) × FilledFuns gs

abbrev pub IsFilled : Identified → Type 0
IsFilled p = Filled (id_blk_of p.body) × FilledFuns p.funs
