-- How large a specification is, and how deep its blocks nest.
use Rattle.std.specs.Prelude.{ℕ, suc, ◌+◌, ◌≤◌, max, List, [], ◌∷◌, length}
use Rattle.nres_core.specs.Mirror.{blk_of}
use Rattle.nres_core.specs.Texts.{IsFile}
use Rattle.nres_core.specs.Tree as t
use Rattle.nres_core.specs.Tree.{Exp, Exps, Blk, Steps, Bod}
use Rattle.nres_core.specs.Vocabulary.{Tok}
use Rattle.nres_core.specs.declared.tree.Block.{Block}
use Rattle.nres_core.specs.declared.tree.Fun.{Fun}
use Rattle.nres_core.specs.declared.tree.Param.{Param}
use Rattle.nres_core.specs.declared.tree.Shown.{Shown}
use Rattle.nres_core.specs.declared.tree.Spec.{Spec}
use Rattle.nres_core.specs.declared.tree.With.{With}

-- ---- sizes

-- the number of expressions, those in an expression counted
abbrev mutual
  pub exp_size : {W : Type 0} → Exp W → ℕ
  exp_size (t.Num p n) = 1
  exp_size (t.Truth p b) = 1
  exp_size (t.Var x) = 1
  exp_size (t.Binary p w a b) = suc (exp_size a + exp_size b)
  exp_size (t.Not p a) = suc (exp_size a)
  exp_size (t.Apply p w es made) = suc (exps_size es)

  pub exps_size : {W : Type 0} → Exps W → ℕ
  exps_size t.None_left = 0
  exps_size (t.Also e es) = exp_size e + exps_size es

-- the number of blocks, steps, names that they bind, and expressions
abbrev mutual
  pub blk_size : {W : Type 0} → Blk W → ℕ
  blk_size (t.Returns ss p es) = suc (steps_size ss + exps_size es)

  pub steps_size : {W : Type 0} → Steps W → ℕ
  steps_size t.No_step = 0
  steps_size (t.Bind xs p b ss) = suc (length xs + bod_size b + steps_size ss)
  steps_size (t.Assert p e ss) = suc (exp_size e + steps_size ss)

  pub bod_size : {W : Type 0} → Bod W → ℕ
  bod_size (t.Value e) = exp_size e
  bod_size (t.Take p w e) = exp_size e
  bod_size (t.Any p a b) = exp_size a + exp_size b
  bod_size (t.If p e a b) = exp_size e + blk_size a + blk_size b
  bod_size (t.While p xs q es e b) = length xs + exps_size es + exp_size e + blk_size b
  bod_size (t.Par p a b) = blk_size a + blk_size b
  bod_size (t.Split p z e x a y b) = exp_size e + suc (blk_size a) + suc (blk_size b)
  bod_size (t.Either p a b) = blk_size a + blk_size b
  bod_size (t.Foreach p x z xs q es b) = suc (length xs) + exps_size es + blk_size b
  bod_size (t.Call p f es) = exps_size es

-- the parameters, what is shown, and the block
abbrev pub entry_size : List Param → List Shown → Block → ℕ
entry_size xs ys b = length xs + length ys + blk_size (blk_of b)

abbrev pub funs_size : List Fun → ℕ
funs_size [] = 0
funs_size (f ∷ fs) = entry_size f.params f.shown f.body + funs_size fs

abbrev pub size_of : Spec → ℕ
size_of s = entry_size s.params s.shown s.body + funs_size s.funs

-- ---- loops over sets

-- how many there are, those in others counted
abbrev mutual
  pub blk_loops : {W : Type 0} → Blk W → ℕ
  blk_loops (t.Returns ss p es) = steps_loops ss

  pub steps_loops : {W : Type 0} → Steps W → ℕ
  steps_loops t.No_step = 0
  steps_loops (t.Bind xs p b ss) = bod_loops b + steps_loops ss
  steps_loops (t.Assert p e ss) = steps_loops ss

  pub bod_loops : {W : Type 0} → Bod W → ℕ
  bod_loops (t.Value e) = 0
  bod_loops (t.Take p w e) = 0
  bod_loops (t.Any p a b) = 0
  bod_loops (t.If p e a b) = blk_loops a + blk_loops b
  bod_loops (t.While p xs q es e b) = blk_loops b
  bod_loops (t.Par p a b) = blk_loops a + blk_loops b
  bod_loops (t.Split p z e x a y b) = blk_loops a + blk_loops b
  bod_loops (t.Either p a b) = blk_loops a + blk_loops b
  bod_loops (t.Foreach p x z xs q es b) = suc (blk_loops b)
  bod_loops (t.Call p f es) = 0

abbrev pub funs_loops : List Fun → ℕ
funs_loops [] = 0
funs_loops (f ∷ fs) = blk_loops (blk_of f.body) + funs_loops fs

abbrev pub loops_of : Spec → ℕ
loops_of s = blk_loops (blk_of s.body) + funs_loops s.funs

-- ---- nesting

-- how many blocks stand in one another: a block stands in the one that a step of it stands in
abbrev mutual
  pub blk_nesting : {W : Type 0} → Blk W → ℕ
  blk_nesting (t.Returns ss p es) = suc (steps_nesting ss)

  pub steps_nesting : {W : Type 0} → Steps W → ℕ
  steps_nesting t.No_step = 0
  steps_nesting (t.Bind xs p b ss) = max (bod_nesting b) (steps_nesting ss)
  steps_nesting (t.Assert p e ss) = steps_nesting ss

  pub bod_nesting : {W : Type 0} → Bod W → ℕ
  bod_nesting (t.Value e) = 0
  bod_nesting (t.Take p w e) = 0
  bod_nesting (t.Any p a b) = 0
  bod_nesting (t.If p e a b) = max (blk_nesting a) (blk_nesting b)
  bod_nesting (t.While p xs q es e b) = blk_nesting b
  bod_nesting (t.Par p a b) = max (blk_nesting a) (blk_nesting b)
  bod_nesting (t.Split p z e x a y b) = max (blk_nesting a) (blk_nesting b)
  bod_nesting (t.Either p a b) = max (blk_nesting a) (blk_nesting b)
  bod_nesting (t.Foreach p x z xs q es b) = blk_nesting b
  bod_nesting (t.Call p f es) = 0

abbrev pub funs_nesting : List Fun → ℕ
funs_nesting [] = 0
funs_nesting (f ∷ fs) = max (blk_nesting (blk_of f.body)) (funs_nesting fs)

-- the greatest over its own block and those of its procedures; a procedure's block stands in no other
abbrev pub nesting_of : Spec → ℕ
nesting_of s = max (blk_nesting (blk_of s.body)) (funs_nesting s.funs)

-- ---- what is proved

-- the size is at most the number of tokens, and the blocks nest no deeper than blocks may be open
abbrev pub NoLargerThanItsText : Type 0
NoLargerThanItsText = (l r : ℕ) (ts : List Tok) (p : Spec) (ws : List With) → IsFile l r ts p ws → (size_of p ≤ length ts) × (nesting_of p ≤ r)

-- so it is of the size with each loop over a set counted once more
abbrev pub NoLargerWithItsLoops : Type 0
NoLargerWithItsLoops = (l r : ℕ) (ts : List Tok) (p : Spec) (ws : List With) → IsFile l r ts p ws → size_of p + loops_of p ≤ length ts
