-- The walk over calculations with a test in place of the list of variables that hold.
use Rattle.std.specs.Prelude.{ℕ, nat_eq, Bool, ◌||◌, cond, List, [], ◌∷◌, ◌++◌}
use Rattle.target_code.specs.declared.tree.Calc.{Calc}
use Rattle.target_code.specs.declared.tree.Calc.TheVariants as c
use Rattle.nres_core.specs.declared.flat.Arg.{Arg}
use Rattle.nres_core.specs.declared.flat.Arg.TheVariants as a
use Rattle.rule_check.specs.Context.{Fact, Def}
use Rattle.rule_check.specs.Facts.{told_by}

-- also a value, where it is a variable
abbrev pub also_if : Arg → (ℕ → Bool) → ℕ → Bool
also_if (a.Var v) test u = nat_eq u v || test u
also_if (a.Num n) test u = test u
also_if (a.Truth b) test u = test u

abbrev pub parts_if : Calc → Arg → Arg → (ℕ → Bool) → ℕ → Bool
parts_if c.And x y test = also_if x (also_if y test)
parts_if _ x y test = test

abbrev pub told_if : List Def → (ℕ → Bool) → List Fact
told_if [] test = []
told_if (d ∷ ds) test = cond (test d.to) (told_by d.word d.left d.right ++ told_if ds (parts_if d.word d.left d.right test)) (told_if ds test)
