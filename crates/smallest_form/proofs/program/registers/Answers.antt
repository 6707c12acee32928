use Rattle.std.proofs.Common.{◌≡◌, ◌≤◌, List, [], ◌∷◌, length, refl, sym, arith}
use Rattle.nres_rules.specs.Flatten.{taken}
use Rattle.nres_core.specs.declared.tree.Param.{Param}
use Rattle.smallest_form.specs.Programs.{registers}
use Rattle.smallest_form.proofs.program.registers.Goals as goal

some_param : (xs : List Param) → 1 ≤ length xs → registers (taken xs) ≡ 3
some_param [] h = absurd (omega arith)
some_param (x ∷ xs) h = refl

pub returns-in-len1-up-clause-exact : goal.returns-in-len1-up-clause-exact
returns-in-len1-up-clause-exact c = sym (some_param c.args.params.now (omega arith))
