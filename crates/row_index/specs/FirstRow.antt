-- The first row of the code that fits.
use Rattle.std.specs.Prelude.{cond, List, [], ◌∷◌, Option, Some, None}
use Rattle.nres_core.specs.declared.op.Op.{Op}
use Rattle.nres_core.specs.declared.row.Row.{Row}
use Rattle.target_code.specs.declared.tree.Rep.{Rep}
use Rattle.rule_check.specs.Rows.{rule_of}
use Rattle.rule_check.specs.Table.{Rule, fits}

-- the first that fits
abbrev pub first_of : List Row → Op → List Rep → Option Rep → Option Row
first_of [] op xs y = None
first_of (x ∷ rest) op xs y = cond (fits (rule_of x) op xs y) (Some x) (first_of rest op xs y)

-- as a row of the check, if there is one
abbrev pub rule_of_row : Option Row → Option Rule
rule_of_row None = None
rule_of_row (Some x) = Some (rule_of x)
