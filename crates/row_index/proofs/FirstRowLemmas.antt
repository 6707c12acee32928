use Rattle.std.specs.Prelude.{◌≡◌, Bool, true, false, cond, List, [], ◌∷◌, Option, Some}
use Rattle.std.proofs.Common.{refl, ap, ◌∙◌}
use Rattle.nres_core.specs.declared.op.Op.{Op}
use Rattle.nres_core.specs.declared.row.Row.{Row}
use Rattle.target_code.specs.declared.tree.Rep.{Rep}
use Rattle.rule_check.specs.Rows.{rule_of, rules_of}
use Rattle.rule_check.specs.Table.{Rule, fits, first_fit}
use Rattle.row_index.specs.FirstRow.{first_of, rule_of_row}

chosen : (b : Bool) (x : Row) (rest : Option Row) → rule_of_row (cond b (Some x) rest) ≡ cond b (Some (rule_of x)) (rule_of_row rest)
chosen true x rest = refl
chosen false x rest = refl

-- the first row of the code that fits is that of the check
pub found_fits : (rows : List Row) (op : Op) (xs : List Rep) (y : Option Rep) → rule_of_row (first_of rows op xs y) ≡ first_fit (rules_of rows) op xs y
found_fits [] op xs y = refl
found_fits (x ∷ rest) op xs y =
    chosen (fits (rule_of x) op xs y) x (first_of rest op xs y) ∙ ap (λ (r : Option Rule). cond (fits (rule_of x) op xs y) (Some (rule_of x)) r) (found_fits rest op xs y)
