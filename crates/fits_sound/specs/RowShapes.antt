-- A row of the check on arguments of given shapes.
use Rattle.std.specs.Prelude.{ℕ, suc, Bool, true, false, cond, List, [], ◌∷◌, Option, Some, None}
use Rattle.target_code.specs.declared.tree.Rep.{Rep}
use Rattle.rule_check.specs.Context.{Shape, is_slice, is_container}
use Rattle.rule_check.specs.Steps.{is_destroyed, op_bound, row_shapes}
use Rattle.rule_check.specs.Table.{Rule, Take}
use Rattle.fits.specs.Follow.{fates, bound_words}
use Rattle.fits_sound.specs.Meant.{Row}

abbrev pub shape_reps : List Shape → List Rep
shape_reps [] = []
shape_reps (z ∷ zs) = z.rep ∷ shape_reps zs

-- the tag of the first slice that is destroyed
abbrev pub gone_tag : List Take → List Shape → ℕ
gone_tag (x ∷ xs) (z ∷ zs) = cond (is_destroyed x.fate) (cond (is_slice z.rep) z.tag (gone_tag xs zs)) (gone_tag xs zs)
gone_tag _ _ = 0

-- how many containers are kept
abbrev pub kept_count : List Bool → List Shape → ℕ
kept_count (true ∷ ds) (z ∷ zs) = kept_count ds zs
kept_count (false ∷ ds) (z ∷ zs) = cond (is_container z.rep) (suc (kept_count ds zs)) (kept_count ds zs)
kept_count _ _ = 0

abbrev pub need_of : ℕ → Option ℕ → Option (ℕ × ℕ)
need_of u None = None
need_of u (Some k) = Some (k, u)

abbrev pub row_on : List Shape → Option Rep → Rule → Row
row_on zs made x = record {
  takes = zs;
  destroys = fates x.takes;
  gives = row_shapes (op_bound made (shape_reps zs)) (gone_tag x.takes zs) x.gives;
  first = bound_words made (shape_reps zs);
  needs = need_of (op_bound made (shape_reps zs)) x.fact;
}
