use Rattle.std.proofs.Common.{◌≡◌, suc, drop}
use Rattle.ownership.specs.Entries.{spots_of}
use Rattle.rule_check.specs.Check.{shape_reps}
use Rattle.rule_check.specs.Context as d
use Rattle.branch_merge.proofs.shapes.first_unlike.Given as goal

abbrev pub invariant-each : goal.invariant-each
invariant-each l = d.first_unlike 1 l.shown (shape_reps (d.shapes_of (spots_of l.results))) ≡ d.first_unlike (suc l.index) (drop l.index l.shown) (shape_reps (d.shapes_of (spots_of (drop l.index l.results))))
