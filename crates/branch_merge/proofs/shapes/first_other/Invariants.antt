use Rattle.std.proofs.Common.{◌≡◌, suc, drop}
use Rattle.ownership.specs.Entries.{spots_of}
use Rattle.rule_check.specs.Context as d
use Rattle.branch_merge.proofs.shapes.first_other.Given as goal

abbrev pub invariant-each : goal.invariant-each
invariant-each l = d.first_other 1 (d.shapes_of (spots_of l.left)) (d.shapes_of (spots_of l.right)) ≡ d.first_other (suc l.index) (d.shapes_of (spots_of (drop l.index l.left))) (d.shapes_of (spots_of (drop l.index l.right)))
