use Rattle.std.proofs.Common.{◌≡◌, drop}
use Rattle.nres_rules.specs.Types.{all_want}
use Rattle.nres_types.specs.Findings.{told_of, noted}
use Rattle.nres_types.proofs.findings.Findings.expect_all.Given as goal

abbrev pub invariant-loop-at : goal.invariant-loop-at
invariant-loop-at l = noted (told_of l.fn.self) (all_want l.heads l.types) ≡ noted (told_of l.self) (all_want (drop l.at l.heads) (drop l.at l.types))
