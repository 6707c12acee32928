use Rattle.std.proofs.Common.{◌≡◌, drop}
use Rattle.nres_rules.specs.Types.{shown_fit}
use Rattle.nres_types.specs.Findings.{told_of, noted}
use Rattle.nres_types.proofs.specs.fit_shown.Given as goal

abbrev pub invariant-loop-one : goal.invariant-loop-one
invariant-loop-one l = noted (told_of l.fn.findings) (shown_fit l.shown) ≡ noted (told_of l.findings) (shown_fit (drop l.one-index l.shown))
